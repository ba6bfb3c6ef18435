-- Fronts of texts that a sink took, piece by piece, and what is held back of them
use Rattle.std.proofs.Common.{◌≡◌, ℕ, List, [], ◌++◌, take, drop, Option, Some, None, Result, Ok, Err, OnOk, OnErr, refl, sym, ap, ◌∙◌, append_assoc}
use Rattle.std.proofs.lemmas.List.{append-nil, take-append-drop}
use Rattle.gr_out.specs.Bytes.{with_more}
use Rattle.gr_out.specs.Page.{TakesBut, TakesFront}

-- two pieces, one after the other, are one
pub with_more-twice : (old : Option (List ℕ)) (xs ys : List ℕ) → with_more (with_more old xs) ys ≡ with_more old (xs ++ ys)
with_more-twice None xs ys = refl
with_more-twice (Some zs) xs ys = ap (λ bytes. Some bytes) (append_assoc zs xs ys)

-- no bytes change nothing
pub with_more-nil : (old : Option (List ℕ)) → with_more old [] ≡ old
with_more-nil None = refl
with_more-nil (Some zs) = ap (λ bytes. Some bytes) (append-nil zs)

-- nothing is a front
pub front-nothing : (old new : Option (List ℕ)) (text : List ℕ) → new ≡ old → TakesFront old new text
front-nothing old new text e = record { part = []; rest = text; whole = refl; taken = e ∙ sym (with_more-nil old) }

-- so many bytes are a front
pub front-take : (old new : Option (List ℕ)) (text : List ℕ) (n : ℕ) → new ≡ with_more old (take n text) → TakesFront old new text
front-take old new text n e = record { part = take n text; rest = drop n text; whole = sym (take-append-drop n text); taken = e }

-- a front of a text is one of it with more behind
pub front-more : (old new : Option (List ℕ)) (text rest : List ℕ) → TakesFront old new text → TakesFront old new (text ++ rest)
front-more old new text rest f = record { part = f.part; rest = f.rest ++ rest; whole = ap (λ xs. xs ++ rest) f.whole ∙ append_assoc f.part f.rest rest; taken = f.taken }

-- nothing was taken yet
pub but-nothing : (old new : Option (List ℕ)) (text : List ℕ) → new ≡ old → TakesBut old new text text
but-nothing old new text e = record { part = []; whole = refl; taken = e ∙ sym (with_more-nil old) }

-- all was taken
pub but-all : (old new : Option (List ℕ)) (text : List ℕ) → new ≡ with_more old text → TakesBut old new text []
but-all old new text e = record { part = text; whole = sym (append-nil text); taken = e }

-- what was held back of a text, with more behind, was taken in its turn but for what is held back now
pub but-later : (old middle new : Option (List ℕ)) (text more held left : List ℕ) → TakesBut old middle text held → TakesBut middle new (held ++ more) left → TakesBut old new (text ++ more) left
but-later old middle new text more held left a b = record {
  part = a.part ++ b.part;
  whole = ap (λ xs. xs ++ more) a.whole ∙ append_assoc a.part held more ∙ ap (λ xs. a.part ++ xs) b.whole ∙ sym (append_assoc a.part b.part left);
  taken = b.taken ∙ ap (λ x. with_more x b.part) a.taken ∙ with_more-twice old a.part b.part;
}

-- and a front of it is a front of all
pub front-later : (old middle new : Option (List ℕ)) (text more held : List ℕ) → TakesBut old middle text held → TakesFront middle new (held ++ more) → TakesFront old new (text ++ more)
front-later old middle new text more held a f = record {
  part = a.part ++ f.part;
  rest = f.rest;
  whole = ap (λ xs. xs ++ more) a.whole ∙ append_assoc a.part held more ∙ ap (λ xs. a.part ++ xs) f.whole ∙ sym (append_assoc a.part f.part f.rest);
  taken = f.taken ∙ ap (λ x. with_more x f.part) a.taken ∙ with_more-twice old a.part f.part;
}

-- once what was held back is taken, all is
pub taken-whole : (old middle new : Option (List ℕ)) (text held : List ℕ) → TakesBut old middle text held → new ≡ with_more middle held → new ≡ with_more old text
taken-whole old middle new text held a e = e ∙ ap (λ x. with_more x held) a.taken ∙ with_more-twice old a.part held ∙ ap (with_more old) (sym a.whole)

-- a front of what was held back is one of all
pub front-held : (old middle new : Option (List ℕ)) (text held : List ℕ) → TakesBut old middle text held → TakesFront middle new held → TakesFront old new text
front-held old middle new text held a f = record {
  part = a.part ++ f.part;
  rest = f.rest;
  whole = a.whole ∙ ap (λ xs. a.part ++ xs) f.whole ∙ sym (append_assoc a.part f.part f.rest);
  taken = f.taken ∙ ap (λ x. with_more x f.part) a.taken ∙ with_more-twice old a.part f.part;
}

-- what was held back, and more behind it, was taken
pub taken-later : (old middle new : Option (List ℕ)) (text more held : List ℕ) → TakesBut old middle text held → new ≡ with_more middle (held ++ more) → new ≡ with_more old (text ++ more)
taken-later old middle new text more held a e =
    e ∙ ap (λ x. with_more x (held ++ more)) a.taken ∙ with_more-twice old a.part (held ++ more) ∙ ap (with_more old) (sym (append_assoc a.part held more) ∙ ap (λ xs. xs ++ more) (sym a.whole))

-- what follows from what holds after a fault holds after it
pub on_fault : {T E P Q : Type 0} (r : Result T E) → (P → Q) → OnErr r P → OnErr r Q
on_fault (Ok x) f h = h
on_fault (Err e) f h = f h

-- and what follows from what holds of a success
pub on_success : {T E P Q : Type 0} (r : Result T E) → (P → Q) → OnOk r P → OnOk r Q
on_success (Ok x) f h = f h
on_success (Err e) f h = h
