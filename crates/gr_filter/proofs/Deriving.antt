-- What the reader reads, the productions derive: each reader's words are those of its production
use Rattle.std.proofs.Common.{◌≡◌, ℕ, zero, suc, Bool, true, false, if◌then◌else◌, List, [], ◌∷◌, ◌++◌, length, Result, Ok, Err, Some, None, refl, sym, ap, ◌∙◌, subst}
use Rattle.gr_filter.specs.declared.fault.FilterFault.{FilterFault}
use Rattle.gr_filter.specs.declared.node.Operand.{Operand}
use Rattle.gr_filter.specs.declared.node.Operand.TheVariants as operand
use Rattle.gr_filter.specs.declared.token.Token.{Token}
use Rattle.gr_filter.specs.declared.token.Token.TheVariants as token
use Rattle.gr_filter.specs.declared.token.Lexeme.{Lexeme}
use Rattle.gr_filter.specs.Token.{lexeme}
use Rattle.gr_filter.specs.Grammar.{◌>>=◌, Read, name_of, text_of, literal_of, operand_of, literal_at, operand_at, wanted, is_open, is_close, is_and, is_or, is_comma, is_not, is_null_word, is_text, open_at, close_at, and_word_at, null_at, pattern_at, between_at, literals_at, one_of_at, like_at, null_test_at, for_name, alone_at, negated_of, negated_at, tail_of, tail_at, test_at, and_more, and_at, or_more, or_at, nested, not_nested, not_at}
use Rattle.gr_filter.specs.Tree.{Tree, alone, compare, between, one_of, like, is_null, negation, both, either}
use Rattle.gr_filter.specs.Productions.{Word, name_word, integer_word, text_word, truth_word, and_word, or_word, not_word, between_word, in_word, like_word, is_word, null_word, sign_word, opening, closing, comma, operand_word, IsLiteral, StandsAlone, AreAllLiterals, AreLiterals, not_words, more_words, literal_words, test_words, IsTest, Production, filter, conjunction, factor, Derives, one_test, one_not, one_group, one_factor, joined_by_and, one_conjunction, joined_by_or, word_of, word_at, AreWords}

-- ---- words, one list after another

pub words_append : (bytes : List ℕ) (at m to : ℕ) (xs ys : List Word) → AreWords bytes at xs m → AreWords bytes m ys to → AreWords bytes at (xs ++ ys) to
words_append bytes at m to [] ys h k = subst (λ n. AreWords bytes n ys to) (sym h) k
words_append bytes at m to (x ∷ xs) ys h k = (h.0, words_append bytes (lexeme bytes at).to m to xs ys h.1 k)

-- one word
pub word_there : (bytes : List ℕ) (at : ℕ) (w : Word) → word_at bytes at ≡ Some w → AreWords bytes at (w ∷ []) (lexeme bytes at).to
word_there bytes at w h = (h, refl)

-- ---- what is read, and what holds of it

-- what is read, if it is, has a property
pub record Gives {A : Type 0} (P : A → Type 0) (m : Result A FilterFault) : Type 0 where
  pub it : (x : A) → m ≡ Ok x → P x

ok_same : {A : Type 0} (x y : A) → ◌≡◌ {A = Result A FilterFault} (Ok x) (Ok y) → x ≡ y
ok_same x y e = cc

err_ok : {A : Type 0} (f : FilterFault) (y : A) → ◌≡◌ {A = Result A FilterFault} (Err f) (Ok y) → ⊥
err_ok f y e = cc

pub gives_ok : {A : Type 0} (P : A → Type 0) (x : A) → P x → Gives P (Ok x)
gives_ok P x h = record { it = λ y e. subst P (ok_same x y e) h }

pub gives_err : {A : Type 0} (P : A → Type 0) (f : FilterFault) → Gives P (Err f)
gives_err P f = record { it = λ y e. absurd (err_ok f y e) }

-- one step after another
pub next : {A B : Type 0} (P : A → Type 0) (Q : B → Type 0) (m : Result A FilterFault) (f : A → Result B FilterFault) → Gives P m → ((x : A) → P x → Gives Q (f x)) → Gives Q (m >>= f)
next P Q (Ok x) f h k = k x (h.it x refl)
next P Q (Err e) f h k = gives_err Q e

pub either_way : {A : Type 0} (P : A → Type 0) (b : Bool) (x y : Result A FilterFault) → (b ≡ true → Gives P x) → (b ≡ false → Gives P y) → Gives P (if b then x else y)
either_way P true x y f g = f refl
either_way P false x y f g = g refl

-- the words from a place on that were read, with the place behind them
abbrev pub Spells : {A : Type 0} → List ℕ → ℕ → (A → List Word) → A × ℕ → Type 0
Spells bytes at words r = AreWords bytes at (words r.0) r.1

-- ---- operands

literal_told : (bytes : List ℕ) (at : ℕ) (t : Token) → (lexeme bytes at).token ≡ t → Gives (λ x. (word_at bytes at ≡ Some (operand_word x)) × IsLiteral x) (literal_of bytes (lexeme bytes at) t)
literal_told bytes at (token.Integer z) e = gives_ok _ _ (ap (word_of bytes (lexeme bytes at)) e, tt)
literal_told bytes at token.Text e = gives_ok _ _ (ap (word_of bytes (lexeme bytes at)) e, tt)
literal_told bytes at token.True e = gives_ok _ _ (ap (word_of bytes (lexeme bytes at)) e, tt)
literal_told bytes at token.False e = gives_ok _ _ (ap (word_of bytes (lexeme bytes at)) e, tt)
literal_told bytes at token.Name e = gives_err _ _
literal_told bytes at token.And e = gives_err _ _
literal_told bytes at token.Or e = gives_err _ _
literal_told bytes at token.Not e = gives_err _ _
literal_told bytes at token.Between e = gives_err _ _
literal_told bytes at token.In e = gives_err _ _
literal_told bytes at token.Like e = gives_err _ _
literal_told bytes at token.Is e = gives_err _ _
literal_told bytes at token.Null e = gives_err _ _
literal_told bytes at (token.Sign sign) e = gives_err _ _
literal_told bytes at token.Open e = gives_err _ _
literal_told bytes at token.Close e = gives_err _ _
literal_told bytes at token.Comma e = gives_err _ _
literal_told bytes at token.End e = gives_err _ _
literal_told bytes at token.Bad e = gives_err _ _
literal_told bytes at token.Wide e = gives_err _ _

-- a literal's one word
abbrev pub ReadsLiteral : List ℕ → ℕ → Operand × ℕ → Type 0
ReadsLiteral bytes at r = AreWords bytes at (operand_word r.0 ∷ []) r.1 × IsLiteral r.0

literal_read : (bytes : List ℕ) (at : ℕ) → Gives (ReadsLiteral bytes at) (literal_at bytes at)
unfolding literal_at
literal_read bytes at = next _ (ReadsLiteral bytes at) (literal_of bytes (lexeme bytes at) (lexeme bytes at).token) _ (literal_told bytes at (lexeme bytes at).token refl) (λ x h. gives_ok (ReadsLiteral bytes at) (x, (lexeme bytes at).to) ((h.0, refl), h.1))

operand_told : (bytes : List ℕ) (at : ℕ) (t : Token) → (lexeme bytes at).token ≡ t → Gives (λ x. word_at bytes at ≡ Some (operand_word x)) (operand_of bytes (lexeme bytes at) t)
operand_told bytes at token.Name e = gives_ok _ _ (ap (word_of bytes (lexeme bytes at)) e)
operand_told bytes at t e = record { it = λ x h. ((literal_told bytes at t e).it x h).0 }

abbrev pub ReadsOperand : List ℕ → ℕ → Operand × ℕ → Type 0
ReadsOperand bytes at r = AreWords bytes at (operand_word r.0 ∷ []) r.1

operand_read : (bytes : List ℕ) (at : ℕ) → Gives (ReadsOperand bytes at) (operand_at bytes at)
unfolding operand_at
operand_read bytes at = next _ (ReadsOperand bytes at) (operand_of bytes (lexeme bytes at) (lexeme bytes at).token) _ (operand_told bytes at (lexeme bytes at).token refl) (λ x h. gives_ok (ReadsOperand bytes at) (x, (lexeme bytes at).to) (h, refl))

-- ---- words that have to stand at a place

pub open_is : (t : Token) → is_open t ≡ true → t ≡ token.Open
open_is token.Open h = refl
open_is _ h = cc

pub close_is : (t : Token) → is_close t ≡ true → t ≡ token.Close
close_is token.Close h = refl
close_is _ h = cc

pub and_is : (t : Token) → is_and t ≡ true → t ≡ token.And
and_is token.And h = refl
and_is _ h = cc

pub or_is : (t : Token) → is_or t ≡ true → t ≡ token.Or
or_is token.Or h = refl
or_is _ h = cc

pub not_is : (t : Token) → is_not t ≡ true → t ≡ token.Not
not_is token.Not h = refl
not_is _ h = cc

pub null_is : (t : Token) → is_null_word t ≡ true → t ≡ token.Null
null_is token.Null h = refl
null_is _ h = cc

pub comma_is : (t : Token) → is_comma t ≡ true → t ≡ token.Comma
comma_is token.Comma h = refl
comma_is _ h = cc

pub text_is : (t : Token) → is_text t ≡ true → t ≡ token.Text
text_is token.Text h = refl
text_is _ h = cc

-- the word of the token at a place
pub word_from : (bytes : List ℕ) (at : ℕ) (t : Token) → (lexeme bytes at).token ≡ t → word_at bytes at ≡ word_of bytes (lexeme bytes at) t
word_from bytes at t e = ap (word_of bytes (lexeme bytes at)) e

abbrev pub ReadsWord : List ℕ → ℕ → Word → ℕ → Type 0
ReadsWord bytes at w to = AreWords bytes at (w ∷ []) to

wanted_read : (bytes : List ℕ) (at : ℕ) (w : Word) (fits : Bool) → (fits ≡ true → word_at bytes at ≡ Some w) → Gives (ReadsWord bytes at w) (wanted fits (lexeme bytes at))
wanted_read bytes at w true h = gives_ok (ReadsWord bytes at w) (lexeme bytes at).to (h refl, refl)
wanted_read bytes at w false h = gives_err _ _

open_read : (bytes : List ℕ) (at : ℕ) → Gives (ReadsWord bytes at opening) (open_at bytes at)
unfolding open_at
open_read bytes at = wanted_read bytes at opening (is_open (lexeme bytes at).token) (λ h. word_from bytes at token.Open (open_is _ h))

close_read : (bytes : List ℕ) (at : ℕ) → Gives (ReadsWord bytes at closing) (close_at bytes at)
unfolding close_at
close_read bytes at = wanted_read bytes at closing (is_close (lexeme bytes at).token) (λ h. word_from bytes at token.Close (close_is _ h))

and_word_read : (bytes : List ℕ) (at : ℕ) → Gives (ReadsWord bytes at and_word) (and_word_at bytes at)
unfolding and_word_at
and_word_read bytes at = wanted_read bytes at and_word (is_and (lexeme bytes at).token) (λ h. word_from bytes at token.And (and_is _ h))

null_read : (bytes : List ℕ) (at : ℕ) → Gives (ReadsWord bytes at null_word) (null_at bytes at)
unfolding null_at
null_read bytes at = wanted_read bytes at null_word (is_null_word (lexeme bytes at).token) (λ h. word_from bytes at token.Null (null_is _ h))

abbrev ReadsPattern : List ℕ → ℕ → List ℕ × ℕ → Type 0
ReadsPattern bytes at r = AreWords bytes at (text_word r.0 ∷ []) r.1

pattern_read : (bytes : List ℕ) (at : ℕ) → Gives (ReadsPattern bytes at) (pattern_at bytes at)
unfolding pattern_at
pattern_read bytes at =
    either_way (ReadsPattern bytes at) (is_text (lexeme bytes at).token) _ _
    (λ h. gives_ok (ReadsPattern bytes at) (text_of bytes (lexeme bytes at), (lexeme bytes at).to) (word_from bytes at token.Text (text_is _ h), refl))
    (λ h. gives_err _ _)

-- ---- tests, behind the words that were read

-- a test whose words begin at a place
abbrev pub ReadsTest : List ℕ → ℕ → Tree × ℕ → Type 0
ReadsTest bytes at r = AreWords bytes at (test_words r.0) r.1 × IsTest r.0

-- the words so far, up to a place, and those behind it
behind : (bytes : List ℕ) (at m to : ℕ) (xs ys zs : List Word) → AreWords bytes at xs m → AreWords bytes m ys to → zs ≡ xs ++ ys → AreWords bytes at zs to
behind bytes at m to xs ys zs h k e = subst (λ ws. AreWords bytes at ws to) (sym e) (words_append bytes at m to xs ys h k)

between_read : (bytes : List ℕ) (negated : Bool) (x : Operand) (from at : ℕ) → AreWords bytes from (operand_word x ∷ (not_words negated ++ between_word ∷ [])) at → Gives (ReadsTest bytes from) (between_at bytes negated x at)
unfolding between_at
between_read bytes negated x from at h =
    next (ReadsOperand bytes at) (ReadsTest bytes from) (operand_at bytes at) _ (operand_read bytes at) (λ low a.
    next (ReadsWord bytes low.1 and_word) (ReadsTest bytes from) (and_word_at bytes low.1) _ (and_word_read bytes low.1) (λ m b.
    next (ReadsOperand bytes m) (ReadsTest bytes from) (operand_at bytes m) _ (operand_read bytes m) (λ high c.
    gives_ok (ReadsTest bytes from) (between negated x low.0 high.0, high.1) (
      behind bytes from at high.1 (operand_word x ∷ (not_words negated ++ between_word ∷ [])) (operand_word low.0 ∷ (and_word ∷ (operand_word high.0 ∷ []))) _ h
          (words_append bytes at low.1 high.1 (operand_word low.0 ∷ []) (and_word ∷ (operand_word high.0 ∷ [])) a (words_append bytes low.1 m high.1 (and_word ∷ []) (operand_word high.0 ∷ []) b c))
          (shape negated low.0 high.0),
      tt,
    ))))
  where
    shape : (n : Bool) (low high : Operand) → operand_word x ∷ (not_words n ++ between_word ∷ (operand_word low ∷ (and_word ∷ (operand_word high ∷ [])))) ≡ (operand_word x ∷ (not_words n ++ between_word ∷ [])) ++ (operand_word low ∷ (and_word ∷ (operand_word high ∷ [])))
    shape true low high = refl
    shape false low high = refl

-- the literals behind the first ones
abbrev ReadsLiterals : List ℕ → ℕ → List Operand → List Operand × ℕ → Type 0
ReadsLiterals bytes at found r = (ys : List Operand) × (r.0 ≡ found ++ ys) × AreAllLiterals ys × AreWords bytes at (more_words ys ++ closing ∷ []) r.1

closed_read : (bytes : List ℕ) (at : ℕ) (found : List Operand) → Gives (ReadsLiterals bytes at found) (close_at bytes at >>= λ m. Ok (found, m))
closed_read bytes at found =
    next (ReadsWord bytes at closing) (ReadsLiterals bytes at found) (close_at bytes at) _ (close_read bytes at) (λ m h.
    gives_ok (ReadsLiterals bytes at found) (found, m) ([], nil_end found, tt, h))
  where
    nil_end : (xs : List Operand) → xs ≡ xs ++ []
    nil_end [] = refl
    nil_end (x ∷ xs) = ap (λ ys. x ∷ ys) (nil_end xs)

one_more : (found : List Operand) (x : Operand) (ys : List Operand) → (found ++ x ∷ []) ++ ys ≡ found ++ x ∷ ys
one_more [] x ys = refl
one_more (y ∷ found) x ys = ap (λ zs. y ∷ zs) (one_more found x ys)

literals_read : (bytes : List ℕ) (n : ℕ) (found : List Operand) (at : ℕ) → Gives (ReadsLiterals bytes at found) (literals_at bytes n found at)
unfolding literals_at
literals_read bytes zero found at = closed_read bytes at found
literals_read bytes (suc n) found at =
    either_way (ReadsLiterals bytes at found) (is_comma (lexeme bytes at).token) _ _
    (λ c. next (ReadsLiteral bytes (lexeme bytes at).to) (ReadsLiterals bytes at found) (literal_at bytes (lexeme bytes at).to) _ (literal_read bytes (lexeme bytes at).to) (λ x h.
    record {
      it = λ r e. let k : ReadsLiterals bytes x.1 (found ++ x.0 ∷ []) r = (literals_read bytes n (found ++ x.0 ∷ []) x.1).it r e in
          (x.0 ∷ k.0, k.1 ∙ one_more found x.0 k.0, (h.1, k.2), (word_from bytes at token.Comma (comma_is _ c), words_append bytes (lexeme bytes at).to x.1 r.1 (operand_word x.0 ∷ []) (more_words k.0 ++ closing ∷ []) h.0 k.3));
    }))
    (λ c. closed_read bytes at found)

one_of_read : (bytes : List ℕ) (negated : Bool) (name : List ℕ) (from at : ℕ) → AreWords bytes from (name_word name ∷ (not_words negated ++ in_word ∷ [])) at → Gives (ReadsTest bytes from) (one_of_at bytes negated name at)
unfolding one_of_at
one_of_read bytes negated name from at h =
    next (ReadsWord bytes at opening) (ReadsTest bytes from) (open_at bytes at) _ (open_read bytes at) (λ m a.
    next (ReadsLiteral bytes m) (ReadsTest bytes from) (literal_at bytes m) _ (literal_read bytes m) (λ first b.
    next (ReadsLiterals bytes first.1 (first.0 ∷ [])) (ReadsTest bytes from) (literals_at bytes (length bytes) (first.0 ∷ []) first.1) _ (literals_read bytes (length bytes) (first.0 ∷ []) first.1) (λ all c.
    gives_ok (ReadsTest bytes from) (one_of negated name all.0, all.1)
    (subst (λ xs. ReadsTest bytes from (one_of negated name xs, all.1)) (sym c.1) (
      behind bytes from at all.1 (name_word name ∷ (not_words negated ++ in_word ∷ [])) (opening ∷ (operand_word first.0 ∷ (more_words c.0 ++ closing ∷ []))) _ h
          (words_append bytes at m all.1 (opening ∷ []) (operand_word first.0 ∷ (more_words c.0 ++ closing ∷ [])) a (words_append bytes m first.1 all.1 (operand_word first.0 ∷ []) (more_words c.0 ++ closing ∷ []) b.0 c.3))
          (shape negated first.0 c.0),
      (b.1, c.2),
    )))))
  where
    shape : (n : Bool) (x : Operand) (ys : List Operand) → name_word name ∷ (not_words n ++ in_word ∷ (opening ∷ (literal_words (x ∷ ys) ++ closing ∷ []))) ≡ (name_word name ∷ (not_words n ++ in_word ∷ [])) ++ (opening ∷ (operand_word x ∷ (more_words ys ++ closing ∷ [])))
    shape true x ys = refl
    shape false x ys = refl

like_read : (bytes : List ℕ) (negated : Bool) (name : List ℕ) (from at : ℕ) → AreWords bytes from (name_word name ∷ (not_words negated ++ like_word ∷ [])) at → Gives (ReadsTest bytes from) (like_at bytes negated name at)
unfolding like_at
like_read bytes negated name from at h =
    next (ReadsPattern bytes at) (ReadsTest bytes from) (pattern_at bytes at) _ (pattern_read bytes at) (λ p a.
    gives_ok (ReadsTest bytes from) (like negated name p.0, p.1)
    (behind bytes from at p.1 (name_word name ∷ (not_words negated ++ like_word ∷ [])) (text_word p.0 ∷ []) _ h a (shape negated p.0), tt))
  where
    shape : (n : Bool) (t : List ℕ) → name_word name ∷ (not_words n ++ like_word ∷ (text_word t ∷ [])) ≡ (name_word name ∷ (not_words n ++ like_word ∷ [])) ++ (text_word t ∷ [])
    shape true t = refl
    shape false t = refl

null_test_read : (bytes : List ℕ) (name : List ℕ) (from at : ℕ) → AreWords bytes from (name_word name ∷ (is_word ∷ [])) at → Gives (ReadsTest bytes from) (null_test_at bytes name at)
unfolding null_test_at
null_test_read bytes name from at h =
    either_way (ReadsTest bytes from) (is_not (lexeme bytes at).token) _ _
    (λ c. next (ReadsWord bytes (lexeme bytes at).to null_word) (ReadsTest bytes from) (null_at bytes (lexeme bytes at).to) _ (null_read bytes (lexeme bytes at).to) (λ m a.
    gives_ok (ReadsTest bytes from) (is_null true name, m)
    (words_append bytes from at m (name_word name ∷ (is_word ∷ [])) (not_word ∷ (null_word ∷ [])) h (word_from bytes at token.Not (not_is _ c), a), tt)))
    (λ c. next (ReadsWord bytes at null_word) (ReadsTest bytes from) (null_at bytes at) _ (null_read bytes at) (λ m a.
    gives_ok (ReadsTest bytes from) (is_null false name, m)
    (words_append bytes from at m (name_word name ∷ (is_word ∷ [])) (null_word ∷ []) h a, tt)))

-- a test for names alone
name_read : (bytes : List ℕ) (x : Operand) (from tail : ℕ) (test : List ℕ → Read Tree) → ((name : List ℕ) → x ≡ operand.Name name → Gives (ReadsTest bytes from) (test name)) → Gives (ReadsTest bytes from) (for_name x tail test)
name_read bytes (operand.Name name) from tail test h = h name refl
name_read bytes (operand.Int z) from tail test h = gives_err _ _
name_read bytes (operand.Text t) from tail test h = gives_err _ _
name_read bytes (operand.Bool b) from tail test h = gives_err _ _

alone_read : (bytes : List ℕ) (x : Operand) (from at : ℕ) (l : Lexeme) → AreWords bytes from (operand_word x ∷ []) at → Gives (ReadsTest bytes from) (alone_at x at l)
alone_read bytes (operand.Name name) from at l h = gives_ok (ReadsTest bytes from) (alone (operand.Name name), at) (h, tt)
alone_read bytes (operand.Bool b) from at l h = gives_ok (ReadsTest bytes from) (alone (operand.Bool b), at) (h, tt)
alone_read bytes (operand.Int z) from at l h = gives_err _ _
alone_read bytes (operand.Text t) from at l h = gives_err _ _

-- the words so far with those of a name
named : (bytes : List ℕ) (x : Operand) (name : List ℕ) (from to : ℕ) (ws : List Word) → x ≡ operand.Name name → AreWords bytes from (operand_word x ∷ ws) to → AreWords bytes from (name_word name ∷ ws) to
named bytes x name from to ws e h = subst (λ y. AreWords bytes from (operand_word y ∷ ws) to) e h

negated_told : (bytes : List ℕ) (x : Operand) (from at tail : ℕ) (t : Token) → (lexeme bytes at).token ≡ t → AreWords bytes from (operand_word x ∷ (not_word ∷ [])) at → Gives (ReadsTest bytes from) (negated_of bytes x tail (lexeme bytes at) t)
negated_told bytes x from at tail token.Between e h = between_read bytes true x from (lexeme bytes at).to (words_append bytes from at (lexeme bytes at).to (operand_word x ∷ (not_word ∷ [])) (between_word ∷ []) h (word_from bytes at token.Between e, refl))
negated_told bytes x from at tail token.In e h = name_read bytes x from tail _ (λ name q. one_of_read bytes true name from (lexeme bytes at).to (named bytes x name from (lexeme bytes at).to (not_word ∷ (in_word ∷ [])) q (words_append bytes from at (lexeme bytes at).to (operand_word x ∷ (not_word ∷ [])) (in_word ∷ []) h (word_from bytes at token.In e, refl))))
negated_told bytes x from at tail token.Like e h = name_read bytes x from tail _ (λ name q. like_read bytes true name from (lexeme bytes at).to (named bytes x name from (lexeme bytes at).to (not_word ∷ (like_word ∷ [])) q (words_append bytes from at (lexeme bytes at).to (operand_word x ∷ (not_word ∷ [])) (like_word ∷ []) h (word_from bytes at token.Like e, refl))))
negated_told bytes x from at tail token.Name e h = gives_err _ _
negated_told bytes x from at tail (token.Integer z) e h = gives_err _ _
negated_told bytes x from at tail token.Text e h = gives_err _ _
negated_told bytes x from at tail token.And e h = gives_err _ _
negated_told bytes x from at tail token.Or e h = gives_err _ _
negated_told bytes x from at tail token.Not e h = gives_err _ _
negated_told bytes x from at tail token.Is e h = gives_err _ _
negated_told bytes x from at tail token.Null e h = gives_err _ _
negated_told bytes x from at tail token.True e h = gives_err _ _
negated_told bytes x from at tail token.False e h = gives_err _ _
negated_told bytes x from at tail (token.Sign sign) e h = gives_err _ _
negated_told bytes x from at tail token.Open e h = gives_err _ _
negated_told bytes x from at tail token.Close e h = gives_err _ _
negated_told bytes x from at tail token.Comma e h = gives_err _ _
negated_told bytes x from at tail token.End e h = gives_err _ _
negated_told bytes x from at tail token.Bad e h = gives_err _ _
negated_told bytes x from at tail token.Wide e h = gives_err _ _

negated_read : (bytes : List ℕ) (x : Operand) (from at : ℕ) → (lexeme bytes at).token ≡ token.Not → AreWords bytes from (operand_word x ∷ []) at → Gives (ReadsTest bytes from) (negated_at bytes x (lexeme bytes at))
unfolding negated_at
negated_read bytes x from at e h = negated_told bytes x from (lexeme bytes at).to (lexeme bytes at).from (lexeme bytes (lexeme bytes at).to).token refl (words_append bytes from at (lexeme bytes at).to (operand_word x ∷ []) (not_word ∷ []) h (word_from bytes at token.Not e, refl))

tail_told : (bytes : List ℕ) (x : Operand) (from at : ℕ) (t : Token) → (lexeme bytes at).token ≡ t → AreWords bytes from (operand_word x ∷ []) at → Gives (ReadsTest bytes from) (tail_of bytes x at (lexeme bytes at) t)
tail_told bytes x from at (token.Sign sign) e h =
    next (ReadsOperand bytes (lexeme bytes at).to) (ReadsTest bytes from) (operand_at bytes (lexeme bytes at).to) _ (operand_read bytes (lexeme bytes at).to) (λ y a.
    gives_ok (ReadsTest bytes from) (compare x sign y.0, y.1)
    (words_append bytes from at y.1 (operand_word x ∷ []) (sign_word sign ∷ (operand_word y.0 ∷ [])) h (word_from bytes at (token.Sign sign) e, a), tt))
tail_told bytes x from at token.Between e h = between_read bytes false x from (lexeme bytes at).to (words_append bytes from at (lexeme bytes at).to (operand_word x ∷ []) (between_word ∷ []) h (word_from bytes at token.Between e, refl))
tail_told bytes x from at token.In e h = name_read bytes x from (lexeme bytes at).from _ (λ name q. one_of_read bytes false name from (lexeme bytes at).to (named bytes x name from (lexeme bytes at).to (in_word ∷ []) q (words_append bytes from at (lexeme bytes at).to (operand_word x ∷ []) (in_word ∷ []) h (word_from bytes at token.In e, refl))))
tail_told bytes x from at token.Like e h = name_read bytes x from (lexeme bytes at).from _ (λ name q. like_read bytes false name from (lexeme bytes at).to (named bytes x name from (lexeme bytes at).to (like_word ∷ []) q (words_append bytes from at (lexeme bytes at).to (operand_word x ∷ []) (like_word ∷ []) h (word_from bytes at token.Like e, refl))))
tail_told bytes x from at token.Is e h = name_read bytes x from (lexeme bytes at).from _ (λ name q. null_test_read bytes name from (lexeme bytes at).to (named bytes x name from (lexeme bytes at).to (is_word ∷ []) q (words_append bytes from at (lexeme bytes at).to (operand_word x ∷ []) (is_word ∷ []) h (word_from bytes at token.Is e, refl))))
tail_told bytes x from at token.Not e h = negated_read bytes x from at e h
tail_told bytes x from at _ e h = alone_read bytes x from at (lexeme bytes at) h

tail_read : (bytes : List ℕ) (x : Operand) (from at : ℕ) → AreWords bytes from (operand_word x ∷ []) at → Gives (ReadsTest bytes from) (tail_at bytes x at)
unfolding tail_at
tail_read bytes x from at h = tail_told bytes x from at (lexeme bytes at).token refl h

test_read : (bytes : List ℕ) (at : ℕ) → Gives (ReadsTest bytes at) (test_at bytes at)
unfolding test_at
test_read bytes at = next (ReadsOperand bytes at) (ReadsTest bytes at) (operand_at bytes at) _ (operand_read bytes at) (λ x h. tail_read bytes x.0 at x.1 h)

-- ---- AND, OR, NOT and parentheses

-- the words from a place on derive what was read
abbrev pub Derived : List ℕ → Production → ℕ → ℕ → Tree × ℕ → Type 0
Derived bytes p levels at r = (ws : List Word) × AreWords bytes at ws r.1 × Derives p levels ws r.0

module _ (bytes : List ℕ) (levels : ℕ) (part : ℕ → Read Tree) (read : (at : ℕ) → Gives (Derived bytes factor levels at) (part at)) where
  and_more_read : (n : ℕ) (from : ℕ) (found : Tree × ℕ) → Derived bytes conjunction levels from found → Gives (Derived bytes conjunction levels from) (and_more bytes part n found.0 found.1)
  unfolding and_more
  and_more_read zero from found h = gives_ok (Derived bytes conjunction levels from) found h
  and_more_read (suc n) from found h =
      either_way (Derived bytes conjunction levels from) (is_and (lexeme bytes found.1).token) _ _
      (λ c. next (Derived bytes factor levels (lexeme bytes found.1).to) (Derived bytes conjunction levels from) (part (lexeme bytes found.1).to) _ (read (lexeme bytes found.1).to) (λ r k.
      and_more_read n from (both found.0 r.0, r.1)
      (h.0 ++ and_word ∷ k.0, words_append bytes from found.1 r.1 h.0 (and_word ∷ k.0) h.1 (word_from bytes found.1 token.And (and_is _ c), k.1), joined_by_and levels h.0 k.0 found.0 r.0 h.2 k.2)))
      (λ c. gives_ok (Derived bytes conjunction levels from) found h)

  and_read : (at : ℕ) → Gives (Derived bytes conjunction levels at) (and_at bytes part at)
  unfolding and_at
  and_read at = next (Derived bytes factor levels at) (Derived bytes conjunction levels at) (part at) _ (read at) (λ r h. and_more_read (length bytes) at r (h.0, h.1, one_factor levels h.0 r.0 h.2))

  or_more_read : (n : ℕ) (from : ℕ) (found : Tree × ℕ) → Derived bytes filter levels from found → Gives (Derived bytes filter levels from) (or_more bytes part n found.0 found.1)
  unfolding or_more
  or_more_read zero from found h = gives_ok (Derived bytes filter levels from) found h
  or_more_read (suc n) from found h =
      either_way (Derived bytes filter levels from) (is_or (lexeme bytes found.1).token) _ _
      (λ c. next (Derived bytes conjunction levels (lexeme bytes found.1).to) (Derived bytes filter levels from) (and_at bytes part (lexeme bytes found.1).to) _ (and_read (lexeme bytes found.1).to) (λ r k.
      or_more_read n from (either found.0 r.0, r.1)
      (h.0 ++ or_word ∷ k.0, words_append bytes from found.1 r.1 h.0 (or_word ∷ k.0) h.1 (word_from bytes found.1 token.Or (or_is _ c), k.1), joined_by_or levels h.0 k.0 found.0 r.0 h.2 k.2)))
      (λ c. gives_ok (Derived bytes filter levels from) found h)

  or_read : (at : ℕ) → Gives (Derived bytes filter levels at) (or_at bytes part at)
  unfolding or_at
  or_read at = next (Derived bytes conjunction levels at) (Derived bytes filter levels at) (and_at bytes part at) _ (and_read at) (λ r h. or_more_read (length bytes) at r (h.0, h.1, one_conjunction levels h.0 r.0 h.2))

test_derived : (bytes : List ℕ) (levels at : ℕ) → Gives (Derived bytes factor levels at) (test_at bytes at)
test_derived bytes levels at = record { it = λ r e. let h : ReadsTest bytes at r = (test_read bytes at).it r e in (test_words r.0, h.0, one_test levels r.0 h.1) }

not_nested_read : (bytes : List ℕ) (at : ℕ) (l : Lexeme) (t : Token) (test : Read Tree) → Gives (Derived bytes factor zero at) test → Gives (Derived bytes factor zero at) (not_nested l t test)
not_nested_read bytes at l token.Not test h = gives_err _ _
not_nested_read bytes at l token.Open test h = gives_err _ _
not_nested_read bytes at l _ test h = h

nested_read : (bytes : List ℕ) (levels at : ℕ) (inner : ℕ → Read Tree) → ((at : ℕ) → Gives (Derived bytes factor levels at) (inner at)) → (t : Token) → (lexeme bytes at).token ≡ t → (test : Read Tree) → Gives (Derived bytes factor (suc levels) at) test
    → Gives (Derived bytes factor (suc levels) at) (nested bytes inner (lexeme bytes at) t test)
nested_read bytes levels at inner read token.Not e test h =
    next (Derived bytes factor levels (lexeme bytes at).to) (Derived bytes factor (suc levels) at) (inner (lexeme bytes at).to) _ (read (lexeme bytes at).to) (λ r k.
    gives_ok (Derived bytes factor (suc levels) at) (negation r.0, r.1) (not_word ∷ k.0, (word_from bytes at token.Not e, k.1), one_not levels k.0 r.0 k.2))
nested_read bytes levels at inner read token.Open e test h =
    next (Derived bytes filter levels (lexeme bytes at).to) (Derived bytes factor (suc levels) at) (or_at bytes inner (lexeme bytes at).to) _ (or_read bytes levels inner read (lexeme bytes at).to) (λ r k.
    next (ReadsWord bytes r.1 closing) (Derived bytes factor (suc levels) at) (close_at bytes r.1) _ (close_read bytes r.1) (λ m c.
    gives_ok (Derived bytes factor (suc levels) at) (r.0, m) (opening ∷ (k.0 ++ closing ∷ []), (word_from bytes at token.Open e, words_append bytes (lexeme bytes at).to r.1 m k.0 (closing ∷ []) k.1 c), one_group levels k.0 r.0 k.2)))
nested_read bytes levels at inner read _ e test h = h

not_read : (bytes : List ℕ) (levels at : ℕ) → Gives (Derived bytes factor levels at) (not_at bytes levels at)
unfolding not_at
not_read bytes zero at = not_nested_read bytes at (lexeme bytes at) (lexeme bytes at).token (test_at bytes at) (test_derived bytes zero at)
not_read bytes (suc levels) at = nested_read bytes levels at (not_at bytes levels) (not_read bytes levels) (lexeme bytes at).token refl (test_at bytes at) (test_derived bytes (suc levels) at)

-- what is read from a place on, its words derive
pub filter_read : (bytes : List ℕ) (levels at : ℕ) → Gives (Derived bytes filter levels at) (or_at bytes (not_at bytes levels) at)
filter_read bytes levels at = or_read bytes levels (not_at bytes levels) (not_read bytes levels) at
