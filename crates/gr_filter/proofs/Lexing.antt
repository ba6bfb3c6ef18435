-- Where a token stands in a text, and how the words that are printed read
use Rattle.std.proofs.Common.{◌≡◌, ℕ, suc, ◌+◌, ◌-◌, Bool, true, false, not, inl, inr, ◌||◌, ◌==◌, if◌then◌else◌, List, [], ◌∷◌, ◌++◌, length, take, drop, slice_range, refl, sym, ap, subst, ◌∙◌, arith, eqb-true, take_at, drop_at, drop-drop}
use Rattle.std.proofs.lemmas.Bool.{or_cases, both_ways, false_from_ne_true}
use Rattle.gr_filter.specs.declared.token.Token.{Token}
use Rattle.gr_filter.specs.declared.token.Token.TheVariants as token
use Rattle.gr_filter.specs.Token.{is_space, begins_name, goes_on, front, word_token, token_of, lexeme}
use Rattle.gr_filter.specs.Written.{begins}

pub chosen : {A : Type 0} (b : Bool) (x y : A) → b ≡ true → (if b then x else y) ≡ x
chosen b x y h = rw h refl

pub other : {A : Type 0} (b : Bool) (x y : A) → b ≡ false → (if b then x else y) ≡ y
other b x y h = rw h refl

-- what holds of a value, as a type of its own
pub record Holds {A : Type 0} (P : A → Type 0) (x : A) : Type 0 where
  pub it : P x

-- what holds of both holds of the choice
pub of_both : {A : Type 0} (P : A → Type 0) (b : Bool) (x y : A) → (b ≡ true → Holds P x) → (b ≡ false → Holds P y) → Holds P (if b then x else y)
of_both P true x y f g = f refl
of_both P false x y f g = g refl

-- The next token

-- at a place the next token is of this kind; its bytes, and what stands behind it
pub record Lexes (bytes : List ℕ) (at : ℕ) (tk : Token) (w rest : List ℕ) : Type 0 where
  pub kind : (lexeme bytes at).token ≡ tk
  pub word : slice_range bytes (lexeme bytes at).from (lexeme bytes at).to ≡ w
  pub behind : drop (lexeme bytes at).to bytes ≡ rest

-- a space before it, or none
abbrev pub spaced : Bool → List ℕ → List ℕ
spaced false s = s
spaced true s = 32 ∷ s

abbrev gap : Bool → ℕ
gap false = 0
gap true = 1

-- a word begins, with no space
abbrev pub starts : List ℕ → Bool
starts [] = false
starts (c ∷ cs) = not (is_space c)

not-true : (b : Bool) → not b ≡ true → b ≡ false
not-true true h = cc
not-true false h = refl

start_gap : (w rest : List ℕ) → starts w ≡ true → front is_space (w ++ rest) ≡ 0
start_gap [] rest h = cc
start_gap (c ∷ cs) rest h = other (is_space c) (1 + front is_space (cs ++ rest)) 0 (not-true (is_space c) h)

spaced_gap : (g : Bool) (s : List ℕ) → front is_space s ≡ 0 → front is_space (spaced g s) ≡ gap g
spaced_gap false s h = h
spaced_gap true s h = ap (λ n. 1 + n) h

spaced_rest : (g : Bool) (s : List ℕ) → drop (gap g) (spaced g s) ≡ s
spaced_rest false s = refl
spaced_rest true s = refl

from_is : (bytes : List ℕ) (at k : ℕ) → front is_space (drop at bytes) ≡ k → (lexeme bytes at).from ≡ at + k
unfolding lexeme
from_is bytes at k h = ap (λ n. at + n) h

token_is : (bytes : List ℕ) (at k : ℕ) (t : List ℕ) → front is_space (drop at bytes) ≡ k → drop (at + k) bytes ≡ t → (lexeme bytes at).token ≡ (token_of t).0
unfolding lexeme
token_is bytes at k t h e = ap (λ n. (token_of (drop (at + n) bytes)).0) h ∙ ap (λ s. (token_of s).0) e

to_is : (bytes : List ℕ) (at k : ℕ) (t : List ℕ) → front is_space (drop at bytes) ≡ k → drop (at + k) bytes ≡ t → (lexeme bytes at).to ≡ at + k + (token_of t).1
unfolding lexeme
to_is bytes at k t h e = ap (λ n. at + n + (token_of (drop (at + n) bytes)).1) h ∙ ap (λ s. at + k + (token_of s).1) e

slice_is : (bytes : List ℕ) (i j n : ℕ) (w rest : List ℕ) → drop i bytes ≡ w ++ rest → length w ≡ n → j ≡ i + n → slice_range bytes i j ≡ w
slice_is bytes i j n w rest e l f =
    let m : j - i ≡ n = omega arith in
    ap (λ k. take k (drop i bytes)) m ∙ ap (take n) e ∙ take_at w rest n l

behind_is : (bytes : List ℕ) (i j n : ℕ) (w rest : List ℕ) → drop i bytes ≡ w ++ rest → length w ≡ n → j ≡ i + n → drop j bytes ≡ rest
behind_is bytes i j n w rest e l f = ap (λ k. drop k bytes) f ∙ sym (drop-drop n i bytes) ∙ ap (drop n) e ∙ drop_at w rest n l

pub lexes : (g : Bool) (bytes : List ℕ) (at : ℕ) (w rest : List ℕ) (tk : Token) → drop at bytes ≡ spaced g (w ++ rest) → starts w ≡ true → token_of (w ++ rest) ≡ (tk, length w) → Lexes bytes at tk w rest
lexes g bytes at w rest tk e h read =
    let k : front is_space (drop at bytes) ≡ gap g = ap (front is_space) e ∙ spaced_gap g (w ++ rest) (start_gap w rest h) in
    let here : drop (at + gap g) bytes ≡ w ++ rest = sym (drop-drop (gap g) at bytes) ∙ ap (drop (gap g)) e ∙ spaced_rest g (w ++ rest) in
    let from = from_is bytes at (gap g) k in
    let to : (lexeme bytes at).to ≡ at + gap g + length w = to_is bytes at (gap g) (w ++ rest) k here ∙ ap (λ r. at + gap g + r.1) read in
    let there : drop (lexeme bytes at).from bytes ≡ w ++ rest = ap (λ p. drop p bytes) from ∙ here in
    let end : (lexeme bytes at).to ≡ (lexeme bytes at).from + length w = to ∙ ap (λ p. p + length w) (sym from) in
    record {
      kind = token_is bytes at (gap g) (w ++ rest) k here ∙ ap (λ r. r.0) read;
      word = slice_is bytes (lexeme bytes at).from (lexeme bytes at).to (length w) w rest there refl end;
      behind = behind_is bytes (lexeme bytes at).from (lexeme bytes at).to (length w) w rest there refl end;
    }

-- at the end of the text there is no token more
pub lexes_end : (bytes : List ℕ) (at : ℕ) → drop at bytes ≡ [] → (lexeme bytes at).token ≡ token.End
unfolding token_of
lexes_end bytes at e =
    let k : front is_space (drop at bytes) ≡ 0 = ap (front is_space) e in
    let here : drop (at + 0) bytes ≡ [] = sym (drop-drop 0 at bytes) ∙ e in
    token_is bytes at 0 [] k here

-- What may follow a word: nothing, a space, ')' or ','

abbrev pub breaks : List ℕ → Bool
breaks [] = true
breaks (c ∷ cs) = c == 32 || c == 41 || c == 44

abbrev pub first_is : (ℕ → Bool) → List ℕ → Bool
first_is test [] = false
first_is test (c ∷ cs) = test c

-- no such byte passes a test that none of the three passes
pub broken : (test : ℕ → Bool) (s : List ℕ) → test 32 ≡ false → test 41 ≡ false → test 44 ≡ false → breaks s ≡ true → first_is test s ≡ false
broken test [] a b d h = refl
broken test (c ∷ cs) a b d h =
    elim (or_cases (c == 32 || c == 41) (c == 44) h) [
      | inl p ↦ elim (or_cases (c == 32) (c == 41) p) [
        | inl q ↦ subst (λ x. test x ≡ false) (sym (eqb-true c 32 q)) a
        | inr q ↦ subst (λ x. test x ≡ false) (sym (eqb-true c 41 q)) b
      ]
      | inr q ↦ subst (λ x. test x ≡ false) (sym (eqb-true c 44 q)) d
    ]

spaces_fail : (test : ℕ → Bool) (c : ℕ) → test 32 ≡ false → test 9 ≡ false → test 13 ≡ false → test 10 ≡ false → is_space c ≡ true → test c ≡ false
spaces_fail test c a b d f h =
    elim (or_cases (c == 32 || c == 9 || c == 13) (c == 10) h) [
      | inl p ↦ elim (or_cases (c == 32 || c == 9) (c == 13) p) [
        | inl q ↦ elim (or_cases (c == 32) (c == 9) q) [
          | inl r ↦ subst (λ x. test x ≡ false) (sym (eqb-true c 32 r)) a
          | inr r ↦ subst (λ x. test x ≡ false) (sym (eqb-true c 9 r)) b
        ]
        | inr q ↦ subst (λ x. test x ≡ false) (sym (eqb-true c 13 q)) d
      ]
      | inr q ↦ subst (λ x. test x ≡ false) (sym (eqb-true c 10 q)) f
    ]

-- a byte that passes a test that no space passes is no space
pub no_space : (test : ℕ → Bool) (c : ℕ) → test 32 ≡ false → test 9 ≡ false → test 13 ≡ false → test 10 ≡ false → test c ≡ true → not (is_space c) ≡ true
no_space test c a b d f h = ap not (false_from_ne_true (is_space c) (λ s. both_ways (test c) (spaces_fail test c a b d f s) h))

-- the front of a whole word, with what follows it
pub front_step : (b : Bool) (n m : ℕ) → (if b then 1 + n else 0) ≡ suc m → (b ≡ true) × (n ≡ m)
front_step true n m h = (refl, omega arith)
front_step false n m h = absurd (omega arith)

pub front_first : (test : ℕ → Bool) (c : ℕ) (cs : List ℕ) → front test (c ∷ cs) ≡ length (c ∷ cs) → (test c ≡ true) × (front test cs ≡ length cs)
front_first test c cs h = front_step (test c) (front test cs) (length cs) h

front_none : (test : ℕ → Bool) (s : List ℕ) → first_is test s ≡ false → front test s ≡ 0
front_none test [] h = refl
front_none test (c ∷ cs) h = other (test c) (1 + front test cs) 0 h

pub front_whole : (test : ℕ → Bool) (w rest : List ℕ) → front test w ≡ length w → first_is test rest ≡ false → front test (w ++ rest) ≡ length w
front_whole test [] rest h b = front_none test rest b
front_whole test (c ∷ cs) rest h b =
    let p = front_first test c cs h in
    chosen (test c) (1 + front test (cs ++ rest)) 0 p.0 ∙ omega (arith, front_whole test cs rest p.1 b)

pub ends_name : (rest : List ℕ) → breaks rest ≡ true → first_is goes_on rest ≡ false
ends_name rest b = broken goes_on rest refl refl refl b

-- Words

word_token_of : (c : ℕ) (s : List ℕ) → begins_name c ≡ true → token_of (c ∷ s) ≡ (word_token (take (front goes_on (c ∷ s)) (c ∷ s)), front goes_on (c ∷ s))
unfolding token_of
word_token_of c s h = chosen (begins_name c) _ _ h

word_reads : (w rest : List ℕ) → begins w ≡ true → front goes_on w ≡ length w → breaks rest ≡ true → token_of (w ++ rest) ≡ (word_token w, length w)
word_reads [] rest h f b = cc
word_reads (c ∷ cs) rest h f b =
    word_token_of c (cs ++ rest) h
    ∙ ap (λ n. (word_token (take n (c ∷ (cs ++ rest))), n)) (front_whole goes_on (c ∷ cs) rest f (ends_name rest b))
    ∙ ap (λ x. (word_token x, length (c ∷ cs))) (take_at (c ∷ cs) rest (length (c ∷ cs)) refl)

begun_starts : (w : List ℕ) → begins w ≡ true → starts w ≡ true
begun_starts [] h = cc
begun_starts (c ∷ cs) h = no_space begins_name c refl refl refl refl h

-- a name or a keyword
pub lexes_word : (g : Bool) (bytes : List ℕ) (at : ℕ) (w rest : List ℕ) (tk : Token) → drop at bytes ≡ spaced g (w ++ rest) → begins w ≡ true → front goes_on w ≡ length w → word_token w ≡ tk → breaks rest ≡ true → Lexes bytes at tk w rest
lexes_word g bytes at w rest tk e h f t b = lexes g bytes at w rest tk e (begun_starts w h) (word_reads w rest h f b ∙ ap (λ x. (x, length w)) t)
