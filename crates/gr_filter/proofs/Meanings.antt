-- What the tokens of a text stand for: a name, an integer within 64 bits signed, a text
use Rattle.std.proofs.Common.{◌≡◌, ℕ, zero, suc, ◌+◌, ◌-◌, ◌^◌, ◌<◌, Bool, true, false, ◌==◌, nat_lt, nat_le, if◌then◌else◌, List, [], ◌∷◌, length, take, drop, Option, Some, None, option_map, codes, FitsSigned, refl, sym, ap, subst, ◌∙◌, arith, length-take-le, take-take, eqb-true, ltb-true, leb-true}
use Rattle.std.specs.Int.{w64}
use Rattle.std.specs.Str.{is_utf8}
use Rattle.gr_filter.specs.declared.token.Token.{Token}
use Rattle.gr_filter.specs.declared.token.Token.TheVariants as token
use Rattle.gr_filter.specs.Token.{is_space, is_digit, begins_name, goes_on, front, word_token, is_word, number_from, integer_token, next_goes_on, number_token, text_len, quote_len, undoubled, text_token, less_token, greater_token, sign_token, minus_token, token_of, lexeme}
use Rattle.gr_filter.specs.Grammar.{inside_quotes}
use Rattle.gr_filter.specs.Print.{doubled}
use Rattle.gr_filter.specs.Written.{begins, IsName, IsText}
use Rattle.gr_filter.proofs.Lexing.{Holds, of_both, chosen, other, front_step}
use Rattle.gr_filter.proofs.QuotedUtf8.{utf8_single}

-- what a token of n bytes at the front of a text stands for
abbrev pub Means : List ℕ → ℕ → Token → Type 0
Means s n token.Name = IsName (take n s)
Means s n (token.Integer z) = FitsSigned w64 z
Means s n token.Text = IsText (undoubled (inside_quotes (take n s)))
Means s n _ = Unit {0}

abbrev Stands : List ℕ → Token × ℕ → Type 0
Stands s r = Means s r.1 r.0

-- Words

-- the bytes that pass at the front pass whole
front_taken : (test : ℕ → Bool) (s : List ℕ) (n : ℕ) → front test s ≡ n → front test (take n s) ≡ length (take n s)
front_taken test s zero h = refl
front_taken test [] (suc n) h = refl
front_taken test (c ∷ cs) (suc n) h =
    let p = front_step (test c) (front test cs) n h in
    chosen (test c) (1 + front test (take n cs)) 0 p.0 ∙ omega (arith, front_taken test cs n p.1)

abbrev IsWord : Token → Type 0
IsWord (token.Integer z) = ⊥
IsWord token.Text = ⊥
IsWord _ = Unit {0}

word_is : (w : List ℕ) → Holds IsWord (word_token w)
unfolding word_token
word_is w =
    of_both IsWord (is_word w (codes "AND")) _ _ (λ _. record { it = tt }) (λ _.
    of_both IsWord (is_word w (codes "OR")) _ _ (λ _. record { it = tt }) (λ _.
    of_both IsWord (is_word w (codes "NOT")) _ _ (λ _. record { it = tt }) (λ _.
    of_both IsWord (is_word w (codes "BETWEEN")) _ _ (λ _. record { it = tt }) (λ _.
    of_both IsWord (is_word w (codes "IN")) _ _ (λ _. record { it = tt }) (λ _.
    of_both IsWord (is_word w (codes "LIKE")) _ _ (λ _. record { it = tt }) (λ _.
    of_both IsWord (is_word w (codes "IS")) _ _ (λ _. record { it = tt }) (λ _.
    of_both IsWord (is_word w (codes "NULL")) _ _ (λ _. record { it = tt }) (λ _.
    of_both IsWord (is_word w (codes "TRUE")) _ _ (λ _. record { it = tt }) (λ _.
    of_both IsWord (is_word w (codes "FALSE")) _ _ (λ _. record { it = tt }) (λ _. record { it = tt }))))))))))

word_means : (s : List ℕ) (n : ℕ) (t : Token) → begins (take n s) ≡ true → front goes_on (take n s) ≡ length (take n s) → word_token (take n s) ≡ t → IsWord t → Means s n t
word_means s n token.Name b f e w = record { begun = b; whole = f; no_keyword = e }
word_means s n (token.Integer z) b f e w = absurd w
word_means s n token.Text b f e w = absurd w
word_means s n _ b f e w = tt

begins_taken : (c : ℕ) (cs : List ℕ) (n : ℕ) → begins_name c ≡ true → front goes_on (c ∷ cs) ≡ n → begins (take n (c ∷ cs)) ≡ true
begins_taken c cs zero h e =
    let go : goes_on c ≡ true = rw h refl in
    absurd (omega (arith, chosen (goes_on c) (1 + front goes_on cs) 0 go, e))
begins_taken c cs (suc n) h e = h

word_stands : (c : ℕ) (cs : List ℕ) → begins_name c ≡ true → Stands (c ∷ cs) (word_token (take (front goes_on (c ∷ cs)) (c ∷ cs)), front goes_on (c ∷ cs))
word_stands c cs h =
    word_means (c ∷ cs) (front goes_on (c ∷ cs)) (word_token (take (front goes_on (c ∷ cs)) (c ∷ cs)))
    (begins_taken c cs (front goes_on (c ∷ cs)) h refl) (front_taken goes_on (c ∷ cs) (front goes_on (c ∷ cs)) refl) refl (word_is (take (front goes_on (c ∷ cs)) (c ∷ cs))).it

-- Integers

integer_means : (s : List ℕ) (n : ℕ) (minus : Bool) (m : ℕ) → Holds (Means s n) (integer_token minus m)
integer_means s n false m = of_both (Means s n) (nat_lt m (2 ^ 63)) _ _ (λ h. record { it = record { sfits = omega (arith, ltb-true m (2 ^ 63) h) } }) (λ _. record { it = tt })
integer_means s n true zero = record { it = record { sfits = omega arith } }
integer_means s n true (suc m) = of_both (Means s n) (nat_le (suc m) (2 ^ 63)) _ _ (λ h. record { it = record { sfits = omega (arith, leb-true (suc m) (2 ^ 63) h) } }) (λ _. record { it = tt })

number_means : (s : List ℕ) (n : ℕ) (minus : Bool) (ds : List ℕ) → Holds (Means s n) (number_token minus ds)
unfolding number_token
number_means s n minus ds = of_both (Means s n) (next_goes_on (drop (front is_digit ds) ds)) _ _ (λ _. record { it = tt }) (λ _. integer_means s n minus (number_from 0 (take (front is_digit ds) ds)))

number_stands : (s : List ℕ) (n : ℕ) (minus : Bool) (ds : List ℕ) → Holds (Stands s) (number_token minus ds, n)
number_stands s n minus ds = let m = number_means s n minus ds in record { it = m.it }

minus_stands : (s cs : List ℕ) → Holds (Stands s) (minus_token cs)
minus_stands s cs = of_both (Stands s) (front is_digit cs == 0) _ _ (λ _. record { it = tt }) (λ _. number_stands s (1 + front is_digit cs) true cs)

-- Texts

-- where a text that has n bytes behind its first quote ends, and that each quote in it is doubled
record Cut (cs : List ℕ) (n : ℕ) : Type 0 where
  len : ℕ
  is : n ≡ suc len
  inside : len < length cs
  again : doubled (undoubled (take len cs)) ≡ take len cs

record Cuts (cs : List ℕ) : Type 0 where
  text : (n : ℕ) → text_len cs ≡ Some n → Cut cs n
  quote : (n : ℕ) → quote_len cs ≡ Some n → Cut (39 ∷ cs) n

mapped : (f : ℕ → ℕ) (o : Option ℕ) (n : ℕ) → option_map f o ≡ Some n → (k : ℕ) × (o ≡ Some k) × (f k ≡ n)
mapped f None n h = cc
mapped f (Some k) n h = (k, refl, cc)

plain_again : (c : ℕ) (s : List ℕ) → (c == 39) ≡ false → doubled (undoubled s) ≡ s → doubled (undoubled (c ∷ s)) ≡ c ∷ s
plain_again c s h e = ap doubled (other (c == 39) _ _ h) ∙ other (c == 39) _ _ h ∙ ap (λ t. c ∷ t) e

text_cut : (c : ℕ) (cs : List ℕ) → Cuts cs → (b : Bool) → (c == 39) ≡ b → (n : ℕ) → (if b then quote_len cs else option_map (λ k. k + 1) (text_len cs)) ≡ Some n → Cut (c ∷ cs) n
text_cut c cs p true e n h = subst (λ x. Cut (x ∷ cs) n) (sym (eqb-true c 39 e)) (p.quote n h)
text_cut c cs p false e n h =
    let m = mapped (λ k. k + 1) (text_len cs) n h in
    let r = p.text m.0 m.1 in
    record { len = suc r.len; is = omega (arith, m.2, r.is); inside = omega (arith, r.inside); again = plain_again c (take r.len cs) e r.again }

end_cut : (cs : List ℕ) (n : ℕ) → Some 1 ≡ Some n → Cut (39 ∷ cs) n
end_cut cs n h =
    let one : 1 ≡ n = cc in
    record { len = 0; is = omega arith; inside = omega arith; again = refl }

quote_cut : (c : ℕ) (cs : List ℕ) → Cuts cs → (b : Bool) → (c == 39) ≡ b → (n : ℕ) → (if b then option_map (λ k. k + 2) (text_len cs) else Some 1) ≡ Some n → Cut (39 ∷ c ∷ cs) n
quote_cut c cs p true e n h =
    let m = mapped (λ k. k + 2) (text_len cs) n h in
    let r = p.text m.0 m.1 in
    subst (λ x. Cut (39 ∷ x ∷ cs) n) (sym (eqb-true c 39 e))
    (record { len = suc (suc r.len); is = omega (arith, m.2, r.is); inside = omega (arith, r.inside); again = ap (λ t. 39 ∷ 39 ∷ t) r.again })
quote_cut c cs p false e n h = end_cut (c ∷ cs) n h

cuts : (cs : List ℕ) → Cuts cs
cuts [] = record { text = λ n h. cc; quote = λ n h. end_cut [] n h }
cuts (c ∷ cs) = record { text = λ n h. text_cut c cs (cuts cs) (c == 39) refl n h; quote = λ n h. quote_cut c cs (cuts cs) (c == 39) refl n h }

inside_is : (n len : ℕ) (cs : List ℕ) → n ≡ suc len → len < length cs → inside_quotes (take (n + 1) (39 ∷ cs)) ≡ take len cs
inside_is n len cs e h =
    let more : n + 1 ≡ suc n = omega arith in
    let long : length (take n cs) ≡ n = length-take-le n cs (omega arith) in
    let less : suc (length (take n cs)) - 2 ≡ len = omega (arith, long) in
    ap (λ k. inside_quotes (take k (39 ∷ cs))) more ∙ ap (λ k. take k (take n cs)) less ∙ take-take len n cs (omega arith)

text_is : (cs : List ℕ) (n : ℕ) → Cut cs n → is_utf8 (take (n - 1) cs) ≡ true → IsText (undoubled (inside_quotes (take (n + 1) (39 ∷ cs))))
text_is cs n r h =
    let short : n - 1 ≡ r.len = omega (arith, r.is) in
    let text = undoubled (inside_quotes (take (n + 1) (39 ∷ cs))) in
    record { utf8 = utf8_single text (ap (λ t. is_utf8 (doubled (undoubled t))) (inside_is n r.len cs r.is r.inside) ∙ ap is_utf8 r.again ∙ ap (λ k. is_utf8 (take k cs)) (sym short) ∙ h) }

text_stands : (cs : List ℕ) (o : Option ℕ) → text_len cs ≡ o → Holds (Stands (39 ∷ cs)) (text_token cs o)
text_stands cs None e = record { it = tt }
text_stands cs (Some n) e =
    let c = cuts cs in
    of_both (Stands (39 ∷ cs)) (is_utf8 (take (n - 1) cs)) _ _ (λ h. record { it = text_is cs n (c.text n e) h }) (λ _. record { it = tt })

-- Signs

less_stands : (s cs : List ℕ) → Holds (Stands s) (less_token cs)
less_stands s [] = record { it = tt }
less_stands s (c ∷ cs) = of_both (Stands s) (c == 62) _ _ (λ _. record { it = tt }) (λ _. of_both (Stands s) (c == 61) _ _ (λ _. record { it = tt }) (λ _. record { it = tt }))

greater_stands : (s cs : List ℕ) → Holds (Stands s) (greater_token cs)
greater_stands s [] = record { it = tt }
greater_stands s (c ∷ cs) = of_both (Stands s) (c == 61) _ _ (λ _. record { it = tt }) (λ _. record { it = tt })

sign_stands : (s : List ℕ) (c : ℕ) (cs : List ℕ) → Holds (Stands s) (sign_token c cs)
sign_stands s c cs =
    of_both (Stands s) (c == 40) _ _ (λ _. record { it = tt }) (λ _.
    of_both (Stands s) (c == 41) _ _ (λ _. record { it = tt }) (λ _.
    of_both (Stands s) (c == 44) _ _ (λ _. record { it = tt }) (λ _.
    of_both (Stands s) (c == 61) _ _ (λ _. record { it = tt }) (λ _.
    of_both (Stands s) (c == 60) _ _ (λ _. less_stands s cs) (λ _.
    of_both (Stands s) (c == 62) _ _ (λ _. greater_stands s cs) (λ _. record { it = tt }))))))

-- Tokens

stands : (s : List ℕ) → Holds (Stands s) (token_of s)
unfolding token_of
stands [] = record { it = tt }
stands (c ∷ cs) =
    of_both (Stands (c ∷ cs)) (begins_name c) _ _ (λ h. record { it = word_stands c cs h }) (λ _.
    of_both (Stands (c ∷ cs)) (is_digit c) _ _ (λ _. number_stands (c ∷ cs) (front is_digit (c ∷ cs)) false (c ∷ cs)) (λ _.
    of_both (Stands (c ∷ cs)) (c == 45) _ _ (λ _. minus_stands (c ∷ cs) cs) (λ _.
    of_both (Stands (c ∷ cs)) (c == 39) _ _ (λ e. subst (λ x. Holds (Stands (x ∷ cs)) (text_token cs (text_len cs))) (sym (eqb-true c 39 e)) (text_stands cs (text_len cs) refl)) (λ _.
    sign_stands (c ∷ cs) c cs))))

behind_from : (n m : ℕ) → m ≡ (n + m) - n
behind_from n m = omega arith

-- what the next token stands for
pub lexeme_means : (bytes : List ℕ) (at : ℕ) → Means (drop (lexeme bytes at).from bytes) ((lexeme bytes at).to - (lexeme bytes at).from) (lexeme bytes at).token
unfolding lexeme
lexeme_means bytes at =
    let from : ℕ = at + front is_space (drop at bytes) in
    let read : Token × ℕ = token_of (drop from bytes) in
    subst (λ n. Means (drop from bytes) n read.0) (behind_from from read.1) (stands (drop from bytes)).it
