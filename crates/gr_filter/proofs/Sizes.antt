-- Each token but the end has a byte, and ends within its text: so a text has at most as many words as bytes
use Rattle.std.proofs.Common.{◌≡◌, ℕ, zero, suc, ◌+◌, ◌-◌, ◌<◌, ◌≤◌, Bool, true, false, ◌||◌, ◌==◌, if◌then◌else◌, List, [], ◌∷◌, ◌++◌, length, take, drop, Option, Some, None, option_map, refl, sym, ap, subst, ◌∙◌, arith}
use Rattle.std.proofs.lemmas.Bool.{or_left}
use Rattle.std.proofs.lemmas.List.{length-drop}
use Rattle.std.specs.Str.{is_utf8}
use Rattle.gr_filter.specs.declared.token.Token.{Token}
use Rattle.gr_filter.specs.declared.token.Token.TheVariants as token
use Rattle.gr_filter.specs.declared.token.Lexeme.{Lexeme}
use Rattle.gr_filter.specs.Token.{is_space, is_digit, begins_name, goes_on, front, text_len, quote_len, text_token, less_token, greater_token, sign_token, minus_token, token_of, lexeme}
use Rattle.gr_filter.specs.Productions.{Word, word_of, word_at, AreWords}
use Rattle.gr_filter.proofs.Lexing.{Holds, of_both, chosen}

pub front_within : (test : ℕ → Bool) (s : List ℕ) → front test s ≤ length s
front_within test [] = omega arith
front_within test (c ∷ cs) = elim (test c) as (λ b. (if b then 1 + front test cs else 0) ≤ length (c ∷ cs)) [ true ↦ omega (arith, front_within test cs) | false ↦ omega arith ]

front_some : (test : ℕ → Bool) (c : ℕ) (cs : List ℕ) → test c ≡ true → front test (c ∷ cs) ≡ 1 + front test cs
front_some test c cs h = chosen (test c) (1 + front test cs) 0 h

-- ---- texts

-- how long a text is: some bytes, and no more than there are
abbrev IsLength : ℕ → Option ℕ → Type 0
IsLength n None = Unit {0}
IsLength n (Some k) = (1 ≤ k) × (k ≤ n)

more_by : (d n m : ℕ) (o : Option ℕ) → n + d ≤ m → IsLength n o → IsLength m (option_map (λ k. k + d) o)
more_by d n m None l h = tt
more_by d n m (Some k) l h = (omega (arith, h.0), omega (arith, h.1))

mutual
  text_within : (s : List ℕ) → Holds (IsLength (length s)) (text_len s)
  text_within [] = record { it = tt }
  text_within (c ∷ cs) =
      of_both (IsLength (length (c ∷ cs))) (c == 39) (quote_len cs) (option_map (λ n. n + 1) (text_len cs))
      (λ _. quote_within cs)
      (λ _. record { it = more_by 1 (length cs) (length (c ∷ cs)) (text_len cs) (omega arith) (text_within cs).it })

  quote_within : (s : List ℕ) → Holds (IsLength (suc (length s))) (quote_len s)
  quote_within [] = record { it = (omega arith, omega arith) }
  quote_within (c ∷ cs) =
      of_both (IsLength (suc (length (c ∷ cs)))) (c == 39) (option_map (λ n. n + 2) (text_len cs)) (Some 1)
      (λ _. record { it = more_by 2 (length cs) (suc (length (c ∷ cs))) (text_len cs) (omega arith) (text_within cs).it })
      (λ _. record { it = (omega arith, omega arith) })

-- ---- tokens

-- so many bytes, at least one and at most as many as there are
abbrev IsSized : ℕ → Token × ℕ → Type 0
IsSized n r = (1 ≤ r.1) × (r.1 ≤ n)

text_sized : (n : ℕ) (cs : List ℕ) (o : Option ℕ) → 1 ≤ n → (IsLength (length cs) o) → suc (length cs) ≤ n → Holds (IsSized n) (text_token cs o)
text_sized n cs None l h k = record { it = (omega arith, l) }
text_sized n cs (Some m) l h k = of_both (IsSized n) (is_utf8 (take (m - 1) cs)) (token.Text, m + 1) (token.Bad, 1) (λ _. record { it = (omega arith, omega (arith, h.1, k)) }) (λ _. record { it = (omega arith, l) })

less_sized : (n : ℕ) (cs : List ℕ) → n ≡ suc (length cs) → Holds (IsSized n) (less_token cs)
less_sized n [] e = record { it = (omega arith, omega (arith, e)) }
less_sized n (c ∷ cs) e =
    of_both (IsSized n) (c == 62) _ _ (λ _. record { it = (omega arith, omega (arith, e)) }) (λ _.
    of_both (IsSized n) (c == 61) _ _ (λ _. record { it = (omega arith, omega (arith, e)) }) (λ _. record { it = (omega arith, omega (arith, e)) }))

greater_sized : (n : ℕ) (cs : List ℕ) → n ≡ suc (length cs) → Holds (IsSized n) (greater_token cs)
greater_sized n [] e = record { it = (omega arith, omega (arith, e)) }
greater_sized n (c ∷ cs) e =
    of_both (IsSized n) (c == 61) _ _ (λ _. record { it = (omega arith, omega (arith, e)) }) (λ _. record { it = (omega arith, omega (arith, e)) })

sign_sized : (n c : ℕ) (cs : List ℕ) → n ≡ suc (length cs) → Holds (IsSized n) (sign_token c cs)
sign_sized n c cs e =
    of_both (IsSized n) (c == 40) _ _ (λ _. record { it = (omega arith, omega (arith, e)) }) (λ _.
    of_both (IsSized n) (c == 41) _ _ (λ _. record { it = (omega arith, omega (arith, e)) }) (λ _.
    of_both (IsSized n) (c == 44) _ _ (λ _. record { it = (omega arith, omega (arith, e)) }) (λ _.
    of_both (IsSized n) (c == 61) _ _ (λ _. record { it = (omega arith, omega (arith, e)) }) (λ _.
    of_both (IsSized n) (c == 60) _ _ (λ _. less_sized n cs e) (λ _.
    of_both (IsSized n) (c == 62) _ _ (λ _. greater_sized n cs e) (λ _. record { it = (omega arith, omega (arith, e)) }))))))

minus_sized : (n : ℕ) (cs : List ℕ) → n ≡ suc (length cs) → Holds (IsSized n) (minus_token cs)
minus_sized n cs e =
    of_both (IsSized n) (front is_digit cs == 0) _ _
    (λ _. record { it = (omega arith, omega (arith, e)) })
    (λ _. record { it = (omega arith, omega (arith, e, front_within is_digit cs)) })

token_sized : (c : ℕ) (cs : List ℕ) → Holds (IsSized (suc (length cs))) (token_of (c ∷ cs))
unfolding token_of
token_sized c cs =
    let n : ℕ = suc (length cs) in
    of_both (IsSized n) (begins_name c) _ _ (λ h. record { it = (omega (arith, front_some goes_on c cs (goes h)), omega (arith, front_within goes_on (c ∷ cs))) }) (λ _.
    of_both (IsSized n) (is_digit c) _ _ (λ h. record { it = (omega (arith, front_some is_digit c cs h), omega (arith, front_within is_digit (c ∷ cs))) }) (λ _.
    of_both (IsSized n) (c == 45) _ _ (λ _. minus_sized n cs refl) (λ _.
    of_both (IsSized n) (c == 39) _ _ (λ _. text_sized n cs (text_len cs) (omega arith) (text_within cs).it (omega arith)) (λ _. sign_sized n c cs refl))))
  where
    goes : begins_name c ≡ true → goes_on c ≡ true
    goes h = or_left (begins_name c || is_digit c) (c == 46) (or_left (begins_name c) (is_digit c) h)

-- ---- words

abbrev IsEnd : Token → Type 0
IsEnd token.End = Unit {0}
IsEnd _ = ⊥

-- a token ends within its text, and behind where it begins unless it is the end
sized_at : (n : ℕ) (s : List ℕ) → n ≡ length s → ((token_of s).1 ≤ n) × ((IsEnd (token_of s).0 → ⊥) → 1 ≤ (token_of s).1)
unfolding token_of
sized_at n [] e = (omega arith, λ k. absurd (k tt))
sized_at n (c ∷ cs) e = let h : IsSized (suc (length cs)) (token_of (c ∷ cs)) = (token_sized c cs).it in (omega (arith, h.1, e), λ k. h.0)

word_not_end : (bytes : List ℕ) (l : Lexeme) (t : Token) (w : Word) → word_of bytes l t ≡ Some w → IsEnd t → ⊥
word_not_end bytes l token.End w h k = none_some w h
  where
    none_some : (w : Word) → ◌≡◌ {A = Option Word} None (Some w) → ⊥
    none_some w h = cc
word_not_end bytes l _ w h k = k

-- a word has a byte, and ends within the text
pub word_sized : (bytes : List ℕ) (at : ℕ) (w : Word) → at ≤ length bytes → word_at bytes at ≡ Some w → (at < (lexeme bytes at).to) × ((lexeme bytes at).to ≤ length bytes)
unfolding lexeme
word_sized bytes at w l h =
    let from : ℕ = at + front is_space (drop at bytes) in
    let inside : front is_space (drop at bytes) ≤ length (drop at bytes) = front_within is_space (drop at bytes) in
    let left : length (drop from bytes) ≡ length bytes - from = length-drop from bytes in
    let s = sized_at (length (drop from bytes)) (drop from bytes) refl in
    let some : 1 ≤ (token_of (drop from bytes)).1 = s.1 (word_not_end bytes (lexeme bytes at) (lexeme bytes at).token w h) in
    (omega (arith, some), omega (arith, s.0, left, inside, length-drop at bytes, l))

-- as many words as bytes at most
pub words_sized : (bytes : List ℕ) (at to : ℕ) (ws : List Word) → at ≤ length bytes → AreWords bytes at ws to → (at + length ws ≤ to) × (to ≤ length bytes)
words_sized bytes at to [] l h = (omega (arith, h), omega (arith, h, l))
words_sized bytes at to (w ∷ ws) l h =
    let one = word_sized bytes at w l h.0 in
    let rest = words_sized bytes (lexeme bytes at).to to ws one.1 h.1 in
    (omega (arith, one.0, rest.0), rest.1)
