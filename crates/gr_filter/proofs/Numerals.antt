-- How printed integers and texts read
use Rattle.std.proofs.Common.{◌≡◌, ℕ, suc, ◌+◌, ◌-◌, ◌^◌, ◌<◌, ◌≤◌, Bool, true, false, ◌==◌, if◌then◌else◌, List, [], ◌∷◌, ◌++◌, length, take, drop, ℤ, pos, negsuc, FitsSigned, refl, ap, ◌∙◌, arith, take_at, drop_at, ne_eqb, lt-ltb, le-leb, leb-true}
use Rattle.std.specs.Int.{w64}
use Rattle.std.specs.Fmt.{decimal, signed_decimal}
use Rattle.std.proofs.lemmas.Bool.{and_parts, and_from}
use Rattle.std.proofs.lemmas.Bool.Decides.{nat_tests}
use Rattle.std.proofs.lemmas.Fmt.{decimal_nonempty, digits_decimal, digits_value-decimal}
use Rattle.std.proofs.lemmas.Str.Parse.{IsNumeralModel, IsDigitsTest, FoldsDigits, numerals_by_fold}
use Rattle.gr_filter.specs.declared.token.Token.TheVariants as token
use Rattle.gr_filter.specs.Token.{is_digit, begins_name, goes_on, front, number_from, integer_token, next_goes_on, number_token, minus_token, token_of}
use Rattle.gr_filter.proofs.Lexing.{chosen, other, Lexes, spaced, starts, lexes, breaks, first_is, broken, no_space, front_first, front_whole}

-- Digits

abbrev AllDigits : List ℕ → Type 0
AllDigits ds = front is_digit ds ≡ length ds

digits_more : (c : ℕ) (cs : List ℕ) → is_digit c ≡ true → AllDigits cs → AllDigits (c ∷ cs)
digits_more c cs h a = chosen (is_digit c) (1 + front is_digit cs) 0 h ∙ omega (arith, a)

tells : IsDigitsTest AllDigits
tells = record {
  empty = refl;
  parts = λ c cs a.
      let p = front_first is_digit c cs a in
      let d = and_parts _ _ p.0 in
      ((leb-true 48 c d.0, leb-true c 57 d.1), p.1);
  more = λ c cs r a. digits_more c cs (and_from _ _ (le-leb 48 c r.0) (le-leb c 57 r.1)) a;
}

folds : FoldsDigits number_from
folds = record {
  empty = λ n. refl;
  more = λ n c cs r. ap (λ m. number_from (m + (c - 48)) cs) (omega arith);
}

own : IsNumeralModel AllDigits (number_from 0)
own = numerals_by_fold AllDigits tells number_from folds

next_is : (rest : List ℕ) → next_goes_on rest ≡ first_is goes_on rest
next_is [] = refl
next_is (c ∷ cs) = refl

number_reads : (minus : Bool) (ds rest : List ℕ) → AllDigits ds → breaks rest ≡ true → number_token minus (ds ++ rest) ≡ integer_token minus (number_from 0 ds)
unfolding number_token
number_reads minus ds rest a b =
    let n : front is_digit (ds ++ rest) ≡ length ds = front_whole is_digit ds rest a (broken is_digit rest refl refl refl b) in
    let end : next_goes_on (drop (length ds) (ds ++ rest)) ≡ false = ap next_goes_on (drop_at ds rest (length ds) refl) ∙ next_is rest ∙ broken goes_on rest refl refl refl b in
    ap (λ k. if next_goes_on (drop k (ds ++ rest)) then token.Bad else integer_token minus (number_from 0 (take k (ds ++ rest)))) n
    ∙ other (next_goes_on (drop (length ds) (ds ++ rest))) token.Bad (integer_token minus (number_from 0 (take (length ds) (ds ++ rest)))) end
    ∙ ap (λ s. integer_token minus (number_from 0 s)) (take_at ds rest (length ds) refl)

no_name : (c : ℕ) → is_digit c ≡ true → begins_name c ≡ false
no_name c h = grind (arith, nat_tests)

digits_token : (c : ℕ) (s : List ℕ) → is_digit c ≡ true → token_of (c ∷ s) ≡ (number_token false (c ∷ s), front is_digit (c ∷ s))
unfolding token_of
digits_token c s h = other (begins_name c) _ _ (no_name c h) ∙ chosen (is_digit c) _ _ h

digits_read : (ds rest : List ℕ) → 0 < length ds → AllDigits ds → breaks rest ≡ true → token_of (ds ++ rest) ≡ (integer_token false (number_from 0 ds), length ds)
digits_read [] rest some a b = absurd (omega arith)
digits_read (c ∷ cs) rest some a b =
    digits_token c (cs ++ rest) (front_first is_digit c cs a).0
    ∙ ap (λ k. (number_token false (c ∷ (cs ++ rest)), k)) (front_whole is_digit (c ∷ cs) rest a (broken is_digit rest refl refl refl b))
    ∙ ap (λ t. (t, length (c ∷ cs))) (number_reads false (c ∷ cs) rest a b)

minus_begins : (s : List ℕ) → token_of (45 ∷ s) ≡ minus_token s
unfolding token_of
minus_begins s = refl

minus_reads : (ds rest : List ℕ) → 0 < length ds → AllDigits ds → breaks rest ≡ true → token_of (45 ∷ (ds ++ rest)) ≡ (integer_token true (number_from 0 ds), 1 + length ds)
minus_reads ds rest some a b =
    let n : front is_digit (ds ++ rest) ≡ length ds = front_whole is_digit ds rest a (broken is_digit rest refl refl refl b) in
    minus_begins (ds ++ rest)
    ∙ ap (λ k. if k == 0 then (token.Bad, 1) else (number_token true (ds ++ rest), 1 + k)) n
    ∙ other (length ds == 0) (token.Bad, 1) (number_token true (ds ++ rest), 1 + length ds) (ne_eqb (length ds) 0 (λ e. omega arith))
    ∙ ap (λ t. (t, 1 + length ds)) (number_reads true ds rest a b)

digits_start : (ds : List ℕ) → 0 < length ds → AllDigits ds → starts ds ≡ true
digits_start [] some a = absurd (omega arith)
digits_start (c ∷ cs) some a = no_space is_digit c refl refl refl refl (front_first is_digit c cs a).0

-- Integers

positive : (n : ℕ) → n < 2 ^ 63 → integer_token false n ≡ token.Integer (pos n)
positive n h = chosen _ _ _ (lt-ltb n (2 ^ 63) h)

negative : (n : ℕ) → suc n ≤ 2 ^ 63 → integer_token true (suc n) ≡ token.Integer (negsuc n)
negative n h = chosen _ _ _ (le-leb (suc n) (2 ^ 63) h)

integer_reads : (z : ℤ) (rest : List ℕ) → FitsSigned w64 z → breaks rest ≡ true → token_of (signed_decimal z ++ rest) ≡ (token.Integer z, length (signed_decimal z))
integer_reads (pos n) rest fits b =
    let small : n < 2 ^ 64 = omega (arith, fits.sfits) in
    digits_read (decimal n) rest (decimal_nonempty n small) (digits_decimal own n small) b
    ∙ ap (λ m. (integer_token false m, length (decimal n))) (digits_value-decimal own n small)
    ∙ ap (λ t. (t, length (decimal n))) (positive n (omega (arith, fits.sfits)))
integer_reads (negsuc n) rest fits b =
    let small : suc n < 2 ^ 64 = omega (arith, fits.sfits) in
    minus_reads (decimal (suc n)) rest (decimal_nonempty (suc n) small) (digits_decimal own (suc n) small) b
    ∙ ap (λ m. (integer_token true m, 1 + length (decimal (suc n)))) (digits_value-decimal own (suc n) small)
    ∙ ap (λ t. (t, 1 + length (decimal (suc n)))) (negative n (omega (arith, fits.sfits)))
    ∙ ap (λ k. (token.Integer (negsuc n), k)) (omega arith)

integer_starts : (z : ℤ) → FitsSigned w64 z → starts (signed_decimal z) ≡ true
integer_starts (pos n) fits =
    let small : n < 2 ^ 64 = omega (arith, fits.sfits) in
    digits_start (decimal n) (decimal_nonempty n small) (digits_decimal own n small)
integer_starts (negsuc n) fits = refl

pub lexes_integer : (g : Bool) (bytes : List ℕ) (at : ℕ) (z : ℤ) (rest : List ℕ) → FitsSigned w64 z → drop at bytes ≡ spaced g (signed_decimal z ++ rest) → breaks rest ≡ true → Lexes bytes at (token.Integer z) (signed_decimal z) rest
lexes_integer g bytes at z rest fits e b = lexes g bytes at (signed_decimal z) rest (token.Integer z) e (integer_starts z fits) (integer_reads z rest fits b)
