-- The value of at most five digits: it grows by each digit, and fits, since a digit is at most nine.
use Rattle.std.proofs.Common.{◌≡◌, ℕ, ◌+◌, ◌-◌, ◌*◌, ◌^◌, ◌<◌, ◌≤◌, List, [], ◌∷◌, ◌++◌, length, take, get_or, Bool, true, false, refl, ap, ◌∙◌, arith, zero, suc, add-one}
use Rattle.std.specs.Prelude.{◌&&◌}
use Rattle.std.specs.List.{list_all}
use Rattle.std.proofs.lemmas.List.{take_more}
use Rattle.std.proofs.lemmas.Bool.Decides.{nat_tests}
use Rattle.std.proofs.Math.Nat.{pow-suc, pow-le-pow_right}
use Rattle.gr_sock.specs.Address.{is_digit, value_after}

value_snoc : (n : ℕ) (xs : List ℕ) (d : ℕ) → value_after n (xs ++ d ∷ []) ≡ value_after n xs * 10 + (d - 48)
value_snoc n [] d = refl
value_snoc n (x ∷ xs) d = value_snoc (n * 10 + (x - 48)) xs d

digit_at : (xs : List ℕ) (i : ℕ) (d : ℕ) → i < length xs → list_all is_digit xs ≡ true → is_digit (get_or xs i d) ≡ true
digit_at [] i d h e = absurd (omega arith)
digit_at (x ∷ xs) zero d h e = first (is_digit x) (list_all is_digit xs) e
  where
    first : (a b : Bool) → (a && b) ≡ true → a ≡ true
    first true b e = refl
    first false b e = absurd (cc)
digit_at (x ∷ xs) (suc i) d h e = digit_at xs i d (omega arith) (second (is_digit x) (list_all is_digit xs) e)
  where
    second : (a b : Bool) → (a && b) ≡ true → b ≡ true
    second true b e = e
    second false b e = absurd (cc)

bounds : (b : ℕ) → is_digit b ≡ true → (48 ≤ b) × (b ≤ 57)
bounds b h = grind (arith, nat_tests)

-- a value of few digits, and one more
pub more : (digits : List ℕ) (i value d : ℕ) → length digits ≤ 5 → list_all is_digit digits ≡ true → i < length digits → value ≡ value_after 0 (take i digits) → value < 10 ^ i → d ≡ get_or digits i 0 - 48 →
    (value * 10 + d < 2 ^ 32) × (value * 10 + d ≡ value_after 0 (take (i + 1) digits)) × (value * 10 + d < 10 ^ (i + 1))
more digits i value d short all here is small e =
    let digit = bounds (get_or digits i 0) (digit_at digits i 0 here all) in
    let grows : 10 ^ (i + 1) ≡ 10 ^ i * 10 = rw add-one (pow-suc 10 i) in
    let most : 10 ^ i ≤ 10 ^ 4 = pow-le-pow_right (let k : 1 ≤ 10 = omega arith in k) (let k : i ≤ 4 = omega arith in k) in
    let next : value_after 0 (take (i + 1) digits) ≡ value_after 0 (take i digits) * 10 + (get_or digits i 0 - 48) = ap (value_after 0) (take_more digits i 0 here) ∙ value_snoc 0 (take i digits) (get_or digits i 0) in
    (omega (arith, digit.0, digit.1, most), omega (arith, next, is, e), omega (arith, digit.0, digit.1, grows))

-- there is room for one more digit
pub room : (i n value : ℕ) → n ≤ 5 → i < n → value < 10 ^ i → value * 10 + 9 < 2 ^ 32
room i n value short here small =
    let most : 10 ^ i ≤ 10 ^ 4 = pow-le-pow_right (let k : 1 ≤ 10 = omega arith in k) (let k : i ≤ 4 = omega arith in k) in
    omega (arith, most)
