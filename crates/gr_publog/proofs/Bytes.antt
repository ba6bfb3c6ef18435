-- Numbers and the bytes that spell them, and parts of bytes.
use Rattle.std.proofs.Common.{◌≡◌, ◌<◌, ◌+◌, ◌^◌, ℕ, List, ◌++◌, length, drop, get_or, inl, inr, ap, sym, ◌∙◌, refl, arith, lit<}
use Rattle.std.specs.Int.{from_be_bytes, to_be_bytes, w16, w32, w64}
use Rattle.std.proofs.lemmas.Bool.{cases_lt}
use Rattle.std.proofs.lemmas.List.{drop_at, get_or-drop, get_or_append_left, get_or_past}
use Rattle.std.proofs.lemmas.Nat.{be_bytes_4, be_bytes_8}
use Rattle.gr_publog.specs.Text.{AreBytes}

pub spells_eight : (n : ℕ) (bytes : List ℕ) → n ≡ from_be_bytes w64 bytes → length bytes ≡ 8 → AreBytes bytes → to_be_bytes w64 n ≡ bytes
spells_eight n bytes is len each = be_bytes_8 bytes n len each is

pub spells_four : (n : ℕ) (bytes : List ℕ) → n ≡ from_be_bytes w32 bytes → length bytes ≡ 4 → AreBytes bytes → to_be_bytes w32 n ≡ bytes
spells_four n bytes is len each = be_bytes_4 bytes n len each is

-- each from a place on is a byte
pub bytes_from : (at : ℕ) (bytes : List ℕ) → AreBytes bytes → AreBytes (drop at bytes)
bytes_from at bytes fits = λ i. rw (get_or-drop at bytes i 0) (fits (at + i))

-- each of a front is a byte
pub bytes_before : (bytes front rest : List ℕ) → AreBytes bytes → bytes ≡ front ++ rest → AreBytes front
bytes_before bytes front rest fits e = λ i.
    elim (cases_lt i (length front)) [
      | inl k ↦ let here : get_or front i 0 ≡ get_or bytes i 0 = sym (get_or_append_left front rest 0 i k) ∙ ap (λ l. get_or l i 0) (sym e) in
          rw here (fits i)
      | inr k ↦ rw (get_or_past front i 0 k) (lit< tt)
    ]

-- each behind a front is a byte
pub bytes_behind : (bytes front rest : List ℕ) → AreBytes bytes → bytes ≡ front ++ rest → AreBytes rest
bytes_behind bytes front rest fits e = λ i.
    let here : get_or rest i 0 ≡ get_or bytes (length front + i) 0 =
    ap (λ l. get_or l i 0) (sym (drop_at front rest (length front) refl)) ∙ ap (λ l. get_or (drop (length front) l) i 0) (sym e) ∙ get_or-drop (length front) bytes i 0 in
    rw here (fits (length front + i))

-- eight bytes are a number of 64 bits
pub eight_fits : (bytes : List ℕ) → AreBytes bytes → from_be_bytes w64 bytes < 2 ^ 64
eight_fits bytes each = omega (arith, each 0, each 1, each 2, each 3, each 4, each 5, each 6, each 7)

-- two bytes are a number of 16 bits
pub two_fits : (bytes : List ℕ) → AreBytes bytes → from_be_bytes w16 bytes < 2 ^ 16
two_fits bytes each = omega (arith, each 0, each 1)
