-- Fields of bytes: what was read stands there, and what stands there is read
use Rattle.std.proofs.Common.{◌≡◌, ◌<◌, ◌≤◌, ◌+◌, ◌-◌, ◌^◌, ◌||◌, ◌⊎◌, inl, inr, ℕ, List, ◌∷◌, ◌++◌, length, take, drop, get_or, true, false, Bool, nat_lt, nat_le, if◌then◌else◌, Result, Ok, Err, ap, refl, sym, ◌∙◌, arith, rules, length-append, lit<}
use Rattle.std.specs.Prelude.{slice_range, slice_index}
use Rattle.std.specs.Int.{to_be_bytes, from_be_bytes, w16, w64}
use Rattle.std.proofs.lemmas.Bool.{cases_lt}
use Rattle.std.proofs.lemmas.List.{take-append-drop, drop-drop, drop_more, get_or-drop, get_or_append_left, get_or_past, length-take, length-drop, take_at, drop_at, get_or_at}
use Rattle.std.proofs.lemmas.Nat.{be_bytes_2, be_bytes_8, from_be_bytes-to_be_bytes_2, from_be_bytes-to_be_bytes_8}
use Rattle.gr_frame.specs.declared.fault.FrameKind.TheVariants.{Short, BadRange}
use Rattle.gr_frame.specs.declared.fault.FrameFault.{FrameFault}
use Rattle.gr_frame.specs.Gives.{fault, ◌>>=◌}
use Rattle.gr_frame.specs.Decode.{byte_at, field_at, u16_at, u64_at, tick_at}

-- each is a byte
abbrev pub AreBytes : List ℕ → Type 0
AreBytes bytes = (i : ℕ) → get_or bytes i 0 < 256

-- Steps of a reading that succeeded

-- each step succeeded
pub bind_told : {A B : Type 0} (r : Result A FrameFault) (f : A → Result B FrameFault) (y : B) → (r >>= f) ≡ Ok y → (x : A) × (r ≡ Ok x) × (f x ≡ Ok y)
bind_told (Ok x) f y h = (x, refl, h)
bind_told (Err e) f y h = absurd (cc)

-- a test before it failed
pub else_told : {A : Type 0} (b : Bool) (e : FrameFault) (r : Result A FrameFault) (y : A) → (if b then Err e else r) ≡ Ok y → (b ≡ false) × (r ≡ Ok y)
else_told true e r y h = absurd (cc)
else_told false e r y h = (refl, h)

-- a test before it held
pub then_told : {A : Type 0} (b : Bool) (e : FrameFault) (r : Result A FrameFault) (y : A) → (if b then r else Err e) ≡ Ok y → (b ≡ true) × (r ≡ Ok y)
then_told true e r y h = (refl, h)
then_told false e r y h = absurd (cc)

-- one of two succeeded
pub either_told : {A : Type 0} (b : Bool) (r s : Result A FrameFault) (y : A) → (if b then r else s) ≡ Ok y → ((b ≡ true) × (r ≡ Ok y)) ⊎ ((b ≡ false) × (s ≡ Ok y))
either_told true r s y h = inl (refl, h)
either_told false r s y h = inr (refl, h)

-- What was read

below : (n k : ℕ) → nat_lt n k ≡ true → n < k
below n k h = grind (arith, rules)

pub within : (n k : ℕ) → nat_le n k ≡ true → n ≤ k
within n k h = grind (arith, rules)

pub byte_told : (bytes : List ℕ) (at x : ℕ) → byte_at bytes at ≡ Ok x → drop at bytes ≡ x ∷ drop (at + 1) bytes
byte_told bytes at x h =
    let one = then_told (nat_lt at (length bytes)) (fault Short (length bytes)) (Ok (slice_index bytes at)) x h in
    let e : get_or bytes at 0 ≡ x = let k = one.1 in cc in
    drop_more bytes at 0 (below at (length bytes) one.0) ∙ ap (λ y. y ∷ drop (at + 1) bytes) e

pub field_told : (bytes : List ℕ) (at n : ℕ) (f : List ℕ) → field_at bytes at n ≡ Ok f → (drop at bytes ≡ f ++ drop (at + n) bytes) × (length f ≡ n) × (at + n ≤ length bytes)
field_told bytes at n f h =
    let one = then_told (nat_le (at + n) (length bytes)) (fault Short (length bytes)) (Ok (slice_range bytes at (at + n))) f h in
    let inside : at + n ≤ length bytes = within (at + n) (length bytes) one.0 in
    let size : at + n - at ≡ n = omega arith in
    let is : take (at + n - at) (drop at bytes) ≡ f = let e = one.1 in cc in
    let cut : take n (drop at bytes) ≡ f = rw size at is in (
      sym (take-append-drop n (drop at bytes)) ∙ ap (λ l. l ++ drop n (drop at bytes)) cut ∙ ap (λ l. f ++ l) (drop-drop n at bytes),
      ap length (sym cut) ∙ length-take n (drop at bytes) ∙ omega (arith, length-drop at bytes),
      inside,
    )

-- each byte of a field is a byte
pub field_fits : (bytes f rest : List ℕ) (at : ℕ) → AreBytes bytes → drop at bytes ≡ f ++ rest → AreBytes f
field_fits bytes f rest at fits e = λ i.
    elim (cases_lt i (length f)) [
      | inl k ↦ let here : get_or f i 0 ≡ get_or bytes (at + i) 0 = sym (get_or_append_left f rest 0 i k) ∙ ap (λ l. get_or l i 0) (sym e) ∙ get_or-drop at bytes i 0 in
          rw here (fits (at + i))
      | inr k ↦ rw (get_or_past f i 0 k) (lit< tt)
    ]

pub u16_told : (bytes : List ℕ) (at n : ℕ) → AreBytes bytes → u16_at bytes at ≡ Ok n → (drop at bytes ≡ to_be_bytes w16 n ++ drop (at + 2) bytes) × (n < 2 ^ 16)
u16_told bytes at n fits h =
    let one = bind_told (field_at bytes at 2) (λ f. Ok (from_be_bytes w16 f)) n h in
    let f = one.0 in
    let field = field_told bytes at 2 f one.1 in
    let each = field_fits bytes f (drop (at + 2) bytes) at fits field.0 in
    let is : from_be_bytes w16 f ≡ n = let e = one.2 in cc in
    let small : from_be_bytes w16 f < 2 ^ 16 = omega (arith, each 0, each 1) in
    (field.0 ∙ ap (λ l. l ++ drop (at + 2) bytes) (sym (be_bytes_2 f n field.1 each (sym is))), omega (arith, small, is))

pub u64_told : (bytes : List ℕ) (at n : ℕ) → AreBytes bytes → u64_at bytes at ≡ Ok n → drop at bytes ≡ to_be_bytes w64 n ++ drop (at + 8) bytes
u64_told bytes at n fits h =
    let one = bind_told (field_at bytes at 8) (λ f. Ok (from_be_bytes w64 f)) n h in
    let f = one.0 in
    let field = field_told bytes at 8 f one.1 in
    let each = field_fits bytes f (drop (at + 8) bytes) at fits field.0 in
    let is : from_be_bytes w64 f ≡ n = let e = one.2 in cc in
    field.0 ∙ ap (λ l. l ++ drop (at + 8) bytes) (sym (be_bytes_8 f n field.1 each (sym is)))

in_range : (t least : ℕ) → (nat_lt t least || nat_lt (2 ^ 62) t) ≡ false → (least ≤ t) × (t ≤ 2 ^ 62)
in_range t least h = (grind (arith, rules), grind (arith, rules))

pub tick_told : (bytes : List ℕ) (at least t : ℕ) → AreBytes bytes → tick_at bytes at least ≡ Ok t
    → (drop at bytes ≡ to_be_bytes w64 t ++ drop (at + 8) bytes) × (least ≤ t) × (t ≤ 2 ^ 62)
unfolding tick_at
tick_told bytes at least t fits h =
    let one = bind_told (u64_at bytes at) (λ n. if nat_lt n least || nat_lt (2 ^ 62) n then Err (fault BadRange at) else Ok n) t h in
    let n = one.0 in
    let two = else_told (nat_lt n least || nat_lt (2 ^ 62) n) (fault BadRange at) (Ok n) t one.2 in
    let is : n ≡ t = let e = two.1 in cc in
    let range = in_range n least two.0 in
    (u64_told bytes at t fits (one.1 ∙ ap (λ k. Ok k) is), omega (arith, range.0, is), omega (arith, range.1, is))

-- What stands there

pub is_below : (n k : ℕ) → n < k → nat_lt n k ≡ true
is_below n k h = grind (arith, rules)

pub not_below : (n k : ℕ) → k ≤ n → nat_lt n k ≡ false
not_below n k h = grind (arith, rules)

pub is_within : (n k : ℕ) → n ≤ k → nat_le n k ≡ true
is_within n k h = grind (arith, rules)

pub byte_here : (front rest bytes : List ℕ) (x at : ℕ) → bytes ≡ front ++ x ∷ rest → at ≡ length front → byte_at bytes at ≡ Ok x
byte_here front rest bytes x at e d =
    let inside : length front < length (front ++ x ∷ rest) = omega (arith, length-append front (x ∷ rest)) in
    rw (e, d, is_below (length front) (length (front ++ x ∷ rest)) inside) (ap (λ y. Ok y) (get_or_at front x rest 0 (length front) refl))

cut_here : (front f rest : List ℕ) → take (length front + length f - length front) (drop (length front) (front ++ (f ++ rest))) ≡ f
cut_here front f rest =
    let n : length front + length f - length front ≡ length f = omega arith in
    rw (n, drop_at front (f ++ rest) (length front) refl) (take_at f rest (length f) refl)

pub field_here : (front f rest bytes : List ℕ) (at n : ℕ) → bytes ≡ front ++ (f ++ rest) → at ≡ length front → n ≡ length f → field_at bytes at n ≡ Ok f
field_here front f rest bytes at n e d l =
    let inside : length front + length f ≤ length (front ++ (f ++ rest)) = omega (arith, length-append front (f ++ rest), length-append f rest) in
    rw (e, d, l, is_within (length front + length f) (length (front ++ (f ++ rest))) inside) (ap (λ y. Ok y) (cut_here front f rest))

pub u16_here : (front rest bytes : List ℕ) (n at : ℕ) → bytes ≡ front ++ (to_be_bytes w16 n ++ rest) → at ≡ length front → n < 2 ^ 16 → u16_at bytes at ≡ Ok n
u16_here front rest bytes n at e d small =
    ap (λ r. r >>= λ f. Ok (from_be_bytes w16 f)) (field_here front (to_be_bytes w16 n) rest bytes at 2 e d refl)
    ∙ ap (λ k. Ok k) (from_be_bytes-to_be_bytes_2 n (omega (arith, small)))

pub u64_here : (front rest bytes : List ℕ) (n at : ℕ) → bytes ≡ front ++ (to_be_bytes w64 n ++ rest) → at ≡ length front → n < 2 ^ 64 → u64_at bytes at ≡ Ok n
u64_here front rest bytes n at e d small =
    ap (λ r. r >>= λ f. Ok (from_be_bytes w64 f)) (field_here front (to_be_bytes w64 n) rest bytes at 8 e d refl)
    ∙ ap (λ k. Ok k) (from_be_bytes-to_be_bytes_8 n (omega (arith, small)))

ranges : (t least : ℕ) → least ≤ t → t ≤ 2 ^ 62 → (nat_lt t least || nat_lt (2 ^ 62) t) ≡ false
ranges t least a b = grind (arith, rules)

pub tick_here : (front rest bytes : List ℕ) (t least at : ℕ) → bytes ≡ front ++ (to_be_bytes w64 t ++ rest) → at ≡ length front → least ≤ t → t ≤ 2 ^ 62
    → tick_at bytes at least ≡ Ok t
unfolding tick_at
tick_here front rest bytes t least at e d a b =
    rw (u64_here front rest bytes t at e d (omega (arith, b)), ranges t least a b) refl
