-- Bytes that decode to an event are its bytes
use Rattle.std.proofs.Common.{suc, zero, ◌≡◌, ◌<◌, ◌≤◌, ◌+◌, ◌-◌, ◌^◌, ◌==◌, ◌||◌, ◌⊎◌, inl, inr, ℕ, List, [], ◌∷◌, ◌++◌, length, take, drop, get_or, true, false, Bool, nat_lt, nat_le, if◌then◌else◌, Result, Ok, Err, ap, refl, sym, subst, ◌∙◌, arith, rules, append_assoc, eqb-true, lit<}
use Rattle.std.specs.Prelude.{slice_range, slice_index}
use Rattle.std.specs.Int.{to_be_bytes, from_be_bytes, cast_signed, cast_unsigned, w16, w64}
use Rattle.std.specs.Str.{is_utf8}
use Rattle.std.specs.Ordering.{is_lt, nat_cmp}
use Rattle.std.specs.Cmp.Lexicographic.{slice_cmp}
use Rattle.std.proofs.lemmas.Bool.{cases_lt}
use Rattle.std.proofs.lemmas.Int.{of_z-to_z}
use Rattle.std.proofs.lemmas.List.{take-append-drop, drop-drop, drop_more, drop_all, get_or-drop, get_or_append_left, get_or_past, length-take, length-drop}
use Rattle.std.proofs.lemmas.Nat.{be_bytes_2, be_bytes_8}
use Rattle.gr_event.specs.declared.value.Value.{Value}
use Rattle.gr_event.specs.declared.value.Value.TheVariants.{Int, Text, Bool as Truth}
use Rattle.gr_event.specs.declared.event.Event.{Event}
use Rattle.gr_event.specs.declared.event.EventFault.{EventFault}
use Rattle.gr_event.specs.declared.event.EventFault.TheVariants as fault
use Rattle.gr_event.specs.Event.{event_bytes, pairs_bytes, value_bytes, value_size}
use Rattle.gr_event.specs.Gives.{◌>>=◌}
use Rattle.gr_event.specs.Decode.{byte_at, field_at, text_at, risen_at, name_of_length, name_at, text_of_length, truth_of, integer_at, text_value_at, truth_at, value_of_kind, value_at, pairs_at, pairs_of_count, event_decoded}

-- each step of a reading that succeeded succeeded
bind_told : {A B : Type 0} (r : Result A EventFault) (f : A → Result B EventFault) (y : B) → (r >>= f) ≡ Ok y → (x : A) × (r ≡ Ok x) × (f x ≡ Ok y)
bind_told (Ok x) f y h = (x, refl, h)
bind_told (Err e) f y h = absurd (cc)

-- a test before a reading that succeeded failed
else_told : {A : Type 0} (b : Bool) (e : EventFault) (r : Result A EventFault) (y : A) → (if b then Err e else r) ≡ Ok y → (b ≡ false) × (r ≡ Ok y)
else_told true e r y h = absurd (cc)
else_told false e r y h = (refl, h)

-- one of two readings succeeded
either_told : {A : Type 0} (b : Bool) (r s : Result A EventFault) (y : A) → (if b then r else s) ≡ Ok y → ((b ≡ true) × (r ≡ Ok y)) ⊎ ((b ≡ false) × (s ≡ Ok y))
either_told true r s y h = inl (refl, h)
either_told false r s y h = inr (refl, h)

below : (n k : ℕ) → nat_lt n k ≡ true → n < k
below n k h = grind (arith, rules)

within : (n k : ℕ) → nat_le n k ≡ true → n ≤ k
within n k h = grind (arith, rules)

byte_told : (bytes : List ℕ) (at x : ℕ) → byte_at bytes at ≡ Ok x → drop at bytes ≡ x ∷ drop (at + 1) bytes
byte_told bytes at x h =
    elim (either_told (nat_lt at (length bytes)) (Ok (slice_index bytes at)) (Err (fault.Short (length bytes))) x h) [
      | inl k ↦ drop_more bytes at 0 (below at (length bytes) k.0) ∙ ap (λ y. y ∷ drop (at + 1) bytes) (let e : get_or bytes at 0 ≡ x = cc in e)
      | inr k ↦ absurd (let f = k.1 in cc)
    ]

field_told : (bytes : List ℕ) (at n : ℕ) (f : List ℕ) → field_at bytes at n ≡ Ok f → (drop at bytes ≡ f ++ drop (at + n) bytes) × (length f ≡ n)
field_told bytes at n f h =
    elim (either_told (nat_le (at + n) (length bytes)) (Ok (slice_range bytes at (at + n))) (Err (fault.Short (length bytes))) f h) [
      | inl k ↦ let inside = within (at + n) (length bytes) k.0 in
          let size : at + n - at ≡ n = omega arith in
          let is : take (at + n - at) (drop at bytes) ≡ f = let e = k.1 in cc in
          let cut : take n (drop at bytes) ≡ f = rw size at is in (
            sym (take-append-drop n (drop at bytes)) ∙ ap (λ l. l ++ drop n (drop at bytes)) cut ∙ ap (λ l. f ++ l) (drop-drop n at bytes),
            ap length (sym cut) ∙ length-take n (drop at bytes) ∙ omega (arith, length-drop at bytes),
          )
      | inr k ↦ absurd (let e = k.1 in cc)
    ]

text_told : (at : ℕ) (t s : List ℕ) → text_at at t ≡ Ok s → t ≡ s
text_told at t s h =
    elim (either_told (is_utf8 t) (Ok t) (Err (fault.BadText at)) s h) [
      | inl k ↦ (let e = k.1 in cc)
      | inr k ↦ absurd (let e = k.1 in cc)
    ]

risen_told : (at : ℕ) (before n m : List ℕ) → risen_at at before n ≡ Ok m → n ≡ m
risen_told at before n m h =
    elim (either_told (is_lt (slice_cmp nat_cmp before n)) (Ok n) (Err (fault.NotSorted at)) m h) [
      | inl k ↦ (let e = k.1 in cc)
      | inr k ↦ absurd (let e = k.1 in cc)
    ]

name_told : (bytes before name : List ℕ) (at : ℕ) → name_at bytes at before ≡ Ok name → drop at bytes ≡ (length name ∷ name) ++ drop (at + 1 + length name) bytes
unfolding name_at name_of_length
name_told bytes before name at h =
    let one = bind_told (byte_at bytes at) (name_of_length bytes at before) name h in
    let n = one.0 in
    let two = else_told (n == 0 || nat_lt 64 n) (fault.BadLength at) (field_at bytes (at + 1) n >>= text_at (at + 1) >>= risen_at (at + 1) before) name one.2 in
    let three = bind_told (field_at bytes (at + 1) n >>= text_at (at + 1)) (risen_at (at + 1) before) name two.1 in
    let four = bind_told (field_at bytes (at + 1) n) (text_at (at + 1)) three.0 three.1 in
    let field = field_told bytes (at + 1) n four.0 four.1 in
    let same : four.0 ≡ name = text_told (at + 1) four.0 three.0 four.2 ∙ risen_told (at + 1) before three.0 name three.2 in
    let size : n ≡ length name = sym field.1 ∙ ap length same in
    byte_told bytes at n one.1
    ∙ ap (λ l. n ∷ l) field.0
    ∙ ap (λ l. n ∷ (l ++ drop (at + 1 + n) bytes)) same
    ∙ ap (λ k. (k ∷ name) ++ drop (at + 1 + k) bytes) size

-- each byte of a field is a byte
field_fits : (bytes f rest : List ℕ) (at : ℕ) → ((i : ℕ) → get_or bytes i 0 < 256) → drop at bytes ≡ f ++ rest → (i : ℕ) → get_or f i 0 < 256
field_fits bytes f rest at fits e i =
    elim (cases_lt i (length f)) [
      | inl k ↦ let here : get_or f i 0 ≡ get_or bytes (at + i) 0 = sym (get_or_append_left f rest 0 i k) ∙ ap (λ l. get_or l i 0) (sym e) ∙ get_or-drop at bytes i 0 in
          rw here (fits (at + i))
      | inr k ↦ rw (get_or_past f i 0 k) (lit< tt)
    ]

number_fits : (f : List ℕ) → ((i : ℕ) → get_or f i 0 < 256) → from_be_bytes w64 f < 2 ^ 64
number_fits f h = omega (arith, h 0, h 1, h 2, h 3, h 4, h 5, h 6, h 7)

integer_told : (bytes : List ℕ) (at : ℕ) (v : Value) → ((i : ℕ) → get_or bytes i 0 < 256) → integer_at bytes at ≡ Ok v
    → drop at bytes ≡ drop 1 (value_bytes v) ++ drop (at + value_size v) bytes × (value_bytes v ≡ 1 ∷ drop 1 (value_bytes v))
unfolding integer_at
integer_told bytes at v fits h =
    let one = bind_told (field_at bytes at 8) (λ f. Ok (Int (cast_signed w64 (from_be_bytes w64 f)))) v h in
    let f = one.0 in
    let field = field_told bytes at 8 f one.1 in
    let each = field_fits bytes f (drop (at + 8) bytes) at fits field.0 in
    let n = from_be_bytes w64 f in
    let is : Int (cast_signed w64 n) ≡ v = let e = one.2 in cc in
    let spelled : to_be_bytes w64 (cast_unsigned w64 (cast_signed w64 n)) ≡ f =
    ap (to_be_bytes w64) (of_z-to_z w64 n (number_fits f each)) ∙ be_bytes_8 f n field.1 each refl in
    subst (λ (w : Value). drop at bytes ≡ drop 1 (value_bytes w) ++ drop (at + value_size w) bytes × (value_bytes w ≡ 1 ∷ drop 1 (value_bytes w))) is
    (field.0 ∙ ap (λ l. l ++ drop (at + 8) bytes) (sym spelled), refl)

text_value_told : (bytes : List ℕ) (at : ℕ) (v : Value) → ((i : ℕ) → get_or bytes i 0 < 256) → text_value_at bytes at ≡ Ok v
    → drop at bytes ≡ drop 1 (value_bytes v) ++ drop (at + value_size v) bytes × (value_bytes v ≡ 2 ∷ drop 1 (value_bytes v))
unfolding text_value_at text_of_length
text_value_told bytes at v fits h =
    let one = bind_told (field_at bytes at 2) (λ f. text_of_length bytes at (from_be_bytes w16 f)) v h in
    let f = one.0 in
    let n = from_be_bytes w16 f in
    let len = field_told bytes at 2 f one.1 in
    let each = field_fits bytes f (drop (at + 2) bytes) at fits len.0 in
    let two = else_told (nat_lt 1024 n) (fault.BadLength at) (field_at bytes (at + 2) n >>= text_at (at + 2) >>= λ t. Ok (Text t)) v one.2 in
    let three = bind_told (field_at bytes (at + 2) n >>= text_at (at + 2)) (λ t. Ok (Text t)) v two.1 in
    let four = bind_told (field_at bytes (at + 2) n) (text_at (at + 2)) three.0 three.1 in
    let t = four.0 in
    let field = field_told bytes (at + 2) n t four.1 in
    let is : Text t ≡ v = let e = three.2 in let same = text_told (at + 2) t three.0 four.2 in cc in
    let spelled : to_be_bytes w16 (length t) ≡ f = be_bytes_2 f (length t) len.1 each field.1 in
    let place : at + 2 + n ≡ at + (2 + length t) = omega (arith, field.1) in
    subst (λ (w : Value). drop at bytes ≡ drop 1 (value_bytes w) ++ drop (at + value_size w) bytes × (value_bytes w ≡ 2 ∷ drop 1 (value_bytes w))) is (
      len.0 ∙ ap (λ l. f ++ l) field.0 ∙ sym (append_assoc f t (drop (at + 2 + n) bytes))
          ∙ ap (λ l. (l ++ t) ++ drop (at + 2 + n) bytes) (sym spelled)
          ∙ ap (λ k. (to_be_bytes w16 (length t) ++ t) ++ drop k bytes) place,
      refl,
    )

truth_told : (bytes : List ℕ) (at : ℕ) (v : Value) → truth_at bytes at ≡ Ok v
    → drop at bytes ≡ drop 1 (value_bytes v) ++ drop (at + value_size v) bytes × (value_bytes v ≡ 3 ∷ drop 1 (value_bytes v))
unfolding truth_at
truth_told bytes at v h =
    let one = bind_told (byte_at bytes at) (truth_of at) v h in
    let b = one.0 in
    let byte = byte_told bytes at b one.1 in
    let P = λ (w : Value). drop at bytes ≡ drop 1 (value_bytes w) ++ drop (at + value_size w) bytes × (value_bytes w ≡ 3 ∷ drop 1 (value_bytes w)) in
    elim (either_told (b == 0) (Ok (Truth false)) (if b == 1 then Ok (Truth true) else Err (fault.BadKind at)) v one.2) [
      | inl k ↦ subst P (let is : Truth false ≡ v = let e = k.1 in cc in is) (byte ∙ ap (λ x. x ∷ drop (at + 1) bytes) (eqb-true b 0 k.0), refl)
      | inr k ↦ elim (either_told (b == 1) (Ok (Truth true)) (Err (fault.BadKind at)) v k.1) [
        | inl j ↦ subst P (let is : Truth true ≡ v = let e = j.1 in cc in is) (byte ∙ ap (λ x. x ∷ drop (at + 1) bytes) (eqb-true b 1 j.0), refl)
        | inr j ↦ absurd (let e = j.1 in cc)
      ]
    ]

behind_kind : (bytes : List ℕ) (at kind : ℕ) (v : Value) → drop at bytes ≡ kind ∷ drop (at + 1) bytes
    → drop (at + 1) bytes ≡ drop 1 (value_bytes v) ++ drop (at + 1 + value_size v) bytes × (value_bytes v ≡ kind ∷ drop 1 (value_bytes v))
    → drop at bytes ≡ value_bytes v ++ drop (at + 1 + value_size v) bytes
behind_kind bytes at kind v e h =
    e ∙ ap (λ l. kind ∷ l) h.0 ∙ ap (λ l. l ++ drop (at + 1 + value_size v) bytes) (sym h.1)

value_told : (bytes : List ℕ) (at : ℕ) (v : Value) → ((i : ℕ) → get_or bytes i 0 < 256) → value_at bytes at ≡ Ok v
    → drop at bytes ≡ value_bytes v ++ drop (at + 1 + value_size v) bytes
unfolding value_at value_of_kind
value_told bytes at v fits h =
    let one = bind_told (byte_at bytes at) (value_of_kind bytes at) v h in
    let kind = one.0 in
    let byte = byte_told bytes at kind one.1 in
    let third = if kind == 3 then truth_at bytes (at + 1) else Err (fault.BadKind at) in
    let second = if kind == 2 then text_value_at bytes (at + 1) else third in
    elim (either_told (kind == 1) (integer_at bytes (at + 1)) second v one.2) [
      | inl k ↦ behind_kind bytes at 1 v (byte ∙ ap (λ x. x ∷ drop (at + 1) bytes) (eqb-true kind 1 k.0)) (integer_told bytes (at + 1) v fits k.1)
      | inr k ↦ elim (either_told (kind == 2) (text_value_at bytes (at + 1)) third v k.1) [
        | inl j ↦ behind_kind bytes at 2 v (byte ∙ ap (λ x. x ∷ drop (at + 1) bytes) (eqb-true kind 2 j.0)) (text_value_told bytes (at + 1) v fits j.1)
        | inr j ↦ elim (either_told (kind == 3) (truth_at bytes (at + 1)) (Err (fault.BadKind at)) v j.1) [
          | inl i ↦ behind_kind bytes at 3 v (byte ∙ ap (λ x. x ∷ drop (at + 1) bytes) (eqb-true kind 3 i.0)) (truth_told bytes (at + 1) v i.1)
          | inr i ↦ absurd (let e = i.1 in cc)
        ]
      ]
    ]

end_told : (bytes before : List ℕ) (at : ℕ) (ps : Event) → pairs_at bytes zero at before ≡ Ok ps → (at ≡ length bytes) × (ps ≡ [])
unfolding pairs_at
end_told bytes before at ps h =
    elim (either_told (at == length bytes) (Ok []) (Err (fault.Trailing at)) ps h) [
      | inl k ↦ (eqb-true at (length bytes) k.0, let e = k.1 in cc)
      | inr k ↦ absurd (let e = k.1 in cc)
    ]

pairs_told : (bytes : List ℕ) (n at : ℕ) (before : List ℕ) (ps : Event) → ((i : ℕ) → get_or bytes i 0 < 256) → pairs_at bytes n at before ≡ Ok ps
    → (drop at bytes ≡ pairs_bytes ps) × (n ≡ length ps)
unfolding pairs_at
pairs_told bytes zero at before ps fits h =
    let e = end_told bytes before at ps h in
    rw e.1 (drop_all at bytes (omega (arith, e.0)), refl)
pairs_told bytes (suc n) at before ps fits h =
    let one = bind_told (name_at bytes at before) _ ps h in
    let name = one.0 in
    let two = bind_told (value_at bytes (at + 1 + length name)) _ ps one.2 in
    let v = two.0 in
    let next = at + 2 + length name + value_size v in
    let three = bind_told (pairs_at bytes n next name) (λ rest. Ok ((name, v) ∷ rest)) ps two.2 in
    let rest = three.0 in
    let is : (name, v) ∷ rest ≡ ps = let e = three.2 in cc in
    let name_is = name_told bytes before name at one.1 in
    let value_is = value_told bytes (at + 1 + length name) v fits two.1 in
    let rest_is = pairs_told bytes n next name rest fits three.1 in
    let place : at + 1 + length name + 1 + value_size v ≡ next = omega arith in
    let head = length name ∷ name in
    subst (λ (l : Event). (drop at bytes ≡ pairs_bytes l) × (suc n ≡ length l)) is (
      name_is ∙ ap (λ l. head ++ l) (value_is ∙ ap (λ k. value_bytes v ++ drop k bytes) place ∙ ap (λ l. value_bytes v ++ l) rest_is.0)
          ∙ sym (append_assoc head (value_bytes v) (pairs_bytes rest)),
      ap suc rest_is.1,
    )

-- the bytes of what decodes are its bytes
pub only_its_bytes : (bytes : List ℕ) (e : Event) → ((i : ℕ) → get_or bytes i 0 < 256) → event_decoded bytes ≡ Ok e → bytes ≡ event_bytes e
unfolding event_decoded
only_its_bytes bytes e fits h =
    let one = else_told (nat_lt 8192 (length bytes)) fault.TooLong (byte_at bytes 0 >>= pairs_of_count bytes) e h in
    let two = bind_told (byte_at bytes 0) (pairs_of_count bytes) e one.1 in
    let n = two.0 in
    let three = else_told (nat_lt 32 n) (fault.BadLength 0) (pairs_at bytes n 1 []) e two.2 in
    let pairs = pairs_told bytes n 1 [] e fits three.1 in
    byte_told bytes 0 n two.1 ∙ ap (λ l. n ∷ l) pairs.0 ∙ ap (λ k. k ∷ pairs_bytes e) pairs.1
