-- What bytes decode to is an event: reading tests its limits one by one.
use Rattle.std.proofs.Common.{suc, zero, ◌≡◌, ◌<◌, ◌≤◌, ◌+◌, ◌-◌, ◌==◌, ◌||◌, ℕ, List, [], ◌∷◌, ◌++◌, length, take, drop, true, false, Bool, nat_lt, nat_le, if◌then◌else◌, Result, Ok, Err, ap, refl, sym, subst, ◌∙◌, arith, rules, Less, Ordering, nat_cmp, length-take, length-drop}
use Rattle.std.specs.Prelude.{IsUtf8, slice_range}
use Rattle.std.specs.Int.{from_be_bytes, cast_signed, w16, w64}
use Rattle.std.specs.Str.{is_utf8}
use Rattle.std.specs.Ordering.{is_lt}
use Rattle.std.specs.List.{AllByRecursion}
use Rattle.std.specs.List.Sorted.{IsStrictlySortedBy}
use Rattle.std.specs.Cmp.Lexicographic.{slice_cmp}
use Rattle.std.proofs.lemmas.Cmp.{nat_list_cmp_total}
use Rattle.std.proofs.lemmas.Str.{IsUtf8-from_is_utf8}
use Rattle.std.proofs.lemmas.List.{take-append-drop}
use Rattle.std.proofs.Math.Facts.{sfits_to_z}
use Rattle.gr_event.specs.declared.value.Value.{Value}
use Rattle.gr_event.specs.declared.value.Value.TheVariants.{Int, Text, Bool as Truth}
use Rattle.gr_event.specs.declared.event.Event.{Event}
use Rattle.gr_event.specs.declared.event.EventFault.{EventFault}
use Rattle.gr_event.specs.declared.event.EventFault.TheVariants as fault
use Rattle.gr_event.specs.Event.{value_size}
use Rattle.gr_event.specs.Limits.{IsName, IsValue, IsPair, IsEvent, Rise, names}
use Rattle.gr_event.specs.Gives.{◌>>=◌}
use Rattle.gr_event.specs.Decode.{byte_at, field_at, text_at, risen_at, name_of_length, name_at, text_of_length, truth_of, integer_at, text_value_at, truth_at, value_of_kind, value_at, pairs_at, pairs_of_count, event_decoded}
use Rattle.gr_event.proofs.Told.{only_its_bytes}
use Rattle.gr_publog.specs.Text.{AreBytes}
use Rattle.gr_publog.proofs.Bytes.{bytes_before, bytes_from, eight_fits}
use Rattle.gr_publog.proofs.Reading.{length-event}

-- Steps of a reading that succeeded

-- each step succeeded
bind_told : {A B : Type 0} (r : Result A EventFault) (f : A → Result B EventFault) (y : B) → (r >>= f) ≡ Ok y → (x : A) × (r ≡ Ok x) × (f x ≡ Ok y)
bind_told (Ok x) f y h = (x, refl, h)
bind_told (Err e) f y h = absurd (cc)

-- a test before it failed
else_told : {A : Type 0} (b : Bool) (e : EventFault) (r : Result A EventFault) (y : A) → (if b then Err e else r) ≡ Ok y → (b ≡ false) × (r ≡ Ok y)
else_told true e r y h = absurd (cc)
else_told false e r y h = (refl, h)

-- a test before it held
then_told : {A : Type 0} (b : Bool) (e : EventFault) (r : Result A EventFault) (y : A) → (if b then r else Err e) ≡ Ok y → (b ≡ true) × (r ≡ Ok y)
then_told true e r y h = (refl, h)
then_told false e r y h = absurd (cc)

within : (n k : ℕ) → nat_le n k ≡ true → n ≤ k
within n k h = grind (arith, rules)

at_most : (n k : ℕ) → nat_lt k n ≡ false → n ≤ k
at_most n k h = grind (arith, rules)

field_told : (bytes : List ℕ) (at n : ℕ) (f : List ℕ) → AreBytes bytes → field_at bytes at n ≡ Ok f → AreBytes f × (length f ≡ n)
field_told bytes at n f fits h =
    let one = then_told (nat_le (at + n) (length bytes)) (fault.Short (length bytes)) (Ok (slice_range bytes at (at + n))) f h in
    let inside : at + n ≤ length bytes = within (at + n) (length bytes) one.0 in
    let size : at + n - at ≡ n = omega arith in
    let is : take (at + n - at) (drop at bytes) ≡ f = let e = one.1 in cc in
    let cut : take n (drop at bytes) ≡ f = rw size at is in (
      bytes_before (drop at bytes) f (drop n (drop at bytes)) (bytes_from at bytes fits) (sym (take-append-drop n (drop at bytes)) ∙ ap (λ (l : List ℕ). l ++ drop n (drop at bytes)) cut),
      ap length (sym cut) ∙ length-take n (drop at bytes) ∙ omega (arith, inside, length-drop at bytes),
    )

text_told : (at : ℕ) (t s : List ℕ) → text_at at t ≡ Ok s → IsUtf8 s × (t ≡ s)
text_told at t s h =
    let one = then_told (is_utf8 t) (fault.BadText at) (Ok t) s h in
    let is : t ≡ s = let e = one.1 in cc in
    (subst IsUtf8 is (IsUtf8-from_is_utf8 t one.0), is)

is_less : (o : Ordering) → is_lt o ≡ true → o ≡ Less
is_less Less h = refl
is_less _ h = absurd (cc)

risen_told : (at : ℕ) (before n m : List ℕ) → risen_at at before n ≡ Ok m → (n ≡ m) × (slice_cmp nat_cmp before m ≡ Less)
risen_told at before n m h =
    let one = then_told (is_lt (slice_cmp nat_cmp before n)) (fault.NotSorted at) (Ok n) m h in
    let is : n ≡ m = let e = one.1 in cc in
    (is, subst (λ l. slice_cmp nat_cmp before l ≡ Less) is (is_less (slice_cmp nat_cmp before n) one.0))

-- Names and values

some_few : (n : ℕ) → (n == 0 || nat_lt 64 n) ≡ false → (0 < n) × (n ≤ 64)
some_few n h = (grind (arith, rules), grind (arith, rules))

name_limits : (bytes before name : List ℕ) (at : ℕ) → AreBytes bytes → name_at bytes at before ≡ Ok name → IsName name × (slice_cmp nat_cmp before name ≡ Less)
unfolding name_at name_of_length
name_limits bytes before name at fits h =
    let one = bind_told (byte_at bytes at) (name_of_length bytes at before) name h in
    let n = one.0 in
    let two = else_told (n == 0 || nat_lt 64 n) (fault.BadLength at) (field_at bytes (at + 1) n >>= text_at (at + 1) >>= risen_at (at + 1) before) name one.2 in
    let three = bind_told (field_at bytes (at + 1) n >>= text_at (at + 1)) (risen_at (at + 1) before) name two.1 in
    let four = bind_told (field_at bytes (at + 1) n) (text_at (at + 1)) three.0 three.1 in
    let text = text_told (at + 1) four.0 three.0 four.2 in
    let risen = risen_told (at + 1) before three.0 name three.2 in
    let size : length name ≡ n = ap length (sym (text.1 ∙ risen.0)) ∙ (field_told bytes (at + 1) n four.0 fits four.1).1 in
    let few = some_few n two.0 in
    ((omega (arith, few.0, size), omega (arith, few.1, size), subst IsUtf8 risen.0 text.0), risen.1)

integer_limits : (bytes : List ℕ) (at : ℕ) (v : Value) → AreBytes bytes → integer_at bytes at ≡ Ok v → IsValue v
unfolding integer_at
integer_limits bytes at v fits h =
    let one = bind_told (field_at bytes at 8) (λ f. Ok (Int (cast_signed w64 (from_be_bytes w64 f)))) v h in
    let n = from_be_bytes w64 one.0 in
    let is : Int (cast_signed w64 n) ≡ v = let e = one.2 in cc in
    subst IsValue is (sfits_to_z {w = w64} {n = n} (record { fits = eight_fits one.0 (field_told bytes at 8 one.0 fits one.1).0 }))

text_limits : (bytes : List ℕ) (at : ℕ) (v : Value) → AreBytes bytes → text_value_at bytes at ≡ Ok v → IsValue v
unfolding text_value_at text_of_length
text_limits bytes at v fits h =
    let one = bind_told (field_at bytes at 2) (λ f. text_of_length bytes at (from_be_bytes w16 f)) v h in
    let n = from_be_bytes w16 one.0 in
    let two = else_told (nat_lt 1024 n) (fault.BadLength at) (field_at bytes (at + 2) n >>= text_at (at + 2) >>= λ t. Ok (Text t)) v one.2 in
    let three = bind_told (field_at bytes (at + 2) n >>= text_at (at + 2)) (λ t. Ok (Text t)) v two.1 in
    let four = bind_told (field_at bytes (at + 2) n) (text_at (at + 2)) three.0 three.1 in
    let text = text_told (at + 2) four.0 three.0 four.2 in
    let is : Text three.0 ≡ v = let e = three.2 in cc in
    let size : length three.0 ≡ n = ap length (sym text.1) ∙ (field_told bytes (at + 2) n four.0 fits four.1).1 in
    subst IsValue is (omega (arith, at_most n 1024 two.0, size), text.0)

truth_limits : (at b : ℕ) (v : Value) → truth_of at b ≡ Ok v → IsValue v
truth_limits at b v h = go (b == 0) (b == 1) h
  where
    go : (x y : Bool) → (if x then Ok (Truth false) else (if y then Ok (Truth true) else Err (fault.BadKind at))) ≡ Ok v → IsValue v
    go true y e = subst IsValue (let is : Truth false ≡ v = cc in is) tt
    go false true e = subst IsValue (let is : Truth true ≡ v = cc in is) tt
    go false false e = absurd (cc)

value_limits : (bytes : List ℕ) (at : ℕ) (v : Value) → AreBytes bytes → value_at bytes at ≡ Ok v → IsValue v
unfolding value_at value_of_kind truth_at
value_limits bytes at v fits h =
    let one = bind_told (byte_at bytes at) (value_of_kind bytes at) v h in
    go (one.0 == 1) (one.0 == 2) (one.0 == 3) one.2
  where
    go : (x y z : Bool) → (if x then integer_at bytes (at + 1) else (if y then text_value_at bytes (at + 1) else (if z then truth_at bytes (at + 1) else Err (fault.BadKind at)))) ≡ Ok v → IsValue v
    go true y z e = integer_limits bytes (at + 1) v fits e
    go false true z e = text_limits bytes (at + 1) v fits e
    go false false true e = let two = bind_told (byte_at bytes (at + 1)) (truth_of (at + 1)) v e in truth_limits (at + 1) two.0 v two.2
    go false false false e = absurd (cc)

-- Pairs

-- what is above a name that is above another is above that
above_more : (a b : List ℕ) (ns : List (List ℕ)) → slice_cmp nat_cmp a b ≡ Less → AllByRecursion (λ y. slice_cmp nat_cmp b y ≡ Less) ns → AllByRecursion (λ y. slice_cmp nat_cmp a y ≡ Less) ns
above_more a b [] h k = tt
above_more a b (n ∷ ns) h k = (nat_list_cmp_total.trans a b n h k.0, above_more a b ns h k.1)

-- What holds of pairs that were read behind a name.
record AreRead (before : List ℕ) (n : ℕ) (ps : Event) : Type 0 where
  each : AllByRecursion IsPair ps
  rise : Rise (names ps)
  above : AllByRecursion (λ y. slice_cmp nat_cmp before y ≡ Less) (names ps)
  many : length ps ≡ n

pairs_limits : (bytes : List ℕ) (n at : ℕ) (before : List ℕ) (ps : Event) → AreBytes bytes → pairs_at bytes n at before ≡ Ok ps → AreRead before n ps
unfolding pairs_at IsStrictlySortedBy
pairs_limits bytes zero at before ps fits h =
    let one = then_told (at == length bytes) (fault.Trailing at) (Ok []) ps h in
    let is : [] ≡ ps = let e = one.1 in cc in
    subst (AreRead before zero) is (record { each = tt; rise = tt; above = tt; many = refl })
pairs_limits bytes (suc n) at before ps fits h =
    let one = bind_told (name_at bytes at before) _ ps h in
    let name = one.0 in
    let two = bind_told (value_at bytes (at + 1 + length name)) _ ps one.2 in
    let v = two.0 in
    let next = at + 2 + length name + value_size v in
    let three = bind_told (pairs_at bytes n next name) (λ rest. Ok ((name, v) ∷ rest)) ps two.2 in
    let is : (name, v) ∷ three.0 ≡ ps = let e = three.2 in cc in
    let name_is = name_limits bytes before name at fits one.1 in
    let value_is = value_limits bytes (at + 1 + length name) v fits two.1 in
    let rest_is : AreRead name n three.0 = pairs_limits bytes n next name three.0 fits three.1 in
    subst (AreRead before (suc n)) is (record {
      each = ((name_is.0, value_is), rest_is.each);
      rise = (rest_is.above, rest_is.rise);
      above = (name_is.1, above_more before name (names three.0) name_is.1 rest_is.above);
      many = ap suc rest_is.many;
    })

-- what bytes decode to is an event
pub event_limits : (bytes : List ℕ) (e : Event) → AreBytes bytes → event_decoded bytes ≡ Ok e → IsEvent e
unfolding event_decoded
event_limits bytes e fits h =
    let spelled = only_its_bytes bytes e fits h in
    let one = else_told (nat_lt 8192 (length bytes)) fault.TooLong (byte_at bytes 0 >>= pairs_of_count bytes) e h in
    let two = bind_told (byte_at bytes 0) (pairs_of_count bytes) e one.1 in
    let n = two.0 in
    let three = else_told (nat_lt 32 n) (fault.BadLength 0) (pairs_at bytes n 1 []) e two.2 in
    let read : AreRead [] n e = pairs_limits bytes n 1 [] e fits three.1 in
    record {
      pairs = record { rise = read.rise; few = omega (arith, at_most n 32 three.0, read.many); each = read.each };
      short = omega (arith, at_most (length bytes) 8192 one.0, ap length spelled, length-event e);
    }
