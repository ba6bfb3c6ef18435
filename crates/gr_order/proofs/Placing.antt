-- The order of items is strict, and a list that rises stays so: with one more at its place, and cut at a tick.
use Rattle.std.proofs.Common.{◌≡◌, ℕ, ◌<◌, Bool, true, false, cond, nat_le, nat_lt, List, [], ◌∷◌, ◌++◌, ap, sym, subst, refl, arith}
use Rattle.std.specs.List.{AllByRecursion}
use Rattle.std.proofs.lemmas.Bool.Decides.{nat_tests}
use Rattle.gr_order.specs.declared.item.Item.{Item}
use Rattle.gr_order.specs.Order.{is_before, IsRising, placed, up_to, past}

-- what is before the second is before the third
pub before_trans : (a b c : Item) → is_before a b ≡ true → is_before b c ≡ true → is_before a c ≡ true
before_trans a b c h k = grind (arith, nat_tests)

-- of two items of different publishers or ticks one is before the other
before_other : (a b : Item) → (b.publisher ≡ a.publisher → b.tick < a.tick) → is_before a b ≡ false → is_before b a ≡ true
before_other a b h k = grind (arith, nat_tests)

-- a fact holds of each item
abbrev pub Each : (Item → Type 0) → List Item → Type 0
Each P items = AllByRecursion P items

-- so does what follows from it
pub each_weaker : (P Q : Item → Type 0) → ((i : Item) → P i → Q i) → (items : List Item) → Each P items → Each Q items
each_weaker P Q f [] h = tt
each_weaker P Q f (i ∷ rest) h = (f i h.0, each_weaker P Q f rest h.1)

-- and it holds with one more at its place
pub each_placed : (P : Item → Type 0) (item : Item) (items : List Item) → P item → Each P items → Each P (placed item items)
each_placed P item [] p h = (p, tt)
each_placed P item (i ∷ rest) p h = elim (is_before item i) as (λ b. Each P (cond b (item ∷ i ∷ rest) (i ∷ placed item rest))) [
  | true ↦ (p, h)
  | false ↦ (h.0, each_placed P item rest p h.1)
]

-- all in one list and all in the other
pub each_append : (P : Item → Type 0) (xs ys : List Item) → Each P xs → Each P ys → Each P (xs ++ ys)
each_append P [] ys h k = k
each_append P (x ∷ xs) ys h k = (h.0, each_append P xs ys h.1 k)

-- one more item at its place: no other is of its publisher and its tick
pub rising_placed : (item : Item) (items : List Item) → Each (λ i. i.publisher ≡ item.publisher → i.tick < item.tick) items → IsRising items → IsRising (placed item items)
rising_placed item [] apart r = (tt, tt)
rising_placed item (i ∷ rest) apart r = elim (is_before item i) as (λ b. is_before item i ≡ b → IsRising (cond b (item ∷ i ∷ rest) (i ∷ placed item rest))) [
  | true ↦ λ e. ((e, each_weaker _ _ (λ j. before_trans item i j e) rest r.0), r)
  | false ↦ λ e. (each_placed (λ j. is_before i j ≡ true) item rest (before_other item i apart.0 e) r.0, rising_placed item rest apart.1 r.1)
] refl

-- an item that is behind all of a list goes to the list behind it
pub placed_behind : (item : Item) (xs ys : List Item) → Each (λ i. is_before item i ≡ false) xs → placed item (xs ++ ys) ≡ xs ++ placed item ys
placed_behind item [] ys h = refl
placed_behind item (x ∷ xs) ys h = rw h.0 (ap (λ zs. x ∷ zs) (placed_behind item xs ys h.1))

-- the front of a rising list rises
pub rising_front : (xs ys : List Item) → IsRising (xs ++ ys) → IsRising xs
rising_front [] ys r = tt
rising_front (x ∷ xs) ys r = (each_front (λ j. is_before x j ≡ true) xs ys r.0, rising_front xs ys r.1)
  where
    each_front : (P : Item → Type 0) (xs ys : List Item) → Each P (xs ++ ys) → Each P xs
    each_front P [] ys h = tt
    each_front P (x ∷ xs) ys h = (h.0, each_front P xs ys h.1)

-- where all are past a tick, none is up to it
pub none_up_to : (tick : ℕ) (items : List Item) → Each (λ i. tick < i.tick) items → up_to tick items ≡ []
none_up_to tick [] h = refl
none_up_to tick (i ∷ rest) h = rw late (none_up_to tick rest h.1)
  where
    late : nat_le i.tick tick ≡ false
    late = grind (arith, nat_tests, h.0)

-- and all are past it
all_past : (tick : ℕ) (items : List Item) → Each (λ i. tick < i.tick) items → past tick items ≡ items
all_past tick [] h = refl
all_past tick (i ∷ rest) h = rw late (ap (λ zs. i ∷ zs) (all_past tick rest h.1))
  where
    late : nat_lt tick i.tick ≡ true
    late = grind (arith, nat_tests, h.0)

-- behind an item past a tick all are past it
pub later_still : (tick : ℕ) (i j : Item) → nat_le i.tick tick ≡ false → is_before i j ≡ true → tick < j.tick
later_still tick i j e h = grind (arith, nat_tests)

-- the items up to a tick and then those past it are all
pub cut_at : (tick : ℕ) (items : List Item) → IsRising items → up_to tick items ++ past tick items ≡ items
cut_at tick [] r = refl
cut_at tick (i ∷ rest) r = by (nat_le i.tick tick) refl (cut_at tick rest r.1)
  where
    by : (t : Bool) → nat_le i.tick tick ≡ t → up_to tick rest ++ past tick rest ≡ rest → up_to tick (i ∷ rest) ++ past tick (i ∷ rest) ≡ i ∷ rest
    by true e more =
        let early : nat_lt tick i.tick ≡ false = grind (arith, nat_tests) in
        rw (e, early) (ap (λ zs. i ∷ zs) more)
    by false e more =
        let late : nat_lt tick i.tick ≡ true = grind (arith, nat_tests) in
        let all = each_weaker (λ j. is_before i j ≡ true) (λ j. tick < j.tick) (λ j h. later_still tick i j e h) rest r.0 in
        rw (e, late, none_up_to tick rest all) (ap (λ zs. i ∷ zs) (all_past tick rest all))

-- the items up to a tick rise
pub rising_up_to : (tick : ℕ) (items : List Item) → IsRising items → IsRising (up_to tick items)
rising_up_to tick items r = rising_front (up_to tick items) (past tick items) (subst (λ (is : List Item). IsRising is) (sym (cut_at tick items r)) r)
