-- The map keeps the waiting items in their order: its entries, read as items, rise, and an entry is put in at its item's place.
use Rattle.std.proofs.Common.{◌≡◌, ◌↔◌, ℕ, ◌+◌, ◌<◌, true, false, cond, nat_le, List, [], ◌∷◌, ◌++◌, map, length, drop, Option, Some, None, IfSome, IfNone, IsSome, ap, sym, ◌∙◌, subst, refl, arith}
use Rattle.std.specs.List.{AllByRecursion}
use Rattle.std.specs.List.Sorted.{IsStrictlySortedBy}
use Rattle.std.specs.declared.cmp.Ordering.{Ordering}
use Rattle.std.specs.declared.cmp.Ordering.TheVariants.{Less, Equal, Greater}
use Rattle.std.specs.Ordering.{nat_cmp, ordering_then, match_ordering}
use Rattle.std.specs.Map.{keys_of}
use Rattle.std.specs.BTreeMap.{insert_entry}
use Rattle.std.proofs.lemmas.Bool.{false≢true}
use Rattle.std.proofs.lemmas.Bool.Decides.{nat_tests}
use Rattle.std.proofs.lemmas.Map.Keys.{sorted_head, sorted_tail}
use Rattle.std.proofs.lemmas.List.{append-nil, drop-drop, drop-map}
use Rattle.std.proofs.Math.Seq.{drop-append_seam}
use Rattle.gr_event.specs.declared.event.Event.{Event}
use Rattle.gr_order.specs.declared.item.Item.{Item}
use Rattle.gr_order.specs.Order.{is_before, IsRising, placed, up_to, past}
use Rattle.gr_order.specs.Merge.{MergeView, item_of, least_of, MayTake, with_item, without_ready}
use Rattle.gr_order.proofs.Placing.{Each, each_weaker, later_still, none_up_to, cut_at}

-- where an item stands: its tick and its publisher
abbrev pub Place : Type 0
Place = ℕ × ℕ

-- a place and the event at it
abbrev pub Entry : Type 0
Entry = Place × Event

-- how the map compares two places
abbrev pub place_cmp : Place → Place → Ordering
place_cmp x y = ordering_then (nat_cmp x.0 y.0) (nat_cmp x.1 y.1)

-- What the map's order says of two items

less_is : (a b : Entry) → place_cmp a.0 b.0 ≡ Less → is_before (item_of a) (item_of b) ≡ true
less_is a b h = grind (arith, nat_tests)

equal_is : (a b : Entry) → place_cmp a.0 b.0 ≡ Equal → (b.0.1 ≡ a.0.1) × (b.0.0 ≡ a.0.0)
equal_is a b h = (grind (arith, nat_tests), grind (arith, nat_tests))

greater_is : (a b : Entry) → place_cmp a.0 b.0 ≡ Greater → is_before (item_of a) (item_of b) ≡ false
greater_is a b h = grind (arith, nat_tests)

-- the entries of a map, read as items, rise
pub keys_rise : (es : List Entry) → IsStrictlySortedBy place_cmp (keys_of es) → IsRising (map item_of es)
keys_rise [] h = tt
keys_rise (e ∷ es) h = (behind es (sorted_head place_cmp e.0 (keys_of es) h), keys_rise es (sorted_tail place_cmp e.0 (keys_of es) h))
  where
    behind : (fs : List Entry) → AllByRecursion (λ k. place_cmp e.0 k ≡ Less) (keys_of fs) → Each (λ i. is_before (item_of e) i ≡ true) (map item_of fs)
    behind [] h = tt
    behind (f ∷ fs) h = (less_is e f h.0, behind fs h.1)

-- an entry goes to its item's place, where no other is of its publisher and its tick
put_in : (new : Entry) (es : List Entry) → Each (λ i. i.publisher ≡ new.0.1 → i.tick < new.0.0) (map item_of es) → map item_of (insert_entry place_cmp es new.0 new.1) ≡ placed (item_of new) (map item_of es)
put_in new [] apart = refl
put_in new (e ∷ es) apart = elim (place_cmp new.0 e.0) as (λ o. place_cmp new.0 e.0 ≡ o → map item_of (match_ordering o (new ∷ e ∷ es) ((e.0, new.1) ∷ es) (e ∷ insert_entry place_cmp es new.0 new.1)) ≡ placed (item_of new) (map item_of (e ∷ es))) [
  | Less ↦ λ o. rw (less_is new e o)
  | Equal ↦ λ o. let same = equal_is new e o in let below : e.0.0 < new.0.0 = apart.0 same.0 in absurd (omega (arith, below, same.1))
  | Greater ↦ λ o. rw (greater_is new e o) (ap (λ is. item_of e ∷ is) (put_in new es apart.1))
] refl

-- the items in front, as long as they are up to a tick
abbrev pub front_to : ℕ → List Item → List Item
front_to tick [] = []
front_to tick (i ∷ rest) = cond (nat_le i.tick tick) (i ∷ front_to tick rest) []

-- of a rising list these are all up to the tick
front_is : (tick : ℕ) (items : List Item) → IsRising items → front_to tick items ≡ up_to tick items
front_is tick [] r = refl
front_is tick (i ∷ rest) r = elim (nat_le i.tick tick) as (λ t. nat_le i.tick tick ≡ t → cond t (i ∷ front_to tick rest) [] ≡ cond t (i ∷ up_to tick rest) (up_to tick rest)) [
  | true ↦ λ e. ap (λ is. i ∷ is) (front_is tick rest r.1)
  | false ↦ λ e. sym (none_up_to tick rest (each_weaker (λ j. is_before i j ≡ true) (λ j. tick < j.tick) (λ j h. later_still tick i j e h) rest r.0))
] refl

-- without the items up to a tick, those past it are left
left_is : (tick : ℕ) (items : List Item) → IsRising items → drop (length (up_to tick items)) items ≡ past tick items
left_is tick items r = subst (λ (is : List Item). drop (length (up_to tick items)) is ≡ past tick items) (cut_at tick items r) (drop-append_seam (up_to tick items) (past tick items))

-- the view after an item was put in
pub took : (before after : List Entry) (horizons : List ℕ) (m : MergeView) (item : Item) → record { waiting = map item_of before; horizons = horizons } ≡ m → after ≡ insert_entry place_cmp before (item.tick, item.publisher) item.event → MayTake m item → ◌≡◌ {A = MergeView} (record { waiting = map item_of after; horizons = horizons }) (with_item m item)
took before after horizons m item view is may =
    let apart : Each (λ i. i.publisher ≡ item.publisher → i.tick < item.tick) (map item_of before) = subst (λ (v : MergeView). Each (λ i. i.publisher ≡ item.publisher → i.tick < item.tick) v.waiting) (sym view) may.later in
    ap (λ (es : List Entry). record { waiting = map item_of es; horizons = horizons }) is
    ∙ ap (λ (items : List Item). record { waiting = items; horizons = horizons }) (put_in ((item.tick, item.publisher), item.event) before apart)
    ∙ ap (λ (v : MergeView). with_item v item) view

-- the view after what was ready was taken out
pub gave : (before after : List Entry) (given : List Item) (horizons : List ℕ) (least : ℕ) (m : MergeView) → record { waiting = map item_of before; horizons = horizons } ≡ m → least ≡ least_of horizons → IsRising (map item_of before) → given ≡ up_to least (map item_of before) → after ≡ drop (length given) before → ◌≡◌ {A = MergeView} (record { waiting = map item_of after; horizons = horizons }) (without_ready m)
gave before after given horizons least m view least_is rising given_is after_is =
    let left : map item_of after ≡ past least (map item_of before) = ap (λ (es : List Entry). map item_of es) after_is ∙ sym (drop-map item_of (length given) before) ∙ ap (λ (is : List Item). drop (length is) (map item_of before)) given_is ∙ left_is least (map item_of before) rising in
    ap (λ (items : List Item). record { waiting = items; horizons = horizons }) (left ∙ ap (λ n. past n (map item_of before)) least_is)
    ∙ ap without_ready view

-- what the loop over the entries has read once it comes to its end
pub read_all : (tick : ℕ) (items : List Item) (left all : List Entry) → items ++ front_to tick (map item_of left) ≡ front_to tick (map item_of all) → left ≡ [] → IsRising (map item_of all) → items ≡ up_to tick (map item_of all)
read_all tick items left all h none rising =
    sym (append-nil items) ∙ ap (λ (es : List Entry). items ++ front_to tick (map item_of es)) (sym none) ∙ h ∙ front_is tick (map item_of all) rising

-- and once it comes to an entry past the tick
pub read_front : (tick : ℕ) (items : List Item) (left rest all : List Entry) (e : Entry) → items ++ front_to tick (map item_of left) ≡ front_to tick (map item_of all) → left ≡ e ∷ rest → tick < e.0.0 → IsRising (map item_of all) → items ≡ up_to tick (map item_of all)
read_front tick items left rest all e h more late rising =
    let test : nat_le e.0.0 tick ≡ false = grind (arith, nat_tests) in
    let none : front_to tick (map item_of (e ∷ rest)) ≡ [] = rw test in
    sym (append-nil items) ∙ ap (λ (is : List Item). items ++ is) (sym none) ∙ ap (λ (es : List Entry). items ++ front_to tick (map item_of es)) (sym more) ∙ h ∙ front_is tick (map item_of all) rising

-- the first entry is taken out, if there is one
pub popped : (first : Option Entry) (before after all : List Entry) (n : ℕ) → IfSome first (λ e. before ≡ e ∷ after) → IfNone first (after ≡ before) → (IsSome first ↔ (0 < length before)) → before ≡ drop n all → after ≡ drop (n + 1) all
popped (Some e) before after all n some none any is = ap (λ (es : List Entry). drop 1 es) (sym some ∙ is) ∙ drop-drop 1 n all
popped None [] after all n some none any is = none ∙ ap (λ (es : List Entry). drop 1 es) is ∙ drop-drop 1 n all
popped None (e ∷ es) after all n some none any is = absurd (false≢true (any.1 (omega arith)))
