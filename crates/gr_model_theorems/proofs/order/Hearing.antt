-- Where no line of a subscriber is passed over, what it heard is what it got, and its merge stands at its last horizons
use Rattle.std.proofs.Common.{◌≡◌, ◌↔◌, ◌⊎◌, inl, inr, ℕ, zero, suc, ◌+◌, ◌<◌, Bool, true, false, ◌&&◌, if◌then◌else◌, List, [], ◌∷◌, ◌++◌, length, map, get_or, set, refl, sym, ap, ap₂, ◌∙◌, subst, arith, eq-eqb, length-set}
use Rattle.std.specs.Prelude.{nat_eq, nat_lt, nat_le, flat_map}
use Rattle.std.specs.List.{Contains}
use Rattle.std.proofs.lemmas.Grind.{flat_map-append}
use Rattle.std.proofs.lemmas.Bool.{and_parts, eqb-true, ltb-true, true≢false}
use Rattle.std.proofs.lemmas.List.{get_or-set_same, get_or-set_other, get_or-replicate, length-replicate}
use Rattle.std.proofs.lemmas.List.Elements.{Contains-append_left, Contains-append_right, Contains-append_cases, Contains-push_cases}
use Rattle.gr_event.specs.declared.event.Event.{Event}
use Rattle.gr_order.specs.declared.item.Item.{Item}
use Rattle.gr_order.specs.Merge.{least_of, least_horizon, with_item, with_horizon}
use Rattle.gr_model.specs.declared.report.Report.{Report}
use Rattle.gr_model.specs.declared.report.Report.TheVariants as line
use Rattle.gr_model.specs.Net.{numbers, numbers_from}
use Rattle.gr_model.specs.Headline.{last_horizon, delivered_events}
use Rattle.gr_model.specs.Orders.{Held, Said, event_of, horizon_of, nothing, said_of, moved, said}
use Rattle.gr_model_calls.proofs.calls.Telling.{last_horizon-append}
use Rattle.gr_model_theorems.proofs.order.Told.{brought, item, is_past, is_next, brings, brings_all, said_all, rested, end, heard_in, begun}

-- no line of this subscriber is passed over
abbrev pub IsHeard : ℕ → Held → Said → Type 0
IsHeard s x (event_of r p t e) = nat_eq r s ≡ true → is_past x p t ≡ true
IsHeard s x (horizon_of r p t) = nat_eq r s ≡ true → is_next x p t ≡ true
IsHeard s x nothing = Unit {0}

abbrev pub AllHeard : ℕ → Held → List Report → Type 0
AllHeard s x [] = Unit {0}
AllHeard s x (l ∷ ls) = IsHeard s x (said_of l) × AllHeard s (said s x (said_of l)) ls

-- nor any of these steps
abbrev pub NonePassed : ℕ → Held → List (List Report) → Type 0
NonePassed s x [] = Unit {0}
NonePassed s x (ls ∷ rs) = AllHeard s x ls × NonePassed s (rested (said_all s x ls)) rs

abbrev pub joined : List (List Report) → List Report
joined rs = flat_map (λ ls. ls) rs

-- ---- lists

pub has_head : {X : Type 0} (x : X) (xs : List X) → Contains (x ∷ xs) x
has_head x xs = (0, omega arith, refl)

pub has_tail : {X : Type 0} (x y : X) (xs : List X) → Contains xs y → Contains (x ∷ xs) y
has_tail x y xs h = Contains-append_right (x ∷ []) xs y h

pub has_none : {X : Type 0} (x : X) → Contains [] x → ⊥
has_none x h = omega (arith, h.1)

pub has_cases : {X : Type 0} (x y : X) (xs : List X) → Contains (x ∷ xs) y → (x ≡ y) ⊎ Contains xs y
has_cases x y xs h = elim (Contains-append_cases (x ∷ []) xs y h) [
  | inl a ↦ elim (Contains-push_cases [] x y a) [ inl b ↦ absurd (has_none y b) | inr b ↦ inl b ]
  | inr a ↦ inr a
]

-- a list that is what a function says at each place
is_mapped : (f : ℕ → ℕ) (xs : List ℕ) (i n : ℕ) → length xs ≡ n → ((p : ℕ) → p < n → get_or xs p 0 ≡ f (i + p)) → xs ≡ map f (numbers_from i n)
is_mapped f [] i zero e h = refl
is_mapped f [] i (suc n) e h = absurd (omega (arith, e))
is_mapped f (x ∷ xs) i zero e h = absurd (omega (arith, e))
is_mapped f (x ∷ xs) i (suc n) e h =
    ap₂ (λ y ys. y ∷ ys) (h 0 (omega arith) ∙ (let k : i + 0 ≡ i = omega arith in ap f k))
    (is_mapped f xs (suc i) n (omega (arith, e)) (λ p lt. h (suc p) (omega (arith, lt)) ∙ (let k : i + suc p ≡ suc i + p = omega arith in ap f k)))

-- ---- what was got

abbrev pub got_item : ℕ → Said → List Item
got_item s (event_of r p t e) = if nat_eq r s then item p t e ∷ [] else []
got_item s (horizon_of r p t) = []
got_item s nothing = []

abbrev pub got_items : ℕ → List Report → List Item
got_items s ls = flat_map (λ l. got_item s (said_of l)) ls

brings_got : (s : ℕ) (x : Held) (w : Said) → IsHeard s x w → brings s x w ≡ got_item s w
brings_got s x (event_of r p t e) h = go (nat_eq r s) refl
  where
    go : (c : Bool) → nat_eq r s ≡ c → (if c then brought (is_past x p t) (item p t e) else []) ≡ (if c then item p t e ∷ [] else [])
    go true k = ap (λ d. brought d (item p t e)) (h k)
    go false k = refl
brings_got s x (horizon_of r p t) h = refl
brings_got s x nothing h = refl

brings_all_got : (s : ℕ) (x : Held) (ls : List Report) → AllHeard s x ls → brings_all s x ls ≡ got_items s ls
brings_all_got s x [] h = refl
brings_all_got s x (l ∷ ls) h = ap₂ (λ xs ys. xs ++ ys) (brings_got s x (said_of l) h.0) (brings_all_got s (said s x (said_of l)) ls h.1)

pub heard_is_got : (s : ℕ) (x : Held) (rs : List (List Report)) → NonePassed s x rs → heard_in s x rs ≡ got_items s (joined rs)
heard_is_got s x [] h = refl
heard_is_got s x (ls ∷ rs) h =
    ap₂ (λ xs ys. xs ++ ys) (brings_all_got s x ls h.0) (heard_is_got s (rested (said_all s x ls)) rs h.1)
    ∙ sym (flat_map-append (λ l. got_item s (said_of l)) ls (joined rs))

-- the same, publisher by publisher
abbrev given : ℕ → ℕ → Said → List (ℕ × Event)
given s p (event_of r q t e) = if nat_eq r s && nat_eq q p then (t, e) ∷ [] else []
given s p (horizon_of r q t) = []
given s p nothing = []

delivered_one : (s p : ℕ) (l : Report) (ls : List Report) → delivered_events s p (l ∷ ls) ≡ given s p (said_of l) ++ delivered_events s p ls
delivered_one s p (line.Got r q t e) ls = refl
delivered_one s p _ ls = refl

one_given : (s : ℕ) (w : Said) (i : Item) → Contains (got_item s w) i ↔ Contains (given s i.publisher w) (i.tick, i.event)
one_given s (event_of r q t e) i = go (nat_eq r s)
  where
    there : i ≡ item q t e → Contains {X = ℕ × Event} ((t, e) ∷ []) (i.tick, i.event)
    there k = subst (λ (j : Item). Contains {X = ℕ × Event} ((t, e) ∷ []) (j.tick, j.event)) (sym k) (has_head {X = ℕ × Event} (t, e) [])

    same : (n : Bool) → nat_eq q i.publisher ≡ n → Contains {X = ℕ × Event} (if n then (t, e) ∷ [] else []) (i.tick, i.event) → item q t e ≡ i
    same true k h = elim (has_cases {X = ℕ × Event} (t, e) (i.tick, i.event) [] h) [
      | inl z ↦ ap (λ (y : ℕ × Event). item q y.0 y.1) z ∙ ap (λ j. item j i.tick i.event) (eqb-true q i.publisher k)
      | inr z ↦ absurd (has_none {X = ℕ × Event} (i.tick, i.event) z)
    ]
    same false k h = absurd (has_none {X = ℕ × Event} (i.tick, i.event) h)

    go : (c : Bool) → Contains (if c then item q t e ∷ [] else []) i ↔ Contains {X = ℕ × Event} (if c && nat_eq q i.publisher then (t, e) ∷ [] else []) (i.tick, i.event)
    go true = (
      λ h. elim (has_cases (item q t e) i [] h) [
        | inl z ↦ subst (λ n. Contains {X = ℕ × Event} (if n then (t, e) ∷ [] else []) (i.tick, i.event)) (sym (eq-eqb q i.publisher (ap (λ (j : Item). j.publisher) z))) (there (sym z))
        | inr z ↦ absurd (has_none i z)
      ],
      λ h. subst (λ (j : Item). Contains (item q t e ∷ []) j) (same (nat_eq q i.publisher) refl h) (has_head (item q t e) []),
    )
    go false = (λ h. absurd (has_none i h), λ h. absurd (has_none {X = ℕ × Event} (i.tick, i.event) h))
one_given s (horizon_of r q t) i = (λ h. absurd (has_none i h), λ h. absurd (has_none {X = ℕ × Event} (i.tick, i.event) h))
one_given s nothing i = (λ h. absurd (has_none i h), λ h. absurd (has_none {X = ℕ × Event} (i.tick, i.event) h))

-- the items that were got are the events that were delivered
pub got_delivered : (s : ℕ) (ls : List Report) (i : Item) → Contains (got_items s ls) i ↔ Contains (delivered_events s i.publisher ls) (i.tick, i.event)
got_delivered s [] i = (λ h. absurd (has_none i h), λ h. absurd (has_none {X = ℕ × Event} (i.tick, i.event) h))
got_delivered s (l ∷ ls) i = by_one (one_given s (said_of l) i) (got_delivered s ls i)
  where
    more : delivered_events s i.publisher (l ∷ ls) ≡ given s i.publisher (said_of l) ++ delivered_events s i.publisher ls
    more = delivered_one s i.publisher l ls

    by_one : Contains (got_item s (said_of l)) i ↔ Contains (given s i.publisher (said_of l)) (i.tick, i.event)
        → Contains (got_items s ls) i ↔ Contains (delivered_events s i.publisher ls) (i.tick, i.event)
        → Contains (got_items s (l ∷ ls)) i ↔ Contains (delivered_events s i.publisher (l ∷ ls)) (i.tick, i.event)
    by_one a b = (
      λ h. subst (λ (ys : List (ℕ × Event)). Contains ys (i.tick, i.event)) (sym more) (elim (Contains-append_cases (got_item s (said_of l)) (got_items s ls) i h) [
        | inl z ↦ Contains-append_left (given s i.publisher (said_of l)) (delivered_events s i.publisher ls) (i.tick, i.event) (a.0 z)
        | inr z ↦ Contains-append_right (given s i.publisher (said_of l)) (delivered_events s i.publisher ls) (i.tick, i.event) (b.0 z)
      ]),
      λ h. elim (Contains-append_cases (given s i.publisher (said_of l)) (delivered_events s i.publisher ls) (i.tick, i.event) (subst (λ (ys : List (ℕ × Event)). Contains ys (i.tick, i.event)) more h)) [
        | inl z ↦ Contains-append_left (got_item s (said_of l)) (got_items s ls) i (a.1 z)
        | inr z ↦ Contains-append_right (got_item s (said_of l)) (got_items s ls) i (b.1 z)
      ],
    )

-- ---- each that was heard is of a publisher that there is

brought_in : (s n : ℕ) (x : Held) (w : Said) (i : Item) → length x.1 ≡ n → Contains (brings s x w) i → i.publisher < n
brought_in s n x (event_of r q t e) i k h = go (nat_eq r s) (is_past x q t) refl h
  where
    go : (c d : Bool) → is_past x q t ≡ d → Contains (if c then brought d (item q t e) else []) i → i.publisher < n
    go true true y z = elim (has_cases (item q t e) i [] z) [
      | inl u ↦ let lt = ltb-true q (length x.1) (and_parts (nat_lt q (length x.1)) (nat_lt (get_or x.1 q 0) t) y).0 in let v = ap (λ (j : Item). j.publisher) u in omega (arith, lt, v, k)
      | inr u ↦ absurd (has_none i u)
    ]
    go true false y z = absurd (has_none i z)
    go false d y z = absurd (has_none i z)
brought_in s n x (horizon_of r q t) i k h = absurd (has_none i h)
brought_in s n x nothing i k h = absurd (has_none i h)

-- ---- where the merge stands

-- as many horizons as publishers are heard
record IsEven (n : ℕ) (x : Held) : Type 0 where
  horizons : length x.0.horizons ≡ n
  reached : length x.1 ≡ n

said_even : (s n : ℕ) (x : Held) (w : Said) → IsEven n x → IsEven n (said s x w)
said_even s n x (event_of r p t e) v = go (nat_eq r s) (is_past x p t)
  where
    go : (c d : Bool) → IsEven n (if c then (if d then (with_item x.0 (item p t e), set x.1 p t) else x) else x)
    go true true = record { horizons = v.horizons; reached = length-set x.1 p t ∙ v.reached }
    go true false = v
    go false d = v
said_even s n x (horizon_of r p t) v = go (nat_eq r s) (is_next x p t)
  where
    go : (c d : Bool) → IsEven n (if c then (if d then (with_horizon x.0 p t, set x.1 p t) else x) else x)
    go true true = record { horizons = length-set x.0.horizons p t ∙ v.horizons; reached = length-set x.1 p t ∙ v.reached }
    go true false = v
    go false d = v
said_even s n x nothing v = v

all_even : (s n : ℕ) (x : Held) (ls : List Report) → IsEven n x → IsEven n (said_all s x ls)
all_even s n x [] v = v
all_even s n x (l ∷ ls) v = all_even s n (said s x (said_of l)) ls (said_even s n x (said_of l) v)

rested_even : (n : ℕ) (x : Held) → IsEven n x → IsEven n (rested x)
rested_even n x v = record { horizons = v.horizons; reached = v.reached }

end_even : (s n : ℕ) (x : Held) (rs : List (List Report)) → IsEven n x → IsEven n (end s x rs)
end_even s n x [] v = v
end_even s n x (ls ∷ rs) v = end_even s n (rested (said_all s x ls)) rs (rested_even n (said_all s x ls) (all_even s n x ls v))

brought_all_in : (s n : ℕ) (x : Held) (ls : List Report) (i : Item) → IsEven n x → Contains (brings_all s x ls) i → i.publisher < n
brought_all_in s n x [] i v h = absurd (has_none i h)
brought_all_in s n x (l ∷ ls) i v h = elim (Contains-append_cases (brings s x (said_of l)) (brings_all s (said s x (said_of l)) ls) i h) [
  | inl a ↦ brought_in s n x (said_of l) i v.reached a
  | inr a ↦ brought_all_in s n (said s x (said_of l)) ls i (said_even s n x (said_of l) v) a
]

heard_all_in : (s n : ℕ) (x : Held) (rs : List (List Report)) (i : Item) → IsEven n x → Contains (heard_in s x rs) i → i.publisher < n
heard_all_in s n x [] i v h = absurd (has_none i h)
heard_all_in s n x (ls ∷ rs) i v h = elim (Contains-append_cases (brings_all s x ls) (heard_in s (rested (said_all s x ls)) rs) i h) [
  | inl a ↦ brought_all_in s n x ls i v a
  | inr a ↦ heard_all_in s n (rested (said_all s x ls)) rs i (rested_even n (said_all s x ls) (all_even s n x ls v)) a
]

-- the last horizon, line by line
abbrev horizon_by : ℕ → ℕ → ℕ → Said → ℕ
horizon_by s p n (event_of r q t e) = n
horizon_by s p n (horizon_of r q t) = if nat_eq r s && nat_eq q p then t else n
horizon_by s p n nothing = n

last_one : (s p n : ℕ) (l : Report) (ls : List Report) → last_horizon s p n (l ∷ ls) ≡ last_horizon s p (horizon_by s p n (said_of l)) ls
last_one s p n (line.Horizon r q t) ls = refl
last_one s p n _ ls = refl

stands_by : (s n p : ℕ) (x : Held) (w : Said) → IsEven n x → IsHeard s x w → get_or (said s x w).0.horizons p 0 ≡ horizon_by s p (get_or x.0.horizons p 0) w
stands_by s n p x (event_of r q t e) v h = go (nat_eq r s) (is_past x q t)
  where
    go : (c d : Bool) → (let y : Held = if c then (if d then (with_item x.0 (item q t e), set x.1 q t) else x) else x in get_or y.0.horizons p 0) ≡ get_or x.0.horizons p 0
    go true true = refl
    go true false = refl
    go false d = refl
stands_by s n p x (horizon_of r q t) v h = go (nat_eq r s) refl
  where
    moved_one : (d : Bool) → nat_eq q p ≡ d → q < length x.0.horizons → get_or (set x.0.horizons q t) p 0 ≡ (if d then t else get_or x.0.horizons p 0)
    moved_one true k lt = subst (λ z. get_or (set x.0.horizons q t) z 0 ≡ t) (eqb-true q p k) (get_or-set_same x.0.horizons q t 0 lt)
    moved_one false k lt = get_or-set_other x.0.horizons q p t 0 (λ z. true≢false (sym (eq-eqb q p (sym z)) ∙ k))

    known : is_next x q t ≡ true → q < length x.0.horizons
    known y = let lt = ltb-true q (length x.1) (and_parts (nat_lt q (length x.1)) (nat_le (get_or x.1 q 0) t) y).0 in let a = v.horizons in let b = v.reached in omega (arith, lt, a, b)

    at_next : (d : Bool) → d ≡ true → q < length x.0.horizons → (let y : Held = if d then (with_horizon x.0 q t, set x.1 q t) else x in get_or y.0.horizons p 0) ≡ (if nat_eq q p then t else get_or x.0.horizons p 0)
    at_next true y lt = moved_one (nat_eq q p) refl lt
    at_next false y lt = absurd (true≢false (sym y))

    go : (c : Bool) → nat_eq r s ≡ c → (let y : Held = if c then moved x.0 x.1 q t else x in get_or y.0.horizons p 0) ≡ (if c && nat_eq q p then t else get_or x.0.horizons p 0)
    go true k = at_next (is_next x q t) (h k) (known (h k))
    go false k = refl
stands_by s n p x nothing v h = refl

stands_all : (s n p : ℕ) (x : Held) (ls : List Report) → IsEven n x → AllHeard s x ls → get_or (said_all s x ls).0.horizons p 0 ≡ last_horizon s p (get_or x.0.horizons p 0) ls
stands_all s n p x [] v h = refl
stands_all s n p x (l ∷ ls) v h =
    stands_all s n p (said s x (said_of l)) ls (said_even s n x (said_of l) v) h.1
    ∙ ap (λ k. last_horizon s p k ls) (stands_by s n p x (said_of l) v h.0)
    ∙ sym (last_one s p (get_or x.0.horizons p 0) l ls)

stands_end : (s n p : ℕ) (x : Held) (rs : List (List Report)) → IsEven n x → NonePassed s x rs → get_or (end s x rs).0.horizons p 0 ≡ last_horizon s p (get_or x.0.horizons p 0) (joined rs)
stands_end s n p x [] v h = refl
stands_end s n p x (ls ∷ rs) v h =
    let y : Held = said_all s x ls in
    stands_end s n p (rested y) rs (rested_even n y (all_even s n x ls v)) h.1
    ∙ ap (λ k. last_horizon s p k (joined rs)) (stands_all s n p x ls v h.0)
    ∙ sym (last_horizon-append s p (get_or x.0.horizons p 0) ls (joined rs))

begun_even : (n : ℕ) → IsEven n (begun n)
begun_even n = record { horizons = length-replicate n 0; reached = length-replicate n 0 }

-- the least horizon is the least of the last horizons
pub least_is : (s n : ℕ) (rs : List (List Report)) → NonePassed s (begun n) rs → least_horizon (end s (begun n) rs).0 ≡ least_of (map (λ p. last_horizon s p 0 (joined rs)) (numbers n))
least_is s n rs h =
    let v : IsEven n (end s (begun n) rs) = end_even s n (begun n) rs (begun_even n) in
    ap least_of (is_mapped (λ p. last_horizon s p 0 (joined rs)) (end s (begun n) rs).0.horizons 0 n v.horizons
    (λ p lt. stands_end s n p (begun n) rs (begun_even n) h
    ∙ ap (λ k. last_horizon s p k (joined rs)) (get_or-replicate n p 0 0 lt)
    ∙ (let k : p ≡ 0 + p = omega arith in ap (λ q. last_horizon s q 0 (joined rs)) k)))

pub heard_in_range : (s n : ℕ) (rs : List (List Report)) (i : Item) → Contains (heard_in s (begun n) rs) i → i.publisher < n
heard_in_range s n rs i h = heard_all_in s n (begun n) rs i (begun_even n) h
