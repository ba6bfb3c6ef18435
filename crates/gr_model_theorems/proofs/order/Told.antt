-- What is told of one subscriber, step by step, is one list: all events that were heard up to its least horizon, rising
use Rattle.std.proofs.Common.{◌≡◌, ℕ, ◌<◌, ◌≤◌, Bool, true, false, ◌&&◌, ◌||◌, cond, if◌then◌else◌, List, [], ◌∷◌, ◌++◌, length, map, get_or, set, replicate, refl, sym, ap, ap₂, ◌∙◌, subst, arith, append-nil, append_assoc, inl, inr, ◌⊎◌}
use Rattle.std.specs.Prelude.{nat_eq, nat_lt, nat_le, flat_map}
use Rattle.std.specs.List.{AllByRecursion, list_any}
use Rattle.std.proofs.lemmas.Grind.{flat_map-append}
use Rattle.std.proofs.lemmas.Bool.{and_parts, ltb-true, leb-true, eqb-true, true≢false}
use Rattle.gr_event.specs.declared.event.Event.{Event}
use Rattle.gr_order.specs.declared.item.Item.{Item}
use Rattle.gr_order.specs.Order.{past}
use Rattle.gr_order.specs.Merge.{MergeView, fresh, least_horizon, with_item, with_horizon, ready_items, without_ready}
use Rattle.gr_order.specs.Law.{IsMerged}
use Rattle.gr_order.proofs.Placing.{Each, none_up_to}
use Rattle.gr_order.proofs.Following.{Follows, follows_fresh, follows_take, follows_advance, follows_ready, merged}
use Rattle.gr_model.specs.declared.report.Report.{Report}
use Rattle.gr_model.specs.Tree.{IsDistinct}
use Rattle.gr_model.specs.Orders.{Order, Held, Said, event_of, horizon_of, nothing, said_of, got, moved, said, held, heard, heard_all, fed, ordered_line, ordered_in, ordered, without_ordered, ordered_steps, fresh_order, IsOrder}
use Rattle.gr_model.specs.Ordered.{ordered_item, ordered_items, items_told}
use Rattle.gr_model.proofs.Ordering.{may_take, taken_fits, may_advance, moved_fits, rested_fits}

abbrev pub brought : Bool → Item → List Item
brought c i = if c then i ∷ [] else []

abbrev pub item : ℕ → ℕ → Event → Item
item p t e = record { publisher = p; tick = t; event = e }

abbrev pub is_past : Held → ℕ → ℕ → Bool
is_past x p t = nat_lt p (length x.1) && nat_lt (get_or x.1 p 0) t

abbrev pub is_next : Held → ℕ → ℕ → Bool
is_next x p t = nat_lt p (length x.1) && nat_le (get_or x.1 p 0) t

abbrev pub brings : ℕ → Held → Said → List Item
brings s x (event_of r p t e) = if nat_eq r s then brought (is_past x p t) (item p t e) else []
brings s x (horizon_of r p t) = []
brings s x nothing = []

abbrev pub said_all : ℕ → Held → List Report → Held
said_all s x [] = x
said_all s x (l ∷ ls) = said_all s (said s x (said_of l)) ls

abbrev pub brings_all : ℕ → Held → List Report → List Item
brings_all s x [] = []
brings_all s x (l ∷ ls) = brings s x (said_of l) ++ brings_all s (said s x (said_of l)) ls

-- behind each step what is ready is told
abbrev pub rested : Held → Held
rested x = (without_ready x.0, x.1)

abbrev pub end : ℕ → Held → List (List Report) → Held
end s x [] = x
end s x (ls ∷ rs) = end s (rested (said_all s x ls)) rs

abbrev pub heard_in : ℕ → Held → List (List Report) → List Item
heard_in s x [] = []
heard_in s x (ls ∷ rs) = brings_all s x ls ++ heard_in s (rested (said_all s x ls)) rs

abbrev pub told_in : ℕ → Held → List (List Report) → List Item
told_in s x [] = []
told_in s x (ls ∷ rs) = ready_items (said_all s x ls).0 ++ told_in s (rested (said_all s x ls)) rs

abbrev pub begun : ℕ → Held
begun n = (fresh n, replicate n 0)

record Fed (all out : List Item) (x : Held) : Type 0 where
  order : IsOrder x.0 x.1
  follows : Follows all out x.0

-- one event
takes : (all out : List Item) (x : Held) (p t : ℕ) (e : Event) (c : Bool) → is_past x p t ≡ c → Fed all out x
    → Fed (all ++ brought c (item p t e)) out (if c then (with_item x.0 (item p t e), set x.1 p t) else x)
takes all out x p t e true h f = record {
  order = taken_fits x.0 x.1 (item p t e) f.order here past;
  follows = follows_take all out x.0 (item p t e) (may_take x.0 x.1 p t e f.order here past) f.follows;
}
  where
    here : p < length x.1
    here = ltb-true p (length x.1) (and_parts (nat_lt p (length x.1)) (nat_lt (get_or x.1 p 0) t) h).0

    past : get_or x.1 p 0 < t
    past = ltb-true (get_or x.1 p 0) t (and_parts (nat_lt p (length x.1)) (nat_lt (get_or x.1 p 0) t) h).1
takes all out x p t e false h f = subst (λ xs. Fed xs out x) (sym (append-nil all)) f

-- one horizon
moves : (all out : List Item) (x : Held) (p t : ℕ) (c : Bool) → is_next x p t ≡ c → Fed all out x
    → Fed all out (if c then (with_horizon x.0 p t, set x.1 p t) else x)
moves all out x p t true h f = record {
  order = moved_fits x.0 x.1 p t f.order here ahead;
  follows = follows_advance all out x.0 p t (may_advance x.0 x.1 p t f.order here ahead) f.follows;
}
  where
    here : p < length x.1
    here = ltb-true p (length x.1) (and_parts (nat_lt p (length x.1)) (nat_le (get_or x.1 p 0) t) h).0

    ahead : get_or x.1 p 0 ≤ t
    ahead = leb-true (get_or x.1 p 0) t (and_parts (nat_lt p (length x.1)) (nat_le (get_or x.1 p 0) t) h).1
moves all out x p t false h f = f

one : (s : ℕ) (l : Said) (all out : List Item) (x : Held) → Fed all out x → Fed (all ++ brings s x l) out (said s x l)
one s (event_of r p t e) all out x f = go (nat_eq r s)
  where
    go : (c : Bool) → Fed (all ++ (if c then brought (is_past x p t) (item p t e) else [])) out (if c then got x.0 x.1 p t e else x)
    go true = takes all out x p t e (is_past x p t) refl f
    go false = subst (λ xs. Fed xs out x) (sym (append-nil all)) f
one s (horizon_of r p t) all out x f = subst (λ xs. Fed xs out (said s x (horizon_of r p t))) (sym (append-nil all)) (go (nat_eq r s))
  where
    go : (c : Bool) → Fed all out (if c then moved x.0 x.1 p t else x)
    go true = moves all out x p t (is_next x p t) refl f
    go false = f
one s nothing all out x f = subst (λ xs. Fed xs out x) (sym (append-nil all)) f

lines : (s : ℕ) (ls : List Report) (all out : List Item) (x : Held) → Fed all out x → Fed (all ++ brings_all s x ls) out (said_all s x ls)
lines s [] all out x f = subst (λ xs. Fed xs out x) (sym (append-nil all)) f
lines s (l ∷ ls) all out x f =
    let y : Held = said s x (said_of l) in
    subst (λ xs. Fed xs out (said_all s y ls)) (append_assoc all (brings s x (said_of l)) (brings_all s y ls))
    (lines s ls (all ++ brings s x (said_of l)) out y (one s (said_of l) all out x f))

all_later : (n : ℕ) (items : List Item) → Each (λ i. n < i.tick) (past n items)
all_later n [] = tt
all_later n (i ∷ rest) = go (nat_lt n i.tick) refl (all_later n rest)
  where
    go : (b : Bool) → nat_lt n i.tick ≡ b → Each (λ j. n < j.tick) (past n rest) → Each (λ j. n < j.tick) (cond b (i ∷ past n rest) (past n rest))
    go true h more = (ltb-true n i.tick h, more)
    go false h more = more

-- behind what was taken out nothing is ready
pub none_ready : (m : MergeView) → ready_items (without_ready m) ≡ []
none_ready m = none_up_to (least_horizon m) (past (least_horizon m) m.waiting) (all_later (least_horizon m) m.waiting)

rests : (all out : List Item) (x : Held) → Fed all out x → Fed all (out ++ ready_items x.0) (rested x)
rests all out x f = record {
  order = rested_fits x.0 x.1 f.order;
  follows = follows_ready all out x.0 f.follows;
}

record Ended (all out : List Item) (x : Held) : Type 0 where
  fed : Fed all out x
  none : ready_items x.0 ≡ []

steps : (s : ℕ) (rs : List (List Report)) (all out : List Item) (x : Held) → Ended all out x → Ended (all ++ heard_in s x rs) (out ++ told_in s x rs) (end s x rs)
steps s [] all out x g = subst (λ xs. Ended xs (out ++ []) x) (sym (append-nil all)) (subst (λ ys. Ended all ys x) (sym (append-nil out)) g)
steps s (ls ∷ rs) all out x g =
    let y : Held = said_all s x ls in
    let now : Fed (all ++ brings_all s x ls) (out ++ ready_items y.0) (rested y) = rests (all ++ brings_all s x ls) out y (lines s ls all out x g.fed) in
    subst (λ xs. Ended xs (out ++ told_in s x (ls ∷ rs)) (end s (rested y) rs)) (append_assoc all (brings_all s x ls) (heard_in s (rested y) rs))
    (subst (λ ys. Ended ((all ++ brings_all s x ls) ++ heard_in s (rested y) rs) ys (end s (rested y) rs)) (append_assoc out (ready_items y.0) (told_in s (rested y) rs))
    (steps s rs (all ++ brings_all s x ls) (out ++ ready_items y.0) (rested y) (record { fed = now; none = none_ready y.0 })))

starts : (n : ℕ) → Fed [] [] (begun n)
starts n = record {
  order = record { count = refl; horizons = λ p. omega (arith); waiting = tt };
  follows = follows_fresh n;
}

-- Whatever the lines of whatever steps: what was told is merged of what was heard, up to the least horizon.
pub told_is_merged : (s n : ℕ) (rs : List (List Report)) → IsMerged (heard_in s (begun n) rs) (least_horizon (end s (begun n) rs).0) (told_in s (begun n) rs)
told_is_merged s n rs =
    let g : Ended (heard_in s (begun n) rs) (told_in s (begun n) rs) (end s (begun n) rs) = steps s rs [] [] (begun n) (record { fed = starts n; none = refl }) in
    subst (λ ys. IsMerged (heard_in s (begun n) rs) (least_horizon (end s (begun n) rs).0) ys)
    (ap (λ zs. told_in s (begun n) rs ++ zs) g.none ∙ append-nil (told_in s (begun n) rs))
    (merged (heard_in s (begun n) rs) (told_in s (begun n) rs) (end s (begun n) rs).0 g.fed.follows)

-- ---- of many lists each tells its own

-- no list of this subscriber
abbrev NoneOf : ℕ → List Order → Type 0
NoneOf s os = AllByRecursion (λ o. nat_eq o.subscriber s ≡ false) os

-- one list of this subscriber, with this merge and this reached
abbrev pub Once : ℕ → Held → List Order → Type 0
Once s x [] = ⊥
Once s x (o ∷ os) = ((nat_eq o.subscriber s ≡ true) × (held o ≡ x) × NoneOf s os) ⊎ ((nat_eq o.subscriber s ≡ false) × Once s x os)

kept_subscriber : (o : Order) (ls : List Report) → (heard_all o ls).subscriber ≡ o.subscriber
kept_subscriber o [] = refl
kept_subscriber o (l ∷ ls) = kept_subscriber (heard o l) ls

kept_held : (s : ℕ) (o : Order) (ls : List Report) → o.subscriber ≡ s → held (heard_all o ls) ≡ said_all s (held o) ls
kept_held s o [] e = refl
kept_held s o (l ∷ ls) e = kept_held s (heard o l) ls e ∙ ap (λ r. said_all s (said r (held o) (said_of l)) ls) e

fed_none : (s : ℕ) (os : List Order) (ls : List Report) → NoneOf s os → NoneOf s (fed os ls)
fed_none s [] ls h = tt
fed_none s (o ∷ os) ls h = (ap (λ r. nat_eq r s) (kept_subscriber o ls) ∙ h.0, fed_none s os ls h.1)

fed_once : (s : ℕ) (x : Held) (os : List Order) (ls : List Report) → Once s x os → Once s (said_all s x ls) (fed os ls)
fed_once s x [] ls h = absurd h
fed_once s x (o ∷ os) ls (inl h) = inl (ap (λ r. nat_eq r s) (kept_subscriber o ls) ∙ h.0, kept_held s o ls (eqb-true o.subscriber s h.0) ∙ ap (λ y. said_all s y ls) h.1, fed_none s os ls h.2)
fed_once s x (o ∷ os) ls (inr h) = inr (ap (λ r. nat_eq r s) (kept_subscriber o ls) ∙ h.0, fed_once s x os ls h.1)

rest_none : (s : ℕ) (os : List Order) → NoneOf s os → NoneOf s (without_ordered os)
rest_none s [] h = tt
rest_none s (o ∷ os) h = (h.0, rest_none s os h.1)

rest_once : (s : ℕ) (x : Held) (os : List Order) → Once s x os → Once s (rested x) (without_ordered os)
rest_once s x [] h = absurd h
rest_once s x (o ∷ os) (inl h) = inl (h.0, ap rested h.1, rest_none s os h.2)
rest_once s x (o ∷ os) (inr h) = inr (h.0, rest_once s x os h.1)

-- what lines tell a subscriber, list by list

items_append : (s : ℕ) (xs ys : List Report) → ordered_items s (xs ++ ys) ≡ ordered_items s xs ++ ordered_items s ys
items_append s xs ys = flat_map-append (ordered_item s) xs ys

items_own : (s r : ℕ) (items : List Item) → nat_eq r s ≡ true → ordered_items s (map (ordered_line r) items) ≡ items
items_own s r [] e = refl
items_own s r (i ∷ rest) e = ap (λ c. (if c then i ∷ [] else []) ++ ordered_items s (map (ordered_line r) rest)) e ∙ ap (λ xs. i ∷ xs) (items_own s r rest e)

items_other : (s r : ℕ) (items : List Item) → nat_eq r s ≡ false → ordered_items s (map (ordered_line r) items) ≡ []
items_other s r [] e = refl
items_other s r (i ∷ rest) e = ap (λ c. (if c then i ∷ [] else []) ++ ordered_items s (map (ordered_line r) rest)) e ∙ items_other s r rest e

items_none : (s : ℕ) (os : List Order) → NoneOf s os → ordered_items s (ordered os) ≡ []
items_none s [] h = refl
items_none s (o ∷ os) h = items_append s (ordered_in o) (ordered os) ∙ ap₂ (λ xs ys. xs ++ ys) (items_other s o.subscriber (ready_items o.merge) h.0) (items_none s os h.1)

items_once : (s : ℕ) (x : Held) (os : List Order) → Once s x os → ordered_items s (ordered os) ≡ ready_items x.0
items_once s x [] h = absurd h
items_once s x (o ∷ os) (inl h) =
    items_append s (ordered_in o) (ordered os)
    ∙ ap₂ (λ xs ys. xs ++ ys) (items_own s o.subscriber (ready_items o.merge) h.0) (items_none s os h.2)
    ∙ append-nil (ready_items o.merge)
    ∙ ap (λ (y : Held). ready_items y.0) h.1
items_once s x (o ∷ os) (inr h) =
    items_append s (ordered_in o) (ordered os)
    ∙ ap₂ (λ xs ys. xs ++ ys) (items_other s o.subscriber (ready_items o.merge) h.0) (items_once s x os h.1)

-- what the lines of all steps tell a subscriber is what its own list tells
pub told_once : (s : ℕ) (x : Held) (os : List Order) (rs : List (List Report)) → Once s x os → items_told s (ordered_steps os rs) ≡ told_in s x rs
unfolding ordered_steps
told_once s x os [] h = refl
told_once s x os (ls ∷ rs) h =
    let next : List Order = fed os ls in
    let y : Held = said_all s x ls in
    let now : Once s y next = fed_once s x os ls h in
    items_append s (ordered next) (flat_map (λ zs. zs) (ordered_steps (without_ordered next) rs))
    ∙ ap₂ (λ xs ys. xs ++ ys) (items_once s y next now) (told_once s (rested y) (without_ordered next) rs (rest_once s y next now))

-- ---- at the start

fresh_none : (n s : ℕ) (ss : List ℕ) → list_any (λ x. nat_eq x s) ss ≡ false → NoneOf s (map (fresh_order n) ss)
fresh_none n s [] h = tt
fresh_none n s (r ∷ ss) h = let parts = neither (nat_eq r s) (list_any (λ x. nat_eq x s) ss) h in (parts.0, fresh_none n s ss parts.1)
  where
    neither : (x y : Bool) → (x || y) ≡ false → (x ≡ false) × (y ≡ false)
    neither true y h = absurd (true≢false h)
    neither false y h = (refl, h)

pub fresh_once : (n s : ℕ) (ss : List ℕ) → IsDistinct ss → list_any (λ x. nat_eq x s) ss ≡ true → Once s (begun n) (map (fresh_order n) ss)
fresh_once n s [] apart h = absurd (true≢false (sym h))
fresh_once n s (r ∷ ss) apart h = go (nat_eq r s) refl h (fresh_once n s ss apart.1)
  where
    go : (c : Bool) → nat_eq r s ≡ c → (c || list_any (λ x. nat_eq x s) ss) ≡ true → (list_any (λ x. nat_eq x s) ss ≡ true → Once s (begun n) (map (fresh_order n) ss)) → Once s (begun n) (map (fresh_order n) (r ∷ ss))
    go true e k more = inl (e, refl, fresh_none n s ss (ap (λ q. list_any (λ x. nat_eq x q) ss) (sym (eqb-true r s e)) ∙ apart.0))
    go false e k more = inr (e, more k)

-- Of each subscriber with one list: what it is told, up to any step, is merged of what it heard, up to its least horizon.
pub each_is_merged : (n s : ℕ) (ss : List ℕ) (rs : List (List Report)) → IsDistinct ss → list_any (λ x. nat_eq x s) ss ≡ true
    → IsMerged (heard_in s (begun n) rs) (least_horizon (end s (begun n) rs).0) (items_told s (ordered_steps (map (fresh_order n) ss) rs))
each_is_merged n s ss rs apart h =
    subst (λ xs. IsMerged (heard_in s (begun n) rs) (least_horizon (end s (begun n) rs).0) xs)
    (sym (told_once s (begun n) (map (fresh_order n) ss) rs (fresh_once n s ss apart h))) (told_is_merged s n rs)
