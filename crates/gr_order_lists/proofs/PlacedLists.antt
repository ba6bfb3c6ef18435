-- One line is heard by one list, which the table finds; all others stay as they were
use Rattle.std.proofs.Common.{◌≡◌, ℕ, zero, suc, ◌+◌, ◌-◌, ◌<◌, ◌≤◌, Bool, true, false, cond, List, [], ◌∷◌, ◌++◌, length, map, get_or, set, Option, Some, None, refl, sym, ap, ap₂, ◌∙◌, subst, inl, inr, arith, append_assoc, append-nil}
use Rattle.std.specs.Prelude.{nat_eq, if◌then◌else◌}
use Rattle.std.specs.List.{AllByRecursion, filter}
use Rattle.std.proofs.lemmas.Bool.{cases_Bool, eqb-true, true≢false}
use Rattle.std.proofs.lemmas.List.{get_or_append_left, get_or_push, length_push}
use Rattle.gr_tree.specs.Walks.{numbers_from}
use Rattle.gr_topo.proofs.TreeLists.{numbers_next, numbers_done, numbers_all}
use Rattle.gr_model.specs.declared.report.Report.{Report}
use Rattle.gr_model.specs.Orders.{Order, Held, Said, event_of, horizon_of, nothing, said_of, said, held, with_held, heard, heard_all, fed, got, moved}
use Rattle.gr_order_lists.specs.Places.{ArePlaced, subject}

some_same : (a b : ℕ) → Some a ≡ Some b → a ≡ b
some_same a b e = cc

none_some : (a : ℕ) → None ≡ Some a → ⊥
none_some a e = cc

-- ---- whom a line is no matter of

said_other : (s : ℕ) (x : Held) (w : Said) (r : ℕ) → subject w ≡ Some r → nat_eq r s ≡ false → said s x w ≡ x
said_other s x (event_of q p t e) r h n = ap (λ c. if c then got x.0 x.1 p t e else x) (ap (λ k. nat_eq k s) (some_same q r h) ∙ n)
said_other s x (horizon_of q p t) r h n = ap (λ c. if c then moved x.0 x.1 p t else x) (ap (λ k. nat_eq k s) (some_same q r h) ∙ n)
said_other s x nothing r h n = refl

said_none : (s : ℕ) (x : Held) (w : Said) → subject w ≡ None → said s x w ≡ x
said_none s x (event_of q p t e) h = absurd (none_some q (sym h))
said_none s x (horizon_of q p t) h = absurd (none_some q (sym h))
said_none s x nothing h = refl

heard_other : (o : Order) (l : Report) (r : ℕ) → subject (said_of l) ≡ Some r → nat_eq r o.subscriber ≡ false → heard o l ≡ o
heard_other o l r h n = ap (with_held o) (said_other o.subscriber (held o) (said_of l) r h n)

heard_none : (o : Order) (l : Report) → subject (said_of l) ≡ None → heard o l ≡ o
heard_none o l h = ap (with_held o) (said_none o.subscriber (held o) (said_of l) h)

pub none_heard : (os : List Order) (l : Report) → subject (said_of l) ≡ None → os ≡ map (λ o. heard o l) os
none_heard [] l h = refl
none_heard (o ∷ os) l h = ap₂ (λ x xs. x ∷ xs) (sym (heard_none o l h)) (none_heard os l h)

-- ---- the table

abbrev NotOf : ℕ → List Order → Type 0
NotOf s os = AllByRecursion (λ o. nat_eq s o.subscriber ≡ false) os

all_same : (os : List Order) (l : Report) (s : ℕ) → subject (said_of l) ≡ Some s → NotOf s os → os ≡ map (λ o. heard o l) os
all_same [] l s h n = refl
all_same (o ∷ os) l s h n = ap₂ (λ x xs. x ∷ xs) (sym (heard_other o l s h n.0)) (all_same os l s h n.1)

differs : (s r : ℕ) → (s ≡ r → ⊥) → nat_eq s r ≡ false
differs s r n = elim (cases_Bool (nat_eq s r)) [
  | inl e ↦ absurd (n (eqb-true s r e))
  | inr e ↦ e
]

not_past : (n : ℕ) (os : List Order) (places : List ℕ) (s : ℕ) → ArePlaced n os places → length places ≤ s → NotOf s os
not_past n [] places s a h = tt
not_past n (o ∷ os) places s a h = (differs s o.subscriber (λ e. let lt = a.0 in omega (arith, e, lt, h)), not_past (suc n) os places s a.2 h)

not_before : (n : ℕ) (os : List Order) (places : List ℕ) (s : ℕ) → ArePlaced n os places → get_or places s 0 < n → NotOf s os
not_before n [] places s a h = tt
not_before n (o ∷ os) places s a h =
    (differs s o.subscriber (λ e. let same = a.1 in let k = ap (λ q. get_or places q 0) e in omega (arith, same, k, h)), not_before (suc n) os places s a.2 (omega (arith, h)))

not_beyond : (n : ℕ) (os : List Order) (places : List ℕ) (s : ℕ) → ArePlaced n os places → n + length os ≤ get_or places s 0 → NotOf s os
not_beyond n [] places s a h = tt
not_beyond n (o ∷ os) places s a h =
    (differs s o.subscriber (λ e. let same = a.1 in let k = ap (λ q. get_or places q 0) e in omega (arith, same, k, h)), not_beyond (suc n) os places s a.2 (omega (arith, h)))

pub past_heard : (os : List Order) (places : List ℕ) (l : Report) (s : ℕ) → ArePlaced 0 os places → subject (said_of l) ≡ Some s → length places ≤ s → os ≡ map (λ o. heard o l) os
past_heard os places l s a h k = all_same os l s h (not_past 0 os places s a k)

pub beyond_heard : (os : List Order) (places : List ℕ) (l : Report) (s : ℕ) → ArePlaced 0 os places → subject (said_of l) ≡ Some s → length os ≤ get_or places s 0 → os ≡ map (λ o. heard o l) os
beyond_heard os places l s a h k = all_same os l s h (not_beyond 0 os places s a (omega (arith, k)))

at_heard : (n i : ℕ) (os : List Order) (places : List ℕ) (l : Report) (s : ℕ) (x d : Order) → ArePlaced n os places → subject (said_of l) ≡ Some s → get_or places s 0 ≡ n + i → i < length os → x ≡ get_or os i d
    → set os i (heard x l) ≡ map (λ o. heard o l) os
at_heard n i [] places l s x d a h k lt e = absurd (omega (arith, lt))
at_heard n zero (o ∷ os) places l s x d a h k lt e = ap₂ (λ y ys. y ∷ ys) (ap (λ y. heard y l) e) (all_same os l s h (not_before (suc n) os places s a.2 (omega (arith, k))))
at_heard n (suc i) (o ∷ os) places l s x d a h k lt e =
    ap₂ (λ y ys. y ∷ ys)
    (sym (heard_other o l s h (differs s o.subscriber (λ q. let same = a.1 in let j = ap (λ r. get_or places r 0) q in omega (arith, same, j, k)))))
    (at_heard (suc n) i os places l s x d a.2 h (omega (arith, k)) (omega (arith, lt)) e)

pub place_heard : (os : List Order) (places : List ℕ) (l : Report) (s i : ℕ) (x new : Order) → ArePlaced 0 os places → subject (said_of l) ≡ Some s → get_or places s 0 ≡ i → i < length os → x ≡ get_or os i x → new ≡ heard x l
    → set os i new ≡ map (λ o. heard o l) os
place_heard os places l s i x new a h k lt e is = ap (λ y. set os i y) is ∙ at_heard 0 i os places l s x x a h (omega (arith, k)) lt e

-- another value of the same subscriber
pub placed_set : (n i : ℕ) (os : List Order) (places : List ℕ) (x d : Order) → ArePlaced n os places → x.subscriber ≡ (get_or os i d).subscriber → ArePlaced n (set os i x) places
placed_set n i [] places x d a e = a
placed_set n zero (o ∷ os) places x d a e = (subst (λ k. k < length places) (sym e) a.0, ap (λ k. get_or places k 0) e ∙ a.1, a.2)
placed_set n (suc i) (o ∷ os) places x d a e = (a.0, a.1, placed_set (suc n) i os places x d a.2 e)

-- ---- lines in order

pub fed_next : (os : List Order) (l : Report) (ls : List Report) → fed (map (λ o. heard o l) os) ls ≡ fed os (l ∷ ls)
fed_next [] l ls = refl
fed_next (o ∷ os) l ls = ap (λ xs. heard_all (heard o l) ls ∷ xs) (fed_next os l ls)

pub fed_none : (os : List Order) → fed os [] ≡ os
fed_none [] = refl
fed_none (o ∷ os) = ap (λ xs. o ∷ xs) (fed_none os)

-- ---- a table that grows

placed_longer : (n : ℕ) (os : List Order) (places : List ℕ) (x : ℕ) → ArePlaced n os places → ArePlaced n os (places ++ x ∷ [])
placed_longer n [] places x a = tt
placed_longer n (o ∷ os) places x a =
    (let k = length_push places x in let lt = a.0 in omega (arith, k, lt), get_or_append_left places (x ∷ []) 0 o.subscriber a.0 ∙ a.1, placed_longer (suc n) os places x a.2)

placed_more : (n : ℕ) (os : List Order) (places : List ℕ) (o : Order) → ArePlaced n os places → o.subscriber < length places → get_or places o.subscriber 0 ≡ n + length os → ArePlaced n (os ++ o ∷ []) places
placed_more n [] places o a lt e = (lt, (let k = e in omega (arith, k)), tt)
placed_more n (x ∷ os) places o a lt e = (a.0, a.1, placed_more (suc n) os places o a.2 lt (omega (arith, e)))

-- one subscriber more, with a list or without one
pub placed_one : (os : List Order) (places : List ℕ) (o : Order) (s : ℕ) (c : Bool) → ArePlaced 0 os places → o.subscriber ≡ s → length places ≡ s → ArePlaced 0 (os ++ (if c then o ∷ [] else [])) (places ++ length os ∷ [])
placed_one os places o s true a e k =
    placed_more 0 os (places ++ length os ∷ []) o (placed_longer 0 os places (length os) a)
    (let l = length_push places (length os) in omega (arith, l, e, k))
    (get_or_push places (length os) 0 o.subscriber (k ∙ sym e) ∙ (let z : length os ≡ 0 + length os = omega arith in z))
placed_one os places o s false a e k = subst (λ xs. ArePlaced 0 xs (places ++ length os ∷ [])) (sym (append-nil os)) (placed_longer 0 os places (length os) a)

-- the lists of the subscribers that are left
pub one_less : (f : ℕ → Order) (test : ℕ → Bool) (found all : List Order) (i n : ℕ) → i < n → found ++ map f (filter test (numbers_from i (n - i))) ≡ all
    → (found ++ (if test i then f i ∷ [] else [])) ++ map f (filter test (numbers_from (i + 1) (n - (i + 1)))) ≡ all
one_less f test found all i n h e = go (test i) refl
  where
    rest : List ℕ
    rest = filter test (numbers_from (i + 1) (n - (i + 1)))

    all_are : found ++ map f (cond (test i) (i ∷ rest) rest) ≡ all
    all_are = sym (ap (λ xs. found ++ map f (filter test xs)) (numbers_next i n h)) ∙ e

    go : (c : Bool) → test i ≡ c → (found ++ (if c then f i ∷ [] else [])) ++ map f rest ≡ all
    go true k = append_assoc found (f i ∷ []) (map f rest) ∙ sym (ap (λ c. found ++ map f (cond c (i ∷ rest) rest)) k) ∙ all_are
    go false k = ap (λ xs. xs ++ map f rest) (append-nil found) ∙ sym (ap (λ c. found ++ map f (cond c (i ∷ rest) rest)) k) ∙ all_are

pub none_less : (f : ℕ → Order) (test : ℕ → Bool) (found all : List Order) (i n : ℕ) → n ≤ i → found ++ map f (filter test (numbers_from i (n - i))) ≡ all → found ≡ all
none_less f test found all i n h e = sym (ap (λ xs. found ++ map f (filter test xs)) (numbers_done i n h) ∙ append-nil found) ∙ e

pub all_left : (f : ℕ → Order) (test : ℕ → Bool) (n : ℕ) → map f (filter test (numbers_from 0 (n - 0))) ≡ map f (filter test (numbers_from 0 n))
all_left f test n = ap (λ xs. map f (filter test xs)) (numbers_all n)

pub added : (os os' : List Order) (places places' : List ℕ) (o : Order) (s x : ℕ) (c : Bool) → ArePlaced 0 os places → o.subscriber ≡ s → length places ≡ s → x ≡ length os → os' ≡ os ++ (if c then o ∷ [] else []) → places' ≡ places ++ x ∷ []
    → ArePlaced 0 os' places'
added os os' places places' o s x c a e k n lists table =
    subst (λ ys. ArePlaced 0 ys places') (sym lists)
    (subst (λ ps. ArePlaced 0 (os ++ (if c then o ∷ [] else [])) ps) (sym (table ∙ ap (λ y. places ++ y ∷ []) n)) (placed_one os places o s c a e k))

pub few_more : (os os' : List Order) (o : Order) (s : ℕ) (c : Bool) → os' ≡ os ++ (if c then o ∷ [] else []) → length os ≤ s → length os' ≤ s + 1
few_more os os' o s true e h = let k = ap length e in let l = length_push os o in omega (arith, k, l, h)
few_more os os' o s false e h = let k = ap length e in let l = ap length (append-nil os) in omega (arith, k, l, h)
