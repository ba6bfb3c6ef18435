-- There is room for each late subscriber to join: one that joins is no longer among those that have not joined.
use Rattle.std.proofs.Common.{◌≡◌, ◌≢◌, ℕ, ◌+◌, ◌^◌, ◌≤◌, ◌<◌, suc, Bool, true, false, ◌==◌, nat_eq, nat_lt, nat_le, ◌||◌, List, [], ◌∷◌, ◌++◌, length, refl, ap, sym, ◌∙◌, subst, arith, append-nil, append_assoc, if◌then◌else◌, eq-eqb, lt-ltb, le-leb}
use Rattle.std.specs.Prelude.{not}
use Rattle.std.specs.List.{filter, list_any}
use Rattle.std.proofs.lemmas.List.{length_push}
use Rattle.std.proofs.lemmas.Bool.{and_parts, and_from, or_right, or_parts, or_from, eqb-true, eqb-false, ne_eqb, ltb-true, leb-true}
use Rattle.gr_event.specs.declared.limits.TheConstants.{MAX_JOINS, MAX_JOIN_TICK}
use Rattle.gr_event.specs.declared.join.Join.{Join}
use Rattle.gr_event.specs.Joins.{Joins, has_joined, JoinOnce, last_tick_from, last_join_tick, may_join}
use Rattle.gr_event.proofs.Joining.{joins_with}
use Rattle.gr_publog.specs.declared.record.Entry.{Entry}
use Rattle.gr_publog.specs.declared.record.Record.{Record}
use Rattle.gr_publog.specs.declared.record.Record.TheVariants.{Event, Mark, Cut, Join as JoinAt}
use Rattle.gr_publog.specs.State.{Footing, is_new, may_settle, may_enter, may_note, noted, joins_after, IsSound, EventsUpto, ApartFrom, Apart, JoinsUpto, AreLate, AreHeld, max_tick}
use Rattle.gr_publog.specs.Text.{may_begin}

-- ---- who has joined, with one join more

or_none : (b : Bool) → (b || false) ≡ b
or_none true = refl
or_none false = refl

or_group : (a b c : Bool) → (a || (b || c)) ≡ ((a || b) || c)
or_group true b c = refl
or_group false b c = refl

joined_more : (js : Joins) (j : Join) (x : ℕ) → has_joined (js ++ j ∷ []) x ≡ (has_joined js x || nat_eq j.subscriber x)
joined_more [] j x = or_none (nat_eq j.subscriber x)
joined_more (k ∷ js) j x = ap (λ b. nat_eq k.subscriber x || b) (joined_more js j x) ∙ or_group (nat_eq k.subscriber x) (has_joined js x) (nat_eq j.subscriber x)

not_first : (a b : Bool) → not (a || b) ≡ true → not a ≡ true
not_first true b h = h
not_first false b h = refl

-- who has not joined then had not joined before
had_not : (js : Joins) (j : Join) (x : ℕ) → not (has_joined (js ++ j ∷ []) x) ≡ true → not (has_joined js x) ≡ true
had_not js j x h = not_first (has_joined js x) (nat_eq j.subscriber x) (ap not (sym (joined_more js j x)) ∙ h)

has_now : (js : Joins) (j : Join) → not (has_joined (js ++ j ∷ []) j.subscriber) ≡ false
has_now js j = ap not (joined_more js j j.subscriber ∙ or_right (has_joined js j.subscriber) (nat_eq j.subscriber j.subscriber) (eq-eqb j.subscriber j.subscriber refl))

-- ---- how many pass a test, and a narrower one

step : (x k : ℕ) (ys zs : List ℕ) (a b : Bool) → (b ≡ true → a ≡ true) → k + length ys ≤ length zs → k + length (if b then x ∷ ys else ys) ≤ length (if a then x ∷ zs else zs)
step x k ys zs true true h less = omega (arith, less)
step x k ys zs true false h less = omega (arith, less)
step x k ys zs false true h less = absurd (cc (h refl))
step x k ys zs false false h less = less

module _ (p q : ℕ → Bool) (narrows : (x : ℕ) → q x ≡ true → p x ≡ true) where
  no_more : (xs : List ℕ) → 0 + length (filter q xs) ≤ length (filter p xs)
  no_more [] = omega arith
  no_more (x ∷ xs) = step x 0 (filter q xs) (filter p xs) (p x) (q x) (narrows x) (no_more xs)

  here : (x : ℕ) (ys zs : List ℕ) (a b : Bool) → a ≡ true → b ≡ false → length ys ≤ length zs → 1 + length (if b then x ∷ ys else ys) ≤ length (if a then x ∷ zs else zs)
  here x ys zs true false h k less = omega (arith, less)
  here x ys zs true true h k less = absurd (cc k)
  here x ys zs false b h k less = absurd (cc h)

  -- where one stands among them that passes the first alone
  one_fewer : (s : ℕ) (xs : List ℕ) → p s ≡ true → q s ≡ false → list_any (λ x. nat_eq x s) xs ≡ true → 1 + length (filter q xs) ≤ length (filter p xs)
  one_fewer s [] passes fails among = absurd (cc among)
  one_fewer s (x ∷ xs) passes fails among = by_test (λ k. one_fewer s xs passes fails k) (nat_eq x s) refl among
    where
      by_test : (list_any (λ y. nat_eq y s) xs ≡ true → 1 + length (filter q xs) ≤ length (filter p xs)) → (b : Bool) → nat_eq x s ≡ b → (b || list_any (λ y. nat_eq y s) xs) ≡ true
          → 1 + length (filter q (x ∷ xs)) ≤ length (filter p (x ∷ xs))
      by_test others true e k =
          let is : x ≡ s = eqb-true x s e in
          let fewer : length (filter q xs) ≤ length (filter p xs) = omega (arith, no_more xs) in
          here x (filter q xs) (filter p xs) (p x) (q x) (ap p is ∙ passes) (ap q is ∙ fails) fewer
      by_test others false e k = step x 1 (filter q xs) (filter p xs) (p x) (q x) (narrows x) (others k)

-- ---- room

-- there is room for each late subscriber to join: with those that have not joined there are no more joins than late ones
record HasRoom (late : List ℕ) (js : Joins) : Type 0 where
  few : length late ≤ MAX_JOINS
  room : length js + length (filter (λ x. not (has_joined js x)) late) ≤ length late

-- a subscriber that joins is one fewer of those that have not joined
entered : (late : List ℕ) (js : Joins) (j : Join) → is_new late js j.subscriber ≡ true
    → 1 + length (filter (λ y. not (has_joined (js ++ j ∷ []) y)) late) ≤ length (filter (λ y. not (has_joined js y)) late)
entered late js j ok =
    let enters = and_parts (list_any (λ y. nat_eq y j.subscriber) late) (not (has_joined js j.subscriber)) ok in
    one_fewer (λ y. not (has_joined js y)) (λ y. not (has_joined (js ++ j ∷ []) y)) (had_not js j) j.subscriber late enters.1 (has_now js j) enters.0

-- before the first join
room_first : (late : List ℕ) → length late ≤ MAX_JOINS → HasRoom late []
room_first late few = record { few = few; room = omega (arith, every late) }
  where
    every : (xs : List ℕ) → length (filter (λ x. not (has_joined [] x)) xs) ≡ length xs
    every [] = refl
    every (x ∷ xs) = ap suc (every xs)

-- after one more
room_more : (late : List ℕ) (js : Joins) (j : Join) → HasRoom late js → is_new late js j.subscriber ≡ true → HasRoom late (js ++ j ∷ [])
room_more late js j h ok = record { few = h.few; room = omega (arith, h.room, entered late js j ok, length_push js j) }

-- ---- no subscriber twice

front_joined : (xs ys : Joins) (x : ℕ) → has_joined (xs ++ ys) x ≡ false → has_joined xs x ≡ false
front_joined [] ys x e = refl
front_joined (k ∷ xs) ys x e =
    let parts = or_parts (nat_eq k.subscriber x) (has_joined (xs ++ ys) x) e in
    or_from (nat_eq k.subscriber x) (has_joined xs x) parts.0 (front_joined xs ys x parts.1)

pub once_front : (xs ys : Joins) → JoinOnce (xs ++ ys) → JoinOnce xs
once_front [] ys o = tt
once_front (x ∷ xs) ys o = (front_joined xs ys x.subscriber o.0, once_front xs ys o.1)

turned : (a b : ℕ) → nat_eq a b ≡ false → nat_eq b a ≡ false
turned a b h = ne_eqb b a (λ e. eqb-false a b h (sym e))

behind_not : (xs : Joins) (j : Join) (ys : Joins) (x : ℕ) → has_joined (xs ++ j ∷ ys) x ≡ false → nat_eq j.subscriber x ≡ false
behind_not [] j ys x e = (or_parts (nat_eq j.subscriber x) (has_joined ys x) e).0
behind_not (k ∷ xs) j ys x e = behind_not xs j ys x (or_parts (nat_eq k.subscriber x) (has_joined (xs ++ j ∷ ys) x) e).1

-- who joins behind some has not joined in them
pub once_behind : (xs : Joins) (j : Join) (ys : Joins) → JoinOnce (xs ++ j ∷ ys) → has_joined xs j.subscriber ≡ false
once_behind [] j ys o = refl
once_behind (x ∷ xs) j ys o =
    or_from (nat_eq x.subscriber j.subscriber) (has_joined xs j.subscriber) (turned j.subscriber x.subscriber (behind_not xs j ys x.subscriber o.0)) (once_behind xs j ys o.1)

-- ---- so there is room

room_on : (late : List ℕ) (xs ys : Joins) → HasRoom late xs → JoinOnce (xs ++ ys) → AreLate late ys → HasRoom late (xs ++ ys)
room_on late xs [] h o a = subst (HasRoom late) (sym (append-nil xs)) h
room_on late xs (j ∷ ys) h o a =
    let fresh : is_new late xs j.subscriber ≡ true = and_from (list_any (λ x. nat_eq x j.subscriber) late) (not (has_joined xs j.subscriber)) a.0 (ap not (once_behind xs j ys o)) in
    subst (HasRoom late) (append_assoc xs (j ∷ []) ys) (room_on late (xs ++ j ∷ []) ys (room_more late xs j h fresh) (subst JoinOnce (sym (append_assoc xs (j ∷ []) ys)) o) a.1)

-- where no late subscriber has joined twice
room_of : (late : List ℕ) (js : Joins) → length late ≤ MAX_JOINS → JoinOnce js → AreLate late js → HasRoom late js
room_of late js few once known = room_on late [] js (room_first late few) once known

-- ---- ticks

pub upto_up : (top t : ℕ) (js : Joins) → top ≤ t → JoinsUpto top js → JoinsUpto t js
upto_up top t [] l u = tt
upto_up top t (j ∷ js) l u = (omega (arith, l, u.0), upto_up top t js l u.1)

pub upto_more : (t : ℕ) (js : Joins) (j : Join) → JoinsUpto t js → j.tick ≤ t → JoinsUpto t (js ++ j ∷ [])
upto_more t [] j u l = (l, tt)
upto_more t (x ∷ js) j u l = (u.0, upto_more t js j u.1 l)

pub last_push : (n : ℕ) (js : Joins) (j : Join) → last_tick_from n (js ++ j ∷ []) ≡ j.tick
last_push n [] j = refl
last_push n (k ∷ js) j = last_push k.tick js j

pub last_upto : (top t : ℕ) (js : Joins) → t ≤ top → JoinsUpto top js → last_tick_from t js ≤ top
last_upto top t [] l u = l
last_upto top t (j ∷ js) l u = last_upto top j.tick js u.0 u.1

-- a join of a subscriber that may enter may stand behind the others, where its tick is past theirs
stands_by : (late : List ℕ) (js : Joins) (j : Join) → length late ≤ MAX_JOINS → JoinOnce js → AreLate late js → is_new late js j.subscriber ≡ true → last_join_tick js < j.tick → j.tick ≤ MAX_JOIN_TICK → may_join js j ≡ true
stands_by late js j few once known ok past upto =
    let h = room_of late js few once known in
    let enters = and_parts (list_any (λ y. nat_eq y j.subscriber) late) (not (has_joined js j.subscriber)) ok in
    let room : nat_lt (length js) MAX_JOINS ≡ true = lt-ltb (length js) MAX_JOINS (omega (arith, h.few, h.room, entered late js j ok)) in
    and_from _ _ (and_from _ _ (and_from _ _ room enters.1) (lt-ltb (last_join_tick js) j.tick past)) (le-leb j.tick MAX_JOIN_TICK upto)

pub may_stand : (late : List ℕ) (js : Joins) (j : Join) (top : ℕ) → AreHeld late js top → is_new late js j.subscriber ≡ true → top < j.tick → j.tick ≤ MAX_JOIN_TICK → may_join js j ≡ true
may_stand late js j top h ok past upto = stands_by late js j h.few h.joins.once h.known ok (omega (arith, past, last_upto top 0 js (omega arith) h.upto)) upto

-- the same of one in front of the first record
pub may_stand_first : (late : List ℕ) (js : Joins) (j : Join) (cut : ℕ) → AreHeld late js cut → is_new late js j.subscriber ≡ true → may_begin js cut j.tick ≡ true → cut ≤ max_tick → may_join js j ≡ true
may_stand_first late js j cut h ok begins most =
    let parts = and_parts (nat_lt (last_join_tick js) j.tick) (nat_le j.tick cut) begins in
    stands_by late js j h.few h.joins.once h.known ok (ltb-true (last_join_tick js) j.tick parts.0) (omega (arith, leb-true j.tick cut parts.1, most))

pub begins_upto : (js : Joins) (cut t : ℕ) → may_begin js cut t ≡ true → t ≤ cut
begins_upto js cut t begins = leb-true t cut (and_parts (nat_lt (last_join_tick js) t) (nat_le t cut) begins).1

-- ---- all that holds of joins

late_more : (late : List ℕ) (js : Joins) (j : Join) → AreLate late js → list_any (λ x. nat_eq x j.subscriber) late ≡ true → AreLate late (js ++ j ∷ [])
late_more late [] j a e = (e, tt)
late_more late (x ∷ js) j a e = (a.0, late_more late js j a.1 e)

pub held_first : (late : List ℕ) (top : ℕ) → length late ≤ MAX_JOINS → AreHeld late [] top
held_first late top few = record { joins = record { few = omega arith; rise = tt; once = tt }; upto = tt; known = tt; few = few }

pub held_up : (late : List ℕ) (js : Joins) (top t : ℕ) → top ≤ t → AreHeld late js top → AreHeld late js t
held_up late js top t l h = record { joins = h.joins; upto = upto_up top t js l h.upto; known = h.known; few = h.few }

pub held_more : (late : List ℕ) (js : Joins) (j : Join) (top t : ℕ) → AreHeld late js top → is_new late js j.subscriber ≡ true → may_join js j ≡ true → j.subscriber < 2 ^ 16 → top ≤ t → j.tick ≤ t
    → AreHeld late (js ++ j ∷ []) t
held_more late js j top t h ok may small up upto = record {
  joins = joins_with js j h.joins may small;
  upto = upto_more t js j (upto_up top t js up h.upto) upto;
  known = late_more late js j h.known (and_parts (list_any (λ y. nat_eq y j.subscriber) late) (not (has_joined js j.subscriber)) ok).0;
  few = h.few;
}

-- ---- with one more record

settles : (f : Footing) (t : ℕ) → may_settle f.state t ≡ true → (f.state.settled < t) × (t ≤ max_tick)
settles f t h = let k = and_parts (nat_lt f.state.settled t) (nat_le t max_tick) h in (ltb-true f.state.settled t k.0, leb-true t max_tick k.1)

-- a Join that may follow may stand behind the joins
pub may_with : (f : Footing) (t x : ℕ) → AreHeld f.late f.joins f.state.settled → may_note f (JoinAt t x) ≡ true → may_join f.joins (record { subscriber = x; tick = t }) ≡ true
may_with f t x h ok =
    let parts = and_parts (may_settle f.state t) (may_enter f x) ok in
    let s = settles f t parts.0 in
    may_stand f.late f.joins (record { subscriber = x; tick = t }) f.state.settled h parts.1 s.0 s.1

pub held_note : (f : Footing) (r : Record) → AreHeld f.late f.joins f.state.settled → may_note f r ≡ true → IsSound r → AreHeld f.late (joins_after f.joins r) (noted f.state r).settled
held_note f (Event t n e) h ok sound = held_up f.late f.joins f.state.settled t (omega (arith, (settles f t (and_parts (may_settle f.state t) (n == f.state.last + 1) ok).0).0)) h
held_note f (Mark t) h ok sound = held_up f.late f.joins f.state.settled t (omega (arith, (settles f t ok).0)) h
held_note f (Cut t) h ok sound = h
held_note f (JoinAt t x) h ok sound =
    let parts = and_parts (may_settle f.state t) (may_enter f x) ok in
    held_more f.late f.joins (record { subscriber = x; tick = t }) f.state.settled t h parts.1 (may_with f t x h ok) sound (omega (arith, (settles f t parts.0).0)) (omega arith)

-- ---- no join has the tick of an event

-- a tick past all joins, and a join past all events
apart_past : (top t : ℕ) (js : Joins) → JoinsUpto top js → top < t → ApartFrom t js
apart_past top t [] u l = tt
apart_past top t (j ∷ js) u l = ((λ e. omega (arith, e, u.0, l)), apart_past top t js u.1 l)

apart_more : (es : List Entry) (e : Entry) (js : Joins) → Apart es js → ApartFrom e.tick js → Apart (es ++ e ∷ []) js
apart_more [] e js a h = (h, tt)
apart_more (x ∷ es) e js a h = (a.0, apart_more es e js a.1 h)

pub apart_event : (es : List Entry) (e : Entry) (js : Joins) (top : ℕ) → Apart es js → JoinsUpto top js → top < e.tick → Apart (es ++ e ∷ []) js
apart_event es e js top a u l = apart_more es e js a (apart_past top e.tick js u l)

from_more : (t : ℕ) (js : Joins) (j : Join) → ApartFrom t js → j.tick ≢ t → ApartFrom t (js ++ j ∷ [])
from_more t [] j a h = (h, tt)
from_more t (x ∷ js) j a h = (a.0, from_more t js j a.1 h)

pub apart_join : (top : ℕ) (es : List Entry) (js : Joins) (j : Join) → Apart es js → EventsUpto top es → top < j.tick → Apart es (js ++ j ∷ [])
apart_join top [] js j a u h = tt
apart_join top (e ∷ es) js j a u h = (from_more e.tick js j a.0 (λ x. omega (arith, x, u.0, h)), apart_join top es js j a.1 u.1 h)

pub left_apart : (t : ℕ) (es : List Entry) (js : Joins) → Apart es js → Apart (filter (λ e. nat_lt t e.tick) es) js
left_apart t [] js a = tt
left_apart t (e ∷ es) js a = go (nat_lt t e.tick) (left_apart t es js a.1)
  where
    go : (b : Bool) → Apart (filter (λ x. nat_lt t x.tick) es) js → Apart (if b then e ∷ filter (λ x. nat_lt t x.tick) es else filter (λ x. nat_lt t x.tick) es) js
    go true x = (a.0, x)
    go false x = x
