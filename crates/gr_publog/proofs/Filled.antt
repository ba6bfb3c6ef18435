-- What a lane is filled with stands for the state that it was filled from
use Rattle.std.proofs.Common.{◌≡◌, ℕ, ◌+◌, ◌-◌, ◌*◌, ◌≤◌, ◌<◌, max, Bool, true, false, nat_eq, nat_lt, nat_le, ◌&&◌, if◌then◌else◌, List, [], ◌∷◌, ◌++◌, length, drop, refl, sym, ap, ap₂, ◌∙◌, subst, arith, append_assoc, append-nil, length-append}
use Rattle.std.specs.Prelude.{not}
use Rattle.std.proofs.lemmas.Bool.{eq-eqb, ltb-true, ltb-false, lt-ltb, le-leb, leb-true, leb-false, and_from}
use Rattle.std.specs.Int.{to_be_bytes, w16, w64}
use Rattle.std.specs.List.{AllByRecursion, filter, list_any}
use Rattle.gr_event.specs.Joins.{Joins, has_joined, JoinsRise, JoinOnce, last_tick_from, last_join_tick}
use Rattle.gr_event.specs.Limits.{IsEvent}
use Rattle.gr_publog.specs.declared.record.Record.{Record}
use Rattle.gr_publog.specs.declared.record.Record.TheVariants.{Mark, Join as JoinAt}
use Rattle.gr_publog.specs.declared.record.Base.{Base}
use Rattle.gr_publog.specs.declared.record.Entry.{Entry}
use Rattle.gr_publog.specs.State.{LogState, after_record, state_from, is_new, Follow, EventsRise, EventsUpto, Apart, JoinsUpto, AreLate, AreHeld, IsState, max_tick}
use Rattle.gr_publog.specs.Text.{record_bytes, joins_bytes, blocks, base_bytes, begun, IsBase, IsText}
use Rattle.gr_publog.specs.Rewrite.{filled}
use Rattle.gr_publog.specs.Filled.{joins_upto, joins_past, joins_below, base_of, logged, joined, in_order, last_event, greatest_tick, marked, records_of, body_of, blocks_size, filled_size, events_room, joins_room, size_filled, StandsFor}
use Rattle.gr_publog.proofs.Reading.{length-record}
use Rattle.gr_publog.proofs.Entering.{last_upto, once_front, once_behind}
use Rattle.gr_publog.proofs.Merging.{rise_past, rise_below, rise_upto, upto_in, late_in, apart_in, up_to, upto_and_past, below_and_past, past_later, last_past, last_below}

-- a list of records after another
state_append : (s : LogState) (rs qs : List Record) → state_from s (rs ++ qs) ≡ state_from (state_from s rs) qs
state_append s [] qs = refl
state_append s (r ∷ rs) qs = state_append (after_record s r) rs qs

follow_append : (s : LogState) (rs qs : List Record) → Follow s rs → Follow (state_from s rs) qs → Follow s (rs ++ qs)
follow_append s [] qs f g = g
follow_append s (r ∷ rs) qs f g = (f.0, f.1, follow_append (after_record s r) rs qs f.2 g)

-- What the records stand for

abbrev last_number : ℕ → List Entry → ℕ
last_number n [] = n
last_number n (e ∷ es) = last_number e.number es

number_is : (tick n : ℕ) (es : List Entry) → EventsRise tick n es → last_number n es ≡ n + length es
number_is tick n [] r = omega arith
number_is tick n (e ∷ es) r = number_is e.tick e.number es r.1.1 ∙ omega (arith, r.1.0)

-- what records stand for: all events, all joins, and the greatest tick of both
abbrev top_of : ℕ → List Entry → Joins → ℕ
top_of t [] js = last_tick_from t js
top_of t (e ∷ es) js = top_of e.tick es (joins_past e.tick js)

abbrev grown : LogState → List Entry → Joins → LogState
grown s es js = record {
  last = last_number s.last es;
  settled = top_of s.settled es js;
  cut = s.cut;
  events = s.events ++ es;
  joins = s.joins ++ js;
  late = s.late;
}

-- with further joins, settled up to the last of them
abbrev with_joins : LogState → Joins → LogState
with_joins s js = record {
  last = s.last;
  settled = last_tick_from s.settled js;
  cut = s.cut;
  events = s.events;
  joins = s.joins ++ js;
  late = s.late;
}

state_joined : (s : LogState) (js : Joins) → state_from s (joined js) ≡ with_joins s js
state_joined s [] = ap (λ (l : Joins). let t : LogState = record { last = s.last; settled = s.settled; cut = s.cut; events = s.events; joins = l; late = s.late } in t) (sym (append-nil s.joins))
state_joined s (j ∷ js) =
    state_joined (after_record s (JoinAt j.tick j.subscriber)) js
    ∙ ap (λ (l : Joins). let t : LogState = record { last = s.last; settled = last_tick_from j.tick js; cut = s.cut; events = s.events; joins = l; late = s.late } in t) (append_assoc s.joins (j ∷ []) js)

state_in_order : (s : LogState) (low : ℕ) (es : List Entry) (js : Joins) → JoinsRise low js → Apart es js → state_from s (in_order es js) ≡ grown s es js
state_in_order s low [] js r a =
    state_joined s js
    ∙ ap (λ (l : List Entry). let t : LogState = record { last = s.last; settled = last_tick_from s.settled js; cut = s.cut; events = l; joins = s.joins ++ js; late = s.late } in t) (sym (append-nil s.events))
state_in_order s low (e ∷ es) js r a =
    let below : Joins = joins_below e.tick js in
    let past : Joins = joins_past e.tick js in
    state_append s (joined below) (logged e ∷ in_order es past)
    ∙ (ap (λ (t : LogState). state_from (after_record t (logged e)) (in_order es past)) (state_joined s below)
    ∙ (state_in_order (after_record (with_joins s below) (logged e)) e.tick es past (rise_past e.tick low js r) (apart_in (λ k. nat_lt e.tick k) es js a.1)
    ∙ ap₂ (λ (l : List Entry) (k : Joins). let t : LogState = record { last = last_number e.number es; settled = top_of e.tick es past; cut = s.cut; events = l; joins = k; late = s.late } in t)
    (append_assoc s.events (e ∷ []) es)
    (append_assoc s.joins below past ∙ ap (λ (l : Joins). s.joins ++ l) (below_and_past e.tick low js r a.0))))

top_is : (lo n : ℕ) (es : List Entry) (js : Joins) → EventsRise lo n es → JoinsRise 0 js → top_of lo es (joins_past lo js) ≡ max (last_event lo es) (last_join_tick js)
top_is lo n [] js r jr = last_past lo 0 js (omega arith) jr
top_is lo n (e ∷ es) js r jr = ap (top_of e.tick es) (past_later lo e.tick 0 js (omega (arith, r.0)) jr) ∙ top_is e.tick e.number es js r.1.1 jr

top_upto : (lo top : ℕ) (es : List Entry) → lo ≤ top → EventsUpto top es → last_event lo es ≤ top
top_upto lo top [] l u = l
top_upto lo top (e ∷ es) l u = top_upto e.tick top es u.0 u.1

with_mark : (s : LogState) (top n : ℕ) → s.settled ≡ top → top ≤ n → state_from s (marked top n) ≡ record { last = s.last; settled = n; cut = s.cut; events = s.events; joins = s.joins; late = s.late }
with_mark s top n is l = go (nat_lt top n) refl
  where
    go : (b : Bool) → nat_lt top n ≡ b → state_from s (if b then Mark n ∷ [] else []) ≡ record { last = s.last; settled = n; cut = s.cut; events = s.events; joins = s.joins; late = s.late }
    go true e = refl
    go false e = ap (λ (k : ℕ). let t : LogState = record { last = s.last; settled = k; cut = s.cut; events = s.events; joins = s.joins; late = s.late } in t) (omega (arith, is, l, ltb-false top n e))

module _ (s : LogState) (g : ℕ) (i : IsState s) where
  abbrev start : LogState
  start = begun s.late (base_of s g)

  abbrev top : ℕ
  top = greatest_tick s.cut s.events s.joins

  abbrev past : Joins
  past = joins_past s.cut s.joins

  rise : JoinsRise 0 s.joins
  rise = i.held.joins.rise

  upto : top ≤ s.settled
  upto = omega (arith, top_upto s.cut s.settled s.events i.cut i.upto, last_upto s.settled 0 s.joins (omega arith) i.held.upto)

  in_order_is : state_from start (in_order s.events past) ≡ grown start s.events past
  in_order_is = state_in_order start s.cut s.events past (rise_past s.cut 0 s.joins rise) (apart_in (λ k. nat_lt s.cut k) s.events s.joins i.apart)

  settled_is : top_of s.cut s.events past ≡ top
  settled_is = top_is s.cut (s.last - length s.events) s.events s.joins i.rise rise

  pub stands_for : state_from start (records_of s) ≡ s
  stands_for =
      state_append start (in_order s.events past) (marked top s.settled)
      ∙ (ap (λ (t : LogState). state_from t (marked top s.settled)) in_order_is
      ∙ (with_mark (grown start s.events past) top s.settled settled_is upto
      ∙ ap₂ (λ (n : ℕ) (js : Joins). let t : LogState = record { last = n; settled = s.settled; cut = s.cut; events = s.events; joins = js; late = s.late } in t)
      (number_is s.cut (s.last - length s.events) s.events i.rise ∙ omega (arith, i.count)) (upto_and_past s.cut 0 s.joins rise)))

-- They follow one another

settles : (s t : ℕ) → s < t → t ≤ max_tick → (nat_lt s t && nat_le t max_tick) ≡ true
settles s t l u = rw (lt-ltb s t l, le-leb t max_tick u) refl

-- What is known of joins that are to follow on a state.
record AreNext (s : LogState) (top : ℕ) (js : Joins) : Type 0 where
  rise : JoinsRise s.settled js
  upto : JoinsUpto top js
  known : AreLate s.late js
  once : JoinOnce (s.joins ++ js)

follow_joins : (s : LogState) (top : ℕ) (js : Joins) → top ≤ max_tick → AreNext s top js → Follow s (joined js)
follow_joins s top [] m n = tt
follow_joins s top (j ∷ js) m n = (
  and_from (nat_lt s.settled j.tick && nat_le j.tick max_tick) (is_new s.late s.joins j.subscriber) (settles s.settled j.tick n.rise.0 (omega (arith, m, n.upto.0)))
      (and_from (list_any (λ x. nat_eq x j.subscriber) s.late) (not (has_joined s.joins j.subscriber)) n.known.0 (ap not (once_behind s.joins j js n.once))),
  n.rise.2,
  follow_joins (after_record s (JoinAt j.tick j.subscriber)) top js m
      (record { rise = n.rise.3; upto = n.upto.1; known = n.known.1; once = subst JoinOnce (sym (append_assoc s.joins (j ∷ []) js)) n.once }),
)

follow_in_order : (s : LogState) (top : ℕ) (es : List Entry) (js : Joins) → s.last ≤ s.settled → top ≤ max_tick → EventsRise s.settled s.last es → EventsUpto top es
    → AllByRecursion (λ (e : Entry). IsEvent e.event) es → AreNext s top js → Apart es js → Follow s (in_order es js)
follow_in_order s top [] js low m r u a n x = follow_joins s top js m n
follow_in_order s top (e ∷ es) js low m r u a n x =
    let below : Joins = joins_below e.tick js in
    let past : Joins = joins_past e.tick js in
    let t : LogState = with_joins s below in
    let split : below ++ past ≡ js = below_and_past e.tick s.settled js n.rise x.0 in
    let whole : JoinOnce ((s.joins ++ below) ++ past) = subst JoinOnce (sym (append_assoc s.joins below past ∙ ap (λ (l : Joins). s.joins ++ l) split)) n.once in
    let before : t.settled < e.tick = last_below e.tick s.settled js r.0 in
    follow_append s (joined below) (logged e ∷ in_order es past)
    (follow_joins s top below m (record {
      rise = rise_below e.tick s.settled js n.rise;
      upto = upto_in (λ k. nat_lt k e.tick) top js n.upto;
      known = late_in (λ k. nat_lt k e.tick) s.late js n.known;
      once = once_front (s.joins ++ below) past whole;
    }))
    (subst (λ (y : LogState). Follow y (logged e ∷ in_order es past)) (sym (state_joined s below)) (
      rw (settles t.settled e.tick before (omega (arith, m, u.0)), eq-eqb e.number (s.last + 1) r.1.0) refl,
      (omega (arith, r.1.0, low, r.0, u.0, m), a.0),
      follow_in_order (after_record t (logged e)) top es past (omega (arith, r.1.0, low, r.0)) m r.1.1 u.1 a.1 (record {
        rise = rise_past e.tick s.settled js n.rise;
        upto = upto_in (λ k. nat_lt e.tick k) top js n.upto;
        known = late_in (λ k. nat_lt e.tick k) s.late js n.known;
        once = whole;
      }) (apart_in (λ k. nat_lt e.tick k) es js x.1),
    ))

pub follows : (s : LogState) (g : ℕ) → IsState s → Follow (begun s.late (base_of s g)) (records_of s)
follows s g i =
    let start : LogState = begun s.late (base_of s g) in
    let past : Joins = joins_past s.cut s.joins in
    let top : ℕ = greatest_tick s.cut s.events s.joins in
    follow_append start (in_order s.events past) (marked top s.settled)
    (follow_in_order start s.settled s.events past (omega (arith, i.low)) i.settled i.rise i.upto i.events (record {
      rise = rise_past s.cut 0 s.joins i.held.joins.rise;
      upto = upto_in (λ k. nat_lt s.cut k) s.settled s.joins i.held.upto;
      known = late_in (λ k. nat_lt s.cut k) s.late s.joins i.held.known;
      once = subst JoinOnce (sym (upto_and_past s.cut 0 s.joins i.held.joins.rise)) i.held.joins.once;
    }) (apart_in (λ k. nat_lt s.cut k) s.events s.joins i.apart))
    (subst (λ (t : LogState). Follow t (marked top s.settled)) (sym (in_order_is s g i)) (go (grown start s.events past) (nat_lt top s.settled) (settled_is s g i) refl))
  where
    go : (t : LogState) (b : Bool) → t.settled ≡ greatest_tick s.cut s.events s.joins → nat_lt (greatest_tick s.cut s.events s.joins) s.settled ≡ b → Follow t (if b then Mark s.settled ∷ [] else [])
    go t true is e = (settles t.settled s.settled (omega (arith, is, ltb-true (greatest_tick s.cut s.events s.joins) s.settled e)) i.settled, tt, tt)
    go t false is e = tt

-- the joins up to the cut are in order
front_few : (q : ℕ → Bool) (js : Joins) → length (filter (λ j. q j.tick) js) ≤ length js
front_few q [] = omega arith
front_few q (j ∷ js) = go (q j.tick) (front_few q js)
  where
    go : (b : Bool) → length (filter (λ k. q k.tick) js) ≤ length js → length (if b then j ∷ filter (λ k. q k.tick) js else filter (λ k. q k.tick) js) ≤ length (j ∷ js)
    go true l = omega (arith, l)
    go false l = omega (arith, l)

base_held : (s : LogState) → IsState s → AreHeld s.late (joins_upto s.cut s.joins) s.cut
base_held s i =
    let js : Joins = joins_upto s.cut s.joins in
    let split : js ++ joins_past s.cut s.joins ≡ s.joins = upto_and_past s.cut 0 s.joins i.held.joins.rise in
    record {
      joins = record {
        few = omega (arith, front_few (λ k. nat_le k s.cut) s.joins, i.held.joins.few);
        rise = rise_upto s.cut 0 s.joins i.held.joins.rise;
        once = once_front js (joins_past s.cut s.joins) (subst JoinOnce (sym split) i.held.joins.once);
      };
      upto = up_to s.cut s.joins;
      known = late_in (λ k. nat_le k s.cut) s.late s.joins i.held.known;
      few = i.held.few;
    }

pub base_is : (s : LogState) (g : ℕ) → IsState s → 1 ≤ g → g ≤ max_tick → IsBase s.late (base_of s g)
base_is s g i low high = record { low = low; high = high; last = omega (arith, i.low); cut = omega (arith, i.cut, i.settled); held = base_held s i }

pub filled_text : (s : LogState) (g : ℕ) (before : List ℕ) → IsState s → 1 ≤ g → g ≤ max_tick → IsText s.late (filled (body_of s g) before) (base_of s g) (records_of s)
unfolding body_of
filled_text s g before i low high =
    let base : List ℕ = base_bytes (base_of s g) in
    let rs : List ℕ = blocks (records_of s) in
    let behind : List ℕ = drop (6 + length (body_of s g)) before in
    let split : (base ++ (rs ++ 0 ∷ [])) ++ behind ≡ (base ++ rs) ++ 0 ∷ behind =
    append_assoc base (rs ++ 0 ∷ []) behind ∙ (ap (λ (l : List ℕ). base ++ l) (append_assoc rs (0 ∷ []) behind) ∙ sym (append_assoc base rs (0 ∷ behind))) in
    record {
      spells = record {
        text = record { gate = 0; tail = behind; closed = λ e. cc e; whole = ap (λ (l : List ℕ). 71 ∷ (76 ∷ (79 ∷ (71 ∷ (2 ∷ (1 ∷ l)))))) split };
        follow = follows s g i;
      };
      base = base_is s g i low high;
    }

-- Lengths

pub blocks_long : (rs : List Record) → length (blocks rs) ≡ blocks_size rs
blocks_long [] = refl
blocks_long (r ∷ rs) = omega (arith, length-append (record_bytes r) (blocks rs), length-record r, blocks_long rs)

pub joins_long : (js : Joins) → length (joins_bytes js) ≡ 10 * length js
joins_long [] = omega arith
joins_long (j ∷ js) =
    omega (arith, length-append (to_be_bytes w16 j.subscriber) (to_be_bytes w64 j.tick ++ joins_bytes js), length-append (to_be_bytes w64 j.tick) (joins_bytes js), joins_long js)

pub base_long : (b : Base) → length (base_bytes b) ≡ 26 + 10 * length b.joins
base_long b =
    let J : List ℕ = to_be_bytes w16 (length b.joins) in
    omega (
      arith,
      length-append (to_be_bytes w64 b.generation) (to_be_bytes w64 b.last ++ (to_be_bytes w64 b.cut ++ (J ++ joins_bytes b.joins))),
      length-append (to_be_bytes w64 b.last) (to_be_bytes w64 b.cut ++ (J ++ joins_bytes b.joins)),
      length-append (to_be_bytes w64 b.cut) (J ++ joins_bytes b.joins),
      length-append J (joins_bytes b.joins),
      joins_long b.joins,
    )

pub size_is : (s : LogState) (g : ℕ) → 6 + length (body_of s g) ≡ filled_size s
unfolding body_of
size_is s g =
    omega (arith, length-append (base_bytes (base_of s g)) (blocks (records_of s) ++ 0 ∷ []), length-append (blocks (records_of s)) (0 ∷ []), blocks_long (records_of s), base_long (base_of s g))

blocks_append : (rs qs : List Record) → blocks_size (rs ++ qs) ≡ blocks_size rs + blocks_size qs
blocks_append [] qs = omega arith
blocks_append (r ∷ rs) qs = omega (arith, blocks_append rs qs)

blocks_joined : (js : Joins) → blocks_size (joined js) ≡ 12 * length js
blocks_joined [] = omega arith
blocks_joined (j ∷ js) = omega (arith, blocks_joined js)

blocks_in_order : (low : ℕ) (es : List Entry) (js : Joins) → JoinsRise low js → Apart es js → blocks_size (in_order es js) ≡ events_room es + 12 * length js
blocks_in_order low [] js r a = omega (arith, blocks_joined js)
blocks_in_order low (e ∷ es) js r a =
    let below : Joins = joins_below e.tick js in
    let past : Joins = joins_past e.tick js in
    let one = blocks_append (joined below) (logged e ∷ in_order es past) in
    let two = blocks_joined below in
    let rest = blocks_in_order e.tick es past (rise_past e.tick low js r) (apart_in (λ k. nat_lt e.tick k) es js a.1) in
    let parts = length-append below past in
    omega (arith, one, two, rest, ap length (below_and_past e.tick low js r a.0), parts)

-- each join is up to the cut or past it
joins_parts : (cut : ℕ) (js : Joins) → joins_room cut js ≡ 10 * length (joins_upto cut js) + 12 * length (joins_past cut js)
joins_parts cut [] = omega arith
joins_parts cut (j ∷ js) = go (nat_le j.tick cut) (nat_lt cut j.tick) refl refl (joins_parts cut js)
  where
    go : (x y : Bool) → nat_le j.tick cut ≡ x → nat_lt cut j.tick ≡ y → joins_room cut js ≡ 10 * length (joins_upto cut js) + 12 * length (joins_past cut js)
        → (if x then 10 else 12) + joins_room cut js ≡ 10 * length (if x then j ∷ joins_upto cut js else joins_upto cut js) + 12 * length (if y then j ∷ joins_past cut js else joins_past cut js)
    go true true ex ey i = absurd (omega (arith, leb-true j.tick cut ex, ltb-true cut j.tick ey))
    go true false ex ey i = omega (arith, i)
    go false true ex ey i = omega (arith, i)
    go false false ex ey i = absurd (omega (arith, leb-false j.tick cut ex, ltb-false cut j.tick ey))

marked_size : (top settled : ℕ) → blocks_size (marked top settled) ≡ (if nat_lt top settled then 10 else 0)
marked_size top settled = go (nat_lt top settled)
  where
    go : (b : Bool) → blocks_size (if b then Mark settled ∷ [] else []) ≡ (if b then 10 else 0)
    go true = refl
    go false = refl

-- of rising joins, none at the tick of an event
pub same_size_of : (s : LogState) → JoinsRise 0 s.joins → Apart s.events s.joins → filled_size s ≡ size_filled s.cut s.settled s.events s.joins
same_size_of s rise apart =
    let top : ℕ = greatest_tick s.cut s.events s.joins in
    let past : Joins = joins_past s.cut s.joins in
    omega (
      arith,
      blocks_append (in_order s.events past) (marked top s.settled),
      blocks_in_order s.cut s.events past (rise_past s.cut 0 s.joins rise) (apart_in (λ k. nat_lt s.cut k) s.events s.joins apart),
      joins_parts s.cut s.joins,
      marked_size top s.settled,
    )

pub same_size : (s : LogState) → IsState s → filled_size s ≡ size_filled s.cut s.settled s.events s.joins
same_size s i = same_size_of s i.held.joins.rise i.apart

pub stands_for_all : StandsFor
stands_for_all = record { text = filled_text; state = stands_for; size = size_is; same_size = same_size }
