-- What a log holds is in order before the first record, and after each that may follow
use Rattle.std.proofs.Common.{◌≡◌, ℕ, ◌+◌, ◌-◌, ◌≤◌, ◌<◌, Bool, true, false, nat_lt, nat_le, ◌==◌, ◌&&◌, if◌then◌else◌, List, [], ◌∷◌, ◌++◌, length, filter, refl, sym, ap, subst, arith, length-append}
use Rattle.std.proofs.lemmas.Bool.{ltb-true, ltb-false, leb-true, eqb-true}
use Rattle.std.specs.List.{AllByRecursion}
use Rattle.gr_event.specs.Limits.{IsEvent}
use Rattle.gr_publog.specs.declared.record.Record.{Record}
use Rattle.gr_publog.specs.declared.record.Record.TheVariants.{Event, Mark, Cut, Join as JoinAt}
use Rattle.gr_publog.specs.declared.record.Entry.{Entry}
use Rattle.gr_publog.specs.declared.record.Base.{Base}
use Rattle.gr_publog.specs.State.{LogState, empty_state, footing, after_record, may_follow, may_enter, IsSound, EventsRise, EventsUpto, IsState, EntriesRise, max_tick}
use Rattle.gr_event.specs.declared.limits.TheConstants.{MAX_JOINS}
use Rattle.gr_event.specs.declared.join.Join.{Join}
use Rattle.gr_publog.specs.Text.{IsBase, begun}
use Rattle.gr_publog.proofs.Entering.{may_stand, held_first, held_up, held_more, apart_event, apart_join, left_apart}

and_first : (x y : Bool) → (x && y) ≡ true → x ≡ true
and_first true y e = refl
and_first false y e = e

and_second : (x y : Bool) → (x && y) ≡ true → y ≡ true
and_second true y e = e
and_second false y e = absurd (cc e)

-- further events
events_more : (tick n top : ℕ) (es : List Entry) (e : Entry) → tick ≤ top → EventsRise tick n es → EventsUpto top es → top < e.tick → e.number ≡ n + length es + 1 → EventsRise tick n (es ++ e ∷ [])
events_more tick n top [] e l r u h m = (omega (arith, l, h), (omega (arith, m), tt))
events_more tick n top (x ∷ es) e l r u h m = (r.0, (r.1.0, events_more x.tick x.number top es e u.0 r.1.1 u.1 h (omega (arith, m, r.1.0))))

events_up : (top t : ℕ) (es : List Entry) → top ≤ t → EventsUpto top es → EventsUpto t es
events_up top t [] l u = tt
events_up top t (e ∷ es) l u = (omega (arith, l, u.0), events_up top t es l u.1)

events_up_more : (t : ℕ) (es : List Entry) (e : Entry) → EventsUpto t es → e.tick ≤ t → EventsUpto t (es ++ e ∷ [])
events_up_more t [] e u l = (l, tt)
events_up_more t (x ∷ es) e u l = (u.0, events_up_more t es e u.1 l)

abbrev AreEvents : List Entry → Type 0
AreEvents es = AllByRecursion (λ (e : Entry). IsEvent e.event) es

sound_more : (es : List Entry) (e : Entry) → AreEvents es → IsEvent e.event → AreEvents (es ++ e ∷ [])
sound_more [] e a i = (i, tt)
sound_more (x ∷ es) e a i = (a.0, sound_more es e a.1 i)

-- What a cut leaves

abbrev left : ℕ → List Entry → List Entry
left t es = filter (λ e. nat_lt t e.tick) es

all_left : (t tick n : ℕ) (es : List Entry) → t ≤ tick → EventsRise tick n es → left t es ≡ es
all_left t tick n [] l r = refl
all_left t tick n (e ∷ es) l r = go (nat_lt t e.tick) refl (all_left t e.tick e.number es (omega (arith, l, r.0)) r.1.1)
  where
    go : (b : Bool) → nat_lt t e.tick ≡ b → left t es ≡ es → (if b then e ∷ left t es else left t es) ≡ e ∷ es
    go true x y = ap (λ (k : List Entry). e ∷ k) y
    go false x y = absurd (omega (arith, l, r.0, ltb-false t e.tick x))

left_fewer : (t : ℕ) (es : List Entry) → length (left t es) ≤ length es
left_fewer t [] = omega arith
left_fewer t (e ∷ es) = go (nat_lt t e.tick) (left_fewer t es)
  where
    go : (b : Bool) → length (left t es) ≤ length es → length (if b then e ∷ left t es else left t es) ≤ length (e ∷ es)
    go true l = omega (arith, l)
    go false l = omega (arith, l)

left_rise : (t tick n : ℕ) (es : List Entry) → tick ≤ t → EventsRise tick n es → EventsRise t (n + length es - length (left t es)) (left t es)
left_rise t tick n [] l r = tt
left_rise t tick n (e ∷ es) l r = go (nat_lt t e.tick) refl (λ m. left_rise t e.tick e.number es m r.1.1) (λ m. all_left t e.tick e.number es m r.1.1)
  where
    go : (b : Bool) → nat_lt t e.tick ≡ b → (e.tick ≤ t → EventsRise t (e.number + length es - length (left t es)) (left t es)) → (t ≤ e.tick → left t es ≡ es)
        → (let k : List Entry = if b then e ∷ left t es else left t es in EventsRise t (n + length (e ∷ es) - length k) k)
    go true x f g =
        let same : left t es ≡ es = g (omega (arith, ltb-true t e.tick x)) in
        let count : length (left t es) ≡ length es = ap length same in
        (ltb-true t e.tick x, (omega (arith, r.1.0, count), subst (λ (k : List Entry). EventsRise e.tick e.number k) (sym same) r.1.1))
    go false x f g =
        let m : e.number + length es - length (left t es) ≡ n + length (e ∷ es) - length (left t es) = omega (arith, r.1.0) in
        subst (λ (k : ℕ). EventsRise t k (left t es)) m (f (omega (arith, ltb-false t e.tick x)))

left_low : (t tick n : ℕ) (es : List Entry) → tick ≤ t → EventsRise tick n es → tick + length es ≤ t + length (left t es)
left_low t tick n [] l r = omega (arith, l)
left_low t tick n (e ∷ es) l r = go (nat_lt t e.tick) refl (λ m. left_low t e.tick e.number es m r.1.1) (λ m. all_left t e.tick e.number es m r.1.1)
  where
    go : (b : Bool) → nat_lt t e.tick ≡ b → (e.tick ≤ t → e.tick + length es ≤ t + length (left t es)) → (t ≤ e.tick → left t es ≡ es)
        → tick + length (e ∷ es) ≤ t + length (if b then e ∷ left t es else left t es)
    go true x f g =
        let count : length (left t es) ≡ length es = ap length (g (omega (arith, ltb-true t e.tick x))) in
        omega (arith, l, count)
    go false x f g = let m = f (omega (arith, ltb-false t e.tick x)) in omega (arith, m, r.0)

left_upto : (t top : ℕ) (es : List Entry) → EventsUpto top es → EventsUpto top (left t es)
left_upto t top [] u = tt
left_upto t top (e ∷ es) u = go (nat_lt t e.tick) (left_upto t top es u.1)
  where
    go : (b : Bool) → EventsUpto top (left t es) → EventsUpto top (if b then e ∷ left t es else left t es)
    go true x = (u.0, x)
    go false x = x

left_sound : (t : ℕ) (es : List Entry) → AreEvents es → AreEvents (left t es)
left_sound t [] a = tt
left_sound t (e ∷ es) a = go (nat_lt t e.tick) (left_sound t es a.1)
  where
    go : (b : Bool) → AreEvents (left t es) → AreEvents (if b then e ∷ left t es else left t es)
    go true x = (a.0, x)
    go false x = x

settled_past : (s t : ℕ) → (nat_lt s t && nat_le t max_tick) ≡ true → s < t
settled_past s t e = ltb-true s t (and_first (nat_lt s t) (nat_le t max_tick) e)

settled_in : (s t : ℕ) → (nat_lt s t && nat_le t max_tick) ≡ true → t ≤ max_tick
settled_in s t e = leb-true t max_tick (and_second (nat_lt s t) (nat_le t max_tick) e)

pub kept : (s : LogState) (r : Record) → IsState s → may_follow s r ≡ true → IsSound r → IsState (after_record s r)
kept s (Event t n x) i h sound =
    let both = and_first (nat_lt s.settled t && nat_le t max_tick) (n == s.last + 1) h in
    let past = settled_past s.settled t both in
    let next : n ≡ s.last + 1 = eqb-true n (s.last + 1) (and_second (nat_lt s.settled t && nat_le t max_tick) (n == s.last + 1) h) in
    let e : Entry = record { tick = t; number = n; event = x } in
    let count : length (s.events ++ e ∷ []) ≡ length s.events + 1 = length-append s.events (e ∷ []) in
    record {
      rise = subst (λ (k : ℕ). EventsRise s.cut k (s.events ++ e ∷ [])) (omega (arith, count, next, i.count)) (events_more s.cut (s.last - length s.events) s.settled s.events e i.cut i.rise i.upto past (omega (arith, next, i.count)));
      count = omega (arith, count, next, i.count);
      upto = events_up_more t s.events e (events_up s.settled t s.events (omega (arith, past)) i.upto) (omega arith);
      cut = omega (arith, past, i.cut);
      settled = settled_in s.settled t both;
      low = omega (arith, count, next, i.low);
      events = sound_more s.events e i.events sound.1;
      apart = apart_event s.events e s.joins s.settled i.apart i.held.upto past;
      held = held_up s.late s.joins s.settled t (omega (arith, past)) i.held;
    }
kept s (Mark t) i h sound =
    let past = settled_past s.settled t h in
    record {
      rise = i.rise;
      count = i.count;
      upto = events_up s.settled t s.events (omega (arith, past)) i.upto;
      cut = omega (arith, past, i.cut);
      settled = settled_in s.settled t h;
      low = i.low;
      events = i.events;
      apart = i.apart;
      held = held_up s.late s.joins s.settled t (omega (arith, past)) i.held;
    }
kept s (Cut t) i h sound =
    let past : s.cut < t = ltb-true s.cut t (and_first (nat_lt s.cut t) (nat_le t s.settled) h) in
    let upto : t ≤ s.settled = leb-true t s.settled (and_second (nat_lt s.cut t) (nat_le t s.settled) h) in
    let fewer = left_fewer t s.events in
    let less = left_low t s.cut (s.last - length s.events) s.events (omega (arith, past)) i.rise in
    record {
      rise = subst (λ (k : ℕ). EventsRise t k (left t s.events)) (omega (arith, i.count)) (left_rise t s.cut (s.last - length s.events) s.events (omega (arith, past)) i.rise);
      count = omega (arith, fewer, i.count);
      upto = left_upto t s.settled s.events i.upto;
      cut = upto;
      settled = i.settled;
      low = omega (arith, less, i.low);
      events = left_sound t s.events i.events;
      apart = left_apart t s.events s.joins i.apart;
      held = i.held;
    }
kept s (JoinAt t x) i h sound =
    let j : Join = record { subscriber = x; tick = t } in
    let both = and_first (nat_lt s.settled t && nat_le t max_tick) (may_enter (footing s) x) h in
    let enters = and_second (nat_lt s.settled t && nat_le t max_tick) (may_enter (footing s) x) h in
    let past = settled_past s.settled t both in
    let may = may_stand s.late s.joins j s.settled i.held enters past (settled_in s.settled t both) in
    record {
      rise = i.rise;
      count = i.count;
      upto = events_up s.settled t s.events (omega (arith, past)) i.upto;
      cut = omega (arith, past, i.cut);
      settled = settled_in s.settled t both;
      low = i.low;
      events = i.events;
      apart = apart_join s.settled s.events s.joins j i.apart i.upto past;
      held = held_more s.late s.joins j s.settled t i.held enters may sound (omega (arith, past)) (omega arith);
    }

pub begins : (late : List ℕ) → length late ≤ MAX_JOINS → IsState (empty_state late)
begins late few = record {
  rise = tt;
  count = omega arith;
  upto = tt;
  cut = omega arith;
  settled = omega arith;
  low = omega arith;
  events = tt;
  apart = tt;
  held = held_first late 0 few;
}

-- so it is before the first record of a lane
pub begun_is : (late : List ℕ) (b : Base) → IsBase late b → IsState (begun late b)
begun_is late b i = record {
  rise = tt;
  count = omega arith;
  upto = tt;
  cut = omega arith;
  settled = i.cut;
  low = omega (arith, i.last);
  events = tt;
  apart = tt;
  held = i.held;
}

-- the ticks of what is held rise
pub rise_from : (tick n : ℕ) (es : List Entry) → EventsRise tick n es → EntriesRise tick es
rise_from tick n [] r = tt
rise_from tick n (e ∷ es) r = (r.0, rise_from e.tick e.number es r.1.1)

lower : (from : ℕ) (es : List Entry) → EntriesRise from es → EntriesRise 0 es
lower from [] r = tt
lower from (e ∷ es) r = (omega (arith, r.0), r.1)

pub entries_rise : (s : LogState) → IsState s → EntriesRise 0 s.events
entries_rise s i = lower s.cut s.events (rise_from s.cut (s.last - length s.events) s.events i.rise)
