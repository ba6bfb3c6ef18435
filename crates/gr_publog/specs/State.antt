-- What a log holds: the last number, the ticks settled and cut, the events past the cut, and the joins
use Rattle.std.specs.Prelude.{◌≡◌, ◌≢◌, ℕ, ◌+◌, ◌-◌, ◌^◌, ◌<◌, ◌≤◌, Bool, true, false, not, ◌&&◌, ◌==◌, nat_eq, nat_lt, nat_le}
use Rattle.std.specs.Prelude.{List, [], ◌∷◌, ◌++◌, filter, length}
use Rattle.std.specs.List.{AllByRecursion, list_any}
use Rattle.gr_event.specs.declared.limits.TheConstants.{MAX_JOINS}
use Rattle.gr_event.specs.Joins.{Joins, has_joined, AreJoins}
use Rattle.gr_event.specs.Limits.{IsEvent}
use Rattle.gr_publog.specs.declared.record.Record.{Record}
use Rattle.gr_publog.specs.declared.record.Record.TheVariants.{Event, Mark, Cut, Join}
use Rattle.gr_publog.specs.declared.record.Entry.{Entry}
use Rattle.gr_publog.specs.declared.record.State.{State}
use Rattle.gr_publog.specs.declared.record.TheConstants.{MAX_TICK}

-- the last tick
abbrev pub max_tick : ℕ
max_tick = MAX_TICK

-- What a log holds.
pub record LogState : Type 0 where
  -- the number of the last event, the greatest tick of an Event, a Mark or a Join, and the tick of the last Cut; 0
  -- where there was none
  pub last : ℕ
  pub settled : ℕ
  pub cut : ℕ
  -- the events past the cut, by rising tick
  pub events : List Entry
  -- all joins, by rising tick, and the subscribers that may join
  pub joins : Joins
  pub late : List ℕ

-- Where a log stands but for its events: its numbers, its joins, and the subscribers that may join.
pub record Footing : Type 0 where
  pub state : State
  pub joins : Joins
  pub late : List ℕ

-- before the first record
abbrev pub no_numbers : State
no_numbers = record { last = 0; settled = 0; cut = 0 }

abbrev pub empty_state : List ℕ → LogState
empty_state late = record { last = 0; settled = 0; cut = 0; events = []; joins = []; late = late }

-- where it stands but for its events, and that with events
abbrev pub numbers : LogState → State
numbers s = record { last = s.last; settled = s.settled; cut = s.cut }

abbrev pub footing : LogState → Footing
footing s = record { state = numbers s; joins = s.joins; late = s.late }

abbrev pub held_by : Footing → List Entry → LogState
held_by f events = record {
  last = f.state.last;
  settled = f.state.settled;
  cut = f.state.cut;
  events = events;
  joins = f.joins;
  late = f.late;
}

-- the numbers after one more record
abbrev pub noted : State → Record → State
noted n (Event tick number event) = record { last = number; settled = tick; cut = n.cut }
noted n (Mark tick) = record { last = n.last; settled = tick; cut = n.cut }
noted n (Cut tick) = record { last = n.last; settled = n.settled; cut = tick }
noted n (Join tick subscriber) = record { last = n.last; settled = tick; cut = n.cut }

-- the joins after one more record
abbrev pub joins_after : Joins → Record → Joins
joins_after js (Event tick number event) = js
joins_after js (Mark tick) = js
joins_after js (Cut tick) = js
joins_after js (Join tick subscriber) = js ++ record { subscriber = subscriber; tick = tick } ∷ []

-- so both
abbrev pub stands_after : Footing → Record → Footing
stands_after f r = record { state = noted f.state r; joins = joins_after f.joins r; late = f.late }

-- the events past the cut after one more record
abbrev pub live_after : List Entry → Record → List Entry
live_after es (Event tick number event) = es ++ record { tick = tick; number = number; event = event } ∷ []
live_after es (Mark tick) = es
live_after es (Cut tick) = filter (λ e. nat_lt tick e.tick) es
live_after es (Join tick subscriber) = es

-- after one more record
abbrev pub after_record : LogState → Record → LogState
after_record s r = held_by (stands_after (footing s) r) (live_after s.events r)

-- after records, the first one first
abbrev pub state_from : LogState → List Record → LogState
state_from s [] = s
state_from s (r ∷ rs) = state_from (after_record s r) rs

-- the tick of an Event, a Mark or a Join
abbrev pub may_settle : State → ℕ → Bool
may_settle n tick = nat_lt n.settled tick && nat_le tick max_tick

-- the tick of a Cut
abbrev pub may_cut : State → ℕ → Bool
may_cut n tick = nat_lt n.cut tick && nat_le tick n.settled

-- the subscriber is among these, and has not joined
abbrev pub is_new : List ℕ → Joins → ℕ → Bool
is_new late js subscriber = list_any (λ x. nat_eq x subscriber) late && not (has_joined js subscriber)

abbrev pub may_enter : Footing → ℕ → Bool
may_enter f subscriber = is_new f.late f.joins subscriber

-- a record may follow where the log stands so
abbrev pub may_note : Footing → Record → Bool
may_note f (Event tick number event) = may_settle f.state tick && (number == f.state.last + 1)
may_note f (Mark tick) = may_settle f.state tick
may_note f (Cut tick) = may_cut f.state tick
may_note f (Join tick subscriber) = may_settle f.state tick && may_enter f subscriber

abbrev pub may_follow : LogState → Record → Bool
may_follow s r = may_note (footing s) r

-- the number of an Event has 64 bits, and its event is one; the subscriber of a Join has 16 bits
abbrev pub IsSound : Record → Type 0
IsSound (Event tick number event) = (number < 2 ^ 64) × IsEvent event
IsSound (Mark tick) = Unit {0}
IsSound (Cut tick) = Unit {0}
IsSound (Join tick subscriber) = subscriber < 2 ^ 16

-- each record may follow those before it
abbrev pub Follow : LogState → List Record → Type 0
Follow s [] = Unit {0}
Follow s (r ∷ rs) = (may_follow s r ≡ true) × IsSound r × Follow (after_record s r) rs

-- What holds of each state

-- ticks rise from above a tick on, and numbers by one from a number on
abbrev pub EventsRise : ℕ → ℕ → List Entry → Type 0
EventsRise tick number [] = Unit {0}
EventsRise tick number (e ∷ es) = (tick < e.tick) × ((e.number ≡ number + 1) × EventsRise e.tick e.number es)

-- no tick is past this one
abbrev pub EventsUpto : ℕ → List Entry → Type 0
EventsUpto top [] = Unit {0}
EventsUpto top (e ∷ es) = (e.tick ≤ top) × EventsUpto top es

-- no join has this tick, and none has that of an event
abbrev pub ApartFrom : ℕ → Joins → Type 0
ApartFrom tick [] = Unit {0}
ApartFrom tick (j ∷ js) = (j.tick ≢ tick) × ApartFrom tick js

abbrev pub Apart : List Entry → Joins → Type 0
Apart [] js = Unit {0}
Apart (e ∷ es) js = ApartFrom e.tick js × Apart es js

-- no join is past this tick
abbrev pub JoinsUpto : ℕ → Joins → Type 0
JoinsUpto top [] = Unit {0}
JoinsUpto top (j ∷ js) = (j.tick ≤ top) × JoinsUpto top js

-- each join is of one of these subscribers
abbrev pub AreLate : List ℕ → Joins → Type 0
AreLate late [] = Unit {0}
AreLate late (j ∷ js) = (list_any (λ x. nat_eq x j.subscriber) late ≡ true) × AreLate late js

-- What holds of the joins of a log: their order, and whose they are. There is always room for each late subscriber.
pub record AreHeld (late : List ℕ) (js : Joins) (top : ℕ) : Type 0 where
  pub joins : AreJoins js
  pub upto : JoinsUpto top js
  pub known : AreLate late js
  pub few : length late ≤ MAX_JOINS

-- What holds of what a log holds: the empty state is one, and each record that may follow leaves one.
pub record IsState (s : LogState) : Type 0 where
  -- the live events are the last ones, with ticks from above the cut up to what is settled
  pub rise : EventsRise s.cut (s.last - length s.events) s.events
  pub count : length s.events ≤ s.last
  pub upto : EventsUpto s.settled s.events
  pub cut : s.cut ≤ s.settled
  pub settled : s.settled ≤ max_tick
  -- no more events were cut than there are ticks up to the cut
  pub low : s.last ≤ s.cut + length s.events
  pub events : AllByRecursion (λ e. IsEvent e.event) s.events
  -- no join has the tick of an event
  pub apart : Apart s.events s.joins
  pub held : AreHeld s.late s.joins s.settled

-- The laws

abbrev pub BeginsAsState : Type 0
BeginsAsState = (late : List ℕ) → length late ≤ MAX_JOINS → IsState (empty_state late)

abbrev pub StaysState : Type 0
StaysState = (s : LogState) (r : Record) → IsState s → may_follow s r ≡ true → IsSound r → IsState (after_record s r)

-- the ticks of entries rise strictly from above a tick on
abbrev pub EntriesRise : ℕ → List Entry → Type 0
EntriesRise from [] = Unit {0}
EntriesRise from (e ∷ es) = (from < e.tick) × EntriesRise e.tick es

-- whether the first of some entries is at or before a tick
abbrev pub first_upto : ℕ → List Entry → Bool
first_upto tick [] = false
first_upto tick (e ∷ es) = nat_le e.tick tick
