-- What a publisher's log says: its numbers, its events and joins, the size of its text, and its knowledge
use Rattle.std.specs.Prelude.{◌≡◌, ℕ, suc, ◌+◌, ◌≤◌, ◌<◌, ◌&&◌, max, nat_eq, nat_le, nat_lt, Bool, true, false}
use Rattle.std.specs.Prelude.{if◌then◌else◌, List, [], ◌∷◌, ◌++◌, map, filter}
use Rattle.gr_event.specs.declared.event.Event.{Event}
use Rattle.gr_event.specs.Event.{event_size}
use Rattle.gr_event.specs.Joins.{Joins, last_join_tick}
use Rattle.gr_know.specs.declared.values.K.{K}
use Rattle.gr_know.specs.declared.values.K.TheVariants.{Q, S, D, F}
use Rattle.gr_know.specs.Values.{Known, knowns}
use Rattle.gr_publog.specs.declared.record.Record.{Record}
use Rattle.gr_publog.specs.declared.record.Record.TheVariants as entry
use Rattle.gr_publog.specs.declared.record.Entry.{Entry}
use Rattle.gr_publog.specs.State.{max_tick}
pub use Rattle.gr_publog.specs.Filled.{joins_room}
use Rattle.gr_publog.specs.Views.{LogView}

-- What a publisher's log holds.
pub record Log : Type 0 where
  pub last : ℕ
  pub settled : ℕ
  pub cut : ℕ
  pub events : List (ℕ × Event)  -- by rising tick: all that were logged, or, where it forgets, those past the cut
  pub joins : Joins  -- of late subscribers, by rising tick
  pub generation : ℕ  -- of the present lane
  pub size : ℕ  -- of the present lane's text, with its closed gate
  pub forgets : Bool  -- a cut drops the events that it lets go

-- a log in which nothing was logged, and which forgets or not
abbrev pub fresh_log : Bool → Log
fresh_log forgets = record {
  last = 0;
  settled = 0;
  cut = 0;
  events = [];
  joins = [];
  generation = 1;
  size = 33;
  forgets = forgets;
}

abbrev pub empty_log : Log
empty_log = fresh_log false

-- the events past a tick
abbrev pub past : ℕ → List (ℕ × Event) → List (ℕ × Event)
past tick events = filter (λ x. nat_lt tick x.0) events

-- the log with a further event; with a mark; with a cut; with a join
abbrev pub with_event : Log → ℕ → Event → Log
with_event log tick e = record {
  last = suc log.last;
  settled = tick;
  cut = log.cut;
  events = log.events ++ (tick, e) ∷ [];
  joins = log.joins;
  generation = log.generation;
  size = log.size + 22 + event_size e;
  forgets = log.forgets;
}

abbrev pub with_mark : Log → ℕ → Log
with_mark log tick = record {
  last = log.last;
  settled = tick;
  cut = log.cut;
  events = log.events;
  joins = log.joins;
  generation = log.generation;
  size = log.size + 10;
  forgets = log.forgets;
}

abbrev pub with_cut : Log → ℕ → Log
with_cut log tick = record {
  last = log.last;
  settled = log.settled;
  cut = tick;
  events = if log.forgets then past tick log.events else log.events;
  joins = log.joins;
  generation = log.generation;
  size = log.size + 10;
  forgets = log.forgets;
}

abbrev pub with_join : Log → ℕ → ℕ → Log
with_join log tick s = record {
  last = log.last;
  settled = tick;
  cut = log.cut;
  events = log.events;
  joins = log.joins ++ record { subscriber = s; tick = tick } ∷ [];
  generation = log.generation;
  size = log.size + 12;
  forgets = log.forgets;
}

-- the log with a further record
abbrev pub with_entry : Log → Record → Log
with_entry log (entry.Event tick number e) = with_event log tick e
with_entry log (entry.Mark tick) = with_mark log tick
with_entry log (entry.Cut tick) = with_cut log tick
with_entry log (entry.Join tick s) = with_join log tick s

-- Where a cut reclaims

-- a cut writes the log anew where its text has so many bytes before it, and a generation is left
abbrev pub reclaims : ℕ → ℕ → ℕ → Bool
reclaims reclaim size generation = nat_le reclaim size && nat_lt generation max_tick

-- how many bytes events have as records, each with its gate
abbrev pub events_room : List (ℕ × Event) → ℕ
events_room [] = 0
events_room (x ∷ xs) = 22 + event_size x.1 + events_room xs

-- the tick of the last event, or a cut where there is none; and the greatest tick of a cut, events past it and joins
abbrev pub last_event : ℕ → List (ℕ × Event) → ℕ
last_event cut [] = cut
last_event cut (x ∷ xs) = last_event x.0 xs

abbrev pub greatest_tick : ℕ → List (ℕ × Event) → Joins → ℕ
greatest_tick cut events joins = max (last_event cut events) (last_join_tick joins)

-- how long the text of a lane is that is filled so, with its closed gate: by the cut, what is settled, the events past
-- the cut, and all joins
unfoldable pub size_filled : ℕ → ℕ → List (ℕ × Event) → Joins → ℕ
size_filled cut settled events joins = 33 + events_room events + joins_room cut joins
    + (if nat_lt (greatest_tick cut events joins) settled then 10 else 0)

-- the log in a lane that is filled with it
abbrev pub filled_log : Log → Log
filled_log log = record {
  last = log.last;
  settled = log.settled;
  cut = log.cut;
  events = log.events;
  joins = log.joins;
  generation = suc log.generation;
  size = size_filled log.cut log.settled (past log.cut log.events) log.joins;
  forgets = log.forgets;
}

-- the log cut at a tick, by a record or by writing it anew
abbrev pub cut_log_at : ℕ → Log → ℕ → Log
cut_log_at reclaim log tick =
    if reclaims reclaim log.size log.generation then filled_log (with_cut log tick) else with_cut log tick

-- What is kept in lanes

-- entries as pairs of a tick and an event
abbrev pub pairs : List Entry → List (ℕ × Event)
pairs es = map (λ e. (e.tick, e.event)) es

-- what is said of a log that is kept in two lanes
abbrev pub said : LogView → Log
said l = record {
  last = l.state.last;
  settled = l.state.settled;
  cut = l.state.cut;
  events = pairs l.state.events;
  joins = l.state.joins;
  generation = l.generation;
  size = l.size;
  forgets = true;
}

-- What is known by a log

-- the event at a tick, else silence
abbrev pub event_at : List (ℕ × Event) → ℕ → K
event_at [] t = S
event_at (x ∷ xs) t = if nat_eq x.0 t then D x.1 else event_at xs t

-- what a log says of a tick
abbrev pub log_at : Log → ℕ → K
log_at log t = if nat_le 1 t && nat_le t log.settled then (if nat_le t log.cut then F else event_at log.events t) else Q

-- where the events may change the value
abbrev pub event_points : List (ℕ × Event) → List ℕ
event_points [] = []
event_points (x ∷ xs) = x.0 ∷ (suc x.0 ∷ event_points xs)

-- the log as knowledge
unfoldable pub log_know : Log → Known
log_know log = knowns (log_at log) (1 ∷ (suc log.cut ∷ (suc log.settled ∷ event_points log.events)))

-- silence on a range, on top of the rest
unfoldable pub silence : ℕ → ℕ → Known → Known
silence first last rest = if nat_le first last then record { first = first; last = last; value = S } ∷ rest else rest

-- A log has no event past what is settled, and no cut past that.
pub record Stays (log : Log) : Type 0 where
  pub within : log.cut ≤ log.settled
  pub upto : log.settled ≤ max_tick
  pub none_past : (t : ℕ) → log.settled < t → event_at log.events t ≡ S
