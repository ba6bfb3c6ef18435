-- What a lane is filled with: what stands for a state
use Rattle.std.specs.Prelude.{◌≡◌, ℕ, ◌+◌, ◌-◌, ◌*◌, ◌≤◌, max, nat_le, nat_lt, if◌then◌else◌, List, [], ◌∷◌, ◌++◌, filter}
use Rattle.std.specs.Prelude.{length}
use Rattle.gr_event.specs.Event.{event_size}
use Rattle.gr_publog.specs.declared.record.Record.{Record}
use Rattle.gr_event.specs.Joins.{Joins, last_join_tick}
use Rattle.gr_publog.specs.declared.record.Record.TheVariants.{Event, Mark, Join}
use Rattle.gr_publog.specs.declared.record.Entry.{Entry}
use Rattle.gr_publog.specs.declared.record.Base.{Base}
use Rattle.gr_publog.specs.State.{LogState, state_from, IsState, max_tick}
use Rattle.gr_publog.specs.Text.{record_size, blocks, base_bytes, begun, IsText}
use Rattle.gr_publog.specs.Rewrite.{filled}

-- joins up to a tick, and those past it; those below one, and those from it on
abbrev pub joins_upto : ℕ → Joins → Joins
joins_upto tick js = filter (λ j. nat_le j.tick tick) js

abbrev pub joins_past : ℕ → Joins → Joins
joins_past tick js = filter (λ j. nat_lt tick j.tick) js

abbrev pub joins_below : ℕ → Joins → Joins
joins_below tick js = filter (λ j. nat_lt j.tick tick) js

abbrev pub joins_from : ℕ → Joins → Joins
joins_from tick js = filter (λ j. nat_le tick j.tick) js

-- with what it begins: no event and no join past the cut is before the first record
abbrev pub base_of : LogState → ℕ → Base
base_of s generation = record {
  generation = generation;
  last = s.last - length s.events;
  cut = s.cut;
  joins = joins_upto s.cut s.joins;
}

abbrev pub logged : Entry → Record
logged e = Event e.tick e.number e.event

-- joins as records
abbrev pub joined : Joins → List Record
joined [] = []
joined (j ∷ js) = Join j.tick j.subscriber ∷ joined js

-- events and joins as records, by their ticks: before each event the joins below it
abbrev pub in_order : List Entry → Joins → List Record
in_order [] js = joined js
in_order (e ∷ es) js = joined (joins_below e.tick js) ++ logged e ∷ in_order es (joins_past e.tick js)

-- the greatest tick of a cut and the events past it; and of all joins
abbrev pub last_event : ℕ → List Entry → ℕ
last_event tick [] = tick
last_event tick (e ∷ es) = last_event e.tick es

abbrev pub greatest_tick : ℕ → List Entry → Joins → ℕ
greatest_tick cut events joins = max (last_event cut events) (last_join_tick joins)

-- a Mark, where more is settled
abbrev pub marked : ℕ → ℕ → List Record
marked top settled = if nat_lt top settled then Mark settled ∷ [] else []

abbrev pub records_of : LogState → List Record
records_of s = in_order s.events (joins_past s.cut s.joins) ++ marked (greatest_tick s.cut s.events s.joins) s.settled

-- the bytes from place 6 on: the base, the records, and a closed gate
unfoldable pub body_of : LogState → ℕ → List ℕ
body_of s generation = base_bytes (base_of s generation) ++ (blocks (records_of s) ++ 0 ∷ [])

-- How long the text is, with its closed gate

abbrev pub blocks_size : List Record → ℕ
blocks_size [] = 0
blocks_size (r ∷ rs) = 1 + record_size r + blocks_size rs

abbrev pub filled_size : LogState → ℕ
filled_size s = 33 + 10 * length (joins_upto s.cut s.joins) + blocks_size (records_of s)

-- by cut, settled, events and joins alone
abbrev pub events_room : List Entry → ℕ
events_room [] = 0
events_room (e ∷ es) = 22 + event_size e.event + events_room es

abbrev pub joins_room : ℕ → Joins → ℕ
joins_room cut [] = 0
joins_room cut (j ∷ js) = (if nat_le j.tick cut then 10 else 12) + joins_room cut js

abbrev pub size_filled : ℕ → ℕ → List Entry → Joins → ℕ
size_filled cut settled events joins = 33 + events_room events + joins_room cut joins
    + (if nat_lt (greatest_tick cut events joins) settled then 10 else 0)

-- The laws

-- what a lane is filled with stands for the state, whatever stood there before
pub record StandsFor : Type 0 where
  pub text : (s : LogState) (g : ℕ) (before : List ℕ) → IsState s → 1 ≤ g → g ≤ max_tick
      → IsText s.late (filled (body_of s g) before) (base_of s g) (records_of s)
  pub state : (s : LogState) (g : ℕ) → IsState s → state_from (begun s.late (base_of s g)) (records_of s) ≡ s
  pub size : (s : LogState) (g : ℕ) → 6 + length (body_of s g) ≡ filled_size s
  pub same_size : (s : LogState) → IsState s → filled_size s ≡ size_filled s.cut s.settled s.events s.joins
