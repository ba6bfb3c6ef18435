-- What an event is kept as: its form in bytes, and how the pairs lie in it
use Rattle.std.specs.Prelude.{◌≡◌, ℕ, List, [], ◌++◌, Result, Ok, Err}
use Rattle.std.specs.List.{AllByRecursion}
use Rattle.gr_event.specs.declared.value.Value.{Value}
use Rattle.gr_event.specs.declared.event.Event.{Event}
use Rattle.gr_event.specs.declared.event.EventFault.{EventFault}
use Rattle.gr_event.specs.Event.{value_bytes, pairs_bytes, event_bytes}
use Rattle.gr_event.specs.Limits.{IsValue, IsPair, IsEvent}
use Rattle.gr_event.specs.Decode.{event_decoded}

abbrev pub read_or_none : Result Event EventFault → Event
read_or_none (Ok e) = e
read_or_none (Err f) = []

-- the event that bytes spell, if they spell one
unfoldable pub event_of : List ℕ → Event
event_of bytes = read_or_none (event_decoded bytes)

-- the bytes are those of an event
pub record AreOfEvent (bytes : List ℕ) : Type 0 where
  pub event : IsEvent (event_of bytes)
  pub spelled : bytes ≡ event_bytes (event_of bytes)

-- the bytes are those of pairs
pub record Spell (bytes : List ℕ) (ps : Event) : Type 0 where
  pub each : AllByRecursion IsPair ps
  pub spelled : bytes ≡ pairs_bytes ps

-- the bytes begin with those of a value
pub record Begin (bytes : List ℕ) (v : Value) (more : List ℕ) : Type 0 where
  pub value : IsValue v
  pub spelled : bytes ≡ value_bytes v ++ more

-- what was read tells whether the pairs are those of an event: they are, or the first fault comes
abbrev pub TellsEvent : {X : Type 0} → Result X EventFault → Result Event EventFault → Type 0
TellsEvent (Ok x) read = (ps : Event) × (read ≡ Ok ps) × IsEvent ps
TellsEvent (Err e) read = read ≡ Err e
