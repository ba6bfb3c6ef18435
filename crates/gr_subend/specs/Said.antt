-- Events by tick
use Rattle.std.specs.Prelude.{ℕ, ◌<◌, nat_eq, if◌then◌else◌, List, [], ◌∷◌, Option, Some, None}
use Rattle.gr_event.specs.declared.event.Event.{Event}
use Rattle.gr_know.specs.declared.values.K.{K}
use Rattle.gr_know.specs.declared.values.K.TheVariants.{D}

-- the event said at a tick
abbrev pub said_at : List (ℕ × Event) → ℕ → Option Event
said_at [] t = None
said_at (x ∷ xs) t = if nat_eq x.0 t then Some x.1 else said_at xs t

-- the ticks rise strictly from above a number on
abbrev pub TicksRise : ℕ → List (ℕ × Event) → Type 0
TicksRise from [] = Unit {0}
TicksRise from (x ∷ xs) = (from < x.0) × TicksRise x.0 xs

-- the event that a value has, if it has one
abbrev pub event_of : K → Option Event
event_of (D e) = Some e
event_of _ = None
