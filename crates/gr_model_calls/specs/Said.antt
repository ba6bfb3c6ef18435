-- Logged events by tick
use Rattle.std.specs.Prelude.{ℕ, ◌&&◌, nat_le, nat_lt, List, filter}
use Rattle.gr_event.specs.declared.event.Event.{Event}
use Rattle.gr_model.specs.Net.{Net}
pub use Rattle.gr_subend.specs.Said.{said_at, TicksRise}

-- the events that a subscriber is to have up to a tick, and from past one tick up to another
abbrev pub due_upto : Net → ℕ → ℕ → ℕ → List (ℕ × Event) → List (ℕ × Event)
due_upto net p s n events = filter (λ x. nat_le x.0 n && net.wants p s x.0 x.1) events

abbrev pub due_between : Net → ℕ → ℕ → ℕ → ℕ → List (ℕ × Event) → List (ℕ × Event)
due_between net p s lo hi events = filter (λ x. (nat_lt lo x.0 && nat_le x.0 hi) && net.wants p s x.0 x.1) events
