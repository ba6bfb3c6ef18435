-- How many ticks have an event, tick by tick
use Rattle.std.specs.Prelude.{◌≡◌, ◌≤◌, ℕ, zero, suc, ◌+◌, ◌-◌, min, max, if◌then◌else◌, [], ◌∷◌}
use Rattle.gr_tick.specs.declared.run.Run.{Run}
use Rattle.gr_know.specs.declared.values.K.{K}
use Rattle.gr_tick.specs.Runs.{AreRunsFrom}
use Rattle.gr_know.specs.declared.values.K.TheVariants.{Q}
use Rattle.gr_know.specs.Values.{Known, known_at, is_D}

-- how many of so many ticks, from the first on, have an event
unfoldable pub events_from : (ℕ → K) → ℕ → ℕ → ℕ
events_from at first zero = 0
events_from at first (suc n) = (if is_D (at first) then 1 else 0) + events_from at (suc first) n

-- how many ticks of the runs of a piece have an event
abbrev pub events_at : (ℕ → K) → Known → ℕ
events_at at [] = 0
events_at at (r ∷ rs) = events_from at r.first (suc r.last - r.first) + events_at at rs

-- how many ticks of a range a run has with an event
abbrev pub events_shared : Run K → ℕ → ℕ → ℕ
events_shared r first last = if is_D r.value then suc (min last r.last) - max first r.first else 0

-- the runs of a piece begin past all that is known
pub record IsPast (know piece : Known) : Type 0 where
  pub first : ℕ
  pub runs : AreRunsFrom Q first piece
  pub unknown : (t : ℕ) → first ≤ t → known_at know t ≡ Q
