-- The horizon of a broker's subscribers, and the data ticks that it passes
use Rattle.std.specs.Prelude.{◌≡◌, ℕ, zero, suc, ◌+◌, ◌-◌, ◌<◌, min, max, Bool, if◌then◌else◌}
use Rattle.std.specs.Prelude.{List, [], ◌∷◌, map, flat_map}
use Rattle.gr_event.specs.declared.event.Event.{Event}
use Rattle.gr_tick.specs.declared.run.Run.{Run}
use Rattle.gr_tick.specs.Runs.{first_bottom_from}
use Rattle.gr_tick.specs.Stored.{EndBefore}
use Rattle.gr_know.specs.declared.values.K.{K}
use Rattle.gr_know.specs.declared.values.K.TheVariants.{D}
use Rattle.gr_know.specs.Values.{Known}

-- a kept horizon moves to just before the next unknown tick
unfoldable pub horizon_after : Bool → ℕ → Known → ℕ
horizon_after keeps h know = if keeps then first_bottom_from know (suc h) - 1 else h

-- the runs of a piece begin past one tick, and each ends by another
pub record LiesWithin (past upto : ℕ) (piece : Known) : Type 0 where
  pub begins : (r : Run K) (rs : Known) → piece ≡ r ∷ rs → past < r.first
  pub ends : EndBefore piece (upto + 1)

-- so many numbers in a row, from the first on
abbrev pub numbers_from : ℕ → ℕ → List ℕ
numbers_from n zero = []
numbers_from n (suc k) = n ∷ numbers_from (suc n) k

-- the data ticks of a run from lo + 1 to hi
abbrev pub data_of_run : ℕ → ℕ → Run K → List (ℕ × Event)
data_of_run lo hi r =
    elim r.value [
      | D e ↦ map (λ t. (t, e)) (numbers_from (max (suc lo) r.first) (suc (min r.last hi) - max (suc lo) r.first))
      | _ ↦ []
    ]

-- the data ticks from lo + 1 to hi
unfoldable pub data_ticks : ℕ → ℕ → Known → List (ℕ × Event)
data_ticks lo hi know = flat_map (data_of_run lo hi) know
