-- Forgetting: the least data ticks lowered to unknown, until few enough are left
use Rattle.std.specs.Prelude.{◌≡◌, ℕ, suc, ◌+◌, ◌-◌, ◌<◌, ◌≤◌, min, true, false, ◌&&◌, nat_le, nat_lt, if◌then◌else◌}
use Rattle.std.specs.Prelude.{[], ◌∷◌}
use Rattle.gr_tick.specs.declared.run.Run.{Run}
use Rattle.gr_know.specs.declared.values.K.{K}
use Rattle.gr_know.specs.declared.values.K.TheVariants.{Q}
use Rattle.gr_know.specs.Values.{Known, known_at, is_D}

-- how many ticks of a run have an event
abbrev pub data_of : Run K → ℕ
data_of r = if is_D r.value then suc r.last - r.first else 0

-- how many ticks have an event
abbrev pub data_count : Known → ℕ
data_count [] = 0
data_count (r ∷ rs) = data_of r + data_count rs

-- no tick below this one has an event
abbrev pub NoDataBelow : ℕ → Known → Type 0
NoDataBelow n know = (t : ℕ) → t < n → is_D (known_at know t) ≡ false

-- a run without its first n ticks
abbrev pub without_front : ℕ → Run K → Known → Known
without_front n r rs = if nat_lt r.last (r.first + n) then rs
    else record { first = r.first + n; last = r.last; value = r.value } ∷ rs

-- the least n data ticks up to a tick lowered
unfoldable pub lower_data : ℕ → ℕ → Known → Known
lower_data n upto [] = []
lower_data n upto (r ∷ rs) =
    elim (is_D r.value && nat_le r.first upto) [
      | true ↦ let k = min n (suc (min r.last upto) - r.first) in without_front k r (lower_data (n - k) upto rs)
      | false ↦ r ∷ lower_data n upto rs
    ]

-- the least data ticks up to a tick lowered, until no more than the limit are left
unfoldable pub forgotten : ℕ → ℕ → Known → Known
forgotten limit upto know = lower_data (data_count know - limit) upto know

-- Forgetting tick by tick: ticks with an event are unknown again, the least ones first, and all else is as it was.
pub record Forgets (limit upto : ℕ) (know kept : Known) : Type 0 where
  -- the last tick that is lowered, or 0
  pub last : ℕ
  pub within : last ≤ upto
  pub each : (t : ℕ) → known_at kept t ≡ (if is_D (known_at know t) && nat_le t last then Q else known_at know t)
  -- no more are lowered than are too many: where fewer than the limit are left, none was
  pub needed : data_count kept < limit → kept ≡ know
  -- and as many as are too many: where more than the limit are left, none up to `upto` is
  pub enough : limit < data_count kept → (t : ℕ) → t ≤ upto → is_D (known_at kept t) ≡ false
