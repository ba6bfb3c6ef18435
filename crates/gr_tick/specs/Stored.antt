-- Lists of runs whose ticks are in range, and what their changes need
use Rattle.std.specs.Prelude.{◌≡◌, ◌≢◌, ℕ, ◌+◌, ◌<◌, ◌≤◌, ◌==◌, Bool, false, not, ◌&&◌, ◌||◌, nat_le, nat_lt, cond}
use Rattle.std.specs.Prelude.{List, [], ◌∷◌}
use Rattle.std.specs.List.{count_by}
use Rattle.gr_tick.specs.declared.TheConstants.{MAX_TICK}
use Rattle.gr_tick.specs.declared.run.Run.{Run}
use Rattle.gr_tick.specs.declared.steady.Steady.{Steady}
use Rattle.gr_tick.specs.Runs.{is_in, value_at, AreRuns}

-- whether a tick lies in a range
abbrev pub within : ℕ → ℕ → ℕ → Bool
within first last t = nat_le first t && nat_le t last

-- whether a tick lies from the first one on and before the other
abbrev pub between : ℕ → ℕ → ℕ → Bool
between first after t = nat_le first t && nat_lt t after

module _ {V : Type 0} where
  -- whether a run has a tick of the range
  abbrev pub touches : ℕ → ℕ → Run V → Bool
  touches first last r = nat_le r.first last && nat_le first r.last

  -- how many runs have a tick of the range
  abbrev pub runs_in : ℕ → ℕ → List (Run V) → ℕ
  runs_in first last rs = count_by (touches first last) rs

  -- a run of its own
  pub record IsRun (least : V) (r : Run V) : Type 0 where
    pub from_one : 1 ≤ r.first
    pub ordered : r.first ≤ r.last
    pub upto : r.last ≤ MAX_TICK
    pub known : r.value ≢ least

  -- one run and a later one, which do not form one run
  pub record Follows (p r : Run V) : Type 0 where
    pub later : p.last < r.first
    pub apart : p.last + 1 ≡ r.first → p.value ≢ r.value

  -- what comes after a run follows it
  abbrev pub FollowedBy : Run V → List (Run V) → Type 0
  FollowedBy r [] = Unit {0}
  FollowedBy r (s ∷ ss) = Follows r s

  -- rising, disjoint, maximal runs of ticks in range, none of the least value
  abbrev pub AreTickRuns : V → List (Run V) → Type 0
  AreTickRuns least [] = Unit {0}
  AreTickRuns least (r ∷ rs) = IsRun least r × FollowedBy r rs × AreTickRuns least rs

  -- each run ends before the tick
  abbrev pub EndBefore : List (Run V) → ℕ → Type 0
  EndBefore [] t = Unit {0}
  EndBefore (r ∷ rs) t = (r.last < t) × EndBefore rs t

  -- canonical runs of ticks in range, with a function's value at each tick
  pub record RunsGive (least : V) (rs : List (Run V)) (g : ℕ → V) : Type 0 where
    pub canonical : AreRuns least rs
    pub in_range : EndBefore rs (MAX_TICK + 1)
    pub values : (t : ℕ) → value_at least rs t ≡ g t

  -- the value at a tick, and the greatest tick up to which it stays
  pub record StaysUntil (least : V) (rs : List (Run V)) (tick : ℕ) (s : Steady V) : Type 0 where
    pub value : s.value ≡ value_at least rs tick
    pub forward : tick ≤ s.last
    pub inside : s.last ≤ MAX_TICK
    pub steady : (t : ℕ) → tick ≤ t → t ≤ s.last → value_at least rs t ≡ value_at least rs tick
    pub greatest : s.last < MAX_TICK → value_at least rs (s.last + 1) ≢ value_at least rs tick

  -- each run begins by the tick
  abbrev pub BeginBy : List (Run V) → ℕ → Type 0
  BeginBy [] t = Unit {0}
  BeginBy (r ∷ rs) t = (r.first ≤ t) × BeginBy rs t

  -- each run begins after the tick
  abbrev pub BeginAfter : List (Run V) → ℕ → Type 0
  BeginAfter [] t = Unit {0}
  BeginAfter (r ∷ rs) t = (t < r.first) × BeginAfter rs t

  -- whether a join from `at` to `last` may need room for the run: it has a tick of the range, and does not begin at its
  -- start
  abbrev pub needs_room : ℕ → ℕ → Run V → Bool
  needs_room at last r = touches at last r && not (r.first == at)

  -- how many runs may need room
  abbrev pub room : ℕ → ℕ → List (Run V) → ℕ
  room at last rs = count_by (needs_room at last) rs

  -- how many runs more a join from `at` to `last` may leave
  abbrev pub growth : ℕ → ℕ → List (Run V) → ℕ
  growth at last rs = cond (nat_le at last) (1 + room at last rs) 0

  -- the run of a range, or none where the range is empty
  abbrev pub part : ℕ → ℕ → V → List (Run V)
  part first last v = cond (nat_le first last) (record { first = first; last = last; value = v } ∷ []) []

  -- whether a tick is in one of the runs
  abbrev pub is_told : List (Run V) → ℕ → Bool
  is_told [] t = false
  is_told (r ∷ rs) t = is_in t r || is_told rs t

  -- the room that is enough to join each run of a list
  abbrev pub needed : List (Run V) → List (Run V) → ℕ
  needed rs [] = 0
  needed rs (o ∷ os) = (runs_in o.first o.last rs + 1) + needed rs os
