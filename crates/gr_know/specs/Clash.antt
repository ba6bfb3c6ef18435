-- The least tick at which what is kept and what came clash
use Rattle.std.specs.Prelude.{◌≡◌, ℕ, ◌<◌, ◌≤◌, true, false}
use Rattle.gr_tick.specs.declared.run.Run.{Run}
use Rattle.gr_tick.specs.Runs.{is_in}
use Rattle.gr_know.specs.declared.values.K.{K}
use Rattle.gr_know.specs.Values.{clash_K}

-- the least tick at which kept and came clash
pub record IsLeastClash (kept came : ℕ → K) (tick : ℕ) (here there : K) : Type 0 where
  pub from_one : 1 ≤ tick
  pub kept_is : here ≡ kept tick
  pub came_is : there ≡ came tick
  pub clash : clash_K (kept tick) (came tick) ≡ true
  pub least : (t : ℕ) → 1 ≤ t → t < tick → clash_K (kept t) (came t) ≡ false

-- the least tick of a run at which what is kept clashes with the run's value
pub record IsLeastClashIn (kept : ℕ → K) (run : Run K) (tick : ℕ) (here there : K) : Type 0 where
  pub inside : is_in tick run ≡ true
  pub kept_is : here ≡ kept tick
  pub came_is : there ≡ run.value
  pub clash : clash_K (kept tick) run.value ≡ true
  pub least : (t : ℕ) → is_in t run ≡ true → t < tick → clash_K (kept t) run.value ≡ false
