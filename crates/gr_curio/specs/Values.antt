-- What is asked of a tick and when it was last asked: the values, and when two are the same
use Rattle.std.specs.Prelude.{ℕ, ◌+◌, Bool, true, false, ◌&&◌, nat_eq, nat_le, nat_lt, List}
use Rattle.gr_curio.specs.declared.asks.Moment.{Moment}
use Rattle.gr_curio.specs.declared.asks.Moment.TheVariants.{Never, At}
use Rattle.gr_curio.specs.declared.values.Q3.{Q3}
use Rattle.gr_curio.specs.declared.values.Q3.TheVariants.{N, C, A}
use Rattle.gr_tick.specs.declared.run.Run.{Run}
use Rattle.gr_tick.specs.Runs.{value_at, tabulate}

abbrev pub same_Q3 : Q3 → Q3 → Bool
same_Q3 N N = true
same_Q3 C C = true
same_Q3 A A = true
same_Q3 _ _ = false

-- asked
abbrev pub is_C : Q3 → Bool
is_C C = true
is_C _ = false

-- acknowledged
abbrev pub is_A : Q3 → Bool
is_A A = true
is_A _ = false

abbrev pub same_moment : Moment → Moment → Bool
same_moment Never Never = true
same_moment (At a) (At b) = nat_eq a b
same_moment _ _ = false

-- an ask is outstanding for the time of a retry, and not before it was made
abbrev pub is_outstanding : Moment → ℕ → ℕ → Bool
is_outstanding Never now retry = false
is_outstanding (At m) now retry = nat_le m now && nat_lt now (m + retry)

-- curiosity about all ticks, and the moments of the last asks, as runs
abbrev pub Wanted : Type 0
Wanted = List (Run Q3)

abbrev pub Asked : Type 0
Asked = List (Run Moment)

abbrev pub wanted_at : Wanted → ℕ → Q3
wanted_at = value_at N

abbrev pub asked_at : Asked → ℕ → Moment
asked_at = value_at Never

abbrev pub wanteds : (ℕ → Q3) → List ℕ → Wanted
wanteds = tabulate N same_Q3

abbrev pub askeds : (ℕ → Moment) → List ℕ → Asked
askeds = tabulate Never same_moment
