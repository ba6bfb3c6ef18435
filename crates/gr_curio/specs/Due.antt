-- What is due, and what an ask leaves noted
use Rattle.std.specs.Prelude.{ℕ, not, ◌&&◌, if◌then◌else◌}
use Rattle.gr_curio.specs.Values.{is_C, is_outstanding}
use Rattle.gr_curio.specs.declared.asks.Moment.{Moment}
use Rattle.gr_curio.specs.declared.asks.Moment.TheVariants.{At}
use Rattle.gr_curio.specs.declared.values.Q3.{Q3}
use Rattle.gr_curio.specs.declared.values.Q3.TheVariants.{N, C}

-- asked where it is wanted and its last ask is not outstanding
abbrev pub due_of : Moment → Q3 → ℕ → ℕ → Q3
due_of moment wanted now retry = if is_C wanted && not (is_outstanding moment now retry) then C else N

-- the moment of the last ask, once what is asked was asked now
abbrev pub noted_of : ℕ → Moment → Q3 → Moment
noted_of now moment asked = if is_C asked then At now else moment
