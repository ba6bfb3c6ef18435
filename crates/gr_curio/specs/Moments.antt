-- The order of the moments
use Rattle.std.specs.Prelude.{nat_le, max, Bool, true, false}
use Rattle.gr_curio.specs.declared.asks.Moment.{Moment}
use Rattle.gr_curio.specs.declared.asks.Moment.TheVariants.{Never, At}

-- never is before all
abbrev pub is_at_most : Moment → Moment → Bool
is_at_most Never y = true
is_at_most (At m) Never = false
is_at_most (At m) (At n) = nat_le m n

-- the later one
abbrev pub later_of : Moment → Moment → Moment
later_of Never y = y
later_of (At m) Never = At m
later_of (At m) (At n) = At (max m n)
