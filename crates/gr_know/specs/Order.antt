-- The order of the knowledge values
use Rattle.std.specs.Prelude.{Bool, true, false}
use Rattle.gr_event.specs.Event.{same_event}
use Rattle.gr_know.specs.declared.values.K.{K}
use Rattle.gr_know.specs.declared.values.K.TheVariants.{Q, S, D, F}

-- unknown is below all, final is above all, and no two other values are related but equal ones
abbrev pub is_at_most : K → K → Bool
is_at_most Q y = true
is_at_most S Q = false
is_at_most S S = true
is_at_most S (D f) = false
is_at_most S F = true
is_at_most (D e) Q = false
is_at_most (D e) S = false
is_at_most (D e) (D f) = same_event e f
is_at_most (D e) F = true
is_at_most F Q = false
is_at_most F S = false
is_at_most F (D f) = false
is_at_most F F = true
