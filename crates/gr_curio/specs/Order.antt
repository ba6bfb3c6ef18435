-- The order of the curiosity values
use Rattle.std.specs.Prelude.{Bool, true, false}
use Rattle.gr_curio.specs.declared.values.Q3.{Q3}
use Rattle.gr_curio.specs.declared.values.Q3.TheVariants.{N, C, A}

-- nothing asked is below asked, and that is below acknowledged
abbrev pub is_at_most : Q3 → Q3 → Bool
is_at_most N y = true
is_at_most C N = false
is_at_most C C = true
is_at_most C A = true
is_at_most A N = false
is_at_most A C = false
is_at_most A A = true

-- the greater one
abbrev pub greater_of : Q3 → Q3 → Q3
greater_of N y = y
greater_of C N = C
greater_of C C = C
greater_of C A = A
greater_of A y = A
