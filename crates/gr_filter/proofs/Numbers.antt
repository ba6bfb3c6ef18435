-- The number that digits spell never falls
use Rattle.std.proofs.Common.{ℕ, ◌+◌, ◌-◌, ◌*◌, ◌≤◌, ◌<◌, ◌^◌, List, [], ◌∷◌, arith}
use Rattle.gr_filter.specs.Token.{number_from}

pub grows : (n : ℕ) (ds : List ℕ) → n ≤ number_from n ds
grows n [] = omega arith
grows n (d ∷ ds) = omega (arith, grows (10 * n + (d - 48)) ds)

-- behind a large number the digits spell one above 64 bits signed
pub passes : (n d : ℕ) (ds : List ℕ) → 1000000000000000000 ≤ n → 2 ^ 63 < number_from (10 * n + (d - 48)) ds
passes n d ds h = omega (arith, grows (10 * n + (d - 48)) ds)
