-- Outside the range of ticks nothing is known, so that nothing clashes there and nothing is new.
use Rattle.std.proofs.Common.{◌≡◌, ℕ, ◌+◌, ◌^◌, false, List, ap₂}
use Rattle.gr_tick.specs.declared.run.Run.{Run}
use Rattle.gr_tick.specs.Runs.{AreRuns}
use Rattle.gr_tick.specs.Stored.{within, EndBefore}
use Rattle.gr_tick.proofs.Canonical.{value_at-outside}
use Rattle.gr_know.specs.Values.{known_at, clash_K, new_K}
use Rattle.gr_know.specs.declared.values.K.{K}
use Rattle.gr_know.specs.declared.values.K.TheVariants.{Q}

pub none_outside : (know piece : List (Run K)) (t : ℕ) → AreRuns Q know → EndBefore know (2 ^ 62 + 1) → AreRuns Q piece → EndBefore piece (2 ^ 62 + 1) → within 1 (2 ^ 62) t ≡ false → clash_K (known_at know t) (known_at piece t) ≡ false
none_outside know piece t a b c d out = ap₂ clash_K (value_at-outside Q know t a b out) (value_at-outside Q piece t c d out)

pub new_outside : (know piece : List (Run K)) (t : ℕ) → AreRuns Q know → EndBefore know (2 ^ 62 + 1) → AreRuns Q piece → EndBefore piece (2 ^ 62 + 1) → within 1 (2 ^ 62) t ≡ false → new_K (known_at know t) (known_at piece t) ≡ Q
new_outside know piece t a b c d out = ap₂ new_K (value_at-outside Q know t a b out) (value_at-outside Q piece t c d out)
