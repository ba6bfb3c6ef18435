use Rattle.std.proofs.Common.{◌≡◌, ◌≢◌, ℕ, ◌+◌, ◌-◌, ◌^◌, ◌<◌, ◌≤◌}
use Rattle.gr_know.specs.Values.{known_at, join_K}
use Rattle.gr_know.specs.declared.values.K.TheVariants.{Q}
use Rattle.gr_know.proofs.news.horizon_with.Given as goal

-- nothing is unknown up to where the walk has come, and the next tick was unknown
abbrev pub invariant-loop-reached : goal.invariant-loop-reached
invariant-loop-reached l = record {
  forward : l.horizon ≤ l.reached;
  inside : l.reached ≤ 2 ^ 62;
  known : (t : ℕ) → l.horizon < t → t ≤ l.reached → join_K (known_at l.stream.runs t) (known_at l.piece t) ≢ Q;
  next : known_at l.stream.runs (l.reached + 1) ≡ Q;
}

abbrev pub decreases-loop-reached : goal.decreases-loop-reached
decreases-loop-reached l = 2 ^ 62 - l.reached
