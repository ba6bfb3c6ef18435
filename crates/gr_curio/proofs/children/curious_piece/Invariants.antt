use Rattle.std.proofs.Common.{◌≡◌, ℕ, ◌+◌, ◌-◌, ◌≤◌, cond}
use Rattle.gr_tick.specs.Runs.{value_at}
use Rattle.gr_tick.specs.Stored.{EndBefore, between}
use Rattle.gr_curio.specs.Wants.{runs_of, any_C}
use Rattle.gr_curio.specs.declared.values.Q3.TheVariants.{N, C}
use Rattle.gr_curio.proofs.children.curious_piece.Given as goal

-- the piece has what comes before the next tick, and ends before it
abbrev pub invariant-loop-next : goal.invariant-loop-next
invariant-loop-next l = record {
  forward : 1 ≤ l.next;
  inside : l.next ≤ l.limit + 1;
  values : (t : ℕ) → value_at N l.piece t ≡ cond (between 1 l.next t) (cond (any_C (runs_of l.children) t) C N) N;
  past : EndBefore l.piece l.next;
}

abbrev pub decreases-loop-next : goal.decreases-loop-next
decreases-loop-next l = l.limit + 1 - l.next
