use Rattle.std.proofs.Common.{◌≡◌, ℕ, ◌+◌, ◌-◌, ◌≤◌, ◌&&◌, nat_le, cond}
use Rattle.gr_tick.specs.Stored.{EndBefore, between}
use Rattle.gr_curio.specs.Values.{wanted_at, is_A}
use Rattle.gr_curio.specs.Wants.{runs_of, all_A}
use Rattle.gr_curio.specs.declared.values.Q3.TheVariants.{N, A}
use Rattle.gr_curio.proofs.children.put_completed.Given as goal

-- what is completed of the run before the next tick is put, and ends before it
abbrev pub invariant-loop-next : goal.invariant-loop-next
invariant-loop-next l = record {
  forward : l.run.first ≤ l.next;
  inside : l.next ≤ l.run.last + 1;
  values : (t : ℕ) → wanted_at l.done t ≡ cond (between l.run.first l.next t) (cond (is_A l.run.value && nat_le t l.upto && (all_A (runs_of l.before) t && all_A (runs_of l.after) t)) A N) (wanted_at l.initial.done t);
  past : EndBefore l.done l.next;
}

abbrev pub decreases-loop-next : goal.decreases-loop-next
decreases-loop-next l = l.run.last + 1 - l.next
