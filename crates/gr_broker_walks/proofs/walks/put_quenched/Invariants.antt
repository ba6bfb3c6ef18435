use Rattle.std.proofs.Common.{◌≡◌, ℕ, ◌+◌, ◌-◌, ◌≤◌, cond, not, ◌&&◌}
use Rattle.gr_tick.specs.Stored.{EndBefore, between}
use Rattle.gr_curio.specs.declared.values.Q3.TheVariants.{N, C}
use Rattle.gr_curio.specs.Values.{is_C, wanted_at}
use Rattle.gr_know.specs.Values.{is_Q}
use Rattle.gr_curio.specs.Wants.{wants_of, runs_of}
use Rattle.gr_broker_walks.proofs.walks.put_quenched.Given as goal

-- what is answered of the run before the next tick is put, and ends before it
abbrev pub invariant-loop-next : goal.invariant-loop-next
invariant-loop-next l = record {
  forward : l.run.first ≤ l.next;
  inside : l.next ≤ l.run.last + 1;
  values : (t : ℕ) → wanted_at l.quenched t ≡ cond (between l.run.first l.next t) (cond (not (is_Q l.run.value) && is_C (wanted_at (wants_of (runs_of l.wants) l.child) t)) C N) (wanted_at l.initial.quenched t);
  past : EndBefore l.quenched l.next;
}

abbrev pub decreases-loop-next : goal.decreases-loop-next
decreases-loop-next l = l.run.last + 1 - l.next
