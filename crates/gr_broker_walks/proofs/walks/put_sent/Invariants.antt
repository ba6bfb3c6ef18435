use Rattle.std.proofs.Common.{◌≡◌, ℕ, ◌+◌, ◌-◌, ◌≤◌, cond}
use Rattle.gr_tick.specs.Stored.{EndBefore, between}
use Rattle.gr_know.specs.declared.values.K.TheVariants.{Q}
use Rattle.gr_curio.specs.Values.{is_A, wanted_at}
use Rattle.gr_know.specs.Values.{known_at}
use Rattle.gr_curio.specs.Wants.{wants_of, runs_of}
use Rattle.gr_broker_walks.proofs.walks.put_sent.Given as goal

-- what is sent of the run before the next tick is put, and ends before it
abbrev pub invariant-loop-next : goal.invariant-loop-next
invariant-loop-next l = record {
  forward : l.run.first ≤ l.next;
  inside : l.next ≤ l.run.last + 1;
  values : (t : ℕ) → known_at l.sent t ≡ cond (between l.run.first l.next t) (cond (is_A (wanted_at (wants_of (runs_of l.wants) l.child) t)) Q l.run.value) (known_at l.initial.sent t);
  past : EndBefore l.sent l.next;
}

abbrev pub decreases-loop-next : goal.decreases-loop-next
decreases-loop-next l = l.run.last + 1 - l.next
