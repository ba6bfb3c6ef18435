use Rattle.std.proofs.Common.{◌≡◌, ℕ, ◌+◌, ◌-◌, ◌≤◌, cond}
use Rattle.gr_tick.specs.Stored.{EndBefore, between}
use Rattle.gr_curio.specs.Values.{asked_at, wanted_at}
use Rattle.gr_curio.specs.Due.{due_of}
use Rattle.gr_curio.proofs.asks.put_due.Given as goal

-- what is due of the run before the next tick is put, and ends before it
abbrev pub invariant-loop-next : goal.invariant-loop-next
invariant-loop-next l = record {
  forward : l.run.first ≤ l.next;
  inside : l.next ≤ l.run.last + 1;
  values : (t : ℕ) → wanted_at l.due t ≡ cond (between l.run.first l.next t) (due_of (asked_at l.moments.runs t) l.run.value l.fn.now l.retry) (wanted_at l.initial.due t);
  past : EndBefore l.due l.next;
}

abbrev pub decreases-loop-next : goal.decreases-loop-next
decreases-loop-next l = l.run.last + 1 - l.next
