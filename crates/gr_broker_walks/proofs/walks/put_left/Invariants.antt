use Rattle.std.proofs.Common.{◌≡◌, ℕ, ◌+◌, ◌-◌, ◌≤◌, cond}
use Rattle.gr_tick.specs.Stored.{EndBefore, between}
use Rattle.gr_curio.specs.Values.{wanted_at}
use Rattle.gr_know.specs.Values.{is_Q, known_at}
use Rattle.gr_broker_walks.specs.Told.{left_at}
use Rattle.gr_broker_walks.proofs.walks.put_left.Given as goal

-- what is left of the run before the next tick is put, and ends before it
abbrev pub invariant-loop-next : goal.invariant-loop-next
invariant-loop-next l = record {
  forward : l.run.first ≤ l.next;
  inside : l.next ≤ l.run.last + 1;
  values : (t : ℕ) → wanted_at l.piece t ≡ cond (between l.run.first l.next t) (left_at l.run.value (is_Q (known_at l.reply t))) (wanted_at l.initial.piece t);
  past : EndBefore l.piece l.next;
}

abbrev pub decreases-loop-next : goal.decreases-loop-next
decreases-loop-next l = l.run.last + 1 - l.next
