use Rattle.std.proofs.Common.{◌≡◌, ℕ, ◌+◌, ◌-◌, ◌≤◌, cond}
use Rattle.gr_tick.specs.Runs.{value_at}
use Rattle.gr_tick.specs.Stored.{AreTickRuns, between}
use Rattle.gr_tick.proofs.edits.lower_over.Given as goal

-- the ticks before the next one have the least value, and there is room for a cut
abbrev pub invariant-loop-next : goal.invariant-loop-next
invariant-loop-next g l =
    let least = g.V.Lattice.least in
    record {
      forward : l.first ≤ l.next;
      inside : l.next ≤ l.last + 1;
      runs : AreTickRuns least l.runs.items;
      values : (t : ℕ) → value_at least l.runs.items t ≡ cond (between l.first l.next t) least (value_at least l.fn.runs.items t);
      kept : l.next ≤ l.last → l.fn.runs.spare ≤ l.runs.spare;
      spare : l.fn.runs.spare ≤ l.runs.spare + 1;
    }

abbrev pub decreases-loop-next : goal.decreases-loop-next
decreases-loop-next g l = l.last + 1 - l.next
