use Rattle.std.proofs.Common.{◌≡◌, ℕ, ◌+◌, ◌-◌, ◌≤◌, cond}
use Rattle.gr_tick.specs.Runs.{value_at}
use Rattle.gr_tick.specs.Stored.{AreTickRuns, between, growth, runs_in}
use Rattle.gr_tick.proofs.edits.join_over.Given as goal

-- the value is joined at the ticks before the next one, and there is room for the rest
abbrev pub invariant-loop-next : goal.invariant-loop-next
invariant-loop-next g l =
    let least = g.V.Lattice.least in
    record {
      forward : l.first ≤ l.next;
      inside : l.next ≤ l.last + 1;
      runs : AreTickRuns least l.runs.items;
      values : (t : ℕ) → value_at least l.runs.items t ≡ cond (between l.first l.next t) (g.V.Lattice.join_of (value_at least l.fn.runs.items t) l.value) (value_at least l.fn.runs.items t);
      room : growth l.next l.last l.runs.items + l.fn.runs.spare ≤ growth l.first l.last l.fn.runs.items + l.runs.spare;
      later : (f r : ℕ) → l.next ≤ f → f ≤ r → runs_in f r l.runs.items ≤ runs_in f r l.fn.runs.items;
    }

abbrev pub decreases-loop-next : goal.decreases-loop-next
decreases-loop-next g l = l.last + 1 - l.next
