-- Each turn adds a block, until there are enough.
use Rattle.std.proofs.Common.{◌≡◌, ◌≤◌, ◌-◌, ◌*◌}
use Rattle.gr_gap.proofs.gap.add_blocks.Given as goal

abbrev pub invariant-loop-rest : goal.invariant-loop-rest
invariant-loop-rest g l = record { same : l.rest.items ≡ l.initial.rest.items; more : l.initial.rest.blocks ≤ l.rest.blocks }

abbrev pub decreases-loop-rest : goal.decreases-loop-rest
decreases-loop-rest g l = l.fn.room - l.rest.blocks * 512
