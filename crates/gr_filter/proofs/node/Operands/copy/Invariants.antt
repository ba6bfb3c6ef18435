use Rattle.std.proofs.Common.{◌≡◌, take}
use Rattle.gr_filter.proofs.node.Operands.copy.Given as goal

abbrev pub invariant-loop-operand : goal.invariant-loop-operand
invariant-loop-operand l = l.copied ≡ take l.operand-index l.operand-items
