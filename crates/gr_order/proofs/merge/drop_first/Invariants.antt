use Rattle.std.proofs.Common.{◌≡◌, drop}
use Rattle.gr_order.proofs.merge.drop_first.Given as goal

-- what is left of the entries
abbrev pub invariant-loop : goal.invariant-loop
invariant-loop l = l.waiting.entries ≡ drop l.counter l.fn.waiting.entries
