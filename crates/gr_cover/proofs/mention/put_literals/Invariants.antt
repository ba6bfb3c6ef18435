use Rattle.std.proofs.Common.{◌≡◌, ◌++◌, take}
use Rattle.gr_cover.specs.Mentions.{literals_met}
use Rattle.gr_cover.proofs.mention.put_literals.Given as goal

abbrev pub invariant-loop-literal : goal.invariant-loop-literal
invariant-loop-literal l = l.found.items ≡ l.initial.found.items ++ literals_met l.name (take l.literal-index l.literals)
