use Rattle.std.proofs.Common.{◌≡◌, drop}
use Rattle.gr_topo.specs.Gives.{walk, one_more}
use Rattle.gr_topo.specs.Checks.{number_in, numbers_in}
use Rattle.gr_topo.proofs.names.numbers_in.Given as goal

abbrev pub invariant-loop-name : goal.invariant-loop-name
invariant-loop-name l = walk (one_more (number_in l.known)) l.numbers.items (drop l.name-index l.names) ≡ numbers_in l.known l.names
