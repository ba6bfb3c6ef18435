use Rattle.std.proofs.Common.{◌≡◌, [], drop}
use Rattle.gr_topo.specs.Gives.{walk}
use Rattle.gr_topo.specs.Checks.{seen_once}
use Rattle.gr_topo.proofs.Numbering.{texts}
use Rattle.gr_topo.proofs.names.apart.Given as goal

abbrev pub invariant-loop-name : goal.invariant-loop-name
invariant-loop-name l = walk seen_once (texts l.seen.keys) (drop l.name-index l.names) ≡ walk seen_once [] l.names
