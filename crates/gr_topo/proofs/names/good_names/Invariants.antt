use Rattle.std.proofs.Common.{◌≡◌, drop}
use Rattle.gr_topo.specs.Gives.{walk}
use Rattle.gr_topo.specs.Checks.{good_name, good_names}
use Rattle.gr_topo.proofs.names.good_names.Given as goal

abbrev pub invariant-loop-name : goal.invariant-loop-name
invariant-loop-name l = walk good_name tt (drop l.name-index l.names) ≡ good_names l.names
