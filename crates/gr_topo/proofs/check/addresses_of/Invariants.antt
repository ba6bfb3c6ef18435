use Rattle.std.proofs.Common.{◌≡◌, drop}
use Rattle.gr_topo.specs.Gives.{walk, one_more}
use Rattle.gr_topo.specs.Draft.{address_lists}
use Rattle.gr_topo.specs.Checks.{address_in, addresses_of}
use Rattle.gr_topo.proofs.check.addresses_of.Given as goal

abbrev pub invariant-loop-name : goal.invariant-loop-name
invariant-loop-name l = walk (one_more (address_in (address_lists l.addresses))) l.found.items (drop l.name-index l.names) ≡ addresses_of (address_lists l.addresses) l.names
