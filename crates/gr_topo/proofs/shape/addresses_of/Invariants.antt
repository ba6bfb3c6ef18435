use Rattle.std.proofs.Common.{◌≡◌}
use Rattle.gr_topo.specs.Gives.{walk}
use Rattle.gr_topo.specs.Draft.{AddressLists, no_addresses}
use Rattle.gr_topo.specs.Shape.{one_address}
use Rattle.gr_topo.specs.Seen.{seen_members}
use Rattle.gr_topo.proofs.shape.addresses_of.Given as goal

abbrev pub invariant-loop-name : goal.invariant-loop-name
invariant-loop-name l =
    let found : AddressLists = record { names = l.names.items; texts = l.texts.items } in
    (goal.iterator-loop-name).can_next l.name-iterator ×
    (goal.iterator-loop-name).is_finite l.name-iterator ×
    (walk one_address found (seen_members l.name-iterator) ≡ walk one_address no_addresses (seen_members l.table.entries))
