use Rattle.std.proofs.Common.{◌≡◌}
use Rattle.gr_topo.specs.Gives.{walk}
use Rattle.gr_topo.specs.Shape.{entry_key, no_entry}
use Rattle.gr_topo.specs.Seen.{seen_members}
use Rattle.gr_topo.proofs.shape.entry_keys.Given as goal

abbrev pub invariant-loop-name : goal.invariant-loop-name
invariant-loop-name l =
    (goal.iterator-loop-name).can_next l.name-iterator ×
    (goal.iterator-loop-name).is_finite l.name-iterator ×
    (walk (entry_key l.filters) l.found (seen_members l.name-iterator) ≡ walk (entry_key l.filters) no_entry (seen_members l.table.entries))
