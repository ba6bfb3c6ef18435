use Rattle.std.proofs.Common.{◌≡◌}
use Rattle.gr_topo.specs.Gives.{walk}
use Rattle.gr_topo.specs.Shape.{one_setting, default_settings}
use Rattle.gr_topo.specs.Seen.{seen_members}
use Rattle.gr_topo.proofs.shape.settings_of.Given as goal

abbrev pub invariant-loop-name : goal.invariant-loop-name
invariant-loop-name l =
    (goal.iterator-loop-name).can_next l.name-iterator ×
    (goal.iterator-loop-name).is_finite l.name-iterator ×
    (walk one_setting l.found (seen_members l.name-iterator) ≡ walk one_setting default_settings (seen_members l.table.entries))
