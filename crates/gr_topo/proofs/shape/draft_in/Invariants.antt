use Rattle.std.proofs.Common.{◌≡◌}
use Rattle.gr_topo.specs.Gives.{walk}
use Rattle.gr_topo.specs.Shape.{root_key, no_draft}
use Rattle.gr_topo.specs.Seen.{seen_members}
use Rattle.gr_topo.specs.Draft.{draft_lists}
use Rattle.gr_topo.proofs.shape.draft_in.Given as goal

abbrev pub invariant-loop-name : goal.invariant-loop-name
invariant-loop-name l =
    (goal.iterator-loop-name).can_next l.name-iterator ×
    (goal.iterator-loop-name).is_finite l.name-iterator ×
    (walk root_key (draft_lists l.found) (seen_members l.name-iterator) ≡ walk root_key no_draft (seen_members l.root.entries))
