use Rattle.std.proofs.Common.{◌≡◌, map, option_map}
use Rattle.std.specs.List.{zip}
use Rattle.std.specs.Slice.Iter.{iter_rest}
use Rattle.std.specs.Iterator.Adapters.{zip_first, zip_second}
use Rattle.gr_filter.specs.Tree.{tree_of as filter_tree}
use Rattle.gr_topo.specs.Gives.{walk, one_more}
use Rattle.gr_topo.specs.Checks.{filter_beside, filters_in}
use Rattle.gr_topo.proofs.check.filters_in.Given as goal

abbrev pub invariant-loop-name : goal.invariant-loop-name
invariant-loop-name l =
    (goal.iterator-loop-name).can_next l.name-iterator ×
    (goal.iterator-loop-name).is_finite l.name-iterator ×
    (walk (one_more filter_beside) (map (option_map filter_tree) l.filters.items) (zip (iter_rest (zip_first l.name-iterator)) (iter_rest (zip_second l.name-iterator))) ≡ filters_in (zip l.names l.texts))
