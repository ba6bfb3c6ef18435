use Rattle.std.proofs.Common.{◌≡◌, map, take, Some}
use Rattle.gr_tree.proofs.search.all_placed.Given as goal

abbrev pub invariant-loop-place : goal.invariant-loop-place
invariant-loop-place l = map Some l.places.items ≡ take l.place-index l.row
