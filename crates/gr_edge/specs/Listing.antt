-- What a subscriber more adds to the list of what is wanted behind an edge
use Rattle.std.specs.Prelude.{List, [], ◌∷◌, ◌++◌}
use Rattle.std.specs.Option.{option_map}
use Rattle.gr_filter.specs.Tree.{tree_of}
use Rattle.gr_edge.specs.declared.listed.Wish.{Wish}
use Rattle.gr_edge.specs.Pass.{Wanting}

abbrev pub with_wish : List Wanting → Wish → List Wanting
with_wish wantings w = wantings ++ record { filter = option_map (λ f. tree_of f.now) w.filter; late = w.late } ∷ []
