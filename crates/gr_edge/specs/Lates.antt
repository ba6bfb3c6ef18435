-- What a late subscriber that an edge keeps wants
use Rattle.std.specs.Prelude.{List, map, Some}
use Rattle.std.specs.Option.{option_map}
use Rattle.gr_filter.specs.Tree.{tree_of}
use Rattle.gr_edge.specs.declared.late.Late.{Late}
use Rattle.gr_edge.specs.Pass.{Wanting}

abbrev pub wanting_of : Late → Wanting
wanting_of l = record { filter = option_map tree_of l.filter; late = Some l.subscriber }

abbrev pub wantings_of : List Late → List Wanting
wantings_of ls = map wanting_of ls
