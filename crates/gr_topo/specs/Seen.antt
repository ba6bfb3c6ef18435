-- The values and the entries of a TOML document as data, in their order
use Rattle.std.specs.Prelude.{ℕ, List, String}
use Rattle.std.specs.declared.alloc.Global.{Global}
use Rattle.toml.specs.Data.{Data}
use Rattle.toml.specs.View.{items_view, members_view}
use Rattle.toml.specs.declared.value.Value.{Value}
use Rattle.gr_topo.specs.Shape.{items_list, members_list}

abbrev pub seen_items : List Value → List Data
seen_items vs = items_list (items_view vs)

abbrev pub seen_members : List (String Global × Value) → List (List ℕ × Data)
seen_members es = members_list (members_view es)
