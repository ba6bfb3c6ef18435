-- What the search for places keeps: a row with the place of each node that is placed so far
use Rattle.std.specs.Prelude.{◌≡◌, ℕ, ◌+◌, ◌<◌, Bool, ◌&&◌, ◌||◌, not, if◌then◌else◌, List, Option, Some, None}
use Rattle.std.specs.Prelude.{slice_index_or, slice_set}
use Rattle.std.specs.Option.{is_some, option_map}
use Rattle.gr_tree.specs.declared.link.Link.{Link}
use Rattle.gr_tree.specs.declared.link.Place.{Place}

-- the node has a place
abbrev pub is_placed : List (Option Place) → ℕ → Bool
is_placed row b = is_some (slice_index_or row b None)

-- exactly one end of the link has a place
abbrev pub crosses : List (Option Place) → Link → Bool
crosses row l = (is_placed row l.one && not (is_placed row l.other))
    || (is_placed row l.other && not (is_placed row l.one))

-- one link below another place
abbrev pub below : ℕ → Place → Place
below up above = record { up = Some up; depth = above.depth + 1 }

-- the place of a node that hangs below this one
abbrev pub place_below : List (Option Place) → ℕ → Option Place
place_below row up = option_map (below up) (slice_index_or row up None)

-- the end without a place hangs below the other
abbrev pub attached : List (Option Place) → Link → List (Option Place)
attached row l = if is_placed row l.one then slice_set row l.other (place_below row l.one)
    else slice_set row l.one (place_below row l.other)

-- one more step down still fits a depth
abbrev pub IsShallow : List (Option Place) → Type 0
IsShallow row = (b : ℕ) (p : Place) → slice_index_or row b None ≡ Some p → p.depth + 1 < 65536
