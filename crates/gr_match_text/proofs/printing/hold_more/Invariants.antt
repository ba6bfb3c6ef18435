use Rattle.std.proofs.Common.{◌≡◌, ◌++◌, drop}
use Rattle.std.specs.List.{flat_map}
use Rattle.gr_match_text.specs.Matching.{names_at, behind_space}
use Rattle.gr_match_text.proofs.printing.hold_more.Given as goal

-- the names so far and those that are left make the whole
abbrev pub invariant-places : goal.invariant-places
invariant-places l = l.page.held ++ flat_map behind_space (names_at l.filters (drop l.place-index l.places))
    ≡ l.initial.page.held ++ flat_map behind_space (names_at l.filters l.places)
