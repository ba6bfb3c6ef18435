use Rattle.std.proofs.Common.{◌≡◌, map, take}
use Rattle.gr_cover.specs.Candidates.{attribute}
use Rattle.gr_cover.proofs.attribute.attributes.Given as goal

abbrev pub invariant-loop-name : goal.invariant-loop-name
invariant-loop-name l = l.found.items ≡ map (attribute l.mentions) (take l.name-index l.name-items)
