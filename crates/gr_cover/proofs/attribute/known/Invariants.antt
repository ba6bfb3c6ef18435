use Rattle.std.proofs.Common.{◌≡◌, drop}
use Rattle.std.specs.List.{flat_map}
use Rattle.gr_cover.specs.Candidates.{value_cmp, with_all, values_at, known}
use Rattle.gr_cover.proofs.attribute.known.Given as goal

-- the values so far with those of the literals that are left are all
abbrev pub invariant-loop-mention : goal.invariant-loop-mention
invariant-loop-mention l = with_all value_cmp l.values (flat_map (values_at l.name) (drop l.mention-index l.mentions)) ≡ known l.mentions l.name
