use Rattle.std.proofs.Common.{◌≡◌, [], drop}
use Rattle.std.specs.Ordering.{nat_cmp}
use Rattle.std.specs.Cmp.Lexicographic.{slice_cmp}
use Rattle.gr_cover.specs.Candidates.{with_all, short_names}
use Rattle.gr_cover.proofs.attribute.names_of.Given as goal

-- the names so far with those that are left are all
abbrev pub invariant-loop-mention : goal.invariant-loop-mention
invariant-loop-mention l = with_all (slice_cmp nat_cmp) l.names.items (short_names (drop l.mention-index l.mentions)) ≡ with_all (slice_cmp nat_cmp) [] (short_names l.mentions)
