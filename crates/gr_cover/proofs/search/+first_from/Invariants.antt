use Rattle.std.proofs.Common.{length, drop}
use Rattle.gr_filter.specs.Tree.{tree_of}
use Rattle.gr_cover.specs.Candidates.{events_from}
use Rattle.gr_cover.specs.Answer.{differs}
use Rattle.gr_cover.proofs.Searching.{IsLeft}
use Rattle.gr_cover.proofs.search.+first_from.Given as goal

abbrev pub decreases-first_from : goal.decreases-first_from
decreases-first_from l = length l.attributes.now

-- the events of the values that are left decide
abbrev pub invariant-values : goal.invariant-values
invariant-values l = IsLeft (differs (tree_of l.wide) (tree_of l.narrow)) l.pairs l.first.name l.rest (drop l.value-index l.value-items) (events_from l.pairs l.attributes)
