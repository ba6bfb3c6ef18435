use Rattle.std.proofs.Common.{◌≡◌, ◌-◌, ◌+◌, ◌*◌, ◌≤◌, length}
use Rattle.gr_filter.specs.Tree.{tree_of}
use Rattle.gr_filter.specs.Grammar.{not_at, and_at, and_more, or_at, or_more}
use Rattle.gr_filter.proofs.parser.+parser.Given as goal

abbrev pub decreases-not_at : goal.decreases-not_at
decreases-not_at l = 3 * l.levels

abbrev pub decreases-and_at : goal.decreases-and_at
decreases-and_at l = 3 * l.levels + 1

abbrev pub decreases-or_at : goal.decreases-or_at
decreases-or_at l = 3 * l.levels + 2

abbrev pub invariant-and_at-ands : goal.invariant-and_at-ands
invariant-and_at-ands l = record {
  inside : l.behind ≤ length l.bytes;
  read : and_more l.bytes (not_at l.bytes l.levels) (length l.bytes - l.counter) (tree_of l.found) l.behind ≡ and_at l.bytes (not_at l.bytes l.levels) l.fn.at;
}

abbrev pub invariant-or_at-ors : goal.invariant-or_at-ors
invariant-or_at-ors l = record {
  inside : l.behind ≤ length l.bytes;
  read : or_more l.bytes (not_at l.bytes l.levels) (length l.bytes - l.counter) (tree_of l.found) l.behind ≡ or_at l.bytes (not_at l.bytes l.levels) l.fn.at;
}
