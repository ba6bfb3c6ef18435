use Rattle.std.proofs.Common.{◌≡◌, ◌-◌, ◌≤◌, ◌∷◌, [], length}
use Rattle.gr_filter.specs.Grammar.{literals_at}
use Rattle.gr_filter.proofs.parser.literals_at.Given as goal

abbrev pub invariant-literals : goal.invariant-literals
invariant-literals l = record {
  inside : l.behind ≤ length l.bytes;
  read : literals_at l.bytes (length l.bytes - l.counter) l.found l.behind ≡ literals_at l.bytes (length l.bytes) (l.fn.first ∷ []) l.fn.at;
}
