use Rattle.std.proofs.Common.{◌≡◌, ℕ, ◌≤◌, take}
use Rattle.std.specs.Prelude.{nat_le}
use Rattle.gr_tick.specs.declared.TheConstants.{MAX_TICK}
use Rattle.gr_edge.specs.Pass.{wanted}
use Rattle.gr_edge.specs.Lates.{wantings_of}
use Rattle.gr_edge.proofs.late.first_wanted.Given as goal

-- from which tick on one of those so far wants the event
abbrev pub invariant-lates : goal.invariant-lates
invariant-lates l = record {
  first : (t : ℕ) → t ≤ MAX_TICK → wanted (wantings_of (take l.late-index l.lates)) l.joins t l.event ≡ nat_le l.first t;
}
