use Rattle.std.proofs.Common.{◌≡◌, ◌≤◌, length, []}
use Rattle.gr_publog.specs.State.{AreHeld}
use Rattle.gr_publog.specs.Text.{joins_in}
use Rattle.gr_publog.proofs.read.joins_in.Given as goal

-- what is left to read gives the answer
abbrev pub invariant-joins : goal.invariant-joins
invariant-joins l = record {
  few : l.more ≤ l.fn.count;
  within : length l.left ≤ length l.fn.rest;
  held : AreHeld l.late l.joins l.cut;
  reading : joins_in l.more l.total l.late l.cut l.joins l.left ≡ joins_in l.fn.count l.total l.late l.cut [] l.fn.rest;
}

abbrev pub decreases-joins : goal.decreases-joins
decreases-joins l = l.more
