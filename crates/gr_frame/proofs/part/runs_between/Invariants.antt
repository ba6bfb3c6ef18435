use Rattle.std.proofs.Common.{◌≡◌}
use Rattle.std.specs.Prelude.{slice_range}
use Rattle.gr_frame.proofs.part.runs_between.Given as goal

abbrev pub invariant-runs : goal.invariant-runs
invariant-runs g l = l.part ≡ slice_range l.piece l.start l.i
