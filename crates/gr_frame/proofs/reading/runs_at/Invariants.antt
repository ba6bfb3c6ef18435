use Rattle.std.proofs.Common.{◌≡◌, ◌≤◌, ◌-◌, None, length}
use Rattle.gr_frame.specs.Decode.{last_run, runs_at}
use Rattle.gr_frame.proofs.Loop.{with_front}
use Rattle.gr_frame.proofs.reading.runs_at.Given as goal

abbrev pub invariant-loop : goal.invariant-loop
invariant-loop g l = record {
  inside : l.at ≤ length l.bytes;
  read : with_front l.found (runs_at g.V.FrameValue.form l.bytes (l.count - l.counter) l.at (last_run l.found)) ≡ runs_at g.V.FrameValue.form l.bytes l.count l.start None;
}
