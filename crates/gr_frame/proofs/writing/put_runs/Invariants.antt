use Rattle.std.proofs.Common.{◌≡◌, ◌+◌, length, take}
use Rattle.std.specs.Prelude.{slice_range}
use Rattle.std.specs.List.{AllByRecursion}
use Rattle.gr_frame.specs.Bytes.{runs_bytes}
use Rattle.gr_frame.proofs.writing.put_runs.Given as goal

-- the runs so far are written, and the others take what is left
abbrev pub invariant-loop-i : goal.invariant-loop-i
invariant-loop-i g l = record {
  written : take l.at l.into ≡ runs_bytes g.V.FrameValue.form.bytes (slice_range l.piece l.start l.i);
  left : length (runs_bytes g.V.FrameValue.form.bytes (slice_range l.piece l.start l.end)) ≡ l.at + length (runs_bytes g.V.FrameValue.form.bytes (slice_range l.piece l.i l.end));
  each : AllByRecursion (λ r. g.V.FrameValue.fits r.value) (slice_range l.piece l.start l.i);
}
