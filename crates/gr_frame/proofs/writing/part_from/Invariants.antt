use Rattle.std.proofs.Common.{◌≡◌, ◌≤◌, ◌+◌, ◌-◌, ◌*◌, length, drop}
use Rattle.std.specs.Prelude.{slice_range}
use Rattle.gr_frame.specs.Bytes.{runs_bytes, cut_from, cut_frames}
use Rattle.gr_frame.proofs.writing.part_from.Given as goal

abbrev pub invariant-loop-end : goal.invariant-loop-end
invariant-loop-end g l = record {
  low : 17 * (l.end - l.start) ≤ l.size;
  high : l.size ≤ 16384;
  size : l.size ≡ l.room + length (runs_bytes g.V.FrameValue.form.bytes (slice_range l.piece l.start l.end));
  cut : cut_from l.room g.V.FrameValue.form.size l.size (slice_range l.piece l.start l.end) (drop l.end l.piece) ≡ cut_frames l.room g.V.FrameValue.form.size (drop l.start l.piece);
}
