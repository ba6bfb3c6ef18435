use Rattle.std.proofs.Common.{◌≡◌, ◌≤◌, ◌-◌, ◌++◌, length, drop, take, map}
use Rattle.std.specs.List.{AllByRecursion}
use Rattle.gr_frame.specs.Bytes.{head_size, piece_head, runs_bytes, cut_frames}
use Rattle.gr_frame.specs.Decode.{kind_number}
use Rattle.gr_frame.proofs.writing.put_parts.Given as goal

abbrev pub invariant-parts : goal.invariant-parts
invariant-parts g l = record {
  within : l.start ≤ length l.piece;
  made : l.into.frames ++ map (λ part. piece_head (kind_number l.fn.kind) l.fn.head (length part) l.joins ++ runs_bytes g.V.FrameValue.form.bytes part) (cut_frames (head_size l.joins) g.V.FrameValue.form.size (drop l.start l.piece))
      ≡ l.initial.into.frames ++ map (λ part. piece_head (kind_number l.fn.kind) l.fn.head (length part) l.joins ++ runs_bytes g.V.FrameValue.form.bytes part) (cut_frames (head_size l.joins) g.V.FrameValue.form.size l.piece);
  front : take (length l.initial.into.frames) l.into.frames ≡ l.initial.into.frames;
  each : AllByRecursion (λ r. g.V.FrameValue.fits r.value) (take l.start l.piece);
}

abbrev pub decreases-parts : goal.decreases-parts
decreases-parts g l = length l.piece - l.start
