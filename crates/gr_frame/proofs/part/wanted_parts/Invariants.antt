-- The frames that were made, and those of the runs that are left, are the frames of the piece
use Rattle.std.proofs.Common.{◌≡◌, ◌≤◌, ◌-◌, ◌++◌, length, drop, map}
use Rattle.gr_frame.specs.declared.Body.TheVariants.{Curiosity}
use Rattle.gr_frame.specs.Bytes.{cut_frames, wanted_run_size}
use Rattle.gr_frame.specs.Cut.{with_head}
use Rattle.gr_frame.proofs.part.wanted_parts.Given as goal

abbrev pub invariant-parts : goal.invariant-parts
invariant-parts l = record {
  within : l.at ≤ length l.piece;
  made : l.frames.items ++ map (λ part. with_head l.head (Curiosity part)) (cut_frames 12 wanted_run_size (drop l.at l.piece)) ≡ map (λ part. with_head l.head (Curiosity part)) (cut_frames 12 wanted_run_size l.piece);
}

abbrev pub decreases-parts : goal.decreases-parts
decreases-parts l = length l.piece - l.at
