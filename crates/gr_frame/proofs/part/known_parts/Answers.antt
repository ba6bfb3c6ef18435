-- No run is left at the end
use Rattle.std.proofs.Common.{arith}
use Rattle.gr_frame.specs.declared.Body.TheVariants.{Knowledge}
use Rattle.gr_frame.specs.Bytes.{head_size, known_run_size}
use Rattle.gr_frame.specs.Cut.{with_head}
use Rattle.gr_frame.proofs.Cutting.{all_made, none_left}
use Rattle.gr_frame.proofs.part.known_parts.Goals as goal

pub returns : goal.returns
returns c =
    all_made (λ part. with_head c.args.head (Knowledge part c.args.joins.now)) c.parts.frames.items _ _ (none_left (head_size c.args.joins.now) known_run_size c.args.piece.now c.parts.at (omega (arith, c.len.ensures.len))) c.parts.invariant.made
