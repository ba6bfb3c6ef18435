-- No run is left at the end
use Rattle.std.proofs.Common.{arith}
use Rattle.gr_frame.specs.declared.Body.TheVariants.{Curiosity}
use Rattle.gr_frame.specs.Bytes.{wanted_run_size}
use Rattle.gr_frame.specs.Cut.{with_head}
use Rattle.gr_frame.proofs.Cutting.{all_made, none_left}
use Rattle.gr_frame.proofs.part.wanted_parts.Goals as goal

pub returns : goal.returns
returns c =
    all_made (λ part. with_head c.args.head (Curiosity part)) c.parts.frames.items _ _ (none_left 12 wanted_run_size c.args.piece.now c.parts.at (omega (arith, c.len.ensures.len))) c.parts.invariant.made
