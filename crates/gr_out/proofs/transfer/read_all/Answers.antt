-- Where memory is wanted, the bytes read so far and the last piece are lost.
use Rattle.std.proofs.Common.{◌++◌, ◌∙◌, ap, take, arith}
use Rattle.std.proofs.lemmas.Grind.{common_steps}
use Rattle.gr_out.specs.Bytes.{before_rest}
use Rattle.gr_out.proofs.Pieces.{rest_again}
use Rattle.gr_out.proofs.transfer.read_all.Goals as goal

pub returns-then-is_err-clause-lost : goal.returns-then-is_err-clause-lost
returns-then-is_err-clause-lost g c =
    let all = c.pieces.all.items in
    let piece = take c.in-Ok.n c.read.new.into in
    (all ++ piece, grind (arith, common_steps), c.pieces.invariant.left ∙ ap (λ rest. before_rest all rest) c.in-Ok.ensures.bytes ∙ rest_again all piece _)
