-- A piece that is no separator lengthens the front; behind a separator stands the back.
use Rattle.std.proofs.Common.{refl, arith, ◌∙◌, sym}
use Rattle.gr_sched.proofs.Pieces.{front_grows, back_stays, back_found}
use Rattle.gr_sched.proofs.text.split.Goals as goal

pub returns-then-is_separator-clause-steps : goal.returns-then-is_separator-clause-steps
returns-then-is_separator-clause-steps c =
    back_found c.args.bytes.now _ c.pieces.start c.piece_len-end.result refl c.piece_len-end.ensures.cut (sym c.is_separator.ensures ∙ c.if-is_separator.true) c.pieces.invariant.steps

pub pieces-preserved : goal.pieces-preserved
pieces-preserved c = record {
  within = omega (arith, c.piece_len-end.ensures.within);
  topology = front_grows c.args.bytes.now _ c.pieces.start c.piece_len-end.result refl c.piece_len-end.ensures.cut (sym c.is_separator.ensures ∙ c.if-is_separator.false) c.pieces.invariant.topology;
  steps = back_stays c.args.bytes.now _ c.pieces.start c.piece_len-end.result refl c.piece_len-end.ensures.cut (sym c.is_separator.ensures ∙ c.if-is_separator.false) c.pieces.invariant.steps;
}
