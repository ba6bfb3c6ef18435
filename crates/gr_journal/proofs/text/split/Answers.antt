-- A piece that is no bar lengthens the scenario; behind a bar stand the journals.
use Rattle.std.proofs.Common.{refl, arith, ◌∙◌, sym}
use Rattle.gr_journal.proofs.Cuts.{front_grows, back_stays, back_found}
use Rattle.gr_journal.proofs.text.split.Goals as goal

pub returns-then-is_bar-clause-journals : goal.returns-then-is_bar-clause-journals
returns-then-is_bar-clause-journals c =
    back_found c.args.bytes.now _ c.pieces.start c.piece_len-end.result refl c.piece_len-end.ensures.cut (sym c.is_bar.ensures ∙ c.if-is_bar.true) c.pieces.invariant.journals

pub pieces-preserved : goal.pieces-preserved
pieces-preserved c = record {
  within = omega (arith, c.piece_len-end.ensures.within);
  scenario = front_grows c.args.bytes.now _ c.pieces.start c.piece_len-end.result refl c.piece_len-end.ensures.cut (sym c.is_bar.ensures ∙ c.if-is_bar.false) c.pieces.invariant.scenario;
  journals = back_stays c.args.bytes.now _ c.pieces.start c.piece_len-end.result refl c.piece_len-end.ensures.cut (sym c.is_bar.ensures ∙ c.if-is_bar.false) c.pieces.invariant.journals;
}
