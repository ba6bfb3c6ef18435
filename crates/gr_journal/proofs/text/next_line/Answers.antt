use Rattle.std.proofs.Common.{refl}
use Rattle.gr_journal.proofs.Cuts.{line_first}
use Rattle.gr_journal.proofs.text.next_line.Goals as goal

pub returns-clause-lines : goal.returns-clause-lines
returns-clause-lines c =
    line_first c.args.text.now c.line_of.result.now _ c.piece_len-end.result c.piece_len-end.ensures.cut c.line_of.ensures refl
