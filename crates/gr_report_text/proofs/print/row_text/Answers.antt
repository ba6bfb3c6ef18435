use Rattle.std.proofs.Common.{◌++◌, ◌∷◌, drop, ap, ◌∙◌}
use Rattle.gr_model.specs.Text.{labels_of, whole_line}
use Rattle.gr_report_text.proofs.print.row_text.Goals as goal

pub returns : goal.returns
returns c = ap (λ row. drop 1 row) (c.in_ok-put_words.ensures ∙ ap (λ row. row ++ 32 ∷ whole_line (labels_of c.args.topo.now) c.args.report.now) c.in_ok-row.ensures)
