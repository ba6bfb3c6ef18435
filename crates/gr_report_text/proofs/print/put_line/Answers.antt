use Rattle.std.proofs.Common.{◌≡◌, [], ◌++◌, set, refl, ap, sym, ◌∙◌}
use Rattle.std.proofs.lemmas.Result.{on_ok_weaker}
use Rattle.gr_model.specs.Text.{labels_of, whole_line}
use Rattle.gr_report_text.proofs.Rows.{behind_last}
use Rattle.gr_report_text.proofs.print.put_line.Goals as goal

pub returns-in_default : goal.returns-in_default
returns-in_default c =
    let none : c.args.text.now ≡ [] = c.in_default.ensures.byte ∙ ap (λ xs. xs ++ []) (c.in_default.ensures.none refl) in
    on_ok_weaker c.put_first.result (λ e. e ∙ ap (λ xs. xs ++ whole_line (labels_of c.args.topo.now) c.args.report.now) (sym none)) c.put_first.ensures

pub returns-in-Ok : goal.returns-in-Ok
returns-in-Ok c = behind_last c.args.text.now c.pop.new.self c.put_words.new.row _ _ c.in-Some.last c.in-Some.ensures.byte (c.in-Ok.ensures {u = tt})
    (c.set.ensures ∙ ap (λ n. set c.put_words.new.row n c.in-Some.last) c.len-start.ensures)
