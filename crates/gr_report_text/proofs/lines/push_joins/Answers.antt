-- Without joins no word is put
use Rattle.std.proofs.Common.{◌++◌, ap, sym, ◌∙◌, append-nil}
use Rattle.std.proofs.lemmas.Result.{on_ok_weaker}
use Rattle.gr_model.specs.Text.{behind_blanks}
use Rattle.gr_report_text.proofs.JoinsWords.{none_worded, some_worded}
use Rattle.gr_report_text.proofs.lines.push_joins.Goals as goal

pub returns-then-count-eq0 : goal.returns-then-count-eq0
returns-then-count-eq0 c =
    let old = c.args.words.now in
    sym (ap (λ ws. old ++ behind_blanks ws) (none_worded c.args.joins.now c.len-count.result c.len-count.ensures.len c.if-count-eq0.true) ∙ append-nil old)

pub returns : goal.returns
returns c =
    let old = c.args.words.now in
    on_ok_weaker c.push_pair.result
    (λ e. e ∙ ap (λ ws. old ++ behind_blanks ws) (some_worded c.args.joins.now c.len-count.result c.len-count.ensures.len c.if-count-eq0.false))
    c.push_pair.ensures
