use Rattle.std.proofs.Common.{◌++◌, ap, sym, ◌∙◌}
use Rattle.std.proofs.lemmas.Result.{on_ok_weaker}
use Rattle.gr_model.specs.Text.{row_of}
use Rattle.gr_report_text.proofs.lines.push_join.Goals as goal

pub returns-in-AlreadyJoined : goal.returns-in-AlreadyJoined
returns-in-AlreadyJoined c =
    on_ok_weaker c.push_named_both.result
    (λ e. e ∙ ap (λ report. c.args.words.now ++ row_of c.args.topo.now report) (sym c.in-AlreadyJoined.is))
    c.push_named_both.ensures

pub returns-in-ExhaustedJoin : goal.returns-in-ExhaustedJoin
returns-in-ExhaustedJoin c =
    on_ok_weaker c.push_named_both-in-ExhaustedJoin.result
    (λ e. e ∙ ap (λ report. c.args.words.now ++ row_of c.args.topo.now report) (sym c.in-ExhaustedJoin.is))
    c.push_named_both-in-ExhaustedJoin.ensures
