use Rattle.std.proofs.Common.{◌++◌, ap, sym, ◌∙◌, map, append_assoc, ◌∷◌}
use Rattle.std.proofs.lemmas.Grind.{flat_map-append}
use Rattle.std.proofs.lemmas.Result.{on_ok_weaker}
use Rattle.gr_model.specs.Text.{joins_words, run_word, know_letter, behind_blanks}
use Rattle.gr_report_text.proofs.lines.push_known.Goals as goal

pub returns : goal.returns
returns c =
    let old = c.args.words.now in
    let front = joins_words c.args.joins.now in
    let back = map (run_word know_letter) c.args.runs.now in
    on_ok_weaker c.push_know_runs.result
    (λ e. e ∙ ap (λ row. row ++ behind_blanks back) c.in_ok-push_joins.ensures ∙ append_assoc old (behind_blanks front) (behind_blanks back)
    ∙ ap (λ row. old ++ row) (sym (flat_map-append (λ word. 32 ∷ word) front back)))
    c.push_know_runs.ensures
