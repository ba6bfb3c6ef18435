use Rattle.std.proofs.Common.{◌++◌, ap, sym, codes}
use Rattle.std.specs.Fmt.{decimal}
use Rattle.gr_model.specs.Text.{run_word, want_letter}
use Rattle.gr_report_text.proofs.RunWords.{words_more}
use Rattle.gr_report_text.proofs.lines.push_want_runs.Goals as goal

pub loop-i-preserved : goal.loop-i-preserved
loop-i-preserved c =
    let run = c.run-run.result.now in
    words_more (run_word want_letter) _ _ _ c.args.runs.now c.loop-i.i run _ c.in_ok-push_run.ensures c.loop-i.invariant c.run-run.ensures.run (ap (λ letter. letter ++ (decimal run.first ++ (codes "-" ++ decimal run.last))) (sym c.letter_of_want.ensures))
