use Rattle.std.proofs.Common.{◌≡◌, ◌++◌, map, take}
use Rattle.gr_model.specs.Text.{behind_blanks, run_word, know_letter}
use Rattle.gr_report_text.proofs.lines.push_know_runs.Given as goal

abbrev pub invariant-loop-i : goal.invariant-loop-i
invariant-loop-i l = l.words ≡ l.fn.words ++ behind_blanks (map (run_word know_letter) (take l.i l.runs))
