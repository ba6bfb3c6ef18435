use Rattle.std.proofs.Common.{◌≡◌, ◌++◌, map, take}
use Rattle.std.specs.Fmt.{decimal}
use Rattle.gr_model.specs.Text.{behind_blanks}
use Rattle.gr_report_text.proofs.lines.push_numbers.Given as goal

abbrev pub invariant-loop-number : goal.invariant-loop-number
invariant-loop-number l = l.words ≡ l.fn.words ++ behind_blanks (map decimal (take l.number-index l.numbers))
