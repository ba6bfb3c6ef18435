use Rattle.std.proofs.Common.{[], ◌∷◌, codes}
use Rattle.std.specs.Fmt.{decimal}
use Rattle.gr_report_text.proofs.RunWords.{last_word}
use Rattle.gr_report_text.proofs.lines.push_refused_clock.Goals as goal

pub returns : goal.returns
returns c = last_word _ _ _ _ (codes "refused" ∷ codes "line" ∷ decimal c.args.line ∷ codes "clock-range" ∷ []) (decimal c.args.moment) c.push_number.ensures c.in_ok-push_refused.ensures
