use Rattle.std.proofs.Common.{[], ◌∷◌, ◌++◌, ◌∙◌, ap, codes}
use Rattle.std.proofs.lemmas.List.{append_assoc}
use Rattle.std.specs.Fmt.{decimal}
use Rattle.gr_model.specs.Text.{behind_blanks}
use Rattle.gr_report_text.proofs.RunWords.{last_word}
use Rattle.gr_report_text.proofs.lines.push_refused.Goals as goal

pub returns : goal.returns
returns c =
    let numbered = codes "line" ∷ decimal c.args.line ∷ [] in
    let before = c.in_ok-push_pair.ensures ∙ ap (λ row. row ++ behind_blanks numbered) c.in_ok-push_word.ensures ∙ append_assoc c.args.words.now (32 ∷ codes "refused") (behind_blanks numbered) in
    last_word _ _ _ _ (codes "refused" ∷ numbered) c.args.cause.now c.push_word-2.ensures before
