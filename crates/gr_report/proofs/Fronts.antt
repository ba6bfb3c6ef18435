-- Lines, cut at one of them
use Rattle.std.proofs.Common.{◌≡◌, ℕ, ◌+◌, ◌<◌, List, [], ◌∷◌, ◌++◌, take, drop, get_or, length, sym, ap, ◌∙◌}
use Rattle.std.proofs.lemmas.List.{append-nil, take_more, take-append-drop}
use Rattle.std.proofs.lemmas.Grind.{flat_map-append}
use Rattle.gr_model.specs.declared.report.Report.{Report}
use Rattle.gr_model.specs.Text.{Labels, whole_line, report_text}

-- one line more
pub text_more : (labels : Labels) (lines : List Report) (i : ℕ) (r : Report) → i < length lines → r ≡ get_or lines i r → report_text labels (take (i + 1) lines) ≡ report_text labels (take i lines) ++ whole_line labels r
text_more labels lines i r h e =
    ap (report_text labels) (take_more lines i r h)
    ∙ flat_map-append (whole_line labels) (take i lines) (get_or lines i r ∷ [])
    ∙ ap (λ x. report_text labels (take i lines) ++ (whole_line labels x ++ [])) (sym e)
    ∙ ap (λ xs. report_text labels (take i lines) ++ xs) (append-nil (whole_line labels r))

-- the lines before one, it, and those after it
pub text_cut : (labels : Labels) (lines : List Report) (i : ℕ) (r : Report) → i < length lines → r ≡ get_or lines i r → report_text labels lines ≡ (report_text labels (take i lines) ++ whole_line labels r) ++ report_text labels (drop (i + 1) lines)
text_cut labels lines i r h e =
    ap (report_text labels) (sym (take-append-drop (i + 1) lines))
    ∙ flat_map-append (whole_line labels) (take (i + 1) lines) (drop (i + 1) lines)
    ∙ ap (λ xs. xs ++ report_text labels (drop (i + 1) lines)) (text_more labels lines i r h e)
