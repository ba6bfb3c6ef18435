use Rattle.std.proofs.Common.{◌++◌, ap, ◌∙◌, append_assoc}
use Rattle.std.specs.Prelude.{codes}
use Rattle.gr_out.proofs.Fronts.{on_success}
use Rattle.gr_match_text.specs.Matching.{names_at, names_text, matched_line}
use Rattle.gr_match_text.proofs.Filters.{names_found}
use Rattle.gr_match_text.proofs.printing.hold_line.Goals as goal

pub returns : goal.returns
unfolding matched_line
returns c =
    let filters = c.args.filters.now in
    let held = c.args.page.now.held in
    let text = names_text (names_at filters c.as_slice.result.now) in
    on_success c.hold.result
    (λ e. e ∙ ap (λ xs. xs ++ codes "\n") c.in_ok-hold_names.ensures ∙ append_assoc held text (codes "\n")
    ∙ ap (λ xs. held ++ (xs ++ codes "\n")) (names_found filters c.args.event.now c.in_ok-places.places c.as_slice.result.now c.as_slice.ensures c.in_ok-places.ensures))
    c.hold.ensures.ok
