use Rattle.std.proofs.Common.{◌++◌, [], get_or, ap, sym, ◌∙◌}
use Rattle.gr_filter.specs.Tree.{tree_of}
use Rattle.gr_cover.specs.Answer.{answer}
use Rattle.gr_out.proofs.Fronts.{on_success}
use Rattle.gr_match_text.specs.Matching.{filter_names}
use Rattle.gr_cover_text.specs.Covers.{verdict_text}
use Rattle.gr_cover_text.proofs.Lines.{no_line, line_is, line_held}
use Rattle.gr_cover_text.proofs.printing.hold_pair.Goals as goal

pub returns-then-wide-narrow : goal.returns-then-wide-narrow
returns-then-wide-narrow c = no_line c.args.filters.now c.args.wide c.args.narrow c.args.page.now.held c.if-wide-narrow.true

pub returns : goal.returns
returns c =
    let filters = c.args.filters.now in
    let names = filter_names filters in
    let held = c.args.page.now.held in
    let wide = tree_of c.filter.result.now in
    let narrow = tree_of c.filter-2.result.now in
    let a = get_or names c.args.wide [] in
    let b = get_or names c.args.narrow [] in
    on_success c.hold-5.result
    (λ e. line_held held c.hold.new.page.held c.hold-2.new.page.held c.hold-3.new.page.held c.hold-4.new.page.held c.hold_verdict.new.page.held c.hold-5.new.page.held a b (verdict_text (answer wide narrow))
    (c.in_ok-hold.ensures.ok ∙ ap (λ x. held ++ x) c.name.ensures) c.in_ok-hold-2.ensures.ok
    (c.in_ok-hold-3.ensures.ok ∙ ap (λ x. c.hold-2.new.page.held ++ x) c.name-2.ensures) c.in_ok-hold-4.ensures.ok c.in_ok-hold_verdict.ensures e
    ∙ ap (λ x. held ++ x) (sym (line_is filters c.args.wide c.args.narrow wide narrow c.if-wide-narrow.false c.filter.ensures c.filter-2.ensures)))
    c.hold-5.ensures.ok
