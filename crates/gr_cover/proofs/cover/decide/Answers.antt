-- The names that were gathered are those of both filters, so their candidates are events
use Rattle.std.proofs.Common.{◌++◌, ap, ap₂, ◌∙◌, arith}
use Rattle.gr_filter.specs.Tree.{tree_of}
use Rattle.gr_cover.specs.Mentions.{mentions}
use Rattle.gr_cover.specs.Candidates.{attributes}
use Rattle.gr_cover.proofs.Verdicts.{valid_at}
use Rattle.gr_cover.proofs.cover.decide.Goals as goal

pub first_from-requires : goal.first_from-requires
first_from-requires c =
    let wide = tree_of c.args.wide.now in
    let narrow = tree_of c.args.narrow.now in
    let of_wide = c.in_ok-put_mentions.ensures ∙ ap₂ (λ b t. b ++ mentions (tree_of t)) c.new-mentions.ensures.items c.root-wide_root.ensures.root in
    let of_both = c.in_ok-put_mentions-2.ensures ∙ ap₂ (λ b t. b ++ mentions (tree_of t)) of_wide c.root-narrow_root.ensures.root in
    let found = c.in_ok-attributes.ensures ∙ ap attributes (c.deref.ensures.value ∙ of_both) in
    valid_at wide narrow c.deref-3.result.now c.deref-2.result.now c.parts-parts.result
    (c.deref-3.ensures.value ∙ found) (c.deref-2.ensures.value ∙ found)
    c.root-wide_root.ensures.written c.root-narrow_root.ensures.written c.parts-parts.ensures (omega arith)
