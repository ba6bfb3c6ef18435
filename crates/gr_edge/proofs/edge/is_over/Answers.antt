use Rattle.std.proofs.Common.{Some, sym, ap, ◌∙◌}
use Rattle.gr_filter.specs.Tree.{tree_of}
use Rattle.gr_edge.proofs.Asking.{asked_at}
use Rattle.gr_edge.proofs.edge.is_over.Goals as goal

pub returns-then-place-len : goal.returns-then-place-len
returns-then-place-len c =
    λ h e r m. asked_at c.args.asked.now c.args.place (tree_of c.root.result.now) e
    (c.filter.ensures ∙ ap (λ n. Some (tree_of n)) (sym c.root.ensures.root)) (c.is_wider.ensures h e r m)
