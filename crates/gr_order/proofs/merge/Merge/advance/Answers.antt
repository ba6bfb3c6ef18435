use Rattle.std.proofs.Common.{◌≡◌, ◌<◌, ◌≤◌, length, get_or, sym, ◌∙◌, subst, arith}
use Rattle.std.proofs.lemmas.List.{get_or_read}
use Rattle.gr_order.specs.Merge.{MergeView, MayAdvance}
use Rattle.gr_order.proofs.Horizons.{least_kept}
use Rattle.gr_order.proofs.merge.Merge.advance.Goals as goal

pub invariant_of-self-else-before-self : goal.invariant_of-self-else-before-self
invariant_of-self-else-before-self c =
    let hs = c.self.inside.horizons.items in
    let may = subst (λ (m : MergeView). MayAdvance m c.args.publisher c.args.horizon) (sym c.self.view_is) c.requires in
    let inside : c.from-place.result < length hs = omega (arith, may.publisher, c.from-place.ensures) in
    let before : c.index-before.result.now ≡ get_or hs c.from-place.result 0 = get_or_read hs _ _ inside c.index-before.ensures 0 in
    let forward : get_or hs c.from-place.result 0 ≤ c.args.horizon = subst (λ i. get_or hs i 0 ≤ c.args.horizon) (sym c.from-place.ensures) may.forward in
    least_kept hs c.from-place.result c.args.horizon c.self.inside.least inside forward (λ e. c.if-before-self.false (before ∙ e)) c.self.invariant.1
