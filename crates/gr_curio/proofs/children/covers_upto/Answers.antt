use Rattle.std.proofs.Common.{sym, ap, ◌∙◌}
use Rattle.gr_curio.specs.Values.{is_A}
use Rattle.gr_curio.proofs.ChildrenLemmas.{covered}
use Rattle.gr_curio.proofs.children.covers_upto.Goals as goal

pub returns : goal.returns
returns c =
    covered c.args.child.now.runs c.args.upto c.steady_at-front.result.last c.len.ensures.in_range (sym (ap is_A c.steady_at-front.ensures.value) ∙ sym c.is_acknowledged.ensures ∙ c.if-not-is_acknowledged.false) c.steady_at-front.ensures.inside c.steady_at-front.ensures.steady c.steady_at-front.ensures.greatest
