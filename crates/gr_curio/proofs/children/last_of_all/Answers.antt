use Rattle.std.proofs.Common.{ap, arith}
use Rattle.gr_curio.specs.Values.{wanted_at, is_C}
use Rattle.gr_curio.proofs.ChildrenLemmas.{none_more, wanted_outside, within_less}
use Rattle.gr_curio.proofs.children.last_of_all.Goals as goal

pub loop-child-preserved : goal.loop-child-preserved
loop-child-preserved c = record {
  inside = omega (arith, c.max-last.ensures, c.top.ensures.inside);
  outside = λ t out.
      none_more (λ child. is_C (wanted_at child.runs t)) c.args.children.now c.loop-child.child-index c.child-item.result (omega arith) c.child-item.is
      (c.loop-child.invariant.outside t (within_less c.loop-child.last c.max-last.result t (omega (arith, c.max-last.ensures)) out))
      (ap is_C (wanted_outside c.child-item.result.runs c.top.result t c.top.ensures.canonical c.top.ensures.past (within_less c.top.result c.max-last.result t (omega (arith, c.max-last.ensures)) out)));
}
