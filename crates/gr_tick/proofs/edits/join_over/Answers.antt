use Rattle.std.proofs.Common.{arith}
use Rattle.gr_tick.proofs.StepLemmas.{join_more}
use Rattle.gr_tick.proofs.edits.join_over.Goals as goal

pub loop-next-preserved : goal.loop-next-preserved
loop-next-preserved g c = record {
  forward = omega arith;
  inside = omega arith;
  runs = c.join_step-next.ensures.runs;
  values = λ t. join_more c.args.first c.loop-next.next c.join_step-next.result t _ _ _ g.V.Lattice.join_of c.args.value.now c.loop-next.invariant.forward c.join_step-next.ensures.forward (c.loop-next.invariant.values t) (c.join_step-next.ensures.values t);
  room = omega arith;
  later = λ f r lo le. omega (arith, c.join_step-next.ensures.later f r (omega (arith, lo)) le, c.loop-next.invariant.later f r (omega (arith, lo, c.join_step-next.ensures.forward)) le);
}
