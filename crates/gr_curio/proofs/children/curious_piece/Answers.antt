use Rattle.std.proofs.Common.{◌+◌, cond, arith, sym, ap, ◌∙◌, subst}
use Rattle.gr_tick.specs.Runs.{value_at}
use Rattle.gr_tick.specs.Stored.{EndBefore}
use Rattle.gr_tick.proofs.RunsLemmas.{EndBefore-later}
use Rattle.gr_tick.proofs.WalkLemmas.{walk_push, walk_skip, walk_all}
use Rattle.gr_curio.specs.Wants.{runs_of, any_C}
use Rattle.gr_curio.specs.declared.values.Q3.TheVariants.{N, C}
use Rattle.gr_curio.proofs.ChildrenLemmas.{curious_yes, curious_no, curious_outside}
use Rattle.gr_curio.proofs.children.curious_piece.Goals as goal
use Rattle.gr_curio.proofs.children.curious_piece.Goals.{then-some+in_ok-push, else-some}

pub loop-next-preserved : goal.loop-next-preserved
loop-next-preserved c =
    elim c.if-some.branch [
      | then-some+in_ok-push w ↦ record {
        forward = omega arith;
        inside = omega arith;
        values = λ t. ap (λ p. value_at N p t) w.piece-is ∙ walk_push 1 c.loop-next.next c.asked_from-some.result.last t (cond (any_C (runs_of c.args.children.now) t) C N) C _ _ N c.loop-next.invariant.forward c.asked_from-some.ensures.forward (c.loop-next.invariant.values t) (w.in_ok-push.ensures.ok.values t)
            (λ lo hi. curious_yes c.args.children.now t c.asked_from-some.result.value (c.asked_from-some.ensures.steady t lo hi) w.if-some.true);
        past = subst (λ p. EndBefore p (c.asked_from-some.result.last + 1)) (sym w.piece-is) (w.in_ok-push.ensures.past (c.asked_from-some.result.last + 1) (omega arith));
      }
      | else-some w ↦ record {
        forward = omega arith;
        inside = omega arith;
        values = λ t. ap (λ p. value_at N p t) w.piece-is ∙ walk_skip 1 c.loop-next.next c.asked_from-some.result.last t (cond (any_C (runs_of c.args.children.now) t) C N) _ N c.loop-next.invariant.forward c.asked_from-some.ensures.forward (c.loop-next.invariant.values t)
            (λ lo hi. curious_no c.args.children.now t c.asked_from-some.result.value (c.asked_from-some.ensures.steady t lo hi) w.if-some.false);
        past = subst (λ p. EndBefore p (c.asked_from-some.result.last + 1)) (sym w.piece-is) (EndBefore-later _ c.loop-next.next _ c.loop-next.invariant.past (omega arith));
      }
    ]

pub returns : goal.returns
returns c = record {
  canonical = c.len.ensures.canonical;
  in_range = c.len.ensures.in_range;
  values = λ t. walk_all c.loop-next.next c.last_of_all-limit.result t (cond (any_C (runs_of c.args.children.now) t) C N) N (value_at N c.loop-next.piece t) (omega arith) (c.loop-next.invariant.values t)
      (λ outside. curious_outside c.args.children.now t (c.last_of_all-limit.ensures.outside t outside));
}
