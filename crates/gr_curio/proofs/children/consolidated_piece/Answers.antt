use Rattle.std.proofs.Common.{◌+◌, cond, arith, sym, ap, ◌∙◌, subst}
use Rattle.gr_tick.specs.Runs.{value_at}
use Rattle.gr_tick.specs.Stored.{EndBefore}
use Rattle.gr_tick.proofs.RunsLemmas.{EndBefore-later}
use Rattle.gr_tick.proofs.WalkLemmas.{walk_push, walk_skip, walk_all}
use Rattle.gr_curio.specs.Wants.{runs_of, is_consolidated}
use Rattle.gr_curio.specs.declared.values.Q3.TheVariants.{N, A}
use Rattle.gr_curio.proofs.ChildrenLemmas.{consolidated_yes, consolidated_no, consolidated_outside}
use Rattle.gr_curio.proofs.children.consolidated_piece.Goals as goal
use Rattle.gr_curio.proofs.children.consolidated_piece.Goals.{then-all+in_ok-push, else-all}

pub loop-next-preserved : goal.loop-next-preserved
loop-next-preserved c =
    elim c.if-all.branch [
      | then-all+in_ok-push w ↦ record {
        forward = omega arith;
        inside = omega arith;
        values = λ t. ap (λ p. value_at N p t) w.piece-is ∙ walk_push 1 c.loop-next.next c.acknowledged_from-all.result.last t (cond (is_consolidated c.args.horizon (runs_of c.args.children.now) t) A N) A _ _ N c.loop-next.invariant.forward c.acknowledged_from-all.ensures.forward (c.loop-next.invariant.values t) (w.in_ok-push.ensures.ok.values t)
            (λ lo hi. consolidated_yes c.args.horizon c.args.children.now t c.acknowledged_from-all.result.value (omega (arith, lo, c.loop-next.invariant.forward)) (c.last_consolidated-limit.ensures.reached t (omega (arith, hi, c.acknowledged_from-all.ensures.inside))) (c.acknowledged_from-all.ensures.steady t lo hi) w.if-all.true);
        past = subst (λ p. EndBefore p (c.acknowledged_from-all.result.last + 1)) (sym w.piece-is) (w.in_ok-push.ensures.past (c.acknowledged_from-all.result.last + 1) (omega arith));
      }
      | else-all w ↦ record {
        forward = omega arith;
        inside = omega arith;
        values = λ t. ap (λ p. value_at N p t) w.piece-is ∙ walk_skip 1 c.loop-next.next c.acknowledged_from-all.result.last t (cond (is_consolidated c.args.horizon (runs_of c.args.children.now) t) A N) _ N c.loop-next.invariant.forward c.acknowledged_from-all.ensures.forward (c.loop-next.invariant.values t)
            (λ lo hi. consolidated_no c.args.horizon c.args.children.now t c.acknowledged_from-all.result.value (c.acknowledged_from-all.ensures.steady t lo hi) w.if-all.false);
        past = subst (λ p. EndBefore p (c.acknowledged_from-all.result.last + 1)) (sym w.piece-is) (EndBefore-later _ c.loop-next.next _ c.loop-next.invariant.past (omega arith));
      }
    ]

pub returns : goal.returns
returns c = record {
  canonical = c.len.ensures.canonical;
  in_range = c.len.ensures.in_range;
  values = λ t. walk_all c.loop-next.next c.last_consolidated-limit.result t (cond (is_consolidated c.args.horizon (runs_of c.args.children.now) t) A N) N (value_at N c.loop-next.piece t) (omega arith) (c.loop-next.invariant.values t)
      (λ outside. consolidated_outside c.args.horizon (runs_of c.args.children.now) c.last_consolidated-limit.result t c.last_consolidated-limit.ensures.past outside);
}
