use Rattle.std.proofs.Common.{◌≤◌, not, ◌&&◌, cond, sym, ap, ◌∙◌, arith}
use Rattle.gr_tick.proofs.RunsLemmas.{EndBefore-later}
use Rattle.gr_tick.proofs.WalkLemmas.{walk_push, walk_end}
use Rattle.gr_know.specs.Values.{is_Q}
use Rattle.gr_curio.specs.declared.values.Q3.TheVariants.{N, C}
use Rattle.gr_curio.specs.Values.{wanted_at, is_C}
use Rattle.gr_curio.specs.Wants.{runs_of, wants_of}
use Rattle.gr_broker_walks.proofs.walks.put_quenched.Goals as goal

pub loop-next-preserved : goal.loop-next-preserved
loop-next-preserved c =
    let forward : c.loop-next.next ≤ c.min-end.result = omega (arith, c.min-end.ensures, c.steady_at-wanted.ensures.forward, c.loop-next-test.true) in
    record {
      forward = omega (arith, forward, c.loop-next.invariant.forward);
      inside = omega (arith, c.min-end.ensures);
      values = λ t. walk_push c.args.run.now.first c.loop-next.next c.min-end.result t (cond (not (is_Q c.args.run.now.value) && is_C (wanted_at (wants_of (runs_of c.args.wants.now) c.args.child) t)) C N) c.answered_value-value.result _ _ _ c.loop-next.invariant.forward forward (c.loop-next.invariant.values t) (c.in_ok-put.ensures.values t)
          (λ lo hi. c.answered_value-value.ensures ∙ ap (λ q. cond (not (is_Q c.args.run.now.value) && is_C q) C N) (c.steady_at-wanted.ensures.value ∙ sym (c.steady_at-wanted.ensures.steady t lo (omega (arith, hi, c.min-end.ensures)))));
      past = c.in_ok-put.ensures.past;
    }

pub returns-clause-values : goal.returns-clause-values
returns-clause-values c = λ t. walk_end c.args.run.now.first c.loop-next.next c.args.run.now.last t _ _ _ (omega arith) (c.loop-next.invariant.values t)

pub returns-clause-past : goal.returns-clause-past
returns-clause-past c = λ t lt. EndBefore-later c.loop-next.quenched c.loop-next.next t c.loop-next.invariant.past (omega (arith, lt, c.loop-next.invariant.inside))
