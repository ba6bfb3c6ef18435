use Rattle.std.proofs.Common.{◌≤◌, cond, sym, ap, ◌∙◌, arith}
use Rattle.std.proofs.lemmas.Bool.{cond-true}
use Rattle.gr_tick.specs.Runs.{is_in}
use Rattle.gr_tick.proofs.RunsLemmas.{EndBefore-later}
use Rattle.gr_tick.proofs.WalkLemmas.{walk_push, walk_end}
use Rattle.gr_know.specs.Values.{known_at, is_Q}
use Rattle.gr_curio.specs.declared.values.Q3.TheVariants.{A}
use Rattle.gr_curio.specs.Values.{wanted_at, is_A}
use Rattle.gr_broker_walks.specs.Told.{left_at}
use Rattle.gr_broker_walks.proofs.walks.put_left.Goals as goal

pub returns-then-is_acknowledged-clause-values : goal.returns-then-is_acknowledged-clause-values
returns-then-is_acknowledged-clause-values c = λ t.
    c.in_ok-put.ensures.values t
    ∙ ap (λ x. cond (is_in t c.args.run.now) x (wanted_at c.args.piece.now t)) (sym (cond-true (is_A c.args.run.now.value) A _ (sym c.is_acknowledged.ensures ∙ c.if-is_acknowledged.true)))

pub returns-then-is_acknowledged-clause-past : goal.returns-then-is_acknowledged-clause-past
returns-then-is_acknowledged-clause-past c = λ t lt. EndBefore-later _ _ t c.in_ok-put.ensures.past (omega (arith, lt))

pub loop-next-preserved : goal.loop-next-preserved
loop-next-preserved c =
    let forward : c.loop-next.next ≤ c.min-end.result = omega (arith, c.min-end.ensures, c.steady_at-told.ensures.forward, c.loop-next-test.true) in
    record {
      forward = omega (arith, forward, c.loop-next.invariant.forward);
      inside = omega (arith, c.min-end.ensures);
      values = λ t. walk_push c.args.run.now.first c.loop-next.next c.min-end.result t (left_at c.args.run.now.value (is_Q (known_at c.args.reply.now t))) c.left_value-value.result _ _ _ c.loop-next.invariant.forward forward (c.loop-next.invariant.values t) (c.in_ok-put-2.ensures.values t)
          (λ lo hi. c.left_value-value.ensures ∙ ap (λ k. left_at c.args.run.now.value (is_Q k)) (c.steady_at-told.ensures.value ∙ sym (c.steady_at-told.ensures.steady t lo (omega (arith, hi, c.min-end.ensures)))));
      past = c.in_ok-put-2.ensures.past;
    }

pub returns-clause-values : goal.returns-clause-values
returns-clause-values c = λ t. walk_end c.args.run.now.first c.loop-next.next c.args.run.now.last t _ _ _ (omega arith) (c.loop-next.invariant.values t)

pub returns-clause-past : goal.returns-clause-past
returns-clause-past c = λ t lt. EndBefore-later c.loop-next.piece c.loop-next.next t c.loop-next.invariant.past (omega (arith, lt, c.loop-next.invariant.inside))
