use Rattle.std.proofs.Common.{◌≤◌, ◌&&◌, cond, sym, ap, ◌∙◌, arith}
use Rattle.std.proofs.lemmas.Bool.{cond-false, and_left}
use Rattle.gr_tick.proofs.RunsLemmas.{EndBefore-later}
use Rattle.gr_tick.proofs.WalkLemmas.{walk_push, walk_end}
use Rattle.gr_know.specs.Values.{known_at, is_Q}
use Rattle.gr_curio.specs.declared.values.Q3.TheVariants.{N, C}
use Rattle.gr_curio.specs.Values.{is_C}
use Rattle.gr_curio.proofs.PutLemmas.{nothing_put}
use Rattle.gr_broker_walks.proofs.wanted.put_unknown.Goals as goal

pub returns-then-not-is_asked-clause-values : goal.returns-then-not-is_asked-clause-values
returns-then-not-is_asked-clause-values c = λ t. nothing_put N _ c.args.piece.now c.args.run.now t c.requires.past (cond-false (is_C c.args.run.now.value && is_Q (known_at c.args.know.now.runs t)) C N (and_left (is_C c.args.run.now.value) (is_Q (known_at c.args.know.now.runs t)) (sym c.is_asked.ensures ∙ c.if-not-is_asked.true)))

pub returns-then-not-is_asked-clause-past : goal.returns-then-not-is_asked-clause-past
returns-then-not-is_asked-clause-past c = λ t lt. EndBefore-later c.args.piece.now c.args.run.now.first t c.requires.past (omega (arith, lt, c.requires.alone.ordered))

pub loop-next-preserved : goal.loop-next-preserved
loop-next-preserved c =
    let forward : c.loop-next.next ≤ c.min-end.result = omega (arith, c.min-end.ensures, c.steady_at-known.ensures.forward, c.loop-next-test.true) in
    record {
      forward = omega (arith, forward, c.loop-next.invariant.forward);
      inside = omega (arith, c.min-end.ensures);
      values = λ t. walk_push c.args.run.now.first c.loop-next.next c.min-end.result t (cond (is_C c.args.run.now.value && is_Q (known_at c.args.know.now.runs t)) C N) c.asked_unknown-value.result _ _ _ c.loop-next.invariant.forward forward (c.loop-next.invariant.values t) (c.in_ok-put.ensures.values t)
          (λ lo hi. c.asked_unknown-value.ensures ∙ ap (λ k. cond (is_Q k) C N) (c.steady_at-known.ensures.value ∙ sym (c.steady_at-known.ensures.steady t lo (omega (arith, hi, c.min-end.ensures)))) ∙ ap (λ b. cond (b && is_Q (known_at c.args.know.now.runs t)) C N) (sym (sym c.is_asked.ensures ∙ c.if-not-is_asked.false)));
      past = c.in_ok-put.ensures.past;
    }

pub returns-clause-values : goal.returns-clause-values
returns-clause-values c = λ t. walk_end c.args.run.now.first c.loop-next.next c.args.run.now.last t _ _ _ (omega arith) (c.loop-next.invariant.values t)

pub returns-clause-past : goal.returns-clause-past
returns-clause-past c = λ t lt. EndBefore-later c.loop-next.piece c.loop-next.next t c.loop-next.invariant.past (omega (arith, lt, c.loop-next.invariant.inside))
