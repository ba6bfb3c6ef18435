use Rattle.std.proofs.Common.{◌≤◌, sym, ap, ◌∙◌, arith}
use Rattle.std.proofs.lemmas.Bool.{cond-false}
use Rattle.gr_tick.proofs.RunsLemmas.{EndBefore-later}
use Rattle.gr_tick.proofs.WalkLemmas.{walk_push, walk_end}
use Rattle.gr_know.specs.declared.values.K.TheVariants.{Q}
use Rattle.gr_know.specs.Values.{known_at}
use Rattle.gr_curio.specs.Values.{wanted_at, is_C}
use Rattle.gr_curio.specs.Wants.{runs_of, wants_of}
use Rattle.gr_curio.proofs.PutLemmas.{nothing_put}
use Rattle.gr_broker_walks.specs.Told.{said_at}
use Rattle.gr_broker_walks.proofs.Walked.{asked_is}
use Rattle.gr_broker_walks.proofs.walks.put_said.Goals as goal

pub returns-then-not-is_asked-clause-values : goal.returns-then-not-is_asked-clause-values
returns-then-not-is_asked-clause-values c = λ t. nothing_put Q _ c.args.piece.now c.args.run.now t c.requires.past (cond-false (is_C c.args.run.now.value) _ Q (sym c.is_asked.ensures ∙ c.if-not-is_asked.true))

pub returns-then-not-is_asked-clause-past : goal.returns-then-not-is_asked-clause-past
returns-then-not-is_asked-clause-past c = λ t lt. EndBefore-later c.args.piece.now c.args.run.now.first t c.requires.past (omega (arith, lt, c.requires.alone.ordered))

pub loop-next-preserved : goal.loop-next-preserved
loop-next-preserved c =
    let forward : c.loop-next.next ≤ c.min-end.result = omega (arith, c.min-end.ensures, c.said_from-value.ensures.forward, c.loop-next-test.true) in
    record {
      forward = omega (arith, forward, c.loop-next.invariant.forward);
      inside = omega (arith, c.min-end.ensures);
      values = λ t. walk_push c.args.run.now.first c.loop-next.next c.min-end.result t (said_at (known_at c.args.know.now.runs t) (wanted_at (wants_of (runs_of c.args.wants.now) c.args.child) t) c.args.run.now.value) c.said_from-value.result.value _ _ _ c.loop-next.invariant.forward forward (c.loop-next.invariant.values t) (c.in_ok-put.ensures.values t)
          (λ lo hi. sym (c.said_from-value.ensures.steady t lo (omega (arith, hi, c.min-end.ensures))) ∙ ap (said_at (known_at c.args.know.now.runs t) (wanted_at (wants_of (runs_of c.args.wants.now) c.args.child) t)) (sym (asked_is c.args.run.now.value (sym c.is_asked.ensures ∙ c.if-not-is_asked.false))));
      past = c.in_ok-put.ensures.past;
    }

pub returns-clause-values : goal.returns-clause-values
returns-clause-values c = λ t. walk_end c.args.run.now.first c.loop-next.next c.args.run.now.last t _ _ _ (omega arith) (c.loop-next.invariant.values t)

pub returns-clause-past : goal.returns-clause-past
returns-clause-past c = λ t lt. EndBefore-later c.loop-next.piece c.loop-next.next t c.loop-next.invariant.past (omega (arith, lt, c.loop-next.invariant.inside))
