use Rattle.std.proofs.Common.{◌≡◌, ℕ, ◌+◌, ◌≤◌, not, cond, sym, ap, ◌∙◌, subst, arith}
use Rattle.gr_tick.specs.Stored.{EndBefore}
use Rattle.gr_tick.proofs.RunsLemmas.{EndBefore-later, value_at_past}
use Rattle.gr_tick.proofs.WalkLemmas.{walk_push, walk_skip}
use Rattle.gr_curio.specs.Values.{asked_at, wanted_at}
use Rattle.gr_curio.specs.Due.{due_of}
use Rattle.gr_curio.specs.declared.values.Q3.TheVariants.{N, C}
use Rattle.gr_curio.proofs.DueLemmas.{due_unasked, due_asked}
use Rattle.gr_curio.proofs.PutLemmas.{nothing_put}
use Rattle.gr_curio.proofs.asks.put_due.Goals as goal
use Rattle.gr_curio.proofs.asks.put_due.Goals.{then-not-outstanding+in_ok-push, else-not-outstanding}

pub returns-then-not-is_asked-clause-values : goal.returns-then-not-is_asked-clause-values
returns-then-not-is_asked-clause-values c = λ t.
    nothing_put N _ c.args.due.now c.args.run.now t c.requires.past
    (due_unasked (asked_at c.args.moments.now.runs t) c.args.run.now.value c.args.now c.args.retry (sym c.is_asked.ensures ∙ c.if-not-is_asked.true))

pub returns-then-not-is_asked-clause-past : goal.returns-then-not-is_asked-clause-past
returns-then-not-is_asked-clause-past c = λ t lt. EndBefore-later c.args.due.now c.args.run.now.first t c.requires.past (omega (arith, lt, c.requires.alone.ordered))

pub loop-next-preserved : goal.loop-next-preserved
loop-next-preserved c =
    let asked = c.args.moments.now.runs in
    let q = c.args.run.now.value in
    let due : (t : ℕ) → c.loop-next.next ≤ t → t ≤ c.min-end.result → cond (not c.outstanding.result) C N ≡ due_of (asked_at asked t) q c.args.now c.args.retry = λ t lo hi.
    due_asked (asked_at asked t) (asked_at asked c.loop-next.next) c.steady_at-asked.result.value q c.args.now c.args.retry c.outstanding.result
    (sym c.is_asked.ensures ∙ c.if-not-is_asked.false) c.steady_at-asked.ensures.value (c.steady_at-asked.ensures.steady t lo (omega (arith, hi, c.min-end.ensures))) c.outstanding.ensures in
    let forward : c.loop-next.next ≤ c.min-end.result = omega (arith, c.min-end.ensures, c.steady_at-asked.ensures.forward) in
    elim c.if-not-outstanding.branch [
      | then-not-outstanding+in_ok-push w ↦ record {
        forward = omega (arith, forward, c.loop-next.invariant.forward);
        inside = omega (arith, c.min-end.ensures);
        values = λ t. ap (λ p. wanted_at p t) w.due-is ∙ walk_push c.args.run.now.first c.loop-next.next c.min-end.result t _ C _ _ _ c.loop-next.invariant.forward forward (c.loop-next.invariant.values t) (w.in_ok-push.ensures.ok.values t)
            (λ lo hi. ap (λ b. cond (not b) C N) (sym w.if-not-outstanding.true) ∙ due t lo hi);
        past = subst (λ p. EndBefore p (c.min-end.result + 1)) (sym w.due-is) (w.in_ok-push.ensures.past (c.min-end.result + 1) (omega arith));
      }
      | else-not-outstanding w ↦ record {
        forward = omega (arith, forward, c.loop-next.invariant.forward);
        inside = omega (arith, c.min-end.ensures);
        values = λ t. ap (λ p. wanted_at p t) w.due-is ∙ walk_skip c.args.run.now.first c.loop-next.next c.min-end.result t _ _ _ c.loop-next.invariant.forward forward (c.loop-next.invariant.values t)
            (λ lo hi. value_at_past N c.args.due.now c.args.run.now.first t c.requires.past (omega (arith, lo, c.loop-next.invariant.forward)) ∙ ap (λ b. cond (not b) C N) (sym w.if-not-outstanding.false) ∙ due t lo hi);
        past = subst (λ p. EndBefore p (c.min-end.result + 1)) (sym w.due-is) (EndBefore-later _ c.loop-next.next _ c.loop-next.invariant.past (omega arith));
      }
    ]

pub returns-clause-past : goal.returns-clause-past
returns-clause-past c = λ t lt. EndBefore-later c.loop-next.due c.loop-next.next t c.loop-next.invariant.past (omega (arith, lt, c.loop-next.invariant.inside))
