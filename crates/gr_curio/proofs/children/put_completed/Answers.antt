use Rattle.std.proofs.Common.{◌≡◌, ℕ, ◌+◌, ◌≤◌, ◌&&◌, nat_le, cond, sym, ap, ◌∙◌, subst, arith}
use Rattle.gr_tick.specs.Stored.{EndBefore}
use Rattle.gr_tick.proofs.RunsLemmas.{EndBefore-later, value_at_past}
use Rattle.gr_tick.proofs.WalkLemmas.{walk_push, walk_skip}
use Rattle.gr_curio.specs.Values.{wanted_at, is_A}
use Rattle.gr_curio.specs.Wants.{runs_of, all_A}
use Rattle.gr_curio.specs.declared.values.Q3.TheVariants.{N, A}
use Rattle.gr_curio.proofs.PutLemmas.{nothing_put, walk_stop}
use Rattle.gr_curio.proofs.ChildrenLemmas.{completed_test, completed_unheard, completed_past}
use Rattle.gr_curio.proofs.children.put_completed.Goals as goal
use Rattle.gr_curio.proofs.children.put_completed.Goals.{then-all+in_ok-push, else-all}

pub returns-then-not-is_acknowledged-clause-values : goal.returns-then-not-is_acknowledged-clause-values
returns-then-not-is_acknowledged-clause-values c = λ t.
    nothing_put N _ c.args.done.now c.args.run.now t c.requires.past
    (completed_unheard c.args.upto t (is_A c.args.run.now.value) (all_A (runs_of c.args.before.now) t && all_A (runs_of c.args.after.now) t) (sym c.is_acknowledged.ensures ∙ c.if-not-is_acknowledged.true))

pub returns-then-not-is_acknowledged-clause-past : goal.returns-then-not-is_acknowledged-clause-past
returns-then-not-is_acknowledged-clause-past c = λ t lt. EndBefore-later c.args.done.now c.args.run.now.first t c.requires.past (omega (arith, lt, c.requires.alone.ordered))

pub loop-next-preserved : goal.loop-next-preserved
loop-next-preserved c =
    let done = λ (t : ℕ). cond (is_A c.args.run.now.value && nat_le t c.args.upto && (all_A (runs_of c.args.before.now) t && all_A (runs_of c.args.after.now) t)) A N in
    let all = c.completed_from-all in
    let told : (t : ℕ) → c.loop-next.next ≤ t → t ≤ all.result.last → cond all.result.value A N ≡ done t = λ t lo hi.
    completed_test c.args.upto t (is_A c.args.run.now.value) all.result.value c.args.before.now c.args.after.now (sym c.is_acknowledged.ensures ∙ c.if-not-is_acknowledged.false)
    (omega (arith, hi, all.ensures.inside, c.min-last.ensures)) (all.ensures.steady t lo hi) in
    elim c.if-all.branch [
      | then-all+in_ok-push w ↦ record {
        forward = omega (arith, all.ensures.forward, c.loop-next.invariant.forward);
        inside = omega (arith, all.ensures.inside, c.min-last.ensures);
        values = λ t. ap (λ p. wanted_at p t) w.done-is ∙ walk_push c.args.run.now.first c.loop-next.next all.result.last t (done t) A _ _ _ c.loop-next.invariant.forward all.ensures.forward (c.loop-next.invariant.values t) (w.in_ok-push.ensures.ok.values t)
            (λ lo hi. ap (λ b. cond b A N) (sym w.if-all.true) ∙ told t lo hi);
        past = subst (λ p. EndBefore p (all.result.last + 1)) (sym w.done-is) (w.in_ok-push.ensures.past (all.result.last + 1) (omega arith));
      }
      | else-all w ↦ record {
        forward = omega (arith, all.ensures.forward, c.loop-next.invariant.forward);
        inside = omega (arith, all.ensures.inside, c.min-last.ensures);
        values = λ t. ap (λ p. wanted_at p t) w.done-is ∙ walk_skip c.args.run.now.first c.loop-next.next all.result.last t (done t) _ _ c.loop-next.invariant.forward all.ensures.forward (c.loop-next.invariant.values t)
            (λ lo hi. value_at_past N c.args.done.now c.args.run.now.first t c.requires.past (omega (arith, lo, c.loop-next.invariant.forward)) ∙ ap (λ b. cond b A N) (sym w.if-all.false) ∙ told t lo hi);
        past = subst (λ p. EndBefore p (all.result.last + 1)) (sym w.done-is) (EndBefore-later _ c.loop-next.next _ c.loop-next.invariant.past (omega (arith, all.ensures.forward)));
      }
    ]

pub returns-clause-values : goal.returns-clause-values
returns-clause-values c = λ t.
    walk_stop c.args.run.now.first c.loop-next.next c.args.run.now.last t _ _ _ c.loop-next.invariant.forward c.loop-next.invariant.inside (c.loop-next.invariant.values t)
    (λ lo hi. value_at_past N c.args.done.now c.args.run.now.first t c.requires.past (omega (arith, lo, c.loop-next.invariant.forward))
    ∙ sym (completed_past c.args.upto t (is_A c.args.run.now.value) (all_A (runs_of c.args.before.now) t && all_A (runs_of c.args.after.now) t) (omega (arith, lo, hi, c.loop-next-test.false, c.min-last.ensures))))

pub returns-clause-past : goal.returns-clause-past
returns-clause-past c = λ t lt. EndBefore-later c.loop-next.done c.loop-next.next t c.loop-next.invariant.past (omega (arith, lt, c.loop-next.invariant.inside))
