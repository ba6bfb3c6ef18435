use Rattle.std.proofs.Common.{◌≡◌, ◌+◌, take, sym, ap, ◌∙◌, subst, inl, inr, ⊎_elim, arith}
use Rattle.std.proofs.lemmas.Bool.{cases_lt}
use Rattle.gr_curio.specs.Values.{wanted_at, is_C}
use Rattle.gr_curio.specs.Wants.{HasChange}
use Rattle.gr_curio.proofs.ChildrenLemmas.{none_more, any_holds, change_more, change_here}
use Rattle.gr_curio.proofs.children.asked_from.Goals as goal

pub returns-then-is_asked-clause-greatest : goal.returns-then-is_asked-clause-greatest
returns-then-is_asked-clause-greatest c = λ less.
    let same : c.min.result ≡ c.steady_at-wanted.result.last = omega (arith, c.min.ensures, less) in
    subst (λ e. HasChange c.args.tick (e + 1) c.args.children.now) (sym same)
    (change_here c.args.tick (c.steady_at-wanted.result.last + 1) c.args.children.now c.loop-child.child-index c.child-item.result (omega arith) c.child-item.is (c.steady_at-wanted.ensures.greatest (omega (arith, less, same, c.requires.upto))))

pub returns-then-is_asked-clause-steady : goal.returns-then-is_asked-clause-steady
returns-then-is_asked-clause-steady c = λ t lo hi.
    any_holds (λ child. is_C (wanted_at child.runs t)) c.args.children.now c.loop-child.child-index c.child-item.result (omega arith) c.child-item.is
    (ap is_C (c.steady_at-wanted.ensures.steady t lo (omega (arith, hi, c.min.ensures)) ∙ sym c.steady_at-wanted.ensures.value) ∙ sym c.is_asked.ensures ∙ c.if-is_asked.true)

pub loop-child-preserved : goal.loop-child-preserved
loop-child-preserved c = record {
  forward = omega (arith, c.min-end.ensures, c.steady_at-wanted.ensures.forward, c.loop-child.invariant.forward);
  inside = omega (arith, c.min-end.ensures, c.loop-child.invariant.inside);
  greatest = λ less. ⊎_elim
      (λ lt.
      let same : c.min-end.result ≡ c.steady_at-wanted.result.last = omega (arith, c.min-end.ensures, lt) in
      subst (λ e. HasChange c.args.tick (e + 1) (take (c.loop-child.child-index + 1) c.args.children.now)) (sym same)
      (change_more c.args.tick (c.steady_at-wanted.result.last + 1) c.args.children.now c.loop-child.child-index c.child-item.result (omega arith) c.child-item.is (inr (c.steady_at-wanted.ensures.greatest (omega (arith, less, same, c.requires.upto))))))
      (λ le.
      let same : c.min-end.result ≡ c.loop-child.end = omega (arith, c.min-end.ensures, le) in
      subst (λ e. HasChange c.args.tick (e + 1) (take (c.loop-child.child-index + 1) c.args.children.now)) (sym same)
      (change_more c.args.tick (c.loop-child.end + 1) c.args.children.now c.loop-child.child-index c.child-item.result (omega arith) c.child-item.is (inl (c.loop-child.invariant.greatest (omega (arith, less, same))))))
      (cases_lt c.steady_at-wanted.result.last c.loop-child.end);
  steady = λ t lo hi.
      none_more (λ child. is_C (wanted_at child.runs t)) c.args.children.now c.loop-child.child-index c.child-item.result (omega arith) c.child-item.is
      (c.loop-child.invariant.steady t lo (omega (arith, hi, c.min-end.ensures)))
      (ap is_C (c.steady_at-wanted.ensures.steady t lo (omega (arith, hi, c.min-end.ensures)) ∙ sym c.steady_at-wanted.ensures.value) ∙ sym c.is_asked.ensures ∙ c.if-is_asked.false);
}
