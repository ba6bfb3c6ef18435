use Rattle.std.proofs.Common.{ℕ, List, Option, Some, None, IfSome, ◌≡◌, ◌⊎◌, inl, inr, refl, sym, ◌∙◌, subst}
use Rattle.gr_out.specs.Page.{TakesFront}
use Rattle.gr_out.proofs.Fronts.{front-nothing}
use Rattle.gr_scenario.specs.Scenario.{asked_by}
use Rattle.gr_top.specs.Answers.{Answer, answer_to}
use Rattle.gr_top.specs.Words.{task_by, texts_of}
use Rattle.gr_top.specs.Top.{IsAnswered, IsWhole, IsCut, IsStop}
use Rattle.gr_top.proofs.CutLemmas.{cut_nothing_of}
use Rattle.gr_top.proofs.top.gryphon.Goals as goal

-- where nothing was taken, that is a front of whatever the answer is
nothing_yet : (taken : Option (List ℕ)) (answer : Option Answer) → IfSome answer (λ a. TakesFront taken taken a.text)
nothing_yet taken None = tt
nothing_yet taken (Some a) = front-nothing taken taken a.text refl

pub returns-in-Err-clause-front : goal.returns-in-Err-clause-front
returns-in-Err-clause-front g c =
    λ cut. nothing_yet (g.K.Sink.taken c.args.sink.now) (answer_to (task_by (texts_of c.args.words.now)) (g.S.Source.left c.args.source.now))

pub returns-in-Err-clause-cut : goal.returns-in-Err-clause-cut
returns-in-Err-clause-cut g c = λ cut task.
    cut_nothing_of (g.K.Sink.taken c.args.sink.now) (g.K.Sink.taken c.args.sink.now) (g.S.Source.left c.args.source.now) asked_by refl

-- where no fault was counted, the status is that of the answer, but for want of memory
complete_unless : (r : ℕ) (answer : Option Answer) (old new : Option (List ℕ)) (S K : Type 0) → (r ≡ 3 → S) → (r ≡ 4 → K) → (IsWhole r → IfSome answer (IsAnswered r old new)) → (IsStop r → IfSome answer (λ a. ⊥)) → (r ≡ 3) ⊎ (IsWhole r ⊎ (IsCut r ⊎ IsStop r)) → (S → ⊥) → (K → ⊥) → IfSome answer (λ a. (r ≡ a.status) ⊎ (r ≡ 7))
complete_unless r None old new S K read write whole stop c s k = tt
complete_unless r (Some a) old new S K read write whole stop (inl e) s k = absurd (s (read e))
complete_unless r (Some a) old new S K read write whole stop (inr (inl w)) s k = inl (whole w).same
complete_unless r (Some a) old new S K read write whole stop (inr (inr (inl (inl e)))) s k = absurd (k (write e))
complete_unless r (Some a) old new S K read write whole stop (inr (inr (inl (inr e)))) s k = inr e
complete_unless r (Some a) old new S K read write whole stop (inr (inr (inr p))) s k = absurd (stop p)

pub returns-in-Ok-Serve-clause-completeness : goal.returns-in-Ok-Serve-clause-completeness
returns-in-Ok-Serve-clause-completeness g c =
    let r = c.serve_source.result in
    let left = g.S.Source.left c.args.source.now in
    let old = g.K.Sink.taken c.args.sink.now in
    let new = g.K.Sink.taken c.serve_source.new.sink in
    let same = sym c.in-Ok-Serve.field-0-is ∙ c.in-Ok-Serve.ensures.task in
    complete_unless r (answer_to (task_by (texts_of c.args.words.now)) left) old new _ _ c.serve_source.ensures.source.failed c.serve_source.ensures.sink.failed
    (λ w. subst (λ task. IfSome (answer_to task left) (IsAnswered r old new)) same (c.serve_source.ensures.answered w))
    (λ p. subst (λ task. IfSome (answer_to task left) (λ a. ⊥)) same (c.serve_source.ensures.refuses p))
    c.serve_source.ensures.complete
