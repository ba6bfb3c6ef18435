-- Shut first, and then stamped
use Rattle.std.proofs.Common.{inl, inr, ℕ, ◌<◌, List, [], ◌∷◌, length, sym, ap, ◌∙◌, subst, arith}
use Rattle.gr_out.specs.Lane.{content, over, Torn}
use Rattle.gr_publog.specs.Text.{stamp}
use Rattle.gr_publog.specs.Rewrite.{IsStamped}
use Rattle.gr_publog.proofs.Moments.{length-over}
use Rattle.gr_publog.proofs.Keeping.{keeps_then}
use Rattle.gr_publog.proofs.Rewriting.{on_ok}
use Rattle.gr_publog.proofs.steps.close_open.Goals as goal

pub returns-clause-stamped : goal.returns-clause-stamped
returns-clause-stamped g c = λ t.
    let old = content (g.D.Disk.lane_of c.args.disk.now c.args.lane) in
    let shut : List ℕ = over 5 (0 ∷ []) old in
    let was : 6 < length old = c.requires.long t in
    let long : 6 < length shut = omega (arith, was, length-over 5 (0 ∷ []) old) in
    on_ok c.put-2.result (λ e. subst IsStamped (sym (e ∙ ap (λ (x : List ℕ). over 0 stamp x) (c.in_ok-put.ensures.written t))) (c.three_outcomes.ensures.stamped shut long (c.three_outcomes.ensures.shut_now old was))) (c.put-2.ensures.written t)

pub returns-clause-any_moment : goal.returns-clause-any_moment
returns-clause-any_moment g c = λ t n image left.
    let old = content (g.D.Disk.lane_of c.args.disk.now c.args.lane) in
    let shut : List ℕ = over 5 (0 ∷ []) old in
    let was : 6 < length old = c.requires.long t in
    let long : 6 < length shut = omega (arith, was, length-over 5 (0 ∷ []) old) in
    elim (c.put-2.ensures.any_moment t n image left) [
      | inr torn ↦ inr (inr (c.three_outcomes.ensures.stamping shut image long (c.three_outcomes.ensures.shut_now old was) (subst (λ (x : List ℕ). Torn 0 5 x image) (c.in_ok-put.ensures.written t) torn)))
      | inl before ↦ elim (c.in_ok-put.ensures.any_moment t n image before) [
        | inr torn ↦ inr (c.three_outcomes.ensures.shutting old image was (c.requires.opened t) torn)
        | inl since ↦ inl since
      ]
    ]

pub returns-clause-keeps : goal.returns-clause-keeps
returns-clause-keeps g c = λ t. keeps_then _ (g.D.Disk.lane_of c.put.new.disk c.args.lane) _ (c.in_ok-put.ensures.keeps t) (c.put-2.ensures.keeps t)
