-- Three outcomes, write by write
use Rattle.std.proofs.Common.{inl, inr, List, ℕ, [], ◌∷◌, ap, ◌∙◌}
use Rattle.gr_out.specs.Lane.{content}
use Rattle.gr_out.specs.Lane.{over}
use Rattle.gr_publog.proofs.Keeping.{keeps_then}
use Rattle.gr_publog.proofs.Rewriting.{of_gate, on_ok}
use Rattle.gr_publog.proofs.steps.rewrite.Goals as goal

pub returns-clause-any_moment : goal.returns-clause-any_moment
returns-clause-any_moment g c = λ t n image left.
    let l = g.D.Disk.lane_of c.args.disk.now c.args.lane in
    let l1 = g.D.Disk.lane_of c.close.new.disk c.args.lane in
    let l2 = g.D.Disk.lane_of c.put.new.disk c.args.lane in
    elim (c.put-2.ensures.any_moment t n image left) [
      | inr torn ↦ inr (inr (of_gate c.three_outcomes.ensures c.args.body.now (content l) (content l1) (content l2) image (c.in_ok-close.ensures.stamped t) (c.in_ok-close.ensures.behind t) (c.in_ok-put.ensures.written t)
          (c.filled_same.ensures c.args.body.now (content l1) (content l) (c.in_ok-close.ensures.behind t)) torn))
      | inl before ↦ elim (c.in_ok-put.ensures.any_moment t n image before) [
        | inr torn ↦ inr (inr (inl (c.three_outcomes.ensures.filling c.args.body.now (content l1) image (c.in_ok-close.ensures.stamped t) torn)))
        | inl earlier ↦ elim (c.in_ok-close.ensures.any_moment t n image earlier) [
          | inl since ↦ inl since
          | inr (inl e) ↦ inr (inl e)
          | inr (inr h) ↦ inr (inr (inl h))
        ]
      ]
    ]

pub returns-clause-written : goal.returns-clause-written
returns-clause-written g c = λ t.
    let l = g.D.Disk.lane_of c.args.disk.now c.args.lane in
    let l1 = g.D.Disk.lane_of c.close.new.disk c.args.lane in
    on_ok c.put-2.result (λ e. e ∙ (ap (λ (x : List ℕ). over 5 (1 ∷ []) x) (c.in_ok-put.ensures.written t)
    ∙ (c.three_outcomes.ensures.opened c.args.body.now (content l1) (c.in_ok-close.ensures.stamped t) ∙ c.filled_same.ensures c.args.body.now (content l1) (content l) (c.in_ok-close.ensures.behind t)))) (c.put-2.ensures.written t)

pub returns-in_err-put-clause-keeps : goal.returns-in_err-put-clause-keeps
returns-in_err-put-clause-keeps g c = λ t. keeps_then _ (g.D.Disk.lane_of c.close.new.disk c.args.lane) _ (c.in_ok-close.ensures.keeps t) (c.put.ensures.keeps t)

pub returns-clause-keeps : goal.returns-clause-keeps
returns-clause-keeps g c = λ t.
    let l1 = g.D.Disk.lane_of c.close.new.disk c.args.lane in
    let l2 = g.D.Disk.lane_of c.put.new.disk c.args.lane in
    keeps_then _ l1 _ (c.in_ok-close.ensures.keeps t) (keeps_then l1 l2 _ (c.in_ok-put.ensures.keeps t) (c.put-2.ensures.keeps t))
