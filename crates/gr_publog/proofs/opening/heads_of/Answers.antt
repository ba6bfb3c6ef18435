-- The first lane's head, and then the second one's
use Rattle.std.proofs.Common.{◌≡◌, ℕ, suc, ◌+◌, true, false, length, Ok, ap, ◌∙◌, subst, arith}
use Rattle.gr_out.specs.Lane.{Lane, content}
use Rattle.gr_publog.specs.Text.{standing_of}
use Rattle.gr_publog.specs.Gives.{Tells}
use Rattle.gr_publog.proofs.Surveying.{tells_first, tells_second}
use Rattle.gr_publog.proofs.opening.heads_of.Goals as goal

pub returns-in-Err-head_of-clause-gives : goal.returns-in-Err-head_of-clause-gives
returns-in-Err-head_of-clause-gives g c = λ t.
    let f : ℕ → Lane = g.D.Disk.lane_of c.args.disk.now in
    let same : g.D.Disk.lane_of c.size_of-2.new.disk c.args.lane ≡ f c.args.lane = c.in-Ok-size_of.ensures.uses.lanes t c.args.lane ∙ c.in-Ok.ensures.uses.lanes t c.args.lane in
    tells_first c.in-Err-head_of.fault (content (f c.args.lane)) (content (f (suc c.args.lane)))
    (subst (λ (l : Lane). Tells c.in-Err-head_of.fault (standing_of true (content l))) same (c.in-Err-head_of.ensures.gives t))

pub returns-in-Err-head_of-2-clause-gives : goal.returns-in-Err-head_of-2-clause-gives
returns-in-Err-head_of-2-clause-gives g c = λ t.
    let f : ℕ → Lane = g.D.Disk.lane_of c.args.disk.now in
    let n : ℕ = c.args.lane + 1 in
    let next_is : n ≡ suc c.args.lane = omega arith in
    let same : g.D.Disk.lane_of c.size_of-2.new.disk c.args.lane ≡ f c.args.lane = c.in-Ok-size_of.ensures.uses.lanes t c.args.lane ∙ c.in-Ok.ensures.uses.lanes t c.args.lane in
    let same_next : g.D.Disk.lane_of c.head_of.new.disk n ≡ f (suc c.args.lane) =
    c.in-Ok-head_of.ensures.uses.lanes t n ∙ (c.in-Ok-size_of.ensures.uses.lanes t n ∙ (c.in-Ok.ensures.uses.lanes t n ∙ ap f next_is)) in
    tells_second c.in-Err-head_of-2.fault (content (f c.args.lane)) (content (f (suc c.args.lane))) c.in-Ok-head_of.standing
    (subst (λ (l : Lane). standing_of true (content l) ≡ Ok c.in-Ok-head_of.standing) same (c.in-Ok-head_of.ensures.gives t))
    (subst (λ (l : Lane). Tells c.in-Err-head_of-2.fault (standing_of false (content l))) same_next (c.in-Err-head_of-2.ensures.gives t))

pub returns-clause-gives : goal.returns-clause-gives
returns-clause-gives g c = λ t.
    let f : ℕ → Lane = g.D.Disk.lane_of c.args.disk.now in
    let n : ℕ = c.args.lane + 1 in
    let next_is : n ≡ suc c.args.lane = omega arith in
    let same : g.D.Disk.lane_of c.size_of-2.new.disk c.args.lane ≡ f c.args.lane = c.in-Ok-size_of.ensures.uses.lanes t c.args.lane ∙ c.in-Ok.ensures.uses.lanes t c.args.lane in
    let same_next : g.D.Disk.lane_of c.head_of.new.disk n ≡ f (suc c.args.lane) =
    c.in-Ok-head_of.ensures.uses.lanes t n ∙ (c.in-Ok-size_of.ensures.uses.lanes t n ∙ (c.in-Ok.ensures.uses.lanes t n ∙ ap f next_is)) in
    let sized : g.D.Disk.lane_of c.size_of.new.disk n ≡ f (suc c.args.lane) = c.in-Ok.ensures.uses.lanes t n ∙ ap f next_is in
    record {
      first = subst (λ (l : Lane). standing_of true (content l) ≡ Ok c.in-Ok-head_of.standing) same (c.in-Ok-head_of.ensures.gives t);
      second = subst (λ (l : Lane). standing_of false (content l) ≡ Ok c.in-Ok-head_of-2.standing) same_next (c.in-Ok-head_of-2.ensures.gives t);
      first_size = c.in-Ok.ensures.size t;
      second_size = c.in-Ok-size_of.ensures.size t ∙ ap (λ (l : Lane). length (content l)) sized;
    }
