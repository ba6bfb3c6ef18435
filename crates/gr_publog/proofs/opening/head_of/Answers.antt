-- The first 14 bytes, or all that there are
use Rattle.std.proofs.Common.{◌≡◌, ℕ, ◌<◌, inl, List, take, ap, ◌∙◌, arith}
use Rattle.gr_out.specs.Lane.{content}
use Rattle.gr_publog.specs.Text.{head_in, standing_of}
use Rattle.gr_publog.proofs.Front.{head_front}
use Rattle.gr_publog.proofs.Surveying.{tells_as}
use Rattle.gr_publog.proofs.opening.head_of.Goals as goal

pub returns-then-size-le6-clause-gives : goal.returns-then-size-le6-clause-gives
returns-then-size-le6-clause-gives g c = λ t. c.shut_is.ensures c.args.first (content (g.D.Disk.lane_of c.args.disk.now c.args.lane)) (inl (omega (arith, c.requires t, c.if-size-le6.true)))

pub returns-clause-gives : goal.returns-clause-gives
returns-clause-gives g c = λ t.
    let bytes : List ℕ = content (g.D.Disk.lane_of c.args.disk.now c.args.lane) in
    let long : 6 < c.args.size = omega (arith, c.if-size-le6.false) in
    let front : c.deref.result.now ≡ take c.front_of.result bytes = c.deref.ensures.value ∙ c.in-Ok.ensures.bytes t in
    tells_as c.head_in.result (head_in c.args.first c.args.size c.deref.result.now) (standing_of c.args.first bytes)
    (ap (λ (l : List ℕ). head_in c.args.first c.args.size l) front ∙ (head_front c.args.first c.args.size bytes c.front_of.result long c.front_of.ensures ∙ ap (λ (n : ℕ). head_in c.args.first n bytes) (c.requires t)))
    c.head_in.ensures.gives
