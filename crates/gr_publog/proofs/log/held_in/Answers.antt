-- All bytes of the lane
use Rattle.std.proofs.Common.{◌≡◌, ℕ, List, ap, ◌∙◌, subst}
use Rattle.gr_out.specs.Lane.{content}
use Rattle.gr_publog.specs.declared.read.Held.{Held}
use Rattle.gr_publog.specs.State.{held_by}
use Rattle.gr_publog.specs.Text.{AreBytes, placed_in}
use Rattle.gr_publog.proofs.Starting.{whole_is, tells_by, on_any}
use Rattle.gr_publog.proofs.log.held_in.Goals as goal

pub returns-clause-gives : goal.returns-clause-gives
returns-clause-gives g c = λ t.
    let bytes : List ℕ = content (g.D.Disk.lane_of c.args.disk.now c.args.lane) in
    let whole : c.deref-2.result.now ≡ bytes = c.deref-2.ensures.value ∙ (c.in-Ok.ensures.bytes t ∙ whole_is c.args.size bytes (c.requires.size t)) in
    tells_by (λ (x : Held). (held_by x.footing x.events, x.gate)) c.text_in.result (placed_in c.args.late.now c.args.standing c.deref-2.result.now) (placed_in c.args.late.now c.args.standing bytes) (ap (placed_in c.args.late.now c.args.standing) whole) c.text_in.ensures.gives

pub returns-clause-bytes : goal.returns-clause-bytes
returns-clause-bytes g c = λ t.
    let bytes : List ℕ = content (g.D.Disk.lane_of c.args.disk.now c.args.lane) in
    let whole : c.deref.result.now ≡ bytes = c.deref.ensures.value ∙ (c.in-Ok.ensures.bytes t ∙ whole_is c.args.size bytes (c.requires.size t)) in
    on_any c.text_in.result (subst AreBytes whole c.are_bytes.ensures)
