-- What the present lane holds is the log
use Rattle.std.proofs.Common.{◌≡◌, ℕ, Ok, refl, subst}
use Rattle.gr_out.specs.Lane.{Lane, content}
use Rattle.gr_publog.specs.declared.head.Standing.TheVariants.{New}
use Rattle.gr_publog.specs.declared.head.Present.TheVariants.{Neither}
use Rattle.gr_publog.specs.State.{held_by}
use Rattle.gr_publog.specs.Text.{AreBytes, placed_in}
use Rattle.gr_publog.specs.Gives.{Tells}
use Rattle.gr_publog.proofs.Starting.{settles_text, found_ok}
use Rattle.gr_publog.proofs.log.found.Goals as goal

pub returns-in-Err-clause-settles : goal.returns-in-Err-clause-settles
returns-in-Err-clause-settles g c = λ t.
    let f : ℕ → Lane = g.D.Disk.lane_of c.args.disk.now in
    settles_text c.args.late.now c.args.lane f (g.D.Disk.lane_of c.held_in.new.disk) Neither (New c.args.generation) c.args.second c.in-Err.fault (c.in-Err.ensures.uses.lanes t) (c.requires.only t) (c.requires.present t)
    (subst (λ (n : ℕ). Tells c.in-Err.fault (placed_in c.args.late.now (New c.args.generation) (content (f n)))) c.number_of.ensures (c.in-Err.ensures.gives t))

pub returns-clause-settles : goal.returns-clause-settles
returns-clause-settles g c = λ t.
    let f : ℕ → Lane = g.D.Disk.lane_of c.args.disk.now in
    found_ok c.args.late.now c.args.lane f (g.D.Disk.lane_of c.held_in.new.disk) c.args.second c.args.generation c.in-Ok.held.gate (held_by c.in-Ok.held.footing c.in-Ok.held.events) c.args.aside _ c.requires.late c.in-Ok.ensures.held.joiners (c.in-Ok.ensures.uses.lanes t) (c.requires.only t) (c.requires.present t) (c.requires.standing t)
    (subst (λ (n : ℕ). AreBytes (content (f n))) c.number_of.ensures (c.in-Ok.ensures.bytes t))
    (subst (λ (n : ℕ). placed_in c.args.late.now (New c.args.generation) (content (f n)) ≡ Ok (held_by c.in-Ok.held.footing c.in-Ok.held.events, c.in-Ok.held.gate)) c.number_of.ensures (c.in-Ok.ensures.gives t))
    (c.requires.aside t) (c.requires.beside t) refl
