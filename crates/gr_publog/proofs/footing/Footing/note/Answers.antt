-- Who joins is no longer among those that have not
use Rattle.gr_publog.proofs.Entering.{held_note}
use Rattle.gr_publog.proofs.footing.Footing.note.Goals as goal

pub invariant_of-self : goal.invariant_of-self
invariant_of-self c =
    let follows = rw (← c.self.view_is) at c.requires.follows in
    let more = rw (← c.self.view_is) at c.requires.joins in
    rw (c.note.ensures, more) (held_note (record { state = c.self.inside.state; joins = c.self.inside.joins; late = c.self.inside.late.items }) c.args.entry.now c.self.invariant follows c.is_sound.ensures)
