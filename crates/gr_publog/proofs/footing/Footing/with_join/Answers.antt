-- A Join that may follow may stand behind the others
use Rattle.gr_publog.proofs.Entering.{may_with}
use Rattle.gr_publog.proofs.footing.Footing.with_join.Goals as goal

pub with-requires : goal.with-requires
with-requires c =
    let follows = rw (← c.self.view_is) at c.requires in
    may_with (record { state = c.self.inside.state; joins = c.self.inside.joins; late = c.self.inside.late.items }) c.args.tick c.args.subscriber c.self.invariant follows
