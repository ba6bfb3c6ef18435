use Rattle.std.proofs.Common.{◌<◌, length, sym, subst}
use Rattle.gr_topo.specs.Topology.{TopologyView}
use Rattle.gr_world.specs.Seen.{net_in, world_of}
use Rattle.gr_world.proofs.StoppedWorlds.{told_over, ran_restarted}
use Rattle.gr_world.proofs.world.World.start_stopped.Goals as goal

pub returns-in-Ok-clause-does : goal.returns-in-Ok-clause-does
returns-in-Ok-clause-does g c =
    told_over (net_in c.args.self.now) (world_of c.args.self.now) c.args.host c.args.p c.args.number c.args.tick c.restart.new.self c.in-Ok.opened c.tell_stopped.result
    (subst (λ (t : TopologyView). c.args.p < length t.publishers) (sym c.in-Ok.ensures.restarts.topo) c.requires.publisher) c.in-Ok.ensures.does c.tell_stopped.ensures.lines

pub returns-in-Ok-clause-ran : goal.returns-in-Ok-clause-ran
returns-in-Ok-clause-ran g c =
    ran_restarted c.args.host c.args.self.now c.restart.new.self c.in-Ok.opened c.tell_stopped.result c.in-Ok.ensures.restarts c.in-Ok.ensures.fits c.tell_stopped.ensures.memory
