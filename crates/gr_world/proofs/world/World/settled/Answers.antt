use Rattle.std.proofs.Common.{ap}
use Rattle.gr_world.specs.Seen.{WorldView}
use Rattle.gr_world.proofs.Moments.{log_found, settled_is}
use Rattle.gr_world.proofs.world.World.settled.Goals as goal

pub returns-clause-tick : goal.returns-clause-tick
returns-clause-tick c =
    let w = c.args.self.now in
    let e = log_found w c.self.inside.brokers.items c.self.inside.topology c.args.p c.host.result c.index-broker.result.now c.log-log.result.now
    (ap (λ (v : WorldView). v.brokers) c.self.view_is) (ap (λ (v : WorldView). v.topo) c.self.view_is) c.requires.fits.count c.host.ensures.host c.host.ensures.broker c.index-broker.ensures c.log-log.ensures in
    (settled_is w c.args.p c.settled.result c.log-log.result.now c.requires.publisher e c.is_broken.ensures.state c.settled.ensures).0

pub returns-clause-upto : goal.returns-clause-upto
returns-clause-upto c =
    let w = c.args.self.now in
    let e = log_found w c.self.inside.brokers.items c.self.inside.topology c.args.p c.host.result c.index-broker.result.now c.log-log.result.now
    (ap (λ (v : WorldView). v.brokers) c.self.view_is) (ap (λ (v : WorldView). v.topo) c.self.view_is) c.requires.fits.count c.host.ensures.host c.host.ensures.broker c.index-broker.ensures c.log-log.ensures in
    (settled_is w c.args.p c.settled.result c.log-log.result.now c.requires.publisher e c.is_broken.ensures.state c.settled.ensures).1
