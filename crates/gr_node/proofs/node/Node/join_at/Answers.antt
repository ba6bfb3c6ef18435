-- The join is made at the host's place
use Rattle.std.proofs.Common.{sym, Option}
use Rattle.gr_publog.specs.declared.record.Record.{Record}
use Rattle.gr_topo.specs.Topology.{host_of}
use Rattle.gr_model.specs.Broker.{Outcome as MachineOutcome}
use Rattle.gr_broker.specs.Told.{log_answer}
use Rattle.gr_broker.specs.Hosted.{join_at, join_logs_at}
use Rattle.gr_node.specs.Seen.{seen}
use Rattle.gr_node.proofs.Exchanged.{Place, placed, placed_at, hosts_here}
use Rattle.gr_node.proofs.Called.{HostGives, makes_join, fits_at_host, stands_at_host}
use Rattle.gr_node.proofs.Kept.{join_keeps}
use Rattle.gr_node.proofs.node.Node.join_at.Given.{Over}
use Rattle.gr_node.proofs.node.Node.join_at.Goals as goal

pub join-answer-requires-clause-fits : goal.join-answer-requires-clause-fits
join-answer-requires-clause-fits g c = c.requires.fits.fits c.host-host.result c.take_out-broker.result c.take_out-broker.ensures.was

pub join-answer-requires-clause-hosted : goal.join-answer-requires-clause-hosted
join-answer-requires-clause-hosted g c =
    hosts_here c.args.topo.now (seen c.args.self.now) c.host-host.result c.args.p c.take_out-broker.result c.requires.fits c.take_out-broker.ensures.was c.requires.publisher (sym c.host-host.ensures.host)

pub join-answer-requires-clause-stands : goal.join-answer-requires-clause-stands
join-answer-requires-clause-stands g c = λ tells. c.requires.stands tells c.host-host.result c.take_out-broker.result c.take_out-broker.ensures.was

place : (g : Over) (c : goal.After-answered g) → Place c.args.topo.now (seen c.args.self.now) (host_of c.args.topo.now c.args.p) c.take_out-broker.result c.join-answer.new.self c.put_back.new.brokers.items
place g c =
    placed_at c.args.topo.now (seen c.args.self.now) c.host-host.result (host_of c.args.topo.now c.args.p) c.take_out-broker.result c.join-answer.new.self c.put_back.new.brokers.items c.host-host.ensures.host
    (placed c.args.topo.now (seen c.args.self.now) c.host-host.result c.take_out-broker.result c.join-answer.new.self c.take_out-broker.new.brokers.items c.put_back.new.brokers.items
    c.requires.fits c.take_out-broker.ensures.was c.take_out-broker.ensures.left c.put_back.ensures)

abbrev outcome : (g : Over) (c : goal.After-answered g) → MachineOutcome
outcome g c = join_at c.args.topo.now c.take_out-broker.result c.args.p c.args.s c.args.self.now.now

abbrev logs : (g : Over) (c : goal.After-answered g) → Option Record
logs g c = join_logs_at c.take_out-broker.result c.args.p c.args.s c.args.self.now.now

gives : (g : Over) (c : goal.After-answered g) → HostGives c.take_out-broker.result c.args.p (outcome g c) (logs g c) c.args.topo.now c.join-answer.new.self c.join-answer.result
gives g c = let e = c.join-answer.ensures in record { told = e.told; leaves = e.leaves; fits = e.fits }

pub returns-clause-makes : goal.returns-clause-makes
returns-clause-makes g c =
    makes_join c.args.topo.now (seen c.args.self.now) c.args.p c.args.s c.take_out-broker.result c.join-answer.new.self c.put_back.new.brokers.items
    (place g c) c.requires.publisher c.join-answer.result c.answered.result c.answered.ensures (gives g c) c.every_topology_is_a_tree.ensures.tree c.every_topology_is_a_tree.ensures.orderly c.requires.late.0 c.requires.late.1
    (hosts_here c.args.topo.now (seen c.args.self.now) c.host-host.result c.args.p c.take_out-broker.result c.requires.fits c.take_out-broker.ensures.was c.requires.publisher (sym c.host-host.ensures.host)).1

pub returns-clause-fits : goal.returns-clause-fits
returns-clause-fits g c =
    fits_at_host c.args.topo.now (seen c.args.self.now) c.args.p c.take_out-broker.result c.join-answer.new.self c.put_back.new.brokers.items
    (place g c) c.requires.publisher c.join-answer.result c.answered.result c.answered.ensures (outcome g c) (logs g c) (gives g c)

pub returns-clause-stands : goal.returns-clause-stands
returns-clause-stands g c = λ tells.
    stands_at_host c.args.topo.now (seen c.args.self.now) c.args.p c.take_out-broker.result c.join-answer.new.self c.put_back.new.brokers.items
    (place g c) c.requires.publisher c.join-answer.result c.answered.result c.answered.ensures (outcome g c) (logs g c) (gives g c)
    (g.D.Disk.lane_of c.args.disk.now) (g.D.Disk.lane_of c.join-answer.new.disk) (c.join-answer.ensures.uses.disk.others tells) (c.requires.stands tells) (c.join-answer.ensures.stands tells)

pub returns-clause-kept : goal.returns-clause-kept
returns-clause-kept g c = λ tells.
    let t = c.args.topo.now in
    let n = seen c.args.self.now in
    let x = c.take_out-broker.result in
    let was = c.take_out-broker.ensures.was in
    let e = c.join-answer.ensures in
    let at = sym c.host-host.ensures.host in
    join_keeps t n c.requires.fits c.host-host.result c.args.p x was c.requires.publisher (g.D.Disk.lane_of c.args.disk.now) (g.D.Disk.lane_of c.join-answer.new.disk) (log_answer c.join-answer.result)
    (e.uses.goes_on tells) (e.uses.disk.others tells) c.args.s at (hosts_here t n c.host-host.result c.args.p x c.requires.fits was c.requires.publisher at).1 (e.lane tells)
