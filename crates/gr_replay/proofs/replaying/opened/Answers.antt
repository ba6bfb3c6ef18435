use Rattle.std.proofs.Common.{◌≡◌, Err, ap₂, ◌∙◌}
use Rattle.gr_topo.specs.Topology.{host_of}
use Rattle.gr_world.specs.declared.fault.WorldFault.TheVariants.{Damaged, HostsSubscriber, NoFrame, ClockRange}
use Rattle.gr_replay.proofs.OpenedNamed.{named_here, empty_is_whole}
use Rattle.gr_replay.proofs.replaying.opened.Goals as goal

pub unreachable-requires-in-HostsSubscriber : goal.unreachable-requires-in-HostsSubscriber
unreachable-requires-in-HostsSubscriber g c =
    let e : c.new.result ≡ Err (HostsSubscriber c.in-HostsSubscriber.broker) = cc in (c.new.ensures.carried c.in-HostsSubscriber.broker 0 0).0 e

pub unreachable-requires-in-NoFrame : goal.unreachable-requires-in-NoFrame
unreachable-requires-in-NoFrame g c =
    let e : c.new.result ≡ Err (NoFrame c.in-NoFrame.sent) = cc in (c.new.ensures.carried 0 c.in-NoFrame.sent 0).1.0 e

pub unreachable-requires-in-ClockRange : goal.unreachable-requires-in-ClockRange
unreachable-requires-in-ClockRange g c =
    let e : c.new.result ≡ Err (ClockRange c.in-ClockRange.at) = cc in (c.new.ensures.carried 0 0 c.in-ClockRange.at).1.1 e

pub returns-in-Ok-clause-named : goal.returns-in-Ok-clause-named
returns-in-Ok-clause-named g c = named_here c.args.topology c.in-Ok.world c.every_topology_is_a_tree.ensures.orderly c.in-Ok.ensures.opened

pub returns-in-Damaged-clause-undamaged : goal.returns-in-Damaged-clause-undamaged
returns-in-Damaged-clause-undamaged g c = λ e.
    let fault : c.new.result ≡ Err (Damaged c.in-Damaged.publisher c.in-Damaged.at) = cc in
    empty_is_whole c.args.topology (g.D.Disk.lane_of c.args.disk.now) (host_of c.args.topology c.in-Damaged.publisher) c.in-Damaged.publisher c.in-Damaged.at e
    (let first = c.new.ensures.damaged c.in-Damaged.publisher c.in-Damaged.at fault in first.here)

pub returns-in-Damaged-clause-damaged : goal.returns-in-Damaged-clause-damaged
returns-in-Damaged-clause-damaged g c = λ p at e.
    let fault : c.new.result ≡ Err (Damaged c.in-Damaged.publisher c.in-Damaged.at) = cc in
    let publisher : c.in-Damaged.publisher ≡ p = cc in
    let place : c.in-Damaged.at ≡ at = cc in
    c.new.ensures.damaged p at (fault ∙ ap₂ (λ q from. Err (Damaged q from)) publisher place)

pub returns-in-Ok-clause-over : goal.returns-in-Ok-clause-over
returns-in-Ok-clause-over g c = record { opened = c.in-Ok.ensures.opened; found = c.in-Ok.ensures.found }
