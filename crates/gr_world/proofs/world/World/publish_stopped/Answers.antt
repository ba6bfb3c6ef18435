use Rattle.std.proofs.Common.{◌≡◌, List, Some, Result, Err, sym, ap, ◌∙◌, subst}
use Rattle.gr_sched.specs.declared.step.Step.TheVariants as step
use Rattle.gr_topo.specs.Topology.{host_of, subscribers_of, not_empty}
use Rattle.gr_model.specs.declared.report.Report.{Report}
use Rattle.gr_world.specs.declared.fault.WorldFault.{WorldFault}
use Rattle.gr_world.specs.declared.fault.WorldFault.TheVariants as fault
use Rattle.gr_world.specs.Seen.{WorldView, net_in, world_of}
use Rattle.gr_world.specs.Of.{IsWorld, LanesFit}
use Rattle.gr_world.specs.Steps.{Makes}
use Rattle.gr_world.specs.Moments.{StopsLanes}
use Rattle.gr_world.specs.Stopped.{BreaksStopped, StopsOver}
use Rattle.gr_world.proofs.ByCalls.{lanes_none, stops_none}
use Rattle.gr_world.proofs.Leaving.{noted_failed, noted_closed}
use Rattle.gr_world.proofs.StoppedWorlds.{noted_fits, noted_lanes, noted_does, refused_makes, stopped_makes}
use Rattle.gr_world.proofs.Crashing.{noted_lines}
use Rattle.gr_model.specs.World.{publish_now}
use Rattle.gr_world.proofs.Fitted.{goes_on_noted, goes_on_same, not_memory}
use Rattle.gr_world.proofs.world.World.publish_stopped.Goals as goal

pub returns-then-hosts_subscriber-clause-makes : goal.returns-then-hosts_subscriber-clause-makes
returns-then-hosts_subscriber-clause-makes g c = λ s.
    let w = c.args.self.now in
    refused_makes w c.host-host.result c.args.p c.args.number c.args.stop.now c.args.event.now
    (c.host-host.ensures.host ∙ ap (λ (v : WorldView). host_of v.topo c.args.p) c.self.view_is)
    (ap (λ (v : WorldView). not_empty (subscribers_of v.topo c.host-host.result)) (sym c.self.view_is) ∙ sym c.hosts_subscriber.ensures ∙ c.if-hosts_subscriber.true)

pub returns-clause-makes : goal.returns-clause-makes
returns-clause-makes g c = λ s.
    let stopped = step.Publish c.args.p c.args.number (Some c.args.stop.now) c.args.event.now in
    subst (λ (r : Result (List Report) WorldFault). Makes stopped c.args.self.now c.noted.new.self r) (sym c.noted.ensures.answer)
    (subst (λ (v : WorldView). Makes stopped c.args.self.now v c.publish_or_stop-answer.result) (sym c.noted.ensures.view)
    (stopped_makes c.args.self.now c.publish_or_stop-answer.new.self c.args.p c.args.number c.args.stop.now c.args.event.now c.publish_or_stop-answer.result (c.publish_or_stop-answer.ensures.does s) c.publish_or_stop-answer.ensures.carried))

pub returns-clause-fits : goal.returns-clause-fits
returns-clause-fits g c = subst IsWorld (sym c.noted.ensures.view) (noted_fits c.publish_or_stop-answer.new.self c.publish_or_stop-answer.result c.publish_or_stop-answer.ensures.ran.fits)

pub returns-clause-lanes : goal.returns-clause-lanes
returns-clause-lanes g c =
    subst (LanesFit (g.D.Disk.lane_of c.publish_or_stop-answer.new.disk)) (sym c.noted.ensures.view)
    (noted_lanes c.publish_or_stop-answer.new.self (g.D.Disk.lane_of c.publish_or_stop-answer.new.disk) c.publish_or_stop-answer.result c.publish_or_stop-answer.ensures.lanes)

pub returns-clause-unchanged : goal.returns-clause-unchanged
returns-clause-unchanged g c = λ h.
    let one = c.publish_or_stop-answer in
    let at = noted_closed one.new.self c.noted.new.self one.result c.noted.result c.noted.ensures.answer c.noted.ensures.view h in
    at.1 ∙ one.ensures.unchanged at.0

pub returns-clause-failed : goal.returns-clause-failed
returns-clause-failed g c = λ h.
    let one = c.publish_or_stop-answer in
    let at = noted_failed one.new.self c.noted.new.self one.result c.noted.result c.noted.ensures.answer c.noted.ensures.view h in
    let host : c.host-host.result ≡ host_of c.args.self.now.topo c.args.p = c.host-host.ensures.host ∙ ap (λ (v : WorldView). host_of v.topo c.args.p) c.self.view_is in
    subst (λ b. BreaksStopped b c.args.p c.args.self.now c.noted.new.self) host
    (subst (BreaksStopped c.host-host.result c.args.p c.args.self.now) (sym at.1) (one.ensures.failed at.0))

pub returns-then-hosts_subscriber-clause-goes_on : goal.returns-then-hosts_subscriber-clause-goes_on
returns-then-hosts_subscriber-clause-goes_on g c = λ number lines steps told at f.
    goes_on_same (step.Publish c.args.p c.args.number (Some c.args.stop.now) c.args.event.now) (g.D.Disk.lane_of c.args.disk.now) c.args.self.now (Err (fault.HostsSubscriber c.host-host.result)) c.requires.publisher (returns-then-hosts_subscriber-clause-makes g c f.sound) number lines steps told at f

pub returns-clause-goes_on : goal.returns-clause-goes_on
returns-clause-goes_on g c =
    let one = c.publish_or_stop-answer in
    goes_on_noted (step.Publish c.args.p c.args.number (Some c.args.stop.now) c.args.event.now) (g.D.Disk.lane_of c.args.disk.now) (g.D.Disk.lane_of one.new.disk) c.args.self.now one.new.self c.noted.new.self one.result c.noted.result
    c.noted.ensures.answer c.noted.ensures.view c.requires.publisher (returns-clause-makes g c) one.ensures.ran.stays.topo (λ h. one.ensures.ran.spent ∙ h) one.ensures.ran.fits
    (λ m d h. let s = one.ensures.ran.sound m in s.sound h d) (λ m. one.ensures.lanes (not_memory one.result m))

pub returns-clause-stops : goal.returns-clause-stops
returns-clause-stops g c = λ tick some.
    let one = c.publish_or_stop-answer in
    noted_lines (StopsOver c.args.p tick c.args.number c.args.event.now c.args.stop.now.call c.args.stop.now.pick (g.D.Disk.lane_of c.args.disk.now) c.args.self.now) one.new.self c.noted.new.self one.result c.noted.result
    c.noted.ensures.answer c.noted.ensures.view (one.ensures.stops tick some)

pub returns-clause-passes : goal.returns-clause-passes
returns-clause-passes g c = λ none.
    let one = c.publish_or_stop-answer in
    let w = c.args.self.now in
    noted_does (publish_now (net_in w) (world_of w) c.args.p c.args.number c.args.event.now) one.new.self c.noted.new.self one.result c.noted.result c.noted.ensures.answer c.noted.ensures.view (one.ensures.passes none)

-- the lanes

pub returns-then-self-clause-calls : goal.returns-then-self-clause-calls
returns-then-self-clause-calls g c =
    let lanes = g.D.Disk.lane_of c.args.disk.now in
    stops_none c.args.self.now.topo (host_of c.args.self.now.topo c.args.p) lanes lanes (lanes_none c.args.self.now.topo lanes)

pub returns-then-hosts_subscriber-clause-calls : goal.returns-then-hosts_subscriber-clause-calls
returns-then-hosts_subscriber-clause-calls g c =
    let lanes = g.D.Disk.lane_of c.args.disk.now in
    stops_none c.args.self.now.topo (host_of c.args.self.now.topo c.args.p) lanes lanes (lanes_none c.args.self.now.topo lanes)

pub returns-then-is_some-clause-calls : goal.returns-then-is_some-clause-calls
returns-then-is_some-clause-calls g c =
    let lanes = g.D.Disk.lane_of c.args.disk.now in
    stops_none c.args.self.now.topo (host_of c.args.self.now.topo c.args.p) lanes lanes (lanes_none c.args.self.now.topo lanes)

pub returns-clause-calls : goal.returns-clause-calls
returns-clause-calls g c =
    let host : c.host-host.result ≡ host_of c.args.self.now.topo c.args.p = c.host-host.ensures.host ∙ ap (λ (v : WorldView). host_of v.topo c.args.p) c.self.view_is in
    subst (λ b. StopsLanes c.args.self.now.topo b (g.D.Disk.lane_of c.args.disk.now) (g.D.Disk.lane_of c.publish_or_stop-answer.new.disk)) host c.publish_or_stop-answer.ensures.calls
