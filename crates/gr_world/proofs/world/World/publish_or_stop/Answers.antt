use Rattle.std.proofs.Common.{◌≡◌, inl, inr, List, Result, Ok, Err, None, refl, sym, ap, ◌∙◌, subst, arith}
use Rattle.gr_model.specs.declared.report.Report.{Report}
use Rattle.gr_world.specs.declared.fault.WorldFault.{WorldFault}
use Rattle.gr_world.specs.declared.fault.WorldFault.TheVariants as fault
use Rattle.gr_world.specs.Seen.{WorldView, net_in, world_of}
use Rattle.gr_world.specs.Opened.{with_down}
use Rattle.std.specs.Prelude.{IfOk}
use Rattle.gr_model.specs.Broker.{Log}
use Rattle.gr_world.specs.Starting.{TouchesLanes}
use Rattle.gr_world.specs.Stopped.{StopRestarts, StopsOver, tick_in, lines_in, broken_in}
use Rattle.std.specs.Prelude.{IsErrOf}
use Rattle.gr_world.proofs.ByCalls.{stops_none}
use Rattle.gr_world.proofs.Composed.{either_sooner}
use Rattle.gr_world.proofs.StoppedWorlds.{log_there, idle_does, none_at, some_at, fits_mid, readable_mid, stopped_mid, stops_mid, one_tick, no_tick, ran_started}
use Rattle.gr_world.proofs.world.World.publish_or_stop.Goals as goal

pub returns-in_default-clause-does : goal.returns-in_default-clause-does
returns-in_default-clause-does g c = λ s n.
    let w = c.args.self.now in
    idle_does (net_in w) (world_of w) n c.args.host c.args.p c.args.number c.args.stop.now c.args.event.now c.publish_at_host.new.self c.publish_at_host.result c.requires.host c.requires.no_subscriber
    (none_at w c.args.p c.args.number c.self.inside.clock c.log_here-log.result.now c.tick_logged.result c.requires.publisher c.log_here-log.ensures.log (ap (λ (v : WorldView). v.clock) c.self.view_is)
    c.tick_logged.ensures c.in_default.is)
    c.publish_at_host.ensures.does

pub start_stopped-requires-clause-others : goal.start_stopped-requires-clause-others
start_stopped-requires-clause-others g c =
    let w = c.args.self.now in
    let none : c.publish_to_stop.result ≡ Ok None = c.in-Ok-None.is ∙ ap (λ o. Ok o) c.in-Ok-None.field-0-is in
    let is = c.publish_to_stop.ensures.broken none in
    let next = some_at w c.args.p c.args.number c.self.inside.clock c.in-Some.tick c.log_here-log.result.now c.tick_logged.result c.log_here-log.ensures.log (ap (λ (v : WorldView). v.clock) c.self.view_is)
    c.tick_logged.ensures c.in-Some.is in
    let left = c.publish_to_stop.ensures.stopped none c.in-Some.tick next in
    fits_mid w c.publish_to_stop.new.self (g.D.Disk.lane_of c.args.disk.now) (g.D.Disk.lane_of c.publish_to_stop.new.disk) c.args.host c.args.p c.requires.fits c.requires.«open» c.requires.lanes c.requires.host c.requires.broker
    c.requires.publisher left.readable c.publish_to_stop.ensures.others is

pub start_stopped-requires-clause-readable : goal.start_stopped-requires-clause-readable
start_stopped-requires-clause-readable g c =
    let w = c.args.self.now in
    let none : c.publish_to_stop.result ≡ Ok None = c.in-Ok-None.is ∙ ap (λ o. Ok o) c.in-Ok-None.field-0-is in
    let is = c.publish_to_stop.ensures.broken none in
    let next = some_at w c.args.p c.args.number c.self.inside.clock c.in-Some.tick c.log_here-log.result.now c.tick_logged.result c.log_here-log.ensures.log (ap (λ (v : WorldView). v.clock) c.self.view_is)
    c.tick_logged.ensures c.in-Some.is in
    let left = c.publish_to_stop.ensures.stopped none c.in-Some.tick next in
    readable_mid w c.publish_to_stop.new.self (g.D.Disk.lane_of c.args.disk.now) (g.D.Disk.lane_of c.publish_to_stop.new.disk) c.args.host c.args.p c.requires.«open» c.requires.lanes c.requires.host
    left.readable c.publish_to_stop.ensures.others is

pub returns-in-Ok-None-clause-does : goal.returns-in-Ok-None-clause-does
returns-in-Ok-None-clause-does g c = λ s n.
    let w = c.args.self.now in
    let none : c.publish_to_stop.result ≡ Ok None = c.in-Ok-None.is ∙ ap (λ o. Ok o) c.in-Ok-None.field-0-is in
    let is = c.publish_to_stop.ensures.broken none in
    let next = some_at w c.args.p c.args.number c.self.inside.clock c.in-Some.tick c.log_here-log.result.now c.tick_logged.result c.log_here-log.ensures.log (ap (λ (v : WorldView). v.clock) c.self.view_is)
    c.tick_logged.ensures c.in-Some.is in
    stopped_mid c.stands_found.ensures w c.publish_to_stop.new.self c.start_stopped.new.self (g.D.Disk.lane_of c.args.disk.now) (g.D.Disk.lane_of c.publish_to_stop.new.disk) n c.args.host c.args.p c.args.number c.in-Some.tick c.args.stop.now
    c.args.event.now c.start_stopped.result (c.publish_to_stop.ensures.stopped none c.in-Some.tick next) c.requires.fits c.requires.«open» c.requires.lanes s c.requires.host c.requires.broker c.requires.publisher
    c.requires.no_subscriber next c.publish_to_stop.ensures.others is c.start_stopped.ensures.ran c.start_stopped.ensures.does c.start_stopped.ensures.found c.start_stopped.ensures.elsewhere

pub returns-in-Ok-None-clause-ran : goal.returns-in-Ok-None-clause-ran
returns-in-Ok-None-clause-ran g c =
    let w = c.args.self.now in
    let none : c.publish_to_stop.result ≡ Ok None = c.in-Ok-None.is ∙ ap (λ o. Ok o) c.in-Ok-None.field-0-is in
    let is = c.publish_to_stop.ensures.broken none in
    ran_started w c.args.host c.args.p c.requires.fits c.requires.broker c.requires.host c.requires.publisher c.start_stopped.new.self c.start_stopped.result
    (subst (λ (m : WorldView). StopRestarts c.args.host m c.start_stopped.new.self c.start_stopped.result) is c.start_stopped.ensures.ran)

pub returns-in_default-clause-failed : goal.returns-in_default-clause-failed
returns-in_default-clause-failed g c = λ e. inl (c.publish_at_host.ensures.left.failed e ∙ ap (λ b. broken_in c.args.self.now b c.args.p) (sym c.requires.host))

pub returns-in-Ok-None-clause-reopen : goal.returns-in-Ok-None-clause-reopen
returns-in-Ok-None-clause-reopen g c =
    let none : c.publish_to_stop.result ≡ Ok None = c.in-Ok-None.is ∙ ap (λ o. Ok o) c.in-Ok-None.field-0-is in
    (λ e. absurd (c.start_stopped.ensures.ran.never_reopen e), λ barred. absurd (not_both (sym (ap lines_in none) ∙ c.publish_to_stop.ensures.reopen.1 barred)))
  where
    not_both : ◌≡◌ {A = Result (List Report) WorldFault} (Err fault.Disk) (Err fault.Reopen) → ⊥
    not_both e = cc

pub returns-in-Ok-None-clause-failed : goal.returns-in-Ok-None-clause-failed
returns-in-Ok-None-clause-failed g c = λ e.
    let none : c.publish_to_stop.result ≡ Ok None = c.in-Ok-None.is ∙ ap (λ o. Ok o) c.in-Ok-None.field-0-is in
    inr (c.start_stopped.ensures.ran.failed e ∙ ap (λ (m : WorldView). with_down m c.args.host) (c.publish_to_stop.ensures.broken none))

-- the lanes go on by the calls of the publish, and behind a stop the host has crashed

pub returns-in_default-clause-calls : goal.returns-in_default-clause-calls
returns-in_default-clause-calls g c = stops_none c.args.self.now.topo c.args.host (g.D.Disk.lane_of c.args.disk.now) (g.D.Disk.lane_of c.publish_at_host.new.disk) c.publish_at_host.ensures.calls

pub returns-in-Ok-None-clause-calls : goal.returns-in-Ok-None-clause-calls
returns-in-Ok-None-clause-calls g c =
    let none : c.publish_to_stop.result ≡ Ok None = c.in-Ok-None.is ∙ ap (λ o. Ok o) c.in-Ok-None.field-0-is in
    let between = g.D.Disk.lane_of c.publish_to_stop.new.disk in
    record {
      between = between;
      calls = c.publish_to_stop.ensures.calls;
      crash = inr (subst (λ (m : WorldView). TouchesLanes m.topo c.args.host between (g.D.Disk.lane_of c.start_stopped.new.disk)) (c.publish_to_stop.ensures.broken none) c.start_stopped.ensures.touches);
    }

pub returns-in-Ok-Some-clause-calls : goal.returns-in-Ok-Some-clause-calls
returns-in-Ok-Some-clause-calls g c = stops_none c.args.self.now.topo c.args.host (g.D.Disk.lane_of c.args.disk.now) (g.D.Disk.lane_of c.publish_to_stop.new.disk) c.publish_to_stop.ensures.calls

pub returns-in-Err-clause-calls : goal.returns-in-Err-clause-calls
returns-in-Err-clause-calls g c = stops_none c.args.self.now.topo c.args.host (g.D.Disk.lane_of c.args.disk.now) (g.D.Disk.lane_of c.publish_to_stop.new.disk) c.publish_to_stop.ensures.calls

-- what was stopped, and what was not

pub returns-in_default-clause-stops : goal.returns-in_default-clause-stops
returns-in_default-clause-stops g c = λ tick some.
    let w = c.args.self.now in
    let none = none_at w c.args.p c.args.number c.self.inside.clock c.log_here-log.result.now c.tick_logged.result c.requires.publisher c.log_here-log.ensures.log (ap (λ (v : WorldView). v.clock) c.self.view_is)
    c.tick_logged.ensures c.in_default.is in
    absurd (no_tick _ tick (ap (λ (log : Log). tick_in log c.args.number w.clock) (sym (log_there w c.args.p c.requires.publisher)) ∙ none) some)

pub returns-in-Ok-None-clause-stops : goal.returns-in-Ok-None-clause-stops
returns-in-Ok-None-clause-stops g c = λ tick some.
    let w = c.args.self.now in
    let none : c.publish_to_stop.result ≡ Ok None = c.in-Ok-None.is ∙ ap (λ o. Ok o) c.in-Ok-None.field-0-is in
    let is = c.publish_to_stop.ensures.broken none in
    let next = some_at w c.args.p c.args.number c.self.inside.clock c.in-Some.tick c.log_here-log.result.now c.tick_logged.result c.log_here-log.ensures.log (ap (λ (v : WorldView). v.clock) c.self.view_is)
    c.tick_logged.ensures c.in-Some.is in
    let lanes = g.D.Disk.lane_of c.args.disk.now in
    subst (λ k. IfOk c.start_stopped.result (StopsOver c.args.p k c.args.number c.args.event.now c.args.stop.now.call c.args.stop.now.pick lanes w c.start_stopped.new.self)) (one_tick _ c.in-Some.tick tick next some)
    (stops_mid w c.publish_to_stop.new.self c.start_stopped.new.self lanes (g.D.Disk.lane_of c.publish_to_stop.new.disk) c.args.host c.args.p c.args.number c.in-Some.tick c.args.stop.now.call c.args.stop.now.pick c.args.event.now
    c.start_stopped.result (c.publish_to_stop.ensures.stopped none c.in-Some.tick next) c.requires.fits c.requires.host c.requires.broker c.requires.publisher c.publish_to_stop.ensures.others is c.start_stopped.ensures.does
    c.start_stopped.ensures.found c.start_stopped.ensures.elsewhere)

pub returns-in-Ok-None-clause-passes : goal.returns-in-Ok-None-clause-passes
returns-in-Ok-None-clause-passes g c = λ nothing.
    let w = c.args.self.now in
    let next = some_at w c.args.p c.args.number c.self.inside.clock c.in-Some.tick c.log_here-log.result.now c.tick_logged.result c.log_here-log.ensures.log (ap (λ (v : WorldView). v.clock) c.self.view_is)
    c.tick_logged.ensures c.in-Some.is in
    absurd (no_tick _ c.in-Some.tick nothing next)

-- what both do on the disk

pub returns-in-Ok-None-clause-disk : goal.returns-in-Ok-None-clause-disk
returns-in-Ok-None-clause-disk g c =
    let first = c.publish_to_stop.ensures in
    let second = c.start_stopped.ensures in
    record {
      counts = record {
        faults_never_fall = omega (arith, first.counts.faults_never_fall, second.faults);
        stops_never_fall = omega (arith, first.counts.stops_never_fall, second.stops);
        rose = λ e. either_sooner (g.D.Disk.faults c.args.disk.now) (g.D.Disk.faults c.publish_to_stop.new.disk) (g.D.Disk.faults c.start_stopped.new.disk) (g.D.Disk.stops c.args.disk.now) (g.D.Disk.stops c.publish_to_stop.new.disk)
            (g.D.Disk.stops c.start_stopped.new.disk) second.faults second.stops (first.counts.rose broke);
      };
      faultless_stays = record {
        stays = λ h. second.faultless.stays (first.faultless.stays h);
        same_faults = λ h. second.faultless.same_faults (first.faultless.stays h) ∙ first.faultless.same_faults h;
      };
      never_fails = λ h. second.never_fails (first.faultless.stays h);
    }
  where
    broke : IsErrOf (lines_in c.publish_to_stop.result) fault.Disk
    broke = subst (λ r. IsErrOf (lines_in r) fault.Disk) (sym (c.in-Ok-None.is ∙ ap (λ o. Ok o) c.in-Ok-None.field-0-is)) refl
