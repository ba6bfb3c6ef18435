use Rattle.std.proofs.Common.{◌≡◌, ◌≢◌, ℕ, ◌+◌, ◌<◌, true, length, Err, ap, ◌∙◌}
use Rattle.gr_publog.specs.Views.{lanes_at}
use Rattle.gr_model.specs.Net.{is_host}
use Rattle.gr_model.specs.NetOf.{net_of}
use Rattle.gr_broker.specs.Lanes.{log_lane, AreUnset}
use Rattle.gr_broker.specs.declared.outcome.BrokerFault.TheVariants as refused
use Rattle.gr_world.proofs.Answering.{err_is, faultless_on, same_fault}
use Rattle.gr_world.proofs.Brokers.{started_next, opened_next, damaged_of_all, unset_first, untouched_next, untouched_all, untouched_others}
use Rattle.gr_world.proofs.starting.start_brokers.Goals as goal

pub returns-in-Err-clause-damaged : goal.returns-in-Err-clause-damaged
returns-in-Err-clause-damaged g c = λ p at e.
    damaged_of_all c.args.topology.now c.brokers.b c.brokers.brokers.items (g.D.Disk.lane_of c.args.disk.now) (g.D.Disk.lane_of c.brokers.disk) c.brokers.invariant.opened c.brokers.told c.brokers.invariant.started p at
    (c.in-Err.ensures.damaged g.met.D.SimDisk.told p at (same_fault c.in-Err.fault (refused.Damaged p at) e))

pub brokers-preserved : goal.brokers-preserved
brokers-preserved g c =
    let t = c.args.topology.now in
    let n = c.brokers.b in
    let old = c.brokers.brokers.items in
    let new = c.push.new.self.items in
    let v = c.in-Ok.started.broker in
    let told = c.in-Ok.started.outcome in
    let sofar = c.brokers.invariant in
    let one = c.in-Ok.ensures in
    record {
      started = started_next t n old new v c.brokers.told c.append.new.self told c.in-Ok-push.ensures.items c.in-Ok-append.ensures.ok sofar.started one.starts;
      opened = opened_next t n old new v c.brokers.told told (g.D.Disk.lane_of c.args.disk.now) (g.D.Disk.lane_of c.brokers.disk) (g.D.Disk.lane_of c.start.new.disk)
          c.in-Ok-push.ensures.items sofar.started one.starts sofar.opened (one.opens g.met.D.SimDisk.told) (one.others g.met.D.SimDisk.told);
      touched = untouched_next t n (g.D.Disk.lane_of c.args.disk.now) (g.D.Disk.lane_of c.brokers.disk) (g.D.Disk.lane_of c.start.new.disk) sofar.touched (one.others g.met.D.SimDisk.told) (one.any_moment g.met.D.SimDisk.told);
      faults = (one.tally.same tt).0 ∙ sofar.faults;
      stops = (one.tally.same tt).1 ∙ sofar.stops;
      faultless = faultless_on (g.D.Disk.faultless c.args.disk.now) (g.D.Disk.faultless c.brokers.disk) (g.D.Disk.faultless c.start.new.disk)
          (g.D.Disk.faults c.args.disk.now) (g.D.Disk.faults c.brokers.disk) (g.D.Disk.faults c.start.new.disk) sofar.faultless one.faultless;
    }

pub returns-in-Err-clause-never_fails : goal.returns-in-Err-clause-never_fails
returns-in-Err-clause-never_fails g c = λ none faultless e.
    let t = c.args.topology.now in
    let mid = g.D.Disk.lane_of c.brokers.disk in
    let sofar = c.brokers.invariant in
    let never : g.D.Disk.faultless c.brokers.disk → ((p : ℕ) → p < length t.publishers → is_host (net_of t) p c.brokers.b ≡ true → AreUnset (lanes_at mid (log_lane p))) → c.in-Err.fault ≢ refused.Disk = λ f u h. c.in-Err.ensures.never_fails g.met.D.SimDisk.told f u (ap (λ x. Err x) h) in
    never (sofar.faultless.stays faultless) (unset_first t c.brokers.b c.brokers.brokers.items (g.D.Disk.lane_of c.args.disk.now) mid sofar.opened none) (err_is c.in-Err.fault refused.Disk e)

pub returns-in-Err-clause-others : goal.returns-in-Err-clause-others
returns-in-Err-clause-others g c =
    let e = c.in-Err.ensures in
    let t = c.args.topology.now in
    let x = g.D.Disk.lane_of c.args.disk.now in
    let z = g.D.Disk.lane_of c.start.new.disk in
    untouched_others t (c.brokers.b + 1) x z (untouched_next t c.brokers.b x (g.D.Disk.lane_of c.brokers.disk) z c.brokers.invariant.touched (e.others g.met.D.SimDisk.told) (e.any_moment g.met.D.SimDisk.told))

pub returns-in-Err-clause-any_moment : goal.returns-in-Err-clause-any_moment
returns-in-Err-clause-any_moment g c =
    let e = c.in-Err.ensures in
    let t = c.args.topology.now in
    let x = g.D.Disk.lane_of c.args.disk.now in
    let z = g.D.Disk.lane_of c.start.new.disk in
    untouched_all t (c.brokers.b + 1) x z (untouched_next t c.brokers.b x (g.D.Disk.lane_of c.brokers.disk) z c.brokers.invariant.touched (e.others g.met.D.SimDisk.told) (e.any_moment g.met.D.SimDisk.told))

pub returns-in-Err-append-clause-others : goal.returns-in-Err-append-clause-others
returns-in-Err-append-clause-others g c =
    let e = c.in-Ok.ensures in
    let t = c.args.topology.now in
    let x = g.D.Disk.lane_of c.args.disk.now in
    let z = g.D.Disk.lane_of c.start.new.disk in
    untouched_others t (c.brokers.b + 1) x z (untouched_next t c.brokers.b x (g.D.Disk.lane_of c.brokers.disk) z c.brokers.invariant.touched (e.others g.met.D.SimDisk.told) (e.any_moment g.met.D.SimDisk.told))

pub returns-in-Err-append-clause-any_moment : goal.returns-in-Err-append-clause-any_moment
returns-in-Err-append-clause-any_moment g c =
    let e = c.in-Ok.ensures in
    let t = c.args.topology.now in
    let x = g.D.Disk.lane_of c.args.disk.now in
    let z = g.D.Disk.lane_of c.start.new.disk in
    untouched_all t (c.brokers.b + 1) x z (untouched_next t c.brokers.b x (g.D.Disk.lane_of c.brokers.disk) z c.brokers.invariant.touched (e.others g.met.D.SimDisk.told) (e.any_moment g.met.D.SimDisk.told))

pub returns-in-Err-push-clause-others : goal.returns-in-Err-push-clause-others
returns-in-Err-push-clause-others g c =
    let e = c.in-Ok.ensures in
    let t = c.args.topology.now in
    let x = g.D.Disk.lane_of c.args.disk.now in
    let z = g.D.Disk.lane_of c.start.new.disk in
    untouched_others t (c.brokers.b + 1) x z (untouched_next t c.brokers.b x (g.D.Disk.lane_of c.brokers.disk) z c.brokers.invariant.touched (e.others g.met.D.SimDisk.told) (e.any_moment g.met.D.SimDisk.told))

pub returns-in-Err-push-clause-any_moment : goal.returns-in-Err-push-clause-any_moment
returns-in-Err-push-clause-any_moment g c =
    let e = c.in-Ok.ensures in
    let t = c.args.topology.now in
    let x = g.D.Disk.lane_of c.args.disk.now in
    let z = g.D.Disk.lane_of c.start.new.disk in
    untouched_all t (c.brokers.b + 1) x z (untouched_next t c.brokers.b x (g.D.Disk.lane_of c.brokers.disk) z c.brokers.invariant.touched (e.others g.met.D.SimDisk.told) (e.any_moment g.met.D.SimDisk.told))

pub returns-clause-others : goal.returns-clause-others
returns-clause-others g c = untouched_others c.args.topology.now c.brokers.b (g.D.Disk.lane_of c.args.disk.now) (g.D.Disk.lane_of c.brokers.disk) c.brokers.invariant.touched

pub returns-clause-any_moment : goal.returns-clause-any_moment
returns-clause-any_moment g c = untouched_all c.args.topology.now c.brokers.b (g.D.Disk.lane_of c.args.disk.now) (g.D.Disk.lane_of c.brokers.disk) c.brokers.invariant.touched
