use Rattle.std.proofs.Common.{◌≡◌, ◌≢◌, ℕ, ◌<◌, true, length, Err, set, refl, sym, ap, subst}
use Rattle.gr_publog.specs.Views.{lanes_at}
use Rattle.gr_model.specs.Net.{is_host}
use Rattle.gr_model.specs.NetOf.{net_of}
use Rattle.gr_broker.specs.Lanes.{log_lane, AreUnset}
use Rattle.gr_broker.specs.declared.outcome.BrokerFault.TheVariants as refused
use Rattle.gr_world.proofs.Again.{touches_lanes, unset_crashed, opens_again, damaged_again}
use Rattle.gr_world.proofs.Answering.{err_is, same_fault}
use Rattle.gr_world.proofs.starting.start_again.Goals as goal

pub returns-in-Err-clause-touches : goal.returns-in-Err-clause-touches
returns-in-Err-clause-touches g c =
    touches_lanes c.args.topology.now c.args.b (g.D.Disk.lane_of c.args.disk.now) (g.D.Disk.lane_of c.crash_lanes.new.disk) (g.D.Disk.lane_of c.start.new.disk) c.crash_lanes.ensures.crashes
    (c.in-Err.ensures.others g.met.D.SimDisk.told) (c.in-Err.ensures.any_moment g.met.D.SimDisk.told)

pub returns-in-Err-clause-damaged : goal.returns-in-Err-clause-damaged
returns-in-Err-clause-damaged g c = λ p at e.
    damaged_again c.args.topology.now c.args.b (g.D.Disk.lane_of c.args.disk.now) (g.D.Disk.lane_of c.crash_lanes.new.disk) (g.D.Disk.lane_of c.start.new.disk) c.crash_lanes.ensures.crashes p at
    (c.in-Err.ensures.damaged g.met.D.SimDisk.told p at (same_fault c.in-Err.fault (refused.Damaged p at) e))

pub returns-clause-opened : goal.returns-clause-opened
returns-clause-opened g c =
    opens_again c.args.topology.now c.args.b (g.D.Disk.lane_of c.args.disk.now) (g.D.Disk.lane_of c.crash_lanes.new.disk) (g.D.Disk.lane_of c.start.new.disk) c.crash_lanes.ensures.crashes
    c.args.brokers.now.items (set c.args.brokers.now.items c.args.b c.in-Ok.started.broker) c.in-Ok.started.broker c.in-Ok.started.outcome
    refl (subst (λ n. c.args.b < n) (sym c.requires.count) c.requires.broker) c.in-Ok.ensures.starts (c.in-Ok.ensures.opens g.met.D.SimDisk.told)

pub returns-clause-touches : goal.returns-clause-touches
returns-clause-touches g c =
    touches_lanes c.args.topology.now c.args.b (g.D.Disk.lane_of c.args.disk.now) (g.D.Disk.lane_of c.crash_lanes.new.disk) (g.D.Disk.lane_of c.start.new.disk) c.crash_lanes.ensures.crashes
    (c.in-Ok.ensures.others g.met.D.SimDisk.told) (c.in-Ok.ensures.any_moment g.met.D.SimDisk.told)

pub returns-in-Err-clause-never_fails : goal.returns-in-Err-clause-never_fails
returns-in-Err-clause-never_fails g c = λ faultless e.
    let t = c.args.topology.now in
    let mid = g.D.Disk.lane_of c.crash_lanes.new.disk in
    let never : g.D.Disk.faultless c.crash_lanes.new.disk → ((p : ℕ) → p < length t.publishers → is_host (net_of t) p c.args.b ≡ true → AreUnset (lanes_at mid (log_lane p))) → c.in-Err.fault ≢ refused.Disk = λ f u h. c.in-Err.ensures.never_fails g.met.D.SimDisk.told f u (ap (λ x. Err x) h) in
    never (c.crash_lanes.ensures.counts.faultless_stays.stays faultless)
    (unset_crashed t c.args.b (g.D.Disk.lane_of c.args.disk.now) mid (g.D.Disk.lane_of c.start.new.disk) c.crash_lanes.ensures.crashes) (err_is c.in-Err.fault refused.Disk e)
