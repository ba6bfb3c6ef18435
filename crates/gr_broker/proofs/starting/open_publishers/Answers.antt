use Rattle.std.proofs.Common.{inl, inr, ⊎_elim, ℕ, ◌+◌, ◌*◌, ◌<◌, ◌∙◌, ap, subst, length, map, arith, Err}
use Rattle.gr_out.specs.Faults.{Rose}
use Rattle.gr_publog.specs.Views.{lanes_at}
use Rattle.gr_broker_relay.specs.declared.held.Held.{Held}
use Rattle.gr_broker_relay.specs.Held.{held_view}
use Rattle.gr_broker_relay.proofs.Placing.{as_many_places, branch_at, edges_at}
use Rattle.gr_broker.specs.declared.outcome.BrokerFault.TheVariants as refused
use Rattle.gr_broker.proofs.Using.{faultless_on}
use Rattle.gr_broker.proofs.Opening.{next_unset, none_stopped, touches_more, touches_all, damaged_at, started_next, opened_next, err_is}
use Rattle.gr_broker.proofs.starting.open_publishers.Goals as goal

pub index-requires : goal.index-requires
index-requires g c =
    let many = as_many_places c.args.topo.now c.args.b (length c.args.topo.now.publishers) c.args.placed.now.edges.items c.args.placed.now.positions.items c.requires.branches in
    omega (arith, many, c.publishers-test.true, c.publishers-p-end.ensures.count)

pub open_publisher-requires-clause-site : goal.open_publisher-requires-clause-site
open_publisher-requires-clause-site g c =
    let t = c.args.topo.now in
    let n = length t.publishers in
    let j : c.publishers.p < n = omega (arith, c.publishers-test.true, c.publishers-p-end.ensures.count) in
    record {
      broker = c.requires.broker;
      publisher = j;
      here = c.requires.here;
      branch = rw c.deref.ensures.value (branch_at t c.args.b n c.args.placed.now.edges.items c.args.placed.now.positions.items c.requires.branches c.publishers.p c.index.result.now j c.index.ensures);
      edges = rw c.deref.ensures.value (edges_at t c.args.b n c.args.placed.now.edges.items c.args.placed.now.positions.items c.requires.branches c.publishers.p c.index.result.now j c.index.ensures c.requires.edges);
    }

pub returns-in-Err-clause-touches : goal.returns-in-Err-clause-touches
returns-in-Err-clause-touches g c = λ tells.
    let t = c.args.topo.now in
    let before = g.D.Disk.lane_of c.args.disk.now in
    let mid = g.D.Disk.lane_of c.publishers.disk in
    let after = g.D.Disk.lane_of c.open_publisher.new.disk in
    let one = c.in-Err.ensures in
    touches_all t c.args.b (c.publishers.p + 1) before mid after (length t.publishers) (omega (arith, c.publishers-test.true, c.publishers-p-end.ensures.count))
    (touches_more t c.args.b c.publishers.p before mid after (c.publishers.invariant.touches tells) (one.others tells) (λ below k. ap (λ d. g.D.Disk.lane_of d k) (one.below below)) (one.any_moment tells))

pub returns-in-Err-clause-damaged : goal.returns-in-Err-clause-damaged
returns-in-Err-clause-damaged g c = λ tells p at e.
    let t = c.args.topo.now in
    let one = c.in-Err.ensures.damaged tells p at (ap (λ f. Err f) (err_is c.in-Err.fault (refused.Damaged p at) e)) in
    let sofar = c.publishers.invariant in
    damaged_at t c.args.b c.publishers.p p at (map held_view c.publishers.held.items) (map (λ (held : Held). held.log) c.publishers.held.items) c.publishers.lines
    (g.D.Disk.lane_of c.args.disk.now) (g.D.Disk.lane_of c.publishers.disk) (omega (arith, c.publishers-test.true, c.publishers-p-end.ensures.count)) sofar.started (sofar.opens tells) (sofar.touches tells) one.0 one.1 one.2

pub returns-in-Err-clause-damaged_here : goal.returns-in-Err-clause-damaged_here
returns-in-Err-clause-damaged_here g c = λ p at e.
    let one = c.in-Err.ensures.damaged_here p at (ap (λ f. Err f) (err_is c.in-Err.fault (refused.Damaged p at) e)) in
    (omega (arith, one.0, c.publishers-test.true, c.publishers-p-end.ensures.count), rw one.0 one.1)

-- the disk failed at the publisher that was to be opened

pub returns-in-Err-clause-why : goal.returns-in-Err-clause-why
returns-in-Err-clause-why g c = λ tells e.
    ⊎_elim (λ s. inl (c.publishers.p, s)) (λ r. inr (subst (λ (n : ℕ). Rose n (g.D.Disk.faults c.open_publisher.new.disk)) c.publishers.invariant.faults r))
    (c.in-Err.ensures.why tells (ap (λ f. Err f) (err_is c.in-Err.fault refused.Disk e)))

-- on whose lanes no stop was ordered

pub returns-in-Err-clause-rises : goal.returns-in-Err-clause-rises
returns-in-Err-clause-rises g c = λ tells none e.
    let t = c.args.topo.now in
    let mid = g.D.Disk.lane_of c.publishers.disk in
    let one = c.in-Err.ensures in
    let here = one.disk_here (ap (λ f. Err f) (err_is c.in-Err.fault refused.Disk e)) in
    let unset = next_unset t c.args.b c.publishers.p (g.D.Disk.lane_of c.args.disk.now) mid mid (c.publishers.invariant.touches tells) none (omega (arith, c.publishers-test.true, c.publishers-p-end.ensures.count)) here in
    ⊎_elim (λ s. absurd (none_stopped (lanes_at (g.D.Disk.lane_of c.open_publisher.new.disk) (2 * c.publishers.p)) (one.unset tells unset) s))
    (λ r. subst (λ (n : ℕ). Rose n (g.D.Disk.faults c.open_publisher.new.disk)) c.publishers.invariant.faults r)
    (one.why tells (ap (λ f. Err f) (err_is c.in-Err.fault refused.Disk e)))

pub returns-in-Err-clause-never_fails : goal.returns-in-Err-clause-never_fails
returns-in-Err-clause-never_fails g c = λ tells faultless none e.
    let t = c.args.topo.now in
    let mid = g.D.Disk.lane_of c.publishers.disk in
    let one = c.in-Err.ensures in
    let here = one.disk_here (ap (λ f. Err f) (err_is c.in-Err.fault refused.Disk e)) in
    let unset = next_unset t c.args.b c.publishers.p (g.D.Disk.lane_of c.args.disk.now) mid mid (c.publishers.invariant.touches tells) none (omega (arith, c.publishers-test.true, c.publishers-p-end.ensures.count)) here in
    none_stopped (lanes_at (g.D.Disk.lane_of c.open_publisher.new.disk) (2 * c.publishers.p)) (one.unset tells unset)
    (one.by_stop tells (c.publishers.invariant.faultless.stays faultless) (ap (λ f. Err f) (err_is c.in-Err.fault refused.Disk e)))

pub returns-in-Err-push-clause-tally : goal.returns-in-Err-push-clause-tally
returns-in-Err-push-clause-tally g c =
    let one = c.in-Ok.ensures.tally.same tt in
    let sofar = c.publishers.invariant in
    let faults = one.0 ∙ sofar.faults in
    let stops = one.1 ∙ sofar.stops in
    record {
      faults_never_fall = omega (arith, faults);
      stops_never_fall = omega (arith, stops);
      rose = λ e. cc;
      same = λ _. (faults, stops);
    }

pub returns-in-Err-push-clause-touches : goal.returns-in-Err-push-clause-touches
returns-in-Err-push-clause-touches g c = λ tells.
    let t = c.args.topo.now in
    let before = g.D.Disk.lane_of c.args.disk.now in
    let mid = g.D.Disk.lane_of c.publishers.disk in
    let after = g.D.Disk.lane_of c.open_publisher.new.disk in
    let one = c.in-Ok.ensures in
    touches_all t c.args.b (c.publishers.p + 1) before mid after (length t.publishers) (omega (arith, c.publishers-test.true, c.publishers-p-end.ensures.count))
    (touches_more t c.args.b c.publishers.p before mid after (c.publishers.invariant.touches tells) (one.others tells) (λ below k. ap (λ d. g.D.Disk.lane_of d k) (one.below below)) (one.any_moment tells))

pub publishers-preserved : goal.publishers-preserved
publishers-preserved g c =
    let t = c.args.topo.now in
    let p = c.publishers.p in
    let before = g.D.Disk.lane_of c.args.disk.now in
    let mid = g.D.Disk.lane_of c.publishers.disk in
    let after = g.D.Disk.lane_of c.open_publisher.new.disk in
    let sofar = c.publishers.invariant in
    let one = c.in-Ok.ensures in
    let old = c.publishers.held.items in
    let new = c.push.new.self.items in
    record {
      started = started_next t c.args.b p old new c.in-Ok.opened c.in-Ok-push.ensures.items c.publishers.lines c.open_publisher.new.into one.lines sofar.started one.started;
      opens = λ tells. opened_next t c.args.b p old new c.in-Ok.opened c.in-Ok-push.ensures.items before mid after sofar.started.as_many (sofar.opens tells) (sofar.touches tells) (one.others tells) (one.opens tells);
      touches = λ tells. touches_more t c.args.b p before mid after (sofar.touches tells) (one.others tells) (λ below k. ap (λ d. g.D.Disk.lane_of d k) (one.below below)) (one.any_moment tells);
      faults = (one.tally.same tt).0 ∙ sofar.faults;
      stops = (one.tally.same tt).1 ∙ sofar.stops;
      faultless = faultless_on (g.D.Disk.faultless c.args.disk.now) (g.D.Disk.faultless c.publishers.disk) (g.D.Disk.faultless c.open_publisher.new.disk)
          (g.D.Disk.faults c.args.disk.now) (g.D.Disk.faults c.publishers.disk) (g.D.Disk.faults c.open_publisher.new.disk) sofar.faultless one.faultless;
    }

pub returns-clause-touches : goal.returns-clause-touches
returns-clause-touches g c = λ tells.
    let t = c.args.topo.now in
    let before = g.D.Disk.lane_of c.args.disk.now in
    let after = g.D.Disk.lane_of c.publishers.disk in
    touches_all t c.args.b c.publishers.p before after after (length t.publishers) (omega (arith, c.publishers.auto.p-end, c.publishers-p-end.ensures.count)) (c.publishers.invariant.touches tells)
