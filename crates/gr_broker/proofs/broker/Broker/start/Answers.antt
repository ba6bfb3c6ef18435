use Rattle.std.proofs.Common.{◌*◌, Err, refl, ap, map}
use Rattle.gr_publog.specs.Views.{lanes_at}
use Rattle.gr_broker_relay.specs.declared.held.Held.{Held}
use Rattle.gr_broker_relay.specs.Held.{held_view, seen_branch}
use Rattle.gr_broker.specs.declared.outcome.BrokerFault.TheVariants as refused
use Rattle.gr_broker.proofs.Opening.{loses_nothing, err_is, starts_over, opens_lanes}
use Rattle.gr_broker.proofs.broker.Broker.start.Goals as goal

pub returns-in-Err-clause-any_moment : goal.returns-in-Err-clause-any_moment
returns-in-Err-clause-any_moment g c = λ tells p j here. let ls = lanes_at (g.D.Disk.lane_of c.args.disk.now) (2 * p) in loses_nothing c.args.topo.now.late ls ls refl

pub returns-in-Err-positions_at-clause-any_moment :
    goal.returns-in-Err-positions_at-clause-any_moment
returns-in-Err-positions_at-clause-any_moment g c = λ tells p j here. let ls = lanes_at (g.D.Disk.lane_of c.args.disk.now) (2 * p) in loses_nothing c.args.topo.now.late ls ls refl

pub returns-in-Err-lates-clause-any_moment :
    goal.returns-in-Err-lates-clause-any_moment
returns-in-Err-lates-clause-any_moment g c = λ tells p j here. let ls = lanes_at (g.D.Disk.lane_of c.args.disk.now) (2 * p) in loses_nothing c.args.topo.now.late ls ls refl

pub returns-in-Err-open_publishers-clause-damaged :
    goal.returns-in-Err-open_publishers-clause-damaged
returns-in-Err-open_publishers-clause-damaged g c = λ tells p at e.
    c.in-Err-open_publishers.ensures.damaged tells p at (ap (λ f. Err f) (err_is c.in-Err-open_publishers.fault (refused.Damaged p at) e))

pub returns-in-Err-open_publishers-clause-damaged_here :
    goal.returns-in-Err-open_publishers-clause-damaged_here
returns-in-Err-open_publishers-clause-damaged_here g c = λ p at e.
    c.in-Err-open_publishers.ensures.damaged_here p at (ap (λ f. Err f) (err_is c.in-Err-open_publishers.fault (refused.Damaged p at) e))

pub returns-clause-starts : goal.returns-clause-starts
returns-clause-starts g c =
    let placed = c.in-Ok-positions_at.placed in
    let opened = c.in-Ok-open_publishers.opened in
    starts_over c.args.topo.now c.args.number c.in-Ok.here (map (seen_branch placed.edges.items) placed.positions.items) (map held_view opened.held.items)
    (map (λ (held : Held). held.log) opened.held.items) (record { reports = opened.lines; frames = c.new-2.result }) c.requires c.in-Ok.ensures c.in-Ok-positions_at.ensures.branches
    c.in-Ok-open_publishers.ensures.started c.new-2.ensures

pub returns-clause-opens : goal.returns-clause-opens
returns-clause-opens g c = λ tells.
    let placed = c.in-Ok-positions_at.placed in
    let opened = c.in-Ok-open_publishers.opened in
    let one = c.in-Ok-open_publishers.ensures in
    opens_lanes c.args.topo.now c.args.number c.in-Ok.here (map (seen_branch placed.edges.items) placed.positions.items) (map held_view opened.held.items)
    (map (λ (held : Held). held.log) opened.held.items) (record { reports = opened.lines; frames = c.new-2.result }) (g.D.Disk.lane_of c.args.disk.now) (g.D.Disk.lane_of c.open_publishers.new.disk)
    one.started (one.opens tells) (one.touches tells)

pub returns-clause-stands : goal.returns-clause-stands
returns-clause-stands g c = λ tells p l e whole. (c.in-Ok-open_publishers.ensures.opens tells p l e).stands

pub returns-in-Err-open_publishers-clause-never_fails :
    goal.returns-in-Err-open_publishers-clause-never_fails
returns-in-Err-open_publishers-clause-never_fails g c = λ tells faultless none e.
    c.in-Err-open_publishers.ensures.never_fails tells faultless none (ap (λ f. Err f) (err_is c.in-Err-open_publishers.fault refused.Disk e))

pub returns-in-Err-open_publishers-clause-why : goal.returns-in-Err-open_publishers-clause-why
returns-in-Err-open_publishers-clause-why g c = λ tells e.
    c.in-Err-open_publishers.ensures.why tells (ap (λ f. Err f) (err_is c.in-Err-open_publishers.fault refused.Disk e))

pub returns-in-Err-open_publishers-clause-rises : goal.returns-in-Err-open_publishers-clause-rises
returns-in-Err-open_publishers-clause-rises g c = λ tells none e.
    c.in-Err-open_publishers.ensures.rises tells none (ap (λ f. Err f) (err_is c.in-Err-open_publishers.fault refused.Disk e))
