use Rattle.std.proofs.Common.{◌≡◌, ℕ, ◌<◌, true, List, length, Err, sym, ap, ◌∙◌, subst}
use Rattle.gr_publog.specs.Views.{lanes_at}
use Rattle.gr_model.specs.NetOf.{net_of}
use Rattle.gr_model.specs.World.{start_by}
use Rattle.gr_broker.specs.Lanes.{log_lane}
use Rattle.gr_world.specs.declared.fault.WorldFault.TheVariants as fault
use Rattle.gr_world.specs.Seen.{world_of, log_at}
use Rattle.gr_world.specs.Of.{IsWorld, LanesFit}
use Rattle.gr_world.specs.Opened.{IsOpened, IsFound}
use Rattle.gr_world.proofs.Answering.{damaged_in, err_is}
use Rattle.gr_world.proofs.Opened.{world_at, opened_fits, is_opened, opened_found, opened_lanes, fresh_world, fresh_told}
use Rattle.gr_world.proofs.Fitted.{fits_start}
use Rattle.gr_world.proofs.world.World.new.Goals as goal

pub returns-in-Err-clause-damaged : goal.returns-in-Err-clause-damaged
returns-in-Err-clause-damaged g c = λ p at e.
    c.in-Err.ensures.damaged p at (ap (λ f. Err f) (damaged_in c.in-Err.fault p at (sym c.world_fault.ensures ∙ err_is c.world_fault.result (fault.Damaged p at) e)))

pub returns-clause-opened : goal.returns-clause-opened
returns-clause-opened g c =
    let t = c.args.topology in
    let brokers = c.in-Ok.opened.brokers.items in
    let told = c.in-Ok.opened.told in
    let one = c.in-Ok.ensures in
    subst (λ (fs : List (List ℕ)). IsOpened t (world_at t brokers told fs)) (sym c.new.ensures) (is_opened t brokers told one.topology one.started)

pub returns-clause-found : goal.returns-clause-found
returns-clause-found g c =
    let t = c.args.topology in
    let brokers = c.in-Ok.opened.brokers.items in
    let told = c.in-Ok.opened.told in
    let one = c.in-Ok.ensures in
    let before = g.D.Disk.lane_of c.args.disk.now in
    subst (λ (fs : List (List ℕ)). (p : ℕ) → p < length t.publishers → IsFound t.late (log_at (world_at t brokers told fs) p) (lanes_at before (log_lane p))) (sym c.new.ensures)
    (opened_found t brokers told one.topology one.started before (g.D.Disk.lane_of c.start_brokers.new.disk) one.opened)

pub returns-clause-fresh : goal.returns-clause-fresh
returns-clause-fresh g c = λ empty.
    let t = c.args.topology in
    let brokers = c.in-Ok.opened.brokers.items in
    let told = c.in-Ok.opened.told in
    let one = c.in-Ok.ensures in
    let before = g.D.Disk.lane_of c.args.disk.now in
    let after = g.D.Disk.lane_of c.start_brokers.new.disk in (
      subst (λ (fs : List (List ℕ)). world_of (world_at t brokers told fs) ≡ start_by true (net_of t)) (sym c.new.ensures) (fresh_world t brokers told one.topology one.started before after one.opened empty),
      fresh_told t brokers told one.topology one.started before after one.opened empty,
    )

pub returns-clause-lanes : goal.returns-clause-lanes
returns-clause-lanes g c = λ none.
    let t = c.args.topology in
    let brokers = c.in-Ok.opened.brokers.items in
    let told = c.in-Ok.opened.told in
    let one = c.in-Ok.ensures in
    let after = g.D.Disk.lane_of c.start_brokers.new.disk in
    subst (λ (fs : List (List ℕ)). LanesFit after (world_at t brokers told fs)) (sym c.new.ensures)
    (opened_lanes t brokers told one.topology one.started (g.D.Disk.lane_of c.args.disk.now) after one.opened c.stands_read.ensures none)

pub returns-clause-fits_nothing : goal.returns-clause-fits_nothing
returns-clause-fits_nothing g c = λ none empty.
    let t = c.args.topology in
    let brokers = c.in-Ok.opened.brokers.items in
    let told = c.in-Ok.opened.told in
    let tree = c.every_topology_is_a_tree.ensures in
    let one = c.in-Ok.ensures in
    let opened = returns-clause-opened g c in
    let fits = subst (λ (fs : List (List ℕ)). IsWorld (world_at t brokers told fs)) (sym c.new.ensures) (opened_fits t brokers told one.topology one.started) in
    fits_start _ (g.D.Disk.lane_of c.start_brokers.new.disk) fits (returns-clause-lanes g c none) opened.sound opened.unspent tree.tree tree.orderly (returns-clause-fresh g c empty).0
