use Rattle.std.proofs.Common.{◌≡◌, ◌≢◌, ℕ, ◌<◌, false, length, None, Some, Ok, Err, sym, ap, ◌∙◌, subst}
use Rattle.gr_publog.specs.Views.{LogView, lanes_at}
use Rattle.gr_topo.specs.Topology.{host_of, subscribers_of, not_empty}
use Rattle.gr_model.specs.World.{World}
use Rattle.gr_broker.specs.Lanes.{log_lane}
use Rattle.gr_world.specs.Seen.{WorldView, net_in, world_of, log_at}
use Rattle.gr_world.specs.Of.{IsWorld, LaneFits, IsReadable}
use Rattle.gr_world.specs.Opened.{IsLeft, restart_over}
use Rattle.gr_world.specs.Starting.{TouchesLanes}
use Rattle.gr_world.specs.Steps.{Does}
use Rattle.gr_world.specs.contracts.world.World.{the_view}
use Rattle.gr_world.proofs.Answering.{err_is, start_faults, start_failed}
use Rattle.gr_world.proofs.Restarting.{no_log_left, with_brokers, failed_lanes, again_fits, again_world, again_lines, again_found, again_lanes}
use Rattle.gr_world.proofs.world.World.restart.Goals as goal

pub returns-in-Ok-clause-does : goal.returns-in-Ok-clause-does
returns-in-Ok-clause-does g c =
    let w = the_view c.self.inside in
    let b = c.args.b in
    let brokers = c.start_again.new.brokers.items in
    let lines = c.in-Ok.lines in
    let fits = subst (λ (x : WorldView). IsWorld x) (sym c.self.view_is) c.requires.fits in
    let j = subst (λ (x : WorldView). b < length x.topo.brokers) (sym c.self.view_is) c.requires.broker in
    let alone = subst (λ (x : WorldView). not_empty (subscribers_of x.topo b) ≡ false) (sym c.self.view_is) c.requires.no_subscriber in
    let found : World = world_of (with_brokers w brokers None) in
    subst (λ (old : WorldView). Does (restart_over (net_in old) (world_of old) b found.logs) (with_brokers w brokers None) (Ok lines)) c.self.view_is
    (record { world = again_world w b brokers lines fits j c.in-Ok.ensures.exchanged alone; lines = again_lines w b brokers lines fits j c.in-Ok.ensures.exchanged alone })

pub returns-in-Ok-clause-found : goal.returns-in-Ok-clause-found
returns-in-Ok-clause-found g c =
    let w = the_view c.self.inside in
    let b = c.args.b in
    let brokers = c.start_again.new.brokers.items in
    let fits = subst (λ (x : WorldView). IsWorld x) (sym c.self.view_is) c.requires.fits in
    let j = subst (λ (x : WorldView). b < length x.topo.brokers) (sym c.self.view_is) c.requires.broker in
    let before = g.D.Disk.lane_of c.args.disk.now in
    subst (λ (old : WorldView). (p : ℕ) → p < length old.topo.publishers → host_of old.topo p ≡ b → IsLeft old.topo.late (log_at (with_brokers w brokers None) p) (lanes_at before (log_lane p))) c.self.view_is
    (again_found w b brokers c.in-Ok.lines fits j c.in-Ok.ensures.exchanged before (g.D.Disk.lane_of c.start_again.new.disk) c.in-Ok.ensures.opened)

pub returns-in-Ok-clause-fits : goal.returns-in-Ok-clause-fits
returns-in-Ok-clause-fits g c =
    let fits = subst (λ (x : WorldView). IsWorld x) (sym c.self.view_is) c.requires.fits in
    let j = subst (λ (x : WorldView). c.args.b < length x.topo.brokers) (sym c.self.view_is) c.requires.broker in
    again_fits (the_view c.self.inside) c.args.b c.start_again.new.brokers.items c.in-Ok.lines fits j c.in-Ok.ensures.exchanged

pub returns-in-Ok-clause-lanes : goal.returns-in-Ok-clause-lanes
returns-in-Ok-clause-lanes g c = λ some.
    let b = c.args.b in
    let before = g.D.Disk.lane_of c.args.disk.now in
    let fits = subst (λ (x : WorldView). IsWorld x) (sym c.self.view_is) c.requires.fits in
    let j = subst (λ (x : WorldView). b < length x.topo.brokers) (sym c.self.view_is) c.requires.broker in
    let readable = subst (λ (x : WorldView). (p : ℕ) → p < length x.topo.publishers → IsReadable x.topo.late (lanes_at before (log_lane p))) (sym c.self.view_is) c.requires.readable in
    let others = subst (λ (x : WorldView). (p : ℕ) (l : LogView) → p < length x.topo.publishers → host_of x.topo p ≢ b → log_at x p ≡ Some l → LaneFits l (lanes_at before (log_lane p))) (sym c.self.view_is) c.requires.others in
    again_lanes (the_view c.self.inside) b c.start_again.new.brokers.items c.in-Ok.lines fits j c.in-Ok.ensures.exchanged before (g.D.Disk.lane_of c.start_again.new.disk) c.in-Ok.ensures.opened
    c.in-Ok.ensures.touches readable others

pub returns-in-Err-clause-faults : goal.returns-in-Err-clause-faults
returns-in-Err-clause-faults g c = λ e is.
    let b = c.args.b in
    let f = c.in-Err.fault in
    let before = g.D.Disk.lane_of c.args.disk.now in
    let t = c.self.inside.topology in
    let readable = subst (λ (x : WorldView). (p : ℕ) → p < length x.topo.publishers → IsReadable x.topo.late (lanes_at before (log_lane p))) (sym c.self.view_is) c.requires.readable in
    start_faults f e (λ h. c.in-Err.ensures.never_reopen (ap (λ x. Err x) h))
    (λ p at h. let none = c.in-Err.ensures.damaged p at (ap (λ x. Err x) h) in no_log_left c.holds_what_is_found.ensures t b p at (lanes_at before (log_lane p)) none (readable p none.publisher))
    (sym (err_is c.world_fault.result e is) ∙ c.world_fault.ensures)

pub returns-in-Err-clause-lanes : goal.returns-in-Err-clause-lanes
returns-in-Err-clause-lanes g c = λ some.
    let b = c.args.b in
    let f = c.in-Err.fault in
    let before = g.D.Disk.lane_of c.args.disk.now in
    let t = c.self.inside.topology in
    let readable = subst (λ (x : WorldView). (p : ℕ) → p < length x.topo.publishers → IsReadable x.topo.late (lanes_at before (log_lane p))) (sym c.self.view_is) c.requires.readable in
    let others = subst (λ (x : WorldView). (p : ℕ) (l : LogView) → p < length x.topo.publishers → host_of x.topo p ≢ b → log_at x p ≡ Some l → LaneFits l (lanes_at before (log_lane p))) (sym c.self.view_is) c.requires.others in
    let down = start_failed f c.world_fault.result b c.down_after-self-inside.result (λ h. c.in-Err.ensures.never_reopen (ap (λ x. Err x) h))
    (λ p at h. let none = c.in-Err.ensures.damaged p at (ap (λ x. Err x) h) in no_log_left c.holds_what_is_found.ensures t b p at (lanes_at before (log_lane p)) none (readable p none.publisher))
    c.world_fault.ensures (λ h. some (ap (λ x. Err x) h)) c.down_after-self-inside.ensures.failed in
    failed_lanes (the_view c.self.inside) b c.start_again.new.brokers.items c.down_after-self-inside.result before (g.D.Disk.lane_of c.start_again.new.disk) c.in-Err.ensures.kept down c.in-Err.ensures.touches readable others

pub returns-in-Ok-clause-touches : goal.returns-in-Ok-clause-touches
returns-in-Ok-clause-touches g c =
    subst (λ (x : WorldView). TouchesLanes x.topo c.args.b (g.D.Disk.lane_of c.args.disk.now) (g.D.Disk.lane_of c.start_again.new.disk)) c.self.view_is c.in-Ok.ensures.touches

pub returns-in-Err-clause-touches : goal.returns-in-Err-clause-touches
returns-in-Err-clause-touches g c =
    subst (λ (x : WorldView). TouchesLanes x.topo c.args.b (g.D.Disk.lane_of c.args.disk.now) (g.D.Disk.lane_of c.start_again.new.disk)) c.self.view_is c.in-Err.ensures.touches
