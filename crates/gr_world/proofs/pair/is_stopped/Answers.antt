use Rattle.std.proofs.Common.{suc, Bool, ap, ◌∙◌, sym, add-one}
use Rattle.std.specs.Prelude.{◌||◌}
use Rattle.std.proofs.lemmas.Bool.{or_left}
use Rattle.gr_out.specs.Lane.{has_stopped}
use Rattle.gr_broker.specs.Lanes.{log_lane}
use Rattle.gr_world.proofs.pair.is_stopped.Goals as goal

pub returns-then-stopped : goal.returns-then-stopped
returns-then-stopped g c =
    let lanes = g.D.Disk.lane_of c.args.disk.now in
    let n = log_lane c.args.publisher in
    sym (or_left (has_stopped (lanes n).stop) (has_stopped (lanes (suc n)).stop)
    (ap (λ k. has_stopped (lanes k).stop) (sym c.log_lane-lane.ensures) ∙ (sym (c.stopped.ensures g.met.D.SimDisk.told) ∙ c.if-stopped.true)))

pub returns : goal.returns
returns g c =
    let lanes = g.D.Disk.lane_of c.args.disk.now in
    let n = log_lane c.args.publisher in
    c.stopped-2.ensures g.met.D.SimDisk.told
    ∙ (ap (λ k. has_stopped (lanes k).stop) (add-one c.log_lane-lane.result ∙ ap suc c.log_lane-lane.ensures)
    ∙ sym (ap (λ (b : Bool). b || has_stopped (lanes (suc n)).stop)
    (ap (λ k. has_stopped (lanes k).stop) (sym c.log_lane-lane.ensures) ∙ (sym (c.stopped.ensures g.met.D.SimDisk.told) ∙ c.if-stopped.false))))
