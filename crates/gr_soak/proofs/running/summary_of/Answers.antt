use Rattle.std.proofs.Common.{suc, ap, ◌∙◌}
use Rattle.gr_out.specs.Lane.{lane_at, content}
use Rattle.gr_broker.specs.Lanes.{log_lane}
use Rattle.gr_soak.proofs.Runs.{summary_is}
use Rattle.gr_soak.proofs.running.summary_of.Goals as goal

pub returns : goal.returns
returns c =
    let fresh = c.in-Ok.ensures.fresh (λ p j.
    (ap (λ ls. content (lane_at ls (log_lane p))) c.in_ok-disk.ensures.lanes, ap (λ ls. content (lane_at ls (suc (log_lane p)))) c.in_ok-disk.ensures.lanes)) in
    let told = c.in_ok-told.ensures in
    summary_is c.args.topology c.in-Ok.world c.as_slice.result.now c.args.steps.now c.in_ok-told.told.logged c.frames_in.result c.in_ok-told.told.got c.behind_in.result c.kept_in.result c.as_slice-shown.result.now
    c.in-Ok.ensures.topology fresh.0 c.as_slice.ensures told.logged told.got (c.as_slice-shown.ensures ∙ told.shown) c.frames_in.ensures c.behind_in.ensures c.kept_in.ensures
