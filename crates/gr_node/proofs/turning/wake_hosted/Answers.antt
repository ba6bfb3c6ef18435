use Rattle.std.proofs.Common.{length, get_or, map, refl, ◌∙◌, arith}
use Rattle.gr_node.specs.Seen.{seen}
use Rattle.gr_node.specs.Plan.{calls, wake_calls}
use Rattle.gr_node.proofs.Wending.{turn_not_post}
use Rattle.gr_node.proofs.Within.{wakes_of_more, wakes_of_none, within_none, within_more, within_cut, within_all, kept_none, kept_more, kept_cut, kept_all}
use Rattle.gr_node.proofs.turning.wake_hosted.Goals as goal

pub brokers-init : goal.brokers-init
brokers-init g c = record {
  goes = within_none c.args.site.now.topo.now c.args.site.now.hosted.now g.P.Post.tells _ _ (seen c.args.node.now) _ refl;
  serving = c.requires.serving;
  others = λ tells lane here. refl;
  kept = λ tells. kept_none c.args.site.now.topo.now c.args.site.now.hosted.now _ _ (seen c.args.node.now) (g.D.Disk.lane_of c.args.disk.now) refl;
  faults = refl;
  stops = refl;
  sink = refl;
  post = refl;
}

pub returns-in-Err-clause-went : goal.returns-in-Err-clause-went
returns-in-Err-clause-went g c =
    let count = length c.args.site.now.topo.now.publishers in
    let more = wakes_of_more count c.brokers.b-index c.args.site.now.hosted.now (omega arith) in
    within_cut c.args.site.now.topo.now c.args.site.now.hosted.now g.P.Post.tells _ _ (map calls (wake_calls count (get_or c.args.site.now.hosted.now c.brokers.b-index 0))) _ _ _ _ _ _ _ c.in-Err.fault more
    (turn_not_post c.in-Err.fault c.in-Err.ensures.cause) c.brokers.invariant.goes c.in-Err.ensures.went

pub brokers-preserved : goal.brokers-preserved
brokers-preserved g c =
    let i = c.brokers.invariant in
    let k = c.in-Ok.ensures.keeps in
    let count = length c.args.site.now.topo.now.publishers in
    let more = wakes_of_more count c.brokers.b-index c.args.site.now.hosted.now (omega arith) in
    record {
      goes = within_more c.args.site.now.topo.now c.args.site.now.hosted.now g.P.Post.tells _ _ (map calls (wake_calls count (get_or c.args.site.now.hosted.now c.brokers.b-index 0))) _ _ _ _ _ _ _ _ more i.goes c.in-Ok.ensures.went;
      serving = c.in-Ok.ensures.serving;
      others = λ tells lane here. k.others tells lane here ∙ i.others tells lane here;
      kept = λ tells. kept_more c.args.site.now.topo.now c.args.site.now.hosted.now g.P.Post.tells _ _ (map calls (wake_calls count (get_or c.args.site.now.hosted.now c.brokers.b-index 0))) _ _ _ _ _ _ _ _ _ _ more (i.kept tells) c.in-Ok.ensures.went (c.in-Ok.ensures.kept tells);
      faults = (k.disk_moves.same (λ e. cc) (λ e. cc) (λ e. cc)).0 ∙ i.faults;
      stops = (k.disk_moves.same (λ e. cc) (λ e. cc) (λ e. cc)).1 ∙ i.stops;
      sink = k.sink_moves.same (λ e. cc) ∙ i.sink;
      post = k.post_same ∙ i.post;
    }

pub returns-clause-went : goal.returns-clause-went
returns-clause-went g c =
    let none = wakes_of_none (length c.args.site.now.topo.now.publishers) c.brokers.b-index c.args.site.now.hosted.now (omega arith) in
    within_all c.args.site.now.topo.now c.args.site.now.hosted.now g.P.Post.tells _ _ _ _ _ _ _ none c.brokers.invariant.goes

pub returns-in-Err-clause-kept : goal.returns-in-Err-clause-kept
returns-in-Err-clause-kept g c = λ tells.
    let count = length c.args.site.now.topo.now.publishers in
    let more = wakes_of_more count c.brokers.b-index c.args.site.now.hosted.now (omega arith) in
    kept_cut c.args.site.now.topo.now c.args.site.now.hosted.now _ _ (map calls (wake_calls count (get_or c.args.site.now.hosted.now c.brokers.b-index 0))) _ _ _ _ _ _ more (c.brokers.invariant.kept tells) (c.in-Err.ensures.kept tells)

pub returns-clause-kept : goal.returns-clause-kept
returns-clause-kept g c = λ tells.
    let none = wakes_of_none (length c.args.site.now.topo.now.publishers) c.brokers.b-index c.args.site.now.hosted.now (omega arith) in
    kept_all c.args.site.now.topo.now c.args.site.now.hosted.now _ _ _ _ _ _ none (c.brokers.invariant.kept tells)
