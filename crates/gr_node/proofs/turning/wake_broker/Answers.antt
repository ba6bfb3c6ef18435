use Rattle.std.proofs.Common.{[], ◌∷◌, length, refl, ◌∙◌, arith}
use Rattle.gr_node.specs.Seen.{seen}
use Rattle.gr_node.specs.Plan.{calls, wakes}
use Rattle.gr_node.proofs.Wending.{turn_not_post}
use Rattle.gr_node.proofs.Within.{wakes_all, wakes_more, wakes_none, within_none, within_more, within_cut, within_all, kept_none, kept_more, kept_cut, kept_all}
use Rattle.gr_node.proofs.turning.wake_broker.Goals as goal

pub publishers-init : goal.publishers-init
publishers-init g c = record {
  goes = within_none c.args.site.now.topo.now c.args.site.now.hosted.now g.P.Post.tells _ _ (seen c.args.node.now) _ (wakes_all c.args.b (length c.args.site.now.topo.now.publishers));
  serving = c.requires.serving;
  others = λ tells lane here. refl;
  kept = λ tells. kept_none c.args.site.now.topo.now c.args.site.now.hosted.now _ _ (seen c.args.node.now) (g.D.Disk.lane_of c.args.disk.now) (wakes_all c.args.b (length c.args.site.now.topo.now.publishers));
  faults = refl;
  stops = refl;
  sink = refl;
  post = refl;
}

pub returns-in-Err-clause-went : goal.returns-in-Err-clause-went
returns-in-Err-clause-went g c =
    let more = wakes_more c.args.b c.publishers.p (length c.args.site.now.topo.now.publishers) (omega arith) in
    within_cut c.args.site.now.topo.now c.args.site.now.hosted.now g.P.Post.tells _ _ (calls (wakes c.args.b c.publishers.p) ∷ []) _ _ _ _ _ _ _ c.in-Err.fault more
    (turn_not_post c.in-Err.fault c.in-Err.ensures.cause) c.publishers.invariant.goes c.in-Err.ensures.went

pub publishers-preserved : goal.publishers-preserved
publishers-preserved g c =
    let i = c.publishers.invariant in
    let k = c.in-Ok.ensures.keeps in
    let more = wakes_more c.args.b c.publishers.p (length c.args.site.now.topo.now.publishers) (omega arith) in
    record {
      goes = within_more c.args.site.now.topo.now c.args.site.now.hosted.now g.P.Post.tells _ _ (calls (wakes c.args.b c.publishers.p) ∷ []) _ _ _ _ _ _ _ _ more i.goes c.in-Ok.ensures.went;
      serving = c.in-Ok.ensures.serving;
      others = λ tells lane here. k.others tells lane here ∙ i.others tells lane here;
      kept = λ tells. kept_more c.args.site.now.topo.now c.args.site.now.hosted.now g.P.Post.tells _ _ (calls (wakes c.args.b c.publishers.p) ∷ []) _ _ _ _ _ _ _ _ _ _ more (i.kept tells) c.in-Ok.ensures.went (c.in-Ok.ensures.kept tells);
      faults = (k.disk_moves.same (λ e. cc) (λ e. cc) (λ e. cc)).0 ∙ i.faults;
      stops = (k.disk_moves.same (λ e. cc) (λ e. cc) (λ e. cc)).1 ∙ i.stops;
      sink = k.sink_moves.same (λ e. cc) ∙ i.sink;
      post = k.post_same ∙ i.post;
    }

pub returns-clause-went : goal.returns-clause-went
returns-clause-went g c =
    let none = wakes_none c.args.b c.publishers.p (length c.args.site.now.topo.now.publishers) (omega arith) in
    within_all c.args.site.now.topo.now c.args.site.now.hosted.now g.P.Post.tells _ _ _ _ _ _ _ none c.publishers.invariant.goes

pub returns-in-Err-clause-kept : goal.returns-in-Err-clause-kept
returns-in-Err-clause-kept g c = λ tells.
    let more = wakes_more c.args.b c.publishers.p (length c.args.site.now.topo.now.publishers) (omega arith) in
    kept_cut c.args.site.now.topo.now c.args.site.now.hosted.now _ _ (calls (wakes c.args.b c.publishers.p) ∷ []) _ _ _ _ _ _ more (c.publishers.invariant.kept tells) (c.in-Err.ensures.kept tells)

pub returns-clause-kept : goal.returns-clause-kept
returns-clause-kept g c = λ tells.
    let none = wakes_none c.args.b c.publishers.p (length c.args.site.now.topo.now.publishers) (omega arith) in
    kept_all c.args.site.now.topo.now c.args.site.now.hosted.now _ _ _ _ _ _ none (c.publishers.invariant.kept tells)
