use Rattle.std.proofs.Common.{◌≡◌, false, Err, refl, ap, ◌∙◌, arith}
use Rattle.gr_out.specs.declared.fault.RunFault.TheVariants as run
use Rattle.gr_node.specs.Seen.{seen}
use Rattle.gr_node.proofs.SoFar.{KeptSoFar, kept_first, kept_turn}
use Rattle.gr_trace.proofs.Turns.{none_traced}
use Rattle.gr_trace.proofs.TracedRun.{more_traced, traced_all, traced_shut, traced_cut, traced_none}
use Rattle.gr_trace.proofs.running.run.Goals as goal

-- As a run of gr_node, whose groups are written.

pub returns-in-Err-clause-traced : goal.returns-in-Err-clause-traced
returns-in-Err-clause-traced g c =
    traced_none c.args.site.now.topo.now c.args.site.now.hosted.now g.P.Post.tells g.D.Disk.tells c.args.steps.now c.args.turns (seen c.args.node.now) (g.K.Sink.taken c.args.sink.now) (g.P.Post.journal c.args.post.now) (g.D.Disk.lane_of c.args.disk.now)

pub turns-init : goal.turns-init
turns-init g c = record {
  goes = none_traced c.args.site.now.topo.now c.args.site.now.hosted.now g.P.Post.tells c.args.steps.now c.next_request-next.result (seen c.args.node.now) (g.K.Sink.taken c.args.sink.now) (g.P.Post.journal c.args.post.now)
      (λ came. KeptSoFar g.D.Disk.tells c.args.site.now.topo.now c.args.site.now.hosted.now c.args.steps.now (seen c.args.node.now) (g.D.Disk.lane_of c.args.disk.now) (g.D.Disk.lane_of c.args.disk.now) came false)
      c.next_request-next.ensures.same (kept_first g.D.Disk.tells c.args.site.now.topo.now c.args.site.now.hosted.now c.args.steps.now (seen c.args.node.now) (g.D.Disk.lane_of c.args.disk.now));
  within = c.next_request-next.ensures.within.1;
  first = c.next_request-next.ensures.first;
  between = c.requires.between;
  others = λ tells lane here. refl;
  faults = refl;
  stops = refl;
  sink = refl;
  post = refl;
  piece = c.in-Ok.ensures;
}

pub turns-preserved : goal.turns-preserved
turns-preserved g c =
    let i = c.turns.invariant in
    let k = c.in-Ok-turn.ensures.keeps in
    record {
      goes = more_traced c.args.site.now.topo.now c.args.site.now.hosted.now g.P.Post.tells g.D.Disk.tells c.args.steps.now _ _ c.turns.counter (seen c.args.node.now) (seen c.turns.node) _ _ _ _ _ _ _ _ _ _
          (KeptSoFar g.D.Disk.tells c.args.site.now.topo.now c.args.site.now.hosted.now c.args.steps.now (seen c.args.node.now) (g.D.Disk.lane_of c.args.disk.now) (g.D.Disk.lane_of c.turn.new.disk)) c.in-Ok-turn.goes_on c.if-not-goes_on.false i.goes c.in-Ok-turn.ensures.traced
          (kept_turn g.D.Disk.tells c.args.site.now.topo.now c.args.site.now.hosted.now c.args.steps.now c.turns.next (seen c.args.node.now) (seen c.turns.node) i.goes.came (g.D.Disk.lane_of c.args.disk.now) (g.D.Disk.lane_of c.turns.disk) (g.D.Disk.lane_of c.turn.new.disk)
          i.goes.stood i.goes.goes.node i.goes.left i.between.serving.set i.between.serving.stands);
      within = c.in-Ok-turn.ensures.within;
      first = c.in-Ok-turn.ensures.first;
      between = c.in-Ok-turn.ensures.between;
      others = λ tells lane here. k.others tells lane here ∙ i.others tells lane here;
      faults = (k.disk_moves.same (λ e. cc) (λ e. cc) (λ e. cc)).0 ∙ i.faults;
      stops = (k.disk_moves.same (λ e. cc) (λ e. cc) (λ e. cc)).1 ∙ i.stops;
      sink = k.sink_moves.same (λ e. cc) ∙ i.sink;
      post = k.post_moves.same (λ e. cc) ∙ i.post;
      piece = i.piece;
    }

pub returns-then-not-goes_on-clause-traced : goal.returns-then-not-goes_on-clause-traced
returns-then-not-goes_on-clause-traced g c =
    let i = c.turns.invariant in
    traced_shut c.args.site.now.topo.now c.args.site.now.hosted.now g.P.Post.tells g.D.Disk.tells c.args.steps.now _ _ c.turns.counter c.args.turns (seen c.args.node.now) (seen c.turns.node) _ _ _ _ _ _ _ _ _ _ _ tt c.in-Ok-turn.goes_on c.if-not-goes_on.true c.turns-test.true i.goes c.in-Ok-turn.ensures.traced
    (kept_turn g.D.Disk.tells c.args.site.now.topo.now c.args.site.now.hosted.now c.args.steps.now c.turns.next (seen c.args.node.now) (seen c.turns.node) i.goes.came (g.D.Disk.lane_of c.args.disk.now) (g.D.Disk.lane_of c.turns.disk) (g.D.Disk.lane_of c.turn.new.disk)
    i.goes.stood i.goes.goes.node i.goes.left i.between.serving.set i.between.serving.stands)

pub returns-in-Err-turn-clause-traced : goal.returns-in-Err-turn-clause-traced
returns-in-Err-turn-clause-traced g c =
    let i = c.turns.invariant in
    traced_cut c.args.site.now.topo.now c.args.site.now.hosted.now g.P.Post.tells g.D.Disk.tells c.args.steps.now _ _ c.turns.counter c.args.turns (seen c.args.node.now) (seen c.turns.node) _ _ _ _ _ _ _ _ _ _ _ c.in-Err-turn.fault c.turns-test.true i.goes c.in-Err-turn.ensures.traced
    (kept_turn g.D.Disk.tells c.args.site.now.topo.now c.args.site.now.hosted.now c.args.steps.now c.turns.next (seen c.args.node.now) (seen c.turns.node) i.goes.came (g.D.Disk.lane_of c.args.disk.now) (g.D.Disk.lane_of c.turns.disk) (g.D.Disk.lane_of c.turn.new.disk)
    i.goes.stood i.goes.goes.node i.goes.left i.between.serving.set i.between.serving.stands)

pub returns-clause-traced : goal.returns-clause-traced
returns-clause-traced g c =
    traced_all c.args.site.now.topo.now c.args.site.now.hosted.now g.P.Post.tells g.D.Disk.tells c.args.steps.now _ c.turns.counter c.args.turns (seen c.args.node.now) (seen c.turns.node) _ _ _ _ _ _ _ (omega arith) c.turns.invariant.goes

pub returns-in-Err-turn-clause-serving_at_post : goal.returns-in-Err-turn-clause-serving_at_post
returns-in-Err-turn-clause-serving_at_post g c = λ e.
    let same : c.in-Err-turn.fault ≡ run.Post = cc in
    c.in-Err-turn.ensures.serving_at_post (ap (λ f. Err f) same)
