use Rattle.std.proofs.Common.{◌≡◌, false, Err, refl, ap, ◌∙◌, arith}
use Rattle.gr_out.specs.declared.fault.RunFault.TheVariants as run
use Rattle.gr_node.specs.Seen.{seen}
use Rattle.gr_node.proofs.SoFar.{KeptSoFar, kept_first, kept_turn, none_came, more_came, ran_all, ran_shut, ran_cut, ran_none, empty_then}
use Rattle.gr_node.proofs.running.run_turns.Goals as goal

pub returns-in-Err-clause-ran : goal.returns-in-Err-clause-ran
returns-in-Err-clause-ran g c = ran_none c.args.site.now.topo.now c.args.site.now.hosted.now g.P.Post.tells c.args.steps.now c.args.turns (seen c.args.node.now) _
    (KeptSoFar g.D.Disk.tells c.args.site.now.topo.now c.args.site.now.hosted.now c.args.steps.now (seen c.args.node.now) (g.D.Disk.lane_of c.args.disk.now) (g.D.Disk.lane_of c.args.disk.now))
    (kept_first g.D.Disk.tells c.args.site.now.topo.now c.args.site.now.hosted.now c.args.steps.now (seen c.args.node.now) (g.D.Disk.lane_of c.args.disk.now))

pub turns-init : goal.turns-init
turns-init g c = record {
  goes = none_came c.args.site.now.topo.now c.args.site.now.hosted.now g.P.Post.tells c.args.steps.now c.next_request-next.result (seen c.args.node.now) _
      (λ came. KeptSoFar g.D.Disk.tells c.args.site.now.topo.now c.args.site.now.hosted.now c.args.steps.now (seen c.args.node.now) (g.D.Disk.lane_of c.args.disk.now) (g.D.Disk.lane_of c.args.disk.now) came false)
      c.next_request-next.ensures.same (kept_first g.D.Disk.tells c.args.site.now.topo.now c.args.site.now.hosted.now c.args.steps.now (seen c.args.node.now) (g.D.Disk.lane_of c.args.disk.now));
  within = c.next_request-next.ensures.within.1;
  first = c.next_request-next.ensures.first;
  empty = c.requires.can.written;
  serving = c.requires.can.serving;
  others = λ tells lane here. refl;
  faults = refl;
  stops = refl;
  sink = refl;
  post = refl;
  piece = c.in-Ok.ensures;
}

pub turns-preserved : goal.turns-preserved
turns-preserved g c =
    let i = c.turns.invariant in
    let k = c.in-Ok-turn.ensures.keeps in
    record {
      goes = more_came c.args.site.now.topo.now c.args.site.now.hosted.now g.P.Post.tells c.args.steps.now _ _ c.turns.counter _ (seen c.turns.node) _ _ _ _ g.D.Disk.tells _ _ _ (KeptSoFar g.D.Disk.tells c.args.site.now.topo.now c.args.site.now.hosted.now c.args.steps.now (seen c.args.node.now) (g.D.Disk.lane_of c.args.disk.now) (g.D.Disk.lane_of c.turn.new.disk)) c.in-Ok-turn.goes_on c.if-not-goes_on.false i.goes c.in-Ok-turn.ensures.turned
          (kept_turn g.D.Disk.tells c.args.site.now.topo.now c.args.site.now.hosted.now c.args.steps.now c.turns.next (seen c.args.node.now) (seen c.turns.node) c.turns.invariant.goes.came (g.D.Disk.lane_of c.args.disk.now) (g.D.Disk.lane_of c.turns.disk) (g.D.Disk.lane_of c.turn.new.disk)
          c.turns.invariant.goes.stood c.turns.invariant.goes.goes.node c.turns.invariant.goes.left c.turns.invariant.serving.set c.turns.invariant.serving.stands);
      within = c.in-Ok-turn.ensures.within;
      first = c.in-Ok-turn.ensures.first;
      empty = c.in-Ok-turn.ensures.emptied c.if-not-goes_on.false;
      serving = c.in-Ok-turn.ensures.serving;
      others = λ tells lane here. k.others tells lane here ∙ i.others tells lane here;
      faults = (k.disk_moves.same (λ e. cc) (λ e. cc) (λ e. cc)).0 ∙ i.faults;
      stops = (k.disk_moves.same (λ e. cc) (λ e. cc) (λ e. cc)).1 ∙ i.stops;
      sink = k.sink_moves.same (λ e. cc) ∙ i.sink;
      post = k.post_moves.same (λ e. cc) ∙ i.post;
      piece = i.piece;
    }

pub returns-then-not-goes_on-clause-ran : goal.returns-then-not-goes_on-clause-ran
returns-then-not-goes_on-clause-ran g c =
    ran_shut c.args.site.now.topo.now c.args.site.now.hosted.now g.P.Post.tells c.args.steps.now _ _ c.turns.counter c.args.turns _ (seen c.turns.node) _ _ _ _ g.D.Disk.tells _ _ _
    (KeptSoFar g.D.Disk.tells c.args.site.now.topo.now c.args.site.now.hosted.now c.args.steps.now (seen c.args.node.now) (g.D.Disk.lane_of c.args.disk.now) (g.D.Disk.lane_of c.turn.new.disk))
    tt c.in-Ok-turn.goes_on c.if-not-goes_on.true c.turns-test.true
    c.turns.invariant.goes c.in-Ok-turn.ensures.turned
    (kept_turn g.D.Disk.tells c.args.site.now.topo.now c.args.site.now.hosted.now c.args.steps.now c.turns.next (seen c.args.node.now) (seen c.turns.node) c.turns.invariant.goes.came (g.D.Disk.lane_of c.args.disk.now) (g.D.Disk.lane_of c.turns.disk) (g.D.Disk.lane_of c.turn.new.disk)
    c.turns.invariant.goes.stood c.turns.invariant.goes.goes.node c.turns.invariant.goes.left c.turns.invariant.serving.set c.turns.invariant.serving.stands)

pub returns-in-Err-turn-clause-ran : goal.returns-in-Err-turn-clause-ran
returns-in-Err-turn-clause-ran g c =
    ran_cut c.args.site.now.topo.now c.args.site.now.hosted.now g.P.Post.tells c.args.steps.now _ _ c.turns.counter c.args.turns _ (seen c.turns.node) _ _ _ _ g.D.Disk.tells _ _ _
    (KeptSoFar g.D.Disk.tells c.args.site.now.topo.now c.args.site.now.hosted.now c.args.steps.now (seen c.args.node.now) (g.D.Disk.lane_of c.args.disk.now) (g.D.Disk.lane_of c.turn.new.disk))
    c.in-Err-turn.fault c.turns-test.true c.turns.invariant.goes c.in-Err-turn.ensures.turned
    (kept_turn g.D.Disk.tells c.args.site.now.topo.now c.args.site.now.hosted.now c.args.steps.now c.turns.next (seen c.args.node.now) (seen c.turns.node) c.turns.invariant.goes.came (g.D.Disk.lane_of c.args.disk.now) (g.D.Disk.lane_of c.turns.disk) (g.D.Disk.lane_of c.turn.new.disk)
    c.turns.invariant.goes.stood c.turns.invariant.goes.goes.node c.turns.invariant.goes.left c.turns.invariant.serving.set c.turns.invariant.serving.stands)

pub returns-in-Err-turn-clause-empty : goal.returns-in-Err-turn-clause-empty
returns-in-Err-turn-clause-empty g c = λ exact other.
    empty_then c.in-Err-turn.fault c.turns.page.held _ c.in-Err-turn.ensures.keeps.never_damaged c.in-Err-turn.ensures.at_post c.turns.invariant.empty exact other

pub returns-clause-ran : goal.returns-clause-ran
returns-clause-ran g c =
    ran_all c.args.site.now.topo.now c.args.site.now.hosted.now g.P.Post.tells c.args.steps.now _ c.turns.counter c.args.turns _ _ _ _
    (KeptSoFar g.D.Disk.tells c.args.site.now.topo.now c.args.site.now.hosted.now c.args.steps.now (seen c.args.node.now) (g.D.Disk.lane_of c.args.disk.now) (g.D.Disk.lane_of c.turns.disk)) _ (omega arith) c.turns.invariant.goes

pub returns-in-Err-turn-clause-serving_at_post : goal.returns-in-Err-turn-clause-serving_at_post
returns-in-Err-turn-clause-serving_at_post g c = λ e.
    let same : c.in-Err-turn.fault ≡ run.Post = cc in
    c.in-Err-turn.ensures.serving_at_post (ap (λ f. Err f) same)
