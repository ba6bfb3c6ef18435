use Rattle.std.proofs.Common.{◌+◌, ◌<◌, ◌≤◌, min, length, drop, get_or, refl, sym, subst, arith}
use Rattle.std.specs.Prelude.{if◌then◌else◌, [], ◌∷◌}
use Rattle.std.proofs.lemmas.List.{length-map}
use Rattle.gr_curio.specs.Wants.{runs_of, wants_of}
use Rattle.gr_topo.specs.Topology.{children_of}
use Rattle.gr_model.specs.Broker.{covers, expect_frame, expect_frames}
use Rattle.gr_broker_relay.specs.Told.{AddsFrames}
use Rattle.gr_broker_relay.proofs.Sent.{adds_none, adds_after}
use Rattle.gr_broker_relay.proofs.Sited.{children_many}
use Rattle.gr_broker_relay.proofs.AskedCalls.{expect_step, expect_end}
use Rattle.gr_broker_relay.proofs.asking.expect_children.Goals as goal

pub loop-i-preserved : goal.loop-i-preserved
loop-i-preserved c = λ after a.
    let s = c.args.site.now in
    let cs = children_of s.topo.now s.publisher s.broker in
    let ws = runs_of c.args.wants.now in
    let i = c.loop-i.i in
    let tick = c.args.tick in
    let children : i < length cs = omega (arith, children_many s.topo.now s.broker s.publisher s.edges.now s.position.now c.requires.site.branch, c.loop-i-test.true, c.min-count.ensures, c.len.ensures) in
    let wants : i < length ws = omega (arith, length-map c.args.wants.now (λ w. w.runs), c.loop-i-test.true, c.min-count.ensures, c.children.ensures) in
    c.loop-i.invariant after (subst (λ frames. AddsFrames frames c.loop-i.into after) (sym (expect_step s.publisher s.broker tick i cs ws children wants))
    (adds_after (if covers (wants_of ws i) tick then [] else expect_frame s.broker (get_or cs i 0) s.publisher tick ∷ []) (expect_frames s.publisher s.broker tick (drop (i + 1) cs) (drop (i + 1) ws)) c.loop-i.into c.expect_one.new.into after c.in_ok-expect_one.ensures a))

pub returns : goal.returns
returns c =
    let s = c.args.site.now in
    let cs = children_of s.topo.now s.publisher s.broker in
    let ws = runs_of c.args.wants.now in
    let past : min (length cs) (length ws) ≤ c.loop-i.i = omega (arith, children_many s.topo.now s.broker s.publisher s.edges.now s.position.now c.requires.site.branch, length-map c.args.wants.now (λ w. w.runs), c.loop-i-test.false, c.min-count.ensures, c.len.ensures, c.children.ensures) in
    c.loop-i.invariant c.loop-i.into (subst (λ frames. AddsFrames frames c.loop-i.into c.loop-i.into) (sym (expect_end s.publisher s.broker c.args.tick c.loop-i.i cs ws past)) (adds_none c.loop-i.into c.loop-i.into refl))
