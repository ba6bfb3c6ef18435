-- The frames to each child follow those to the children before it.
use Rattle.std.proofs.Common.{◌≡◌, ℕ, ◌+◌, ◌<◌, List, [], not, ◌&&◌, length, get_or, drop, sym, ◌∙◌, subst, arith, refl}
use Rattle.std.specs.Prelude.{if◌then◌else◌}
use Rattle.std.proofs.lemmas.List.{length-map}
use Rattle.gr_tick.specs.Stored.{RunsGive}
use Rattle.gr_know.specs.Values.{known_at, is_Q}
use Rattle.gr_curio.specs.declared.values.Q3.TheVariants.{N, C}
use Rattle.gr_curio.specs.Values.{Wanted, wanted_at, is_C}
use Rattle.gr_curio.specs.Wants.{runs_of, wants_of}
use Rattle.gr_frame.specs.declared.Frame.{Frame}
use Rattle.gr_topo.specs.Topology.{children_of}
use Rattle.gr_model.specs.Broker.{forward, know_frames, forward_frames}
use Rattle.gr_broker_relay.specs.Held.{shown_net}
use Rattle.gr_broker_relay.specs.Told.{AddsFrames}
use Rattle.gr_broker_relay.proofs.Learned.{forward_step, forward_done}
use Rattle.gr_broker_relay.proofs.Forwarding.{each_more}
use Rattle.gr_broker_relay.proofs.Sent.{adds_none, adds_after}
use Rattle.gr_broker_relay.proofs.Sited.{children_many}
use Rattle.gr_broker_relay.proofs.learning.forward.Goals as goal

pub loop-i-preserved : goal.loop-i-preserved
loop-i-preserved c =
    let net = shown_net c.args.site.now.topo.now c.args.held.now in
    let js = c.args.held.now.joins in
    let p = c.args.site.now.publisher in
    let b = c.args.site.now.broker in
    let cs : List ℕ = children_of c.args.site.now.topo.now c.args.site.now.publisher c.args.site.now.broker in
    let ws : List Wanted = runs_of c.args.held.now.wants in
    let count : length c.args.site.now.position.now.children.items ≡ length (children_of c.args.site.now.topo.now c.args.site.now.publisher c.args.site.now.broker) =
    children_many c.args.site.now.topo.now c.args.site.now.broker c.args.site.now.publisher c.args.site.now.edges.now c.args.site.now.position.now c.requires.site.branch in
    let many : length (runs_of c.args.held.now.wants) ≡ length (children_of c.args.site.now.topo.now c.args.site.now.publisher c.args.site.now.broker) = length-map c.args.held.now.wants (λ k. k.runs) ∙ c.requires.wants ∙ count in
    let inside : c.loop-i.i < length (runs_of c.args.held.now.wants) = omega (arith, many, count) in
    record {
      adds = λ last h. c.loop-i.invariant.adds last
          (subst (λ (fs : List Frame). AddsFrames fs c.loop-i.into last) (sym (forward_step js net p b c.args.fresh.now cs ws c.loop-i.i many inside))
          (adds_after (know_frames js b (get_or cs c.loop-i.i 0) p (forward net p (get_or cs c.loop-i.i 0) (wants_of ws c.loop-i.i) c.args.fresh.now)) (forward_frames js net p b c.args.fresh.now (drop (c.loop-i.i + 1) cs) (drop (c.loop-i.i + 1) ws)) c.loop-i.into c.forward_to.new.into last c.in_ok-quenched.ensures.adds h));
      many = c.in_ok-put_at.ensures.many;
      each = each_more (λ k (q : Wanted). RunsGive N q (λ t. if not (is_Q (known_at (forward net p (get_or cs k 0) (wants_of ws k) c.args.fresh.now) t)) && is_C (wanted_at (wants_of ws k) t) then C else N))
          c.loop-i.all.items c.put_at.new.pieces.items c.in_ok-quenched.quenched [] c.loop-i.i c.in_ok-put_at.ensures.each c.loop-i.invariant.each c.in_ok-quenched.ensures.quenched;
    }

pub returns-clause-adds : goal.returns-clause-adds
returns-clause-adds c =
    let count : length c.args.site.now.position.now.children.items ≡ length (children_of c.args.site.now.topo.now c.args.site.now.publisher c.args.site.now.broker) =
    children_many c.args.site.now.topo.now c.args.site.now.broker c.args.site.now.publisher c.args.site.now.edges.now c.args.site.now.position.now c.requires.site.branch in
    c.loop-i.invariant.adds c.loop-i.into
    (subst (λ (fs : List Frame). AddsFrames fs c.loop-i.into c.loop-i.into)
    (sym (forward_done c.args.held.now.joins (shown_net c.args.site.now.topo.now c.args.held.now) c.args.site.now.publisher c.args.site.now.broker c.args.fresh.now (children_of c.args.site.now.topo.now c.args.site.now.publisher c.args.site.now.broker) (runs_of c.args.held.now.wants) c.loop-i.i (omega (arith, count))))
    (adds_none c.loop-i.into c.loop-i.into refl))
