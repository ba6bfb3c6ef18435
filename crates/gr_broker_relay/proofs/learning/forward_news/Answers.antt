-- What is new is looked for only where there is a child, and is the piece itself where that begins past all that is known.
use Rattle.std.proofs.Common.{◌≡◌, ℕ, ◌<◌, List, [], not, ◌&&◌, length, get_or, sym, ◌∙◌, subst, arith, refl}
use Rattle.std.specs.Prelude.{if◌then◌else◌, slice_index_or, OnOk, IfOk}
use Rattle.std.proofs.lemmas.Bool.{eqb-true}
use Rattle.std.proofs.lemmas.List.{length-map}
use Rattle.gr_tick.specs.Stored.{RunsGive}
use Rattle.gr_know.specs.Values.{Known, known_at, is_Q}
use Rattle.gr_curio.specs.declared.values.Q3.TheVariants.{N, C}
use Rattle.gr_curio.specs.Values.{wanted_at, is_C}
use Rattle.gr_curio.specs.Wants.{runs_of, wants_of}
use Rattle.gr_frame.specs.declared.Frame.{Frame}
use Rattle.gr_topo.specs.Topology.{children_of}
use Rattle.gr_model.specs.Broker.{forward, forward_frames, new_ticks}
use Rattle.gr_broker_relay.specs.Held.{shown_net}
use Rattle.gr_broker_relay.specs.Told.{AddsFrames}
use Rattle.gr_broker_relay.proofs.Learned.{new_is, forward_done}
use Rattle.gr_broker_relay.proofs.Sent.{adds_none}
use Rattle.gr_broker_relay.proofs.Sited.{children_many}
use Rattle.gr_broker_relay.proofs.learning.forward_news.Goals as goal

pub returns-then-is_empty-clause-adds : goal.returns-then-is_empty-clause-adds
returns-then-is_empty-clause-adds c =
    let empty = eqb-true _ 0 (sym c.is_empty.ensures ∙ c.if-is_empty.true) in
    let count : length c.args.site.now.position.now.children.items ≡ length (children_of c.args.site.now.topo.now c.args.site.now.publisher c.args.site.now.broker) =
    children_many c.args.site.now.topo.now c.args.site.now.broker c.args.site.now.publisher c.args.site.now.edges.now c.args.site.now.position.now c.requires.site.branch in
    subst (λ (fs : List Frame). AddsFrames fs c.args.into.now c.args.into.now)
    (sym (forward_done c.args.held.now.joins (shown_net c.args.site.now.topo.now c.args.held.now) c.args.site.now.publisher c.args.site.now.broker (new_ticks c.args.held.now.know.runs c.args.piece.now) (children_of c.args.site.now.topo.now c.args.site.now.publisher c.args.site.now.broker) (runs_of c.args.held.now.wants) 0 (omega (arith, count, empty))))
    (adds_none c.args.into.now c.args.into.now refl)

pub returns-then-is_empty-clause-each : goal.returns-then-is_empty-clause-each
returns-then-is_empty-clause-each c = λ i lt.
    let empty = eqb-true _ 0 (sym c.is_empty.ensures ∙ c.if-is_empty.true) in
    absurd (omega (arith, lt, empty, length-map c.args.held.now.wants (λ k. k.runs), c.requires.wants))

-- All of the piece is new

whole : (c : goal.After-forward) → c.args.piece.now ≡ new_ticks c.args.held.now.know.runs c.args.piece.now
whole c =
    new_is c.args.held.now.know.runs c.args.piece.now c.args.piece.now c.len.ensures.canonical c.len-2.ensures.canonical
    (record { canonical = c.len-2.ensures.canonical; in_range = c.len-2.ensures.in_range; values = c.is_past.ensures c.if-is_past.true })

pub returns-then-is_past-clause-adds : goal.returns-then-is_past-clause-adds
returns-then-is_past-clause-adds c =
    subst (λ (k : Known). OnOk c.forward.result (AddsFrames (forward_frames c.args.held.now.joins (shown_net c.args.site.now.topo.now c.args.held.now) c.args.site.now.publisher c.args.site.now.broker k (children_of c.args.site.now.topo.now c.args.site.now.publisher c.args.site.now.broker) (runs_of c.args.held.now.wants)) c.args.into.now c.forward.new.into))
    (whole c) c.forward.ensures.adds

pub returns-then-is_past-clause-each : goal.returns-then-is_past-clause-each
returns-then-is_past-clause-each c =
    subst (λ n. IfOk c.forward.result (λ quenched. (i : ℕ) → i < n → RunsGive N (slice_index_or quenched.items i []) (λ t.
    if not (is_Q (known_at (forward (shown_net c.args.site.now.topo.now c.args.held.now) c.args.site.now.publisher (get_or (children_of c.args.site.now.topo.now c.args.site.now.publisher c.args.site.now.broker) i 0) (wants_of (runs_of c.args.held.now.wants) i) (new_ticks c.args.held.now.know.runs c.args.piece.now)) t)) && is_C (wanted_at (wants_of (runs_of c.args.held.now.wants) i) t) then C else N)))
    (sym (length-map c.args.held.now.wants (λ k. k.runs)))
    (subst (λ (k : Known). IfOk c.forward.result (λ quenched. (i : ℕ) → i < length c.args.held.now.wants → RunsGive N (slice_index_or quenched.items i []) (λ t.
    if not (is_Q (known_at (forward (shown_net c.args.site.now.topo.now c.args.held.now) c.args.site.now.publisher (get_or (children_of c.args.site.now.topo.now c.args.site.now.publisher c.args.site.now.broker) i 0) (wants_of (runs_of c.args.held.now.wants) i) k) t)) && is_C (wanted_at (wants_of (runs_of c.args.held.now.wants) i) t) then C else N)))
    (whole c) c.forward.ensures.each)

-- What is new is looked for

pub returns-clause-adds : goal.returns-clause-adds
returns-clause-adds c =
    subst (λ (k : Known). OnOk c.forward-2.result (AddsFrames (forward_frames c.args.held.now.joins (shown_net c.args.site.now.topo.now c.args.held.now) c.args.site.now.publisher c.args.site.now.broker k (children_of c.args.site.now.topo.now c.args.site.now.publisher c.args.site.now.broker) (runs_of c.args.held.now.wants)) c.args.into.now c.forward-2.new.into))
    (new_is c.args.held.now.know.runs c.args.piece.now c.in_ok-fresh.fresh c.len.ensures.canonical c.len-2.ensures.canonical c.in_ok-fresh.ensures) c.forward-2.ensures.adds

pub returns-clause-each : goal.returns-clause-each
returns-clause-each c =
    subst (λ n. IfOk c.forward-2.result (λ quenched. (i : ℕ) → i < n → RunsGive N (slice_index_or quenched.items i []) (λ t.
    if not (is_Q (known_at (forward (shown_net c.args.site.now.topo.now c.args.held.now) c.args.site.now.publisher (get_or (children_of c.args.site.now.topo.now c.args.site.now.publisher c.args.site.now.broker) i 0) (wants_of (runs_of c.args.held.now.wants) i) (new_ticks c.args.held.now.know.runs c.args.piece.now)) t)) && is_C (wanted_at (wants_of (runs_of c.args.held.now.wants) i) t) then C else N)))
    (sym (length-map c.args.held.now.wants (λ k. k.runs)))
    (subst (λ (k : Known). IfOk c.forward-2.result (λ quenched. (i : ℕ) → i < length c.args.held.now.wants → RunsGive N (slice_index_or quenched.items i []) (λ t.
    if not (is_Q (known_at (forward (shown_net c.args.site.now.topo.now c.args.held.now) c.args.site.now.publisher (get_or (children_of c.args.site.now.topo.now c.args.site.now.publisher c.args.site.now.broker) i 0) (wants_of (runs_of c.args.held.now.wants) i) k) t)) && is_C (wanted_at (wants_of (runs_of c.args.held.now.wants) i) t) then C else N)))
    (new_is c.args.held.now.know.runs c.args.piece.now c.in_ok-fresh.fresh c.len.ensures.canonical c.len-2.ensures.canonical c.in_ok-fresh.ensures) c.forward-2.ensures.each)
