use Rattle.std.proofs.Common.{sym, ap, ◌∙◌, subst}
use Rattle.gr_topo.specs.Topology.{children_of}
use Rattle.gr_model.specs.NetOf.{net_of}
use Rattle.gr_model.specs.Broker.{Outcome as MachineOutcome, seen, kept_view, expect_frames}
use Rattle.gr_broker_relay.specs.Held.{held_view, shown_net}
use Rattle.gr_broker_relay.specs.Told.{Tells}
use Rattle.gr_broker_relay.proofs.Sent.{adds_after}
use Rattle.gr_broker_relay.proofs.AskedCalls.{noted_view, asked_outcome, expected_outcome, expect_is, told_first}
use Rattle.gr_broker_relay.proofs.asking.take_expect.Goals as goal

pub returns-clause-told : goal.returns-clause-told
returns-clause-told c = λ log.
    let s = c.args.site.now in
    let net = shown_net s.topo.now c.args.held.now in
    let v = held_view c.args.held.now in
    let asked = c.in_ok-asked.asked in
    let asks : MachineOutcome = asked_outcome net s.publisher s.broker c.args.now v log asked in
    subst (λ (o : MachineOutcome). Tells o (record { reports = c.args.into.now.reports; frames = c.expect_children.new.into }))
    (sym (expect_is net s.publisher s.broker c.args.now c.args.tick c.expect_end.result v log c.in_ok-wanted.wanted asked c.expect_end.ensures.end c.in_ok-wanted.ensures c.in_ok-asked.ensures.asked))
    (told_first (expected_outcome net s.publisher s.broker c.args.now c.args.tick v log asked) _ c.args.into.now.frames c.requires.blank.lines c.requires.blank.frames
    (adds_after asks.frames (expect_frames s.publisher s.broker c.args.tick (children_of s.topo.now s.publisher s.broker) v.wants) c.args.into.now.frames c.asked_upward.new.into c.expect_children.new.into c.in_ok-asked.ensures.frames c.in_ok-expect_children.ensures))

pub returns-clause-view : goal.returns-clause-view
returns-clause-view c = λ log.
    let s = c.args.site.now in
    let net = shown_net s.topo.now c.args.held.now in
    let v = held_view c.args.held.now in
    let asked = c.in_ok-asked.asked in
    c.note_asked.ensures.view ∙ ap (λ u. kept_view (seen (net_of s.topo.now) u) s.publisher s.broker (noted_view c.args.now u asked)) c.in_ok-reserve_asks.ensures.view
    ∙ sym (ap (λ (o : MachineOutcome). o.view) (expect_is net s.publisher s.broker c.args.now c.args.tick c.expect_end.result v log c.in_ok-wanted.wanted asked c.expect_end.ensures.end c.in_ok-wanted.ensures c.in_ok-asked.ensures.asked))
