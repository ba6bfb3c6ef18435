use Rattle.std.proofs.Common.{◌≡◌, sym, ap, ◌∙◌, subst}
use Rattle.gr_model.specs.NetOf.{net_of}
use Rattle.gr_model.specs.Broker.{Outcome as MachineOutcome, seen, kept_view, wake_below}
use Rattle.gr_broker_relay.specs.Held.{held_view, shown_net}
use Rattle.gr_broker_relay.specs.Told.{Tells}
use Rattle.gr_broker_relay.proofs.AskedCalls.{noted_view, asked_outcome, wake_is, told_first}
use Rattle.gr_broker_relay.proofs.asking.wake_below.Goals as goal

pub returns-clause-told : goal.returns-clause-told
returns-clause-told c = λ log.
    let s = c.args.site.now in
    let net = shown_net s.topo.now c.args.held.now in
    let v = held_view c.args.held.now in
    let asked = c.in_ok-asked.asked in
    let is : wake_below net s.publisher s.broker c.args.now v log ≡ asked_outcome net s.publisher s.broker c.args.now v log asked = wake_is net s.publisher s.broker c.args.now c.wake_end.result v log c.in_ok-wanted.wanted asked c.wake_end.ensures.end c.in_ok-wanted.ensures c.in_ok-asked.ensures.asked in
    subst (λ (o : MachineOutcome). Tells o (record { reports = c.new-told.result.reports; frames = c.asked_upward.new.into })) (sym is)
    (told_first (asked_outcome net s.publisher s.broker c.args.now v log asked) _ c.new-told.result.frames c.new-told.ensures.reports c.new-told.ensures.frames c.in_ok-asked.ensures.frames)

pub returns-clause-view : goal.returns-clause-view
returns-clause-view c = λ log.
    let s = c.args.site.now in
    let net = shown_net s.topo.now c.args.held.now in
    let v = held_view c.args.held.now in
    let asked = c.in_ok-asked.asked in
    c.note_asked.ensures.view ∙ ap (λ u. kept_view (seen (net_of s.topo.now) u) s.publisher s.broker (noted_view c.args.now u asked)) c.in_ok-reserve_asks.ensures.view
    ∙ sym (ap (λ (o : MachineOutcome). o.view) (wake_is net s.publisher s.broker c.args.now c.wake_end.result v log c.in_ok-wanted.wanted asked c.wake_end.ensures.end c.in_ok-wanted.ensures c.in_ok-asked.ensures.asked))
