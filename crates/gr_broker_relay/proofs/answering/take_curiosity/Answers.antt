use Rattle.std.proofs.Common.{ℕ, get_or, sym, ◌∙◌}
use Rattle.gr_topo.specs.Topology.{children_of}
use Rattle.gr_model.specs.Net.{Net}
use Rattle.gr_model.specs.Broker.{Outcome as MachineOutcome, curiosity}
use Rattle.gr_broker_relay.specs.Held.{held_view, shown_net}
use Rattle.gr_broker_relay.proofs.Answered.{no_lines}
use Rattle.gr_broker_relay.proofs.Sent.{tells_all}
use Rattle.gr_broker_relay.proofs.answering.take_curiosity.Goals as goal

pub returns-clause-told : goal.returns-clause-told
returns-clause-told c = λ log.
    let s = c.args.site.now in
    let net : Net = shown_net s.topo.now c.args.held.now in
    let child : ℕ = get_or (children_of s.topo.now s.publisher s.broker) c.args.i 0 in
    let o : MachineOutcome = curiosity net s.publisher s.broker c.args.now child c.args.i c.args.piece.now (held_view c.args.held.now) log in
    tells_all o (record { reports = c.args.into.now.reports; frames = c.plan_answers.new.into }) c.args.into.now.frames
    (c.requires.blank.lines ∙ sym (no_lines net s.publisher s.broker c.args.now child c.args.i c.args.piece.now (held_view c.args.held.now) log))
    c.requires.blank.frames (c.in_ok-answers.ensures.adds log)
