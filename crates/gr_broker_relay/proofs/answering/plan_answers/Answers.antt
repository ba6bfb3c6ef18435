use Rattle.std.proofs.Common.{◌<◌, List, length, sym, subst}
use Rattle.gr_frame.specs.declared.Frame.{Frame}
use Rattle.gr_curio.specs.Wants.{runs_of}
use Rattle.gr_broker_relay.specs.Held.{held_view, shown_net}
use Rattle.gr_broker_relay.specs.Told.{AddsFrames}
use Rattle.gr_broker_relay.proofs.Answered.{frames_are}
use Rattle.gr_broker_relay.proofs.answering.plan_answers.Goals as goal

pub returns-clause-adds : goal.returns-clause-adds
returns-clause-adds c = λ log.
    let s = c.args.site.now in
    let lt : c.args.i < length (runs_of c.args.held.now.wants) = subst (λ n. c.args.i < n) (sym c.requires.kept.wants) c.requires.child in
    subst (λ (fs : List Frame). AddsFrames fs c.args.into.now c.send_answers.new.into)
    (frames_are (shown_net s.topo.now c.args.held.now) s.publisher s.broker c.args.now c.args.i c.args.piece.now (held_view c.args.held.now) log c.in_ok-reply.reply c.in_ok-left.left c.in_ok-asked.asked lt c.len.ensures.canonical c.len-2.ensures.canonical c.len-3.ensures.canonical c.in_ok-reply.ensures c.in_ok-left.ensures c.in_ok-asked.ensures.host c.in_ok-asked.ensures.below)
    c.in_ok-send_answers.ensures
