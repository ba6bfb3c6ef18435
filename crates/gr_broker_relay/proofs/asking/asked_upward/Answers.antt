use Rattle.std.proofs.Common.{subst}
use Rattle.gr_curio.specs.Wants.{runs_of}
use Rattle.gr_model.specs.NetOf.{net_of}
use Rattle.gr_model.specs.Broker.{up_frames}
use Rattle.gr_broker_relay.specs.Told.{AddsFrames}
use Rattle.gr_broker_relay.proofs.AskedCalls.{sent_is}
use Rattle.gr_broker_relay.proofs.asking.asked_upward.Goals as goal

pub returns-clause-frames : goal.returns-clause-frames
returns-clause-frames c =
    let s = c.args.site.now in
    let net = net_of s.topo.now in
    let h = c.args.held.now in
    subst (λ sent. AddsFrames (up_frames net s.publisher s.broker sent) c.args.into.now c.send_up.new.into)
    (sent_is net s.publisher s.broker h.horizon (runs_of h.wants) c.in_ok-done.done c.in_ok-asked.asked c.in_ok-upward.upward c.requires.kept.wants c.in_ok-done.ensures c.in_ok-asked.ensures.canonical c.in_ok-upward.ensures) c.in_ok-send_up.ensures
