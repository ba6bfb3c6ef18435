use Rattle.std.proofs.Common.{Some, refl, sym, ◌∙◌, subst}
use Rattle.gr_frame.specs.Decode.{frame_decoded}
use Rattle.gr_model.specs.NetOf.{net_of}
use Rattle.gr_broker.specs.declared.outcome.Dropped.TheVariants as dropped
use Rattle.gr_broker.specs.Seen.{BrokerView, seen_broker}
use Rattle.gr_broker.specs.Receipt.{AnswersInto}
use Rattle.gr_broker.proofs.Reading.{no_frame_answer}
use Rattle.gr_broker.proofs.receiving.receive.Goals as goal

pub returns-in-Err-clause-says : goal.returns-in-Err-clause-says
returns-in-Err-clause-says c =
    let b : BrokerView = seen_broker c.args.seat.now.number c.args.seat.now.here.now c.args.seat.now.edges.now c.args.seat.now.positions.now c.args.held.now.items in
    subst (λ r. AnswersInto c.args.into.now (Some (dropped.NotFrame c.in-Err.fault)) r)
    (sym (no_frame_answer (net_of c.args.seat.now.topo.now) c.args.now b (frame_decoded c.args.bytes.now) c.in-Err.fault (sym c.in_ok-frame.ensures.read ∙ c.in-Err.is))) (refl, rw c.in-Err.is at c.in_ok-frame.ensures.known)
