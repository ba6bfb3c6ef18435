use Rattle.std.proofs.Common.{refl}
use Rattle.gr_journal.specs.declared.arrival.Arrival.TheVariants.{Datagram}
use Rattle.gr_audit_run.specs.Process.{left_of}
use Rattle.gr_audit_run.proofs.Taking.{on_ok, came_of}
use Rattle.gr_audit_run.proofs.brokers.take_bytes.Goals as goal

pub returns-clause-came : goal.returns-clause-came
returns-clause-came c =
    let t = c.args.site.now.topo.now in
    let hosted = c.args.site.now.hosted.now in
    came_of t hosted c.args.steps.now (Datagram c.args.broker c.args.moment c.args.bytes.now) c.args.process.now _ c.take_datagram.result
    (λ x. c.take_datagram.ensures.went x (left_of t hosted c.args.steps.now c.args.process.now)) c.in_ok-in_memory.ensures c.in_ok-push_datagram.ensures refl

pub returns-clause-goes_on : goal.returns-clause-goes_on
returns-clause-goes_on c = record {
  serving = on_ok c.take_datagram.result _ c.in_ok-in_memory.ensures c.take_datagram.ensures.serving;
  within = c.requires.ready.goes_on.within;
  first = c.requires.ready.goes_on.first;
}
