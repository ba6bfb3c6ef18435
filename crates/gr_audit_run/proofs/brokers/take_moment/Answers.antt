use Rattle.gr_journal.specs.declared.arrival.Arrival.TheVariants.{Quiet}
use Rattle.gr_audit_run.proofs.Taking.{on_ok, came_of}
use Rattle.gr_audit_run.proofs.brokers.take_moment.Goals as goal

pub returns-clause-came : goal.returns-clause-came
returns-clause-came c =
    came_of c.args.site.now.topo.now c.args.site.now.hosted.now c.args.steps.now (Quiet c.args.moment) c.args.process.now _ c.take_quiet.result
    c.take_quiet.ensures.went c.in_ok-in_memory.ensures (c.in_ok-push_quiet.ensures c.args.site.now.topo.now) (c.next_after-process.ensures.left c.args.moment)

pub returns-clause-goes_on : goal.returns-clause-goes_on
returns-clause-goes_on c = record {
  serving = on_ok c.take_quiet.result _ c.in_ok-in_memory.ensures c.take_quiet.ensures.serving;
  within = c.next_after-process.ensures.within;
  first = c.next_after-process.ensures.first;
}
