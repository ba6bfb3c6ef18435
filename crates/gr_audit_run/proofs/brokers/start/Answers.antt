use Rattle.std.proofs.Common.{List, ap}
use Rattle.gr_out.specs.Lane.{Lane, lane_at}
use Rattle.gr_audit_run.proofs.Start.{opened_fresh}
use Rattle.gr_audit_run.proofs.Taking.{on_ok}
use Rattle.gr_audit_run.proofs.brokers.start.Goals as goal

pub returns-clause-fresh : goal.returns-clause-fresh
returns-clause-fresh c =
    opened_fresh c.args.site.now.topo.now c.args.site.now.hosted.now _ _ _ c.«open».result c.in_ok-in_memory.ensures c.«open».ensures.opens
    (λ k. ap (λ (ls : List Lane). lane_at ls k) c.in_ok-disk.ensures.lanes)

pub returns-clause-ready : goal.returns-clause-ready
returns-clause-ready c = record {
  goes_on = record {
    serving = on_ok c.«open».result _ c.in_ok-in_memory.ensures c.«open».ensures.serving;
    within = c.next_request-next.ensures.within.1;
    first = c.next_request-next.ensures.first;
  };
  empty = c.clear.ensures;
}
