use Rattle.std.proofs.Common.{length}
use Rattle.gr_audit_run.specs.Process.{IsReady}
use Rattle.gr_audit_run.proofs.Runs.{Runs}
use Rattle.gr_audit_run.proofs.brokers.run_started.Given as goal

-- what was told and noted, with what is still to come, is all
abbrev pub invariant-arrivals : goal.invariant-arrivals
invariant-arrivals l = record {
  ready : IsReady l.site.topo.now l.site.hosted.now l.steps l.process;
  runs : Runs l.site.topo.now l.site.hosted.now l.steps l.process l.fn.given l.given l.fn.told l.told;
}

abbrev pub decreases-arrivals : goal.decreases-arrivals
decreases-arrivals l = length l.given.left
