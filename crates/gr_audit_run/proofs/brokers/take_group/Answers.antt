use Rattle.std.proofs.Common.{ap, refl, ◌∙◌}
use Rattle.gr_trace.specs.Offered.{entries_of}
use Rattle.gr_audit_run.specs.Process.{with_offers}
use Rattle.gr_audit_run.proofs.Taking.{took_of}
use Rattle.gr_audit_run.proofs.brokers.take_group.Goals as goal

pub returns-clause-took : goal.returns-clause-took
returns-clause-took c =
    took_of c.args.site.now.topo.now c.args.site.now.hosted.now c.args.steps.now c.args.arrival.now c.args.process.now c.take.new.process _
    c.brokers.ensures.topology c.in_ok-take.ensures.came c.in_ok-put_gathered.ensures refl refl

pub returns-clause-noted : goal.returns-clause-noted
returns-clause-noted c =
    c.in_ok-note_offers.ensures
    ∙ ap (λ es. with_offers es c.args.given.now) (ap entries_of c.as_slice.ensures ∙ c.in_ok-take.ensures.came.offers)

pub returns-clause-ready : goal.returns-clause-ready
returns-clause-ready c = record {
  goes_on = record {
    serving = c.in_ok-take.ensures.goes_on.serving;
    within = c.in_ok-take.ensures.goes_on.within;
    first = c.in_ok-take.ensures.goes_on.first;
  };
  empty = c.clear.ensures;
}
