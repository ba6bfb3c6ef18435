use Rattle.std.proofs.Common.{List, sym, subst}
use Rattle.gr_sched.specs.declared.step.Line.{Line}
use Rattle.gr_scenario.specs.Steps.{AreStepsOf}
use Rattle.gr_node.specs.Of.{AreHosted}
use Rattle.gr_audit.specs.Ran.{IsWhole, IsCut}
use Rattle.gr_audit_theorems.specs.Behaves.{behaves}
use Rattle.gr_audit_run.proofs.Hosted.{rising_hosted}
use Rattle.gr_audit_run.proofs.brokers.BrokersMachine.run.Goals as goal

pub start-requires : goal.start-requires
start-requires c =
    let t = c.args.topo.now in
    record {
      brokers = subst (AreHosted t) (sym c.requires.rising.1) (rising_hosted t c.requires.rising.0);
      lines = subst (AreStepsOf t) (sym c.as_slice-steps.ensures) c.requires.fits;
    }

pub run_started-requires-clause-asked : goal.run_started-requires-clause-asked
run_started-requires-clause-asked c =
    let t = c.args.topo.now in
    record {
      brokers = subst (AreHosted t) (sym c.requires.rising.1) (rising_hosted t c.requires.rising.0);
      lines = subst (AreStepsOf t) (sym c.as_slice-steps.ensures) c.requires.fits;
    }

pub returns-clause-whole : goal.returns-clause-whole
returns-clause-whole c = λ e.
    subst (λ (steps : List Line). IsWhole (behaves c.args.topo.now steps) c.args.topo.now c.args.brokers.now c.args.given.now c.run_started.new.given c.args.told.now c.run_started.new.told)
    c.as_slice-steps.ensures (c.run_started.ensures.whole e)

pub returns-clause-cut : goal.returns-clause-cut
returns-clause-cut c = λ e.
    subst (λ (steps : List Line). IsCut (behaves c.args.topo.now steps) c.args.topo.now c.args.brokers.now c.args.given.now c.args.told.now c.run_started.new.told)
    c.as_slice-steps.ensures (c.run_started.ensures.cut e)
