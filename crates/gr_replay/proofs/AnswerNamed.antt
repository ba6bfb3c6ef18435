-- Every line of a step's answer is named, since it is a line of the machine's step
use Rattle.std.proofs.Common.{◌≡◌, ap, subst, List, Some, Result}
use Rattle.gr_sched.specs.declared.step.Line.{Line}
use Rattle.gr_model.specs.declared.report.Report.{Report}
use Rattle.gr_model.specs.NetOf.{IsOrderly}
use Rattle.gr_model.specs.Tree.{IsNet}
use Rattle.gr_model.specs.World.{Transition}
use Rattle.gr_scenario.specs.Steps.{IsStepOf}
use Rattle.gr_report.specs.Named.{AllNamed}
use Rattle.gr_report.proofs.Named.{next_named}
use Rattle.gr_world.specs.declared.fault.WorldFault.{WorldFault}
use Rattle.gr_world.specs.Seen.{WorldView, net_in, world_of}
use Rattle.gr_world.specs.Of.{IsWorld}
use Rattle.gr_world.specs.Steps.{Makes, lines_of_step}

-- the lines of a step's answer are named, as it is the machine's step
pub answer_named : (old new : WorldView) (l : Line) (answer : Result (List Report) WorldFault) (lines : List Report) → IsNet (net_in old) → IsOrderly (net_in old) → IsWorld old → IsStepOf old.topo l.step → Makes l.step old new answer → lines_of_step l.number l.step answer ≡ Some lines → AllNamed old.topo lines
answer_named old new l answer lines n o w i m e =
    subst (AllNamed old.topo) (ap (λ (t : Transition). t.lines) (m l.number lines e)) (next_named old.topo (world_of old) l n o w.over i)
