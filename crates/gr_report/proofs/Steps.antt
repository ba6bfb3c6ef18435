-- The steps of a topology are within what the theorems speak of: they name publishers and brokers that the machine has,
-- and their moments and events are within the limits of frames
use Rattle.std.proofs.Common.{List, [], ◌∷◌}
use Rattle.gr_sched.specs.declared.step.Step.{Step}
use Rattle.gr_sched.specs.declared.step.Step.TheVariants as step
use Rattle.gr_sched.specs.declared.step.Line.{Line}
use Rattle.gr_sched.specs.Ranges.{IsInLimits}
use Rattle.gr_topo.specs.Topology.{TopologyView}
use Rattle.gr_model.specs.NetOf.{net_of}
use Rattle.gr_model_calls.specs.Fits.{StepsIn}
use Rattle.gr_model_theorems.specs.Spelled.{NumbersIn}
use Rattle.gr_scenario.specs.Steps.{IsStepOf, AreStepsOf}
use Rattle.gr_report.proofs.Named.{step_in}

-- steps of a topology name publishers and brokers that the machine has
pub steps_in : (t : TopologyView) (lines : List Line) → AreStepsOf t lines → StepsIn (net_of t) lines
steps_in t [] h = tt
steps_in t (l ∷ ls) h = (step_in t l.step h.0, steps_in t ls h.1)

-- a step of a topology is within its limits
pub step_in_limits : (t : TopologyView) (s : Step) → IsStepOf t s → IsInLimits s
step_in_limits t (step.Clock now) h = h
step_in_limits t (step.Publish p number stop e) h = h.4
step_in_limits t (step.Wake b) h = tt
step_in_limits t (step.Deliver frame) h = tt
step_in_limits t (step.Crash b) h = tt
step_in_limits t step.Sweep h = tt
step_in_limits t step.Show h = tt
step_in_limits t (step.Bytes frame) h = tt
step_in_limits t (step.Join s p) h = tt

-- so are all of them
pub numbers_in : (t : TopologyView) (lines : List Line) → AreStepsOf t lines → NumbersIn lines
numbers_in t [] h = tt
numbers_in t (l ∷ ls) h = (step_in_limits t l.step h.0, numbers_in t ls h.1)
