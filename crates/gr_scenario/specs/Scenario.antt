-- The scenario that bytes are, or why they are none
use Rattle.std.specs.Prelude.{ℕ, nat_lt, if◌then◌else◌, List, length, Result, Ok, Err}
use Rattle.gr_sched.specs.declared.fault.StepFault.{StepFault}
use Rattle.gr_sched.specs.declared.step.TheConstants.{MAX_INPUT_BYTES, MAX_STEPS}
use Rattle.gr_sched.specs.declared.step.Line.{Line}
use Rattle.gr_sched.specs.Text.{pieces_of, before_separator, after_separator, counted_lines}
use Rattle.gr_sched.specs.Grammar.{steps_of}
use Rattle.gr_topo.specs.declared.fault.TopoFault.{TopoFault}
use Rattle.gr_topo.specs.Read.{topology_text}
use Rattle.gr_topo.specs.Topology.{TopologyView, naming_of}
use Rattle.gr_scenario.specs.declared.asked.Asked.{Asked}
use Rattle.gr_scenario.specs.declared.asked.Asked.TheVariants.{TooManyBytes, TooManySteps, Refused, Scenario}
use Rattle.gr_scenario.specs.Refusals.{topology_line, step_line}
use Rattle.gr_scenario.specs.Steps.{AreStepsOf}

-- What is asked

-- the steps that were read with the names of a topology, or their first fault
abbrev pub asked_of_steps : TopologyView → Result (List Line) StepFault → Asked
asked_of_steps t (Ok lines) = Scenario t lines
asked_of_steps t (Err why) = Refused (step_line why)

-- the topology that was read and then the steps, or the first refusal
abbrev pub asked_of_parts : Result TopologyView TopoFault → List ℕ → Asked
asked_of_parts (Ok t) steps = asked_of_steps t (steps_of (naming_of t) steps)
asked_of_parts (Err why) steps = Refused (topology_line why)

-- what the bytes ask: they are too many, or their counted lines are; else the part before the separator is the
-- topology, and the part behind it the steps
abbrev pub asked_by : List ℕ → Asked
asked_by bytes =
    if nat_lt MAX_INPUT_BYTES (length bytes) then TooManyBytes
    else if nat_lt MAX_STEPS (length (counted_lines (after_separator (pieces_of bytes)))) then TooManySteps
    else asked_of_parts (topology_text (before_separator (pieces_of bytes))) (after_separator (pieces_of bytes))

-- What is known of it

-- the steps of a scenario are those of its topology
abbrev pub IsScenario : Asked → Type 0
IsScenario TooManyBytes = Unit {0}
IsScenario TooManySteps = Unit {0}
IsScenario (Refused line) = Unit {0}
IsScenario (Scenario t lines) = AreStepsOf t lines

-- a size is why the bytes are refused
abbrev pub IsTooLarge : Asked → Type 0
IsTooLarge TooManyBytes = Unit {0}
IsTooLarge TooManySteps = Unit {0}
IsTooLarge (Refused line) = ⊥
IsTooLarge (Scenario t lines) = ⊥
