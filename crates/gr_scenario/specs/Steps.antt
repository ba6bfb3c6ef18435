-- The steps of a topology
use Rattle.std.specs.Prelude.{◌≡◌, ◌<◌, ◌≤◌, true, List, length, IfSome}
use Rattle.std.specs.List.{AllByRecursion}
use Rattle.gr_event.specs.Limits.{IsEvent}
use Rattle.gr_sched.specs.declared.step.TheConstants.{MAX_NUMBER}
use Rattle.gr_sched.specs.declared.step.Step.{Step}
use Rattle.gr_sched.specs.declared.step.Step.TheVariants as step
use Rattle.gr_sched.specs.declared.step.Line.{Line}
use Rattle.gr_sched.specs.Ranges.{IsStop}
use Rattle.gr_topo.specs.Topology.{TopologyView, late_of}

-- a step names what the topology has, and its numbers are in their ranges. A subscriber that joins is late
abbrev pub IsStepOf : TopologyView → Step → Type 0
IsStepOf t (step.Clock now) = now ≤ MAX_NUMBER
IsStepOf t (step.Publish publisher number stop event) =
    (publisher < length t.publishers) × (1 ≤ number) × (number ≤ MAX_NUMBER) × IfSome stop IsStop × IsEvent event
IsStepOf t (step.Wake broker) = broker < length t.brokers
IsStepOf t (step.Deliver frame) = frame ≤ MAX_NUMBER
IsStepOf t (step.Crash broker) = broker < length t.brokers
IsStepOf t step.Sweep = Unit {0}
IsStepOf t step.Show = Unit {0}
IsStepOf t (step.Bytes frame) = frame ≤ MAX_NUMBER
IsStepOf t (step.Join s p) = (s < length t.subscribers) × (late_of t s ≡ true) × (p < length t.publishers)

abbrev pub AreStepsOf : TopologyView → List Line → Type 0
AreStepsOf t lines = AllByRecursion (λ l. IsStepOf t l.step) lines
