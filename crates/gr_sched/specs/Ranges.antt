-- What holds of every schedule that is read, and of every fault
use Rattle.std.specs.Prelude.{◌≡◌, ℕ, ◌<◌, ◌≤◌, List, Option, Some, Result, Ok, Err, IfSome}
use Rattle.gr_event.specs.declared.event.EventFault.TheVariants as event
use Rattle.gr_event.specs.Limits.{IsEvent}
use Rattle.gr_sched.specs.declared.fault.StepFault.{StepFault}
use Rattle.gr_sched.specs.declared.fault.StepFault.TheVariants.{BadEvent, TooMany}
use Rattle.gr_sched.specs.declared.step.TheConstants.{MAX_NUMBER, MAX_STEPS}
use Rattle.gr_sched.specs.declared.step.Step.{Step}
use Rattle.gr_sched.specs.declared.step.Step.TheVariants.{Clock, Publish, Wake, Deliver, Crash, Sweep, Show, Bytes}
use Rattle.gr_sched.specs.declared.step.Step.TheVariants.{Join}
use Rattle.gr_sched.specs.declared.step.Stop.{Stop}
use Rattle.gr_sched.specs.Naming.{Naming}

-- the number of a name
abbrev pub IsNamed : (List ℕ → Option ℕ) → ℕ → Type 0
IsNamed number_of number = (name : List ℕ) × (number_of name ≡ Some number)

-- at one of the disk calls 1 to 4, with an image from 0 to 255
abbrev pub IsStop : Stop → Type 0
IsStop stop = (1 ≤ stop.call) × (stop.call ≤ 4) × (stop.pick ≤ 255)

-- a step whose numbers are in their ranges, whose event is within the limits of events, and whose names are known
abbrev pub IsStep : Naming → Step → Type 0
IsStep names (Clock now) = now ≤ MAX_NUMBER
IsStep names (Publish publisher number stop event) =
    IsNamed names.publisher publisher × (1 ≤ number) × (number ≤ MAX_NUMBER) × IfSome stop IsStop × IsEvent event
IsStep names (Wake broker) = IsNamed names.broker broker
IsStep names (Deliver frame) = frame ≤ MAX_NUMBER
IsStep names (Crash broker) = IsNamed names.broker broker
IsStep names Sweep = Unit {0}
IsStep names Show = Unit {0}
IsStep names (Bytes frame) = frame ≤ MAX_NUMBER
IsStep names (Join subscriber publisher) = IsNamed names.joiner subscriber × IsNamed names.publisher publisher

-- a moment is not past the greatest, and a published event is within the limits of events
abbrev pub IsInLimits : Step → Type 0
IsInLimits (Clock now) = now ≤ MAX_NUMBER
IsInLimits (Publish publisher number stop event) = IsEvent event
IsInLimits _ = Unit {0}

-- where n lines are counted: there are too many only above the limit, and the fault of an event is never want of memory
abbrev pub IsFault : ℕ → StepFault → Type 0
IsFault n (TooMany line) = MAX_STEPS < n
IsFault n (BadEvent line event.Memory) = ⊥
IsFault n _ = Unit {0}

-- a value of which P holds, or a fault of reading a line
abbrev pub Holds : {A : Type 0} → (A → Type 0) → Result A StepFault → Type 0
Holds P (Ok x) = P x
Holds P (Err fault) = IsFault 0 fault
