-- The lines that say why bytes are no scenario
use Rattle.std.specs.Prelude.{ℕ, if◌then◌else◌, List, [], ◌∷◌, ◌++◌, map, codes}
use Rattle.std.specs.Char.{is_ascii_graphic}
use Rattle.std.specs.Fmt.{decimal}
use Rattle.gr_event.specs.Fault.{fault_word as event_word}
use Rattle.gr_filter.specs.declared.fault.FilterFault.{FilterFault}
use Rattle.gr_filter.specs.Fault.{fault_word as filter_word, fault_place as filter_place}
use Rattle.gr_sched.specs.declared.fault.StepFault.{StepFault}
use Rattle.gr_sched.specs.declared.fault.StepFault.TheVariants as step
use Rattle.gr_topo.specs.declared.fault.TopoFault.{TopoFault}
use Rattle.gr_topo.specs.declared.fault.TopoFault.TheVariants as topology
use Rattle.gr_topo.specs.Fault.{fault_number as topology_number, fault_word as topology_word}

-- a byte of a key or name as it is printed: one that is no visible character of ASCII is `?`
abbrev pub shown_byte : ℕ → ℕ
shown_byte b = if is_ascii_graphic b then b else 63

-- a key or name as it is printed, with a blank before it
abbrev pub shown : List ℕ → List ℕ
shown name = 32 ∷ map shown_byte name

-- the word and the place of a filter's fault
abbrev pub filter_fault : FilterFault → List ℕ
filter_fault why = codes " " ++ (filter_word why ++ (codes " " ++ decimal (filter_place why)))

-- what follows the word of a topology's refusal: the key or name, and for a filter the word and the place of its fault
abbrev pub refused_thing : TopoFault → List ℕ
refused_thing topology.Memory = []
refused_thing topology.NotToml = []
refused_thing (topology.BadKey key) = shown key
refused_thing (topology.BadType key) = shown key
refused_thing (topology.Twice name) = shown name
refused_thing (topology.Unknown name) = shown name
refused_thing topology.NotTree = []
refused_thing (topology.BadFilter name why) = shown name ++ filter_fault why
refused_thing (topology.TooMany key) = shown key
refused_thing (topology.BadAddress name) = shown name
refused_thing (topology.Missing key) = shown key
refused_thing (topology.BadName name) = shown name
refused_thing (topology.BadRange key) = shown key

-- the line of a topology's refusal
abbrev pub topology_line : TopoFault → List ℕ
topology_line why =
    codes "topology " ++ (decimal (topology_number why) ++ (codes " " ++ (topology_word why ++ refused_thing why)))

-- the line of a step's fault. That there are too many steps is said before any other
abbrev pub step_line : StepFault → List ℕ
step_line step.Memory = []
step_line (step.BadWord line) = codes "step 1 bad-word line " ++ decimal line
step_line (step.BadNumber line) = codes "step 2 bad-number line " ++ decimal line
step_line (step.BadEvent line why) = codes "step 3 bad-event line " ++ (decimal line ++ (codes " " ++ event_word why))
step_line (step.TooMany line) = []
