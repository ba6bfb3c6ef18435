-- The number and the word of each refusal of a topology, and what no refusal is
use Rattle.std.specs.Prelude.{ℕ, List, codes}
use Rattle.gr_filter.specs.declared.fault.FilterFault.TheVariants as filter
use Rattle.gr_topo.specs.declared.fault.TopoFault.{TopoFault}
use Rattle.gr_topo.specs.declared.fault.TopoFault.TheVariants as fault

-- want of memory has the number 0, and the refusals of what is read those from 1 to 12
abbrev pub fault_number : TopoFault → ℕ
fault_number fault.Memory = 0
fault_number fault.NotToml = 1
fault_number (fault.BadKey key) = 2
fault_number (fault.BadType key) = 3
fault_number (fault.Twice name) = 4
fault_number (fault.Unknown name) = 5
fault_number fault.NotTree = 6
fault_number (fault.BadFilter name filter) = 7
fault_number (fault.TooMany key) = 8
fault_number (fault.BadAddress name) = 9
fault_number (fault.Missing key) = 10
fault_number (fault.BadName name) = 11
fault_number (fault.BadRange key) = 12

-- the word that a report prints, without the key or name
abbrev pub fault_word : TopoFault → List ℕ
fault_word fault.Memory = codes "memory"
fault_word fault.NotToml = codes "not-toml"
fault_word (fault.BadKey key) = codes "bad-key"
fault_word (fault.BadType key) = codes "bad-type"
fault_word (fault.Twice name) = codes "twice"
fault_word (fault.Unknown name) = codes "unknown"
fault_word fault.NotTree = codes "not-tree"
fault_word (fault.BadFilter name filter) = codes "bad-filter"
fault_word (fault.TooMany key) = codes "too-many"
fault_word (fault.BadAddress name) = codes "bad-address"
fault_word (fault.Missing key) = codes "missing"
fault_word (fault.BadName name) = codes "bad-name"
fault_word (fault.BadRange key) = codes "bad-range"

-- the fault of a filter is never want of memory: that is the fault of the whole
abbrev pub IsRefusal : TopoFault → Type 0
IsRefusal (fault.BadFilter name filter.Memory) = ⊥
IsRefusal _ = Unit {0}
