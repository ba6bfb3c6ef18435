-- Lines that can be written, and why they could not be put
use Rattle.std.specs.Prelude.{List}
use Rattle.std.specs.List.{AllByRecursion}
use Rattle.gr_out.specs.declared.fault.RunFault.{RunFault}
use Rattle.gr_out.specs.declared.fault.RunFault.TheVariants as run
use Rattle.gr_topo.specs.Topology.{TopologyView}
use Rattle.gr_model.specs.declared.report.Report.{Report}
use Rattle.gr_model.specs.Text.{IsNamed}

-- each number for which a line has a name or a word is in range
abbrev pub AllNamed : TopologyView → List Report → Type 0
AllNamed t lines = AllByRecursion (IsNamed t) lines

-- why lines could not be put
abbrev pub IsPutFault : RunFault → Type 0
IsPutFault run.Memory = Unit {0}
IsPutFault run.Write = Unit {0}
IsPutFault _ = ⊥
