-- Whether each broker is in one process and in no other
use Rattle.std.specs.Prelude.{ℕ, if◌then◌else◌, List, [], ◌∷◌, ◌++◌, length, Option, Some, None}
use Rattle.std.specs.List.{list_all}
use Rattle.gr_tree.specs.Walks.{numbers}
use Rattle.gr_topo.specs.Topology.{TopologyView}
use Rattle.gr_journal.specs.declared.journal.Journal.{Journal}
use Rattle.gr_journal.specs.Lines.{is_among}

-- the brokers that are named so far, and these; None where one of these is named already, here or before
abbrev pub with_brokers : List ℕ → List ℕ → Option (List ℕ)
with_brokers named [] = Some named
with_brokers named (b ∷ brokers) = if is_among named b then None else with_brokers (named ++ b ∷ []) brokers

-- the first journal's line that names a broker twice; else line 0 where some broker is named by none
abbrev pub unhosted_from : TopologyView → List ℕ → List Journal → Option ℕ
unhosted_from t named [] = if list_all (is_among named) (numbers (length t.brokers)) then None else Some 0
unhosted_from t named (j ∷ js) =
    elim (with_brokers named j.brokers) [ None ↦ Some j.first | Some next ↦ unhosted_from t next js ]

-- the line that says that the processes are not those of a topology, each broker being in one and in no other
abbrev pub unhosted : TopologyView → List Journal → Option ℕ
unhosted t js = unhosted_from t [] js
