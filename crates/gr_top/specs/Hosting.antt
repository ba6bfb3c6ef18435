-- The brokers of a topology that the words of `serve` name, or why they cannot serve
use Rattle.std.specs.Prelude.{Bool, not, ℕ, List, ◌++◌, length, filter, Option, Some, None, is_some, find, codes}
use Rattle.std.specs.List.{list_any}
use Rattle.gr_node.specs.Of.{AreHosted, AreAddressed}
use Rattle.gr_scenario.specs.Refusals.{shown, topology_line}
use Rattle.gr_topo.specs.Topology.{TopologyView, name_at, number_of, address_of, is_this}
use Rattle.gr_topo.specs.declared.fault.TopoFault.TheVariants.{BadAddress}
use Rattle.gr_tree.specs.Walks.{numbers}
use Rattle.gr_top.specs.declared.hosting.Hosting.{Hosting}
use Rattle.gr_top.specs.declared.hosting.Hosting.TheVariants.{Refused, Hosted}

-- What is refused

-- a word that is the name of no broker, and the line that says so
abbrev pub is_unknown : TopologyView → List ℕ → Bool
is_unknown t word = not (is_some (number_of t.brokers word))

abbrev pub unknown_line : List ℕ → List ℕ
unknown_line word = codes "serve no-broker" ++ shown word

-- a broker without an address, and the line that says so
abbrev pub is_unaddressed : TopologyView → ℕ → Bool
is_unaddressed t b = not (is_some (address_of t b))

abbrev pub unaddressed_line : TopologyView → ℕ → List ℕ
unaddressed_line t b = topology_line (BadAddress (name_at t.brokers b))

-- the line of a topology with a client, where journals are written or audited
abbrev pub clients_line : List ℕ
clients_line = codes "audit 2 clients"

-- What is named

-- a word is the name of this broker
abbrev pub names_broker : TopologyView → ℕ → List ℕ → Bool
names_broker t b word = is_this (number_of t.brokers word) b

-- the brokers that words name, in rising order and each once
abbrev pub is_named : TopologyView → List (List ℕ) → ℕ → Bool
is_named t words b = list_any (names_broker t b) words

abbrev pub named_brokers : TopologyView → List (List ℕ) → List ℕ
named_brokers t words = filter (is_named t words) (numbers (length t.brokers))

-- The first word that names no broker is told, then the first broker without an address; where there is neither, the
-- named brokers are to serve

abbrev pub hosting_by : TopologyView → List (List ℕ) → Option (List ℕ) → Option ℕ → Hosting
hosting_by t words (Some word) unaddressed = Refused (unknown_line word)
hosting_by t words None (Some b) = Refused (unaddressed_line t b)
hosting_by t words None None = Hosted (named_brokers t words)

abbrev pub hosting_of : TopologyView → List (List ℕ) → Hosting
hosting_of t words =
    hosting_by t words (find (is_unknown t) words) (find (is_unaddressed t) (numbers (length t.brokers)))

-- the brokers that are to serve are brokers of the topology, and every broker of it has an address
abbrev pub IsReady : TopologyView → Hosting → Type 0
IsReady t (Refused line) = Unit {0}
IsReady t (Hosted brokers) = AreHosted t brokers × AreAddressed t
