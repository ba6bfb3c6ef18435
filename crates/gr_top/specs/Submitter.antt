-- The publisher of a topology that the word of `publish` names, or why its client cannot submit
use Rattle.std.specs.Prelude.{ℕ, ◌<◌, if◌then◌else◌, List, ◌++◌, length, Option, Some, None, is_some, IsSome, find}
use Rattle.std.specs.Prelude.{codes}
use Rattle.gr_scenario.specs.Refusals.{shown}
use Rattle.gr_topo.specs.Topology.{TopologyView, number_of, host_of, address_of, client_of}
use Rattle.gr_tree.specs.Walks.{numbers}
use Rattle.gr_top.specs.declared.submitter.Submitter.{Submitter}
use Rattle.gr_top.specs.declared.submitter.Submitter.TheVariants.{Refused, Client}
use Rattle.gr_top.specs.Hosting.{is_unaddressed, unaddressed_line}

-- the publisher of this number, where it has a client
abbrev pub with_client : TopologyView → Option ℕ → Option ℕ
with_client t None = None
with_client t (Some p) = if is_some (client_of t p) then Some p else None

-- the publisher of a name, where there is one and it has a client
abbrev pub client_named : TopologyView → List ℕ → Option ℕ
client_named t word = with_client t (number_of t.publishers word)

-- the line of a word that names none
abbrev pub no_client_line : List ℕ → List ℕ
no_client_line word = codes "publish no-client" ++ shown word

-- That the word names none is told, and then the first broker without an address; where there is neither, the client of
-- the publisher is to submit

abbrev pub submitter_by : TopologyView → List ℕ → Option ℕ → Option ℕ → Submitter
submitter_by t word None unaddressed = Refused (no_client_line word)
submitter_by t word (Some p) (Some b) = Refused (unaddressed_line t b)
submitter_by t word (Some p) None = Client p

abbrev pub submitter_of : TopologyView → List ℕ → Submitter
submitter_of t word =
    submitter_by t word (client_named t word) (find (is_unaddressed t) (numbers (length t.brokers)))

-- a publisher of the topology that has a client; and its host has an address
pub record HasClient (t : TopologyView) (p : ℕ) : Type 0 where
  pub publisher : p < length t.publishers
  pub client : IsSome (client_of t p)
  pub addressed : IsSome (address_of t (host_of t p))

abbrev pub IsAble : TopologyView → Submitter → Type 0
IsAble t (Refused line) = Unit {0}
IsAble t (Client p) = HasClient t p
