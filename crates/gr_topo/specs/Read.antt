-- Reading a topology: one function of the bytes, with the first refusal
use Rattle.std.specs.Prelude.{ℕ, if◌then◌else◌, List, length, Option, Some, None, Result, Ok, Err}
use Rattle.std.specs.Prelude.{codes}
use Rattle.std.specs.Str.{is_utf8}
use Rattle.std.specs.List.{zip}
use Rattle.toml.specs.Data.{Members}
use Rattle.toml.specs.Parse.{parse_document}
use Rattle.gr_sched.specs.Text.{is_blank}
use Rattle.gr_tree.specs.declared.link.Link.{Link}
use Rattle.gr_topo.specs.declared.limits.TheConstants.{MAX_BROKERS, MAX_PUBLISHERS, MAX_SUBSCRIBERS, MAX_LATE}
use Rattle.gr_topo.specs.declared.fault.TopoFault.{TopoFault}
use Rattle.gr_topo.specs.declared.fault.TopoFault.TheVariants.{NotToml}
use Rattle.gr_topo.specs.Draft.{DraftLists}
use Rattle.gr_topo.specs.Gives.{◌>>=◌}
use Rattle.gr_topo.specs.Shape.{draft_in, required}
use Rattle.gr_topo.specs.Topology.{TopologyView, blank}
use Rattle.gr_topo.specs.Checks.{few, good_names, apart, numbers_in, links_in, tree_of, settings_of, filters_in}
use Rattle.gr_topo.specs.Checks.{addresses_of}

-- the three lists of names: not too many, nor too many late ones, each a name, none twice
unfoldable pub names_checked : List (List ℕ) → List (List ℕ) → List (List ℕ) → ℕ → Result (Unit {0}) TopoFault
names_checked brokers publishers subscribers late = do
  _ ← few MAX_BROKERS (codes "brokers") (length brokers)
  _ ← few MAX_PUBLISHERS (codes "publisher") (length publishers)
  _ ← few MAX_SUBSCRIBERS (codes "subscriber") (length subscribers)
  _ ← few MAX_LATE (codes "late") late
  _ ← good_names brokers
  _ ← good_names publishers
  _ ← good_names subscribers
  _ ← apart brokers
  _ ← apart publishers
  _ ← apart subscribers
  Ok tt

-- the links between brokers, and the brokers of publishers and of subscribers
pub record ResolvedLists : Type 0 where
  pub links : List Link
  pub hosts : List ℕ
  pub homes : List ℕ

-- the names of a draft, tested and looked up: the links are a tree
unfoldable pub resolved_in : List (List ℕ) → DraftLists → Result ResolvedLists TopoFault
resolved_in brokers d = do
  _ ← names_checked brokers d.publishers.names d.subscribers.names (length d.subscribers.late)
  links ← links_in brokers d.links
  hosts ← numbers_in brokers d.publishers.brokers
  homes ← numbers_in brokers d.subscribers.brokers
  _ ← numbers_in brokers d.addresses.names
  _ ← numbers_in d.publishers.names d.clients.names
  _ ← tree_of (length brokers) links
  Ok (record { links = links; hosts = hosts; homes = homes })

-- the topology of a draft: after its names its settings, its filters and its addresses are tested
unfoldable pub topology_of : List (List ℕ) → DraftLists → Result TopologyView TopoFault
topology_of brokers d = do
  found ← resolved_in brokers d
  settings ← settings_of d.settings
  filters ← filters_in (zip d.subscribers.names d.subscribers.filters)
  addresses ← addresses_of d.addresses brokers
  clients ← addresses_of d.clients d.publishers.names
  Ok (record {
    brokers = brokers;
    publishers = d.publishers.names;
    subscribers = d.subscribers.names;
    links = found.links;
    hosts = found.hosts;
    homes = found.homes;
    filters = filters;
    late = d.subscribers.late;
    totals = d.subscribers.totals;
    addresses = addresses;
    clients = clients;
    settings = settings;
  })

-- the topology of a draft that names its brokers, as it must
unfoldable pub draft_topology : DraftLists → Result TopologyView TopoFault
draft_topology d = required (codes "brokers") d.brokers >>= λ brokers. topology_of brokers d

-- the topology of a document's root table
unfoldable pub table_topology : Members → Result TopologyView TopoFault
table_topology root = draft_in root >>= draft_topology

abbrev pub document_topology : Option Members → Result TopologyView TopoFault
document_topology None = Err NotToml
document_topology (Some root) = table_topology root

-- the TOML document that bytes are
abbrev pub document : List ℕ → Option Members
document bytes = if is_utf8 bytes then parse_document bytes else None

-- the topology of a topology part; a blank one stands for the blank topology
unfoldable pub topology_text : List ℕ → Result TopologyView TopoFault
topology_text bytes = if is_blank bytes then Ok blank else document_topology (document bytes)
