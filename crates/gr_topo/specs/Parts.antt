-- A topology as the code holds it
use Rattle.std.specs.Prelude.{map}
use Rattle.std.specs.Option.{option_map}
use Rattle.gr_filter.specs.Tree.{tree_of as filter_tree}
use Rattle.gr_topo.specs.declared.parts.Parts.{Parts}
use Rattle.gr_topo.specs.declared.parts.Resolved.{Resolved}
use Rattle.gr_topo.specs.Read.{ResolvedLists}
use Rattle.gr_topo.specs.Topology.{TopologyView}

abbrev pub view_of : Parts → TopologyView
view_of t = record {
  brokers = t.brokers.items;
  publishers = t.publishers.items;
  subscribers = t.subscribers.items;
  links = t.links.items;
  hosts = t.hosts.items;
  homes = t.homes.items;
  filters = map (option_map filter_tree) t.filters.items;
  late = t.late.items;
  totals = t.totals.items;
  addresses = t.addresses.items;
  clients = t.clients.items;
  settings = t.settings;
}

abbrev pub resolved_lists : Resolved → ResolvedLists
resolved_lists r = record { links = r.links.items; hosts = r.hosts.items; homes = r.homes.items }
