use Rattle.std.proofs.Common.{map, option_map}
use Rattle.gr_filter.specs.Tree.{tree_of as filter_tree}
use Rattle.gr_topo.specs.Draft.{draft_lists}
use Rattle.gr_topo.specs.Parts.{resolved_lists}
use Rattle.gr_topo.proofs.Sound.{read_sound}
use Rattle.gr_topo.proofs.read.topology_of.Goals as goal

pub new-requires : goal.new-requires
new-requires c =
    let found = rw c.deref.ensures.value at c.in_ok-resolved.ensures.gives in
    let filters = rw (c.deref-2.ensures.value, c.deref-3.ensures.value) at c.in_ok-filters.ensures in
    let addresses = rw c.deref-4.ensures.value at c.in_ok-addresses.ensures in
    let clients = rw c.deref-5.ensures.value at c.in_ok-clients.ensures in
    read_sound c.args.brokers.items (draft_lists c.args.draft) (resolved_lists c.in_ok-resolved.resolved) c.in_ok-settings.settings (map (option_map filter_tree) c.in_ok-filters.filters.items) c.in_ok-addresses.addresses.items c.in_ok-clients.clients.items
    c.requires found c.in_ok-settings.ensures filters addresses clients
