use Rattle.std.proofs.Common.{◌≡◌, drop}
use Rattle.gr_topo.specs.Gives.{walk}
use Rattle.gr_topo.specs.Draft.{EntryLists, no_entries}
use Rattle.gr_topo.specs.Shape.{one_entry}
use Rattle.gr_topo.specs.Seen.{seen_items}
use Rattle.gr_topo.proofs.shape.entries_of.Given as goal

abbrev pub invariant-loop-value : goal.invariant-loop-value
invariant-loop-value l =
    let found : EntryLists = record { names = l.names.items; brokers = l.brokers.items; filters = l.texts.items; late = l.late.items; totals = l.totals.items } in
    walk (one_entry l.key l.filters) found (seen_items (drop l.value-index l.values)) ≡ walk (one_entry l.key l.filters) no_entries (seen_items l.values)
