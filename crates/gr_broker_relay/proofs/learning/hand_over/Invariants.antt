use Rattle.std.proofs.Common.{◌≡◌, ◌++◌, drop}
use Rattle.std.specs.Prelude.{flat_map}
use Rattle.gr_subend.specs.Deliveries.{items}
use Rattle.gr_broker_relay.specs.Held.{shown_net}
use Rattle.gr_broker_relay.specs.Handed.{told_to}
use Rattle.gr_broker_relay.proofs.learning.hand_over.Given as goal

-- with the subscribers that are left all are told
abbrev pub invariant-here : goal.invariant-here
invariant-here l =
    l.reports ++ flat_map (told_to (shown_net l.site.topo.now l.held) l.site.publisher l.to (items l.deliveries)) (drop l.subscriber-index l.site.here.now)
    ≡ l.fn.reports ++ flat_map (told_to (shown_net l.site.topo.now l.held) l.site.publisher l.to (items l.deliveries)) l.site.here.now
