use Rattle.std.proofs.Common.{◌≡◌, ◌++◌, ◌&&◌, drop}
use Rattle.std.specs.Prelude.{nat_lt}
use Rattle.gr_subend.specs.Deliveries.{items}
use Rattle.gr_topo.specs.Topology.{wants}
use Rattle.gr_broker_relay.specs.Handed.{got_lines}
use Rattle.gr_broker_relay.proofs.learning.hand_late.Given as goal

-- with the events that are left all past the join are told
abbrev pub invariant-deliveries : goal.invariant-deliveries
invariant-deliveries l =
    l.reports ++ got_lines (λ x. nat_lt l.join x.0 && wants l.site.topo.now l.subscriber x.1) l.site.publisher (items (drop l.delivery-index l.deliveries)) l.subscriber
    ≡ l.fn.reports ++ got_lines (λ x. nat_lt l.join x.0 && wants l.site.topo.now l.subscriber x.1) l.site.publisher (items l.deliveries) l.subscriber
