use Rattle.std.proofs.Common.{◌≡◌, ◌++◌, map, drop}
use Rattle.std.specs.Prelude.{filter}
use Rattle.gr_subend.specs.Deliveries.{items}
use Rattle.gr_topo.specs.Topology.{wants}
use Rattle.gr_model.specs.Broker.{got_line}
use Rattle.gr_broker_relay.proofs.learning.hand_in_time.Given as goal

-- with the events that are left all are told
abbrev pub invariant-deliveries : goal.invariant-deliveries
invariant-deliveries l =
    l.reports ++ map (got_line l.subscriber l.site.publisher) (filter (λ x. wants l.site.topo.now l.subscriber x.1) (items (drop l.delivery-index l.deliveries)))
    ≡ l.fn.reports ++ map (got_line l.subscriber l.site.publisher) (filter (λ x. wants l.site.topo.now l.subscriber x.1) (items l.deliveries))
