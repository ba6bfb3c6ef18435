use Rattle.std.proofs.Common.{length, drop, ◌≡◌, ◌-◌}
use Rattle.std.specs.List.{list_all}
use Rattle.gr_model.specs.Net.{is_late}
use Rattle.gr_model.specs.NetOf.{net_of}
use Rattle.gr_broker.proofs.receiving.are_late.Given as goal

abbrev pub invariant-joins : goal.invariant-joins
invariant-joins l = list_all (λ j. is_late (net_of l.topo) j.subscriber) (drop l.at l.joins) ≡ list_all (λ j. is_late (net_of l.topo) j.subscriber) l.joins

abbrev pub decreases-joins : goal.decreases-joins
decreases-joins l = length l.joins - l.at
