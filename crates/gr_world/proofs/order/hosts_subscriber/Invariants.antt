use Rattle.std.proofs.Common.{◌≡◌, ◌-◌, length, nat_eq}
use Rattle.std.specs.List.{filter}
use Rattle.gr_tree.specs.Walks.{numbers_from}
use Rattle.gr_topo.specs.Topology.{home_of, subscribers_of}
use Rattle.gr_world.proofs.order.hosts_subscriber.Given as goal

-- those left that are at the broker are all of them
abbrev pub invariant-loop-s : goal.invariant-loop-s
invariant-loop-s l = filter (λ s. nat_eq (home_of l.topology s) l.b) (numbers_from l.s (length l.topology.subscribers - l.s)) ≡ subscribers_of l.topology l.b
