-- The subscribers of a topology that get one list over all publishers, and what stands behind the lines of each step
use Rattle.std.proofs.Common.{List, [], ◌∷◌, length, refl}
use Rattle.gr_topo.specs.Topology.{TopologyView, total_of, totals_of}
use Rattle.gr_model.specs.declared.report.Report.{Report}
use Rattle.gr_model.specs.NetOf.{net_of}
use Rattle.gr_model.specs.Orders.{Order, fed, without_ordered, ordered_steps, with_orders}
use Rattle.gr_model.proofs.NetOf.{among, distinct_from}
use Rattle.gr_model_theorems.specs.Statements.{AreTotals}
use Rattle.gr_top.specs.Behind.{AreBehind}

-- they are subscribers of its net, each once
pub are_totals : (t : TopologyView) → AreTotals (net_of t) (totals_of t)
are_totals t = record {
  apart = distinct_from (total_of t) 0 (length t.subscribers);
  there = λ s h. (among (total_of t) (length t.subscribers) s h).1;
}

-- what is ready stands behind the lines of each step
pub are_behind : (os : List Order) (rs : List (List Report)) → AreBehind (with_orders os rs) rs (ordered_steps os rs)
unfolding with_orders ordered_steps
are_behind os [] = tt
are_behind os (ls ∷ rs) = (refl, are_behind (without_ordered (fed os ls)) rs)
