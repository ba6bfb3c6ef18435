use Rattle.gr_topo.specs.Topology.{totals_of}
use Rattle.gr_model.specs.NetOf.{net_of}
use Rattle.gr_model.specs.Orders.{orders_of, ordered_steps}
use Rattle.gr_model.specs.World.{report_of}
use Rattle.gr_model_theorems.specs.Statements.{IsAskedRun, IsMarkedRun, world_after}
use Rattle.gr_report.proofs.Steps.{steps_in}
use Rattle.gr_top.proofs.OrderLemmas.{are_totals, are_behind}
use Rattle.gr_top.proofs.JoinLemmas.{late_get, one_order_by}
use Rattle.gr_top.proofs.SweptLemmas.{sweeps_settle}
use Rattle.gr_top.proofs.headline.every_report_meets_the_headline.Goals as goal

pub returns : goal.returns
returns c =
    let t = c.args.topology.now in
    let lines = c.args.steps.now in
    let tree = c.every_topology_is_a_tree.ensures in
    let steps = steps_in t lines c.requires in
    let asked : IsAskedRun (net_of t) lines = record { tree = tree.tree; quiet = tree.orderly.quiet; retry = tree.orderly.retry; steps_in = steps } in
    let marked : IsMarkedRun (net_of t) lines = record { tree = tree.tree; quiet = tree.orderly.quiet; steps_in = steps } in
    record {
      headline = c.headline_always.ensures (net_of t) lines asked;
      by_rules = record { left = world_after (net_of t) lines; schedule = c.runs_by_rules.ensures.allowed (net_of t) lines marked };
      alone = λ rs r. (c.runs_by_rules.ensures.alone (net_of t) lines rs r.left marked r.schedule).0;
      replied = c.replies_stand.ensures (net_of t) lines marked;
      late = late_get (net_of t) lines marked (c.late_gets_past_its_join.ensures (net_of t));
      settled = sweeps_settle (net_of t) lines asked (c.sweep_settles.ensures.settles (net_of t)) (c.sweep_settles.ensures.same (net_of t)) (c.sweep_hands_over.ensures (net_of t));
      behind = are_behind (orders_of t) (report_of (net_of t) lines);
      ordered = c.ordered_always.ensures (net_of t) (totals_of t) lines asked (are_totals t);
      one_order = one_order_by (net_of t) (totals_of t) lines (ordered_steps (orders_of t) (report_of (net_of t) lines)) marked (c.one_order_always.ensures (net_of t) (totals_of t) lines asked (are_totals t));
    }
