use Rattle.std.proofs.Common.{arith, length}
use Rattle.gr_model.specs.Net.{numbers}
use Rattle.gr_model.specs.NetOf.{net_of}
use Rattle.gr_model_theorems.specs.Forgets.{kept_logs}
use Rattle.gr_node.specs.Plan.{ours}
use Rattle.gr_node.proofs.Planned.{plan_lines, plan_world}
use Rattle.gr_node.proofs.Honest.{late_in, is_served}
use Rattle.gr_node.proofs.Obeying.{served_kept, obeys_alone}
use Rattle.gr_node.proofs.law.an_honest_journal_meets_the_headline.Goals as goal

pub returns-clause-headline : goal.returns-clause-headline
returns-clause-headline c = λ steps run steps_of opened bytes honest.
    let t = c.args.topo.now in
    let tree = c.every_topology_is_a_tree.ensures in
    let fit = c.steps_fit_the_theorems.ensures t steps steps_of in
    let limits = c.brokers.ensures.topology.sound.limits in
    let late = late_in t c.brokers.ensures.topology.sound in
    let found = c.forgets_the_same.ensures.found (net_of t) run.logs late.few opened in
    c.headline_over_lanes.ensures.served (net_of t) run.logs steps (ours (numbers (length t.brokers)) run.came)
    (is_served t steps run (record { tree = tree.tree; quiet = tree.orderly.quiet; retry = tree.orderly.retry; steps_in = fit.0 }) fit.1 (omega (arith, limits.brokers)) (omega (arith, limits.publishers)) late found bytes honest)

pub returns-clause-calls : goal.returns-clause-calls
returns-clause-calls c = λ steps run steps_of opened bytes honest.
    let t = c.args.topo.now in
    let tree = c.every_topology_is_a_tree.ensures in
    let fit = c.steps_fit_the_theorems.ensures t steps steps_of in
    let limits = c.brokers.ensures.topology.sound.limits in
    let came = ours (numbers (length t.brokers)) run.came in
    let late = late_in t c.brokers.ensures.topology.sound in
    let found = c.forgets_the_same.ensures.found (net_of t) run.logs late.few opened in
    let same = c.forgets_the_same.ensures.opened (net_of t) (numbers (length t.brokers)) run.logs in
    let s = is_served t steps run (record { tree = tree.tree; quiet = tree.orderly.quiet; retry = tree.orderly.retry; steps_in = fit.0 }) fit.1 (omega (arith, limits.brokers)) (omega (arith, limits.publishers)) late found bytes honest in
    c.headline_served.ensures.calls (net_of t) (kept_logs run.logs) steps came (served_kept (net_of t) run.logs steps came s (same.served_same steps came))

pub returns-clause-by_rules : goal.returns-clause-by_rules
returns-clause-by_rules c = λ steps run steps_of opened bytes honest.
    let t = c.args.topo.now in
    let tree = c.every_topology_is_a_tree.ensures in
    let fit = c.steps_fit_the_theorems.ensures t steps steps_of in
    let limits = c.brokers.ensures.topology.sound.limits in
    let came = ours (numbers (length t.brokers)) run.came in
    let late = late_in t c.brokers.ensures.topology.sound in
    let found = c.forgets_the_same.ensures.found (net_of t) run.logs late.few opened in
    let same = c.forgets_the_same.ensures.opened (net_of t) (numbers (length t.brokers)) run.logs in
    let s = is_served t steps run (record { tree = tree.tree; quiet = tree.orderly.quiet; retry = tree.orderly.retry; steps_in = fit.0 }) fit.1 (omega (arith, limits.brokers)) (omega (arith, limits.publishers)) late found bytes honest in
    let r = served_kept (net_of t) run.logs steps came s (same.served_same steps came) in
    obeys_alone (net_of t) run.logs steps came r (c.headline_served.ensures.calls (net_of t) (kept_logs run.logs) steps came r) (same.served_same steps came)

pub returns-clause-ordered : goal.returns-clause-ordered
returns-clause-ordered c = λ steps run totals steps_of opened bytes honest are.
    let t = c.args.topo.now in
    let tree = c.every_topology_is_a_tree.ensures in
    let fit = c.steps_fit_the_theorems.ensures t steps steps_of in
    let limits = c.brokers.ensures.topology.sound.limits in
    let came = ours (numbers (length t.brokers)) run.came in
    let late = late_in t c.brokers.ensures.topology.sound in
    let found = c.forgets_the_same.ensures.found (net_of t) run.logs late.few opened in
    let s = is_served t steps run (record { tree = tree.tree; quiet = tree.orderly.quiet; retry = tree.orderly.retry; steps_in = fit.0 }) fit.1 (omega (arith, limits.brokers)) (omega (arith, limits.publishers)) late found bytes honest in
    (c.ordered_over_lanes.ensures.served (net_of t) totals run.logs steps came s are, c.one_order_over_lanes.ensures.served (net_of t) totals run.logs steps came s are)

pub returns-clause-whole : goal.returns-clause-whole
returns-clause-whole c = λ hosted steps came closed logs.
    let t = c.args.topo.now in
    (plan_lines t hosted steps came closed logs, plan_world t hosted steps came closed logs)
