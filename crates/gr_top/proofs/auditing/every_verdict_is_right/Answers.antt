use Rattle.std.proofs.Common.{arith}
use Rattle.gr_model.specs.NetOf.{net_of}
use Rattle.gr_model_theorems.specs.Statements.{IsAskedRun}
use Rattle.gr_journal.specs.Parts.{journal_part}
use Rattle.gr_node.proofs.Honest.{late_in}
use Rattle.gr_top.proofs.AuditLemmas.{is_right}
use Rattle.gr_top.proofs.auditing.every_verdict_is_right.Goals as goal

pub returns : goal.returns
returns c = λ bytes verdict said.
    let t = c.args.topo.now in
    let lines = c.args.steps.now in
    let tree = c.every_topology_is_a_tree.ensures in
    let fit = c.steps_fit_the_theorems.ensures t lines c.requires in
    let sound = c.brokers.ensures.topology.sound in
    let asked : IsAskedRun (net_of t) lines = record { tree = tree.tree; quiet = tree.orderly.quiet; retry = tree.orderly.retry; steps_in = fit.0 } in
    is_right t lines bytes verdict
    (c.a_yes_is_one_honest_run.ensures t lines (journal_part bytes) asked (omega (arith, sound.limits.brokers)) (omega (arith, sound.limits.publishers)) (late_in t sound) fit.1)
    c.stuck_is_exact.ensures.stays said
