use Rattle.std.proofs.Common.{Err, sym, ap, ◌∙◌}
use Rattle.gr_out.specs.declared.fault.RunFault.TheVariants as run
use Rattle.gr_report.proofs.Hosts.{host_is}
use Rattle.gr_node.proofs.Lasting.{starts_one}
use Rattle.gr_node.proofs.StartingFaults.{err_is, damaged_in, lines_named}
use Rattle.gr_node.proofs.beginning.start_one.Goals as goal

pub returns-in-Ok-clause-named : goal.returns-in-Ok-clause-named
returns-in-Ok-clause-named g c =
    lines_named c.args.site.now.topo.now c.args.b c.in-Ok.started.broker c.in-Ok.started.outcome.reports c.every_topology_is_a_tree.ensures.orderly c.in-Ok.ensures.starts.lines

pub returns-in-Err-clause-damaged : goal.returns-in-Err-clause-damaged
returns-in-Err-clause-damaged g c = λ tells p at e.
    c.in-Err.ensures.damaged tells p at (ap (λ x. Err x) (damaged_in c.in-Err.fault p at (sym c.run_fault.ensures ∙ err_is c.run_fault.result (run.Damaged p at) e)))

pub returns-in-Err-clause-damaged_here : goal.returns-in-Err-clause-damaged_here
returns-in-Err-clause-damaged_here g c = λ p at e.
    let here = c.in-Err.ensures.damaged_here p at (ap (λ x. Err x) (damaged_in c.in-Err.fault p at (sym c.run_fault.ensures ∙ err_is c.run_fault.result (run.Damaged p at) e))) in
    (here.0, host_is c.args.site.now.topo.now p c.args.b here.1)

pub returns-in-Ok-clause-kept : goal.returns-in-Ok-clause-kept
returns-in-Ok-clause-kept g c = λ tells.
    starts_one c.args.site.now.topo.now.late c.args.site.now.topo.now c.args.b (g.D.Disk.lane_of c.args.disk.now) (g.D.Disk.lane_of c.start.new.disk) (c.in-Ok.ensures.any_moment tells) (c.in-Ok.ensures.others tells)

pub returns-in-Err-clause-kept : goal.returns-in-Err-clause-kept
returns-in-Err-clause-kept g c = λ tells.
    starts_one c.args.site.now.topo.now.late c.args.site.now.topo.now c.args.b (g.D.Disk.lane_of c.args.disk.now) (g.D.Disk.lane_of c.start.new.disk) (c.in-Err.ensures.any_moment tells) (c.in-Err.ensures.others tells)
