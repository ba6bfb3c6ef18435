use Rattle.std.proofs.Common.{refl, get_or}
use Rattle.gr_tree.specs.Walks.{IsRooted, HasOnlyPaths}
use Rattle.gr_topo.proofs.Rows.{row_more, host_more}
use Rattle.gr_topo.proofs.topology.rows_of.Goals as goal

pub loop-host-preserved : goal.loop-host-preserved
loop-host-preserved c =
    let host = get_or c.args.hosts.now c.loop-host.host-index 0 in
    let made = rw c.in-Some.is at c.in_ok-row.ensures.places in
    record {
      rows = rw c.in_ok-push-in-Some.ensures.items (row_more c.args.brokers c.args.links.now c.loop-host.rows.items c.in-Some.row c.args.hosts.now c.loop-host.host-index host c.loop-host.invariant.rows c.loop-host-test.true refl made);
      rooted = host_more (IsRooted c.args.brokers c.args.links.now) c.args.hosts.now c.loop-host.host-index host refl c.loop-host.invariant.rooted (rw c.in-Some.is at c.in_ok-row.ensures.rooted);
      paths = host_more (HasOnlyPaths c.args.brokers c.args.links.now) c.args.hosts.now c.loop-host.host-index host refl c.loop-host.invariant.paths (rw c.in-Some.is at c.in_ok-row.ensures.paths);
    }
