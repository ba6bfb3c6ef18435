use Rattle.std.proofs.Common.{sym}
use Rattle.gr_node.specs.Seen.{seen}
use Rattle.gr_node.proofs.Exchanged.{hosts_here}
use Rattle.gr_node.proofs.ShownLines.{broker_found}
use Rattle.gr_node.proofs.showing.tell_log.Goals as goal

pub log_line-requires : goal.log_line-requires
log_line-requires c =
    let t = c.args.site.now.topo.now in
    let n = seen c.args.node.now in
    hosts_here t n c.host-host.result c.args.p c.in-Some.broker c.requires.set.fits
    (broker_found t n c.host-host.result c.index.result.now c.in-Some.broker c.requires.set.fits c.host-host.ensures.broker c.index.ensures c.in-Some.is)
    c.requires.publisher (sym c.host-host.ensures.host)
