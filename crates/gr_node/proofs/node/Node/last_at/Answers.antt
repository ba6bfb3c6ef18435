use Rattle.std.proofs.Common.{sym, ap, ◌∙◌}
use Rattle.gr_node.specs.Seen.{seen, broker_in}
use Rattle.gr_node.proofs.Exchanged.{hosts_here}
use Rattle.gr_node.proofs.ShownLines.{broker_found}
use Rattle.gr_node.proofs.Notes.{broker_read, last_here, last_nowhere}
use Rattle.gr_node.proofs.node.Node.last_at.Goals as goal

pub last_in-requires : goal.last_in-requires
last_in-requires c =
    let t = c.args.topo.now in
    let n = seen c.args.self.now in
    hosts_here t n c.host-host.result c.args.p c.in-Some.broker c.requires.fits
    (broker_found t n c.host-host.result c.index.result.now c.in-Some.broker c.requires.fits c.host-host.ensures.broker c.index.ensures c.in-Some.is)
    c.requires.publisher (sym c.host-host.ensures.host)

pub returns-in-Some-clause-last : goal.returns-in-Some-clause-last
returns-in-Some-clause-last c =
    let t = c.args.topo.now in
    let n = seen c.args.self.now in
    let found = broker_found t n c.host-host.result c.index.result.now c.in-Some.broker c.requires.fits c.host-host.ensures.broker c.index.ensures c.in-Some.is in
    c.last_in.ensures.last ∙ last_here t n c.args.p c.in-Some.broker (sym (ap (broker_in n) c.host-host.ensures.host) ∙ found)

pub returns-in-None-clause-last : goal.returns-in-None-clause-last
returns-in-None-clause-last c =
    let t = c.args.topo.now in
    let n = seen c.args.self.now in
    last_nowhere t n c.args.p (sym (ap (broker_in n) c.host-host.ensures.host)
    ∙ (broker_read t n c.host-host.result c.index.result.now c.requires.fits c.host-host.ensures.broker c.index.ensures ∙ c.in-None.is))
