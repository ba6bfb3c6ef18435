use Rattle.gr_node.specs.Seen.{seen}
use Rattle.gr_node.proofs.ShownLines.{broker_found}
use Rattle.gr_node.proofs.showing.tell_broker.Goals as goal

pub tell_horizons-requires-clause-fits : goal.tell_horizons-requires-clause-fits
tell_horizons-requires-clause-fits c =
    c.requires.fits.fits c.args.b c.in-Some.broker (broker_found c.args.site.now.topo.now (seen c.args.node.now) c.args.b c.index.result.now c.in-Some.broker c.requires.fits c.requires.number c.index.ensures c.in-Some.is)
