use Rattle.std.proofs.Common.{sym}
use Rattle.gr_top.specs.Words.{texts_of}
use Rattle.gr_top.proofs.HostingLemmas.{ready}
use Rattle.gr_top.proofs.hosting.hosted_in.Goals as goal

pub returns-clause-ready : goal.returns-clause-ready
returns-clause-ready c =
    ready c.args.topo.now (texts_of c.args.words.now) c.in_ok-named_in.field-0 c.in_ok-named_in.ensures (sym c.in_default-unaddressed_in.ensures.first)
