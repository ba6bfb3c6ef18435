use Rattle.std.proofs.Common.{arith}
use Rattle.gr_model.specs.NetOf.{net_of}
use Rattle.gr_node.proofs.Notes.{not_there, no_client_there, client_there}
use Rattle.gr_node.proofs.noting.takes_notes.Goals as goal

pub returns-then-p-publishers : goal.returns-then-p-publishers
returns-then-p-publishers c = not_there (net_of c.args.site.now.topo.now) c.args.b c.args.p (omega arith)

pub returns-in-Some : goal.returns-in-Some
returns-in-Some c = client_there c.args.site.now.topo.now c.args.b c.args.p c.host.result _ (omega arith) c.in-Some.ensures c.host.ensures.host

pub returns-in-None : goal.returns-in-None
returns-in-None c = no_client_there c.args.site.now.topo.now c.args.b c.args.p (omega arith) c.in-None.ensures
