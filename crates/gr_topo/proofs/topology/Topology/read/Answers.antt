-- What a document is refused for is no filter's want of memory
use Rattle.gr_topo.specs.Read.{document}
use Rattle.gr_topo.proofs.Refusals.{document_refused}
use Rattle.gr_topo.proofs.topology.Topology.read.Goals as goal

pub returns-clause-cause : goal.returns-clause-cause
returns-clause-cause c = document_refused (λ t. t) c.document_topology.result (document c.args.bytes.now) c.document_topology.ensures
