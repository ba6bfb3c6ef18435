use Rattle.std.proofs.Common.{sym, subst}
use Rattle.std.proofs.lemmas.Bool.{iff_false}
use Rattle.toml.specs.View.{table_view}
use Rattle.gr_topo.specs.Gives.{Gives}
use Rattle.gr_topo.proofs.Documents.{is_document, no_document}
use Rattle.gr_topo.proofs.read.document_topology.Goals as goal

pub returns-in-Ok : goal.returns-in-Ok
returns-in-Ok c =
    let read = c.in-Ok.ensures.ok in
    subst (λ r. Gives (λ t. t) c.table_topology.result r) (sym (is_document c.args.bytes.now (table_view c.in-Ok.root) read.0 read.1)) c.table_topology.ensures

pub returns-else-is_memory : goal.returns-else-is_memory
returns-else-is_memory c = no_document c.args.bytes.now (c.in-Err.ensures.refused (iff_false c.is_memory.ensures c.if-is_memory.false))
