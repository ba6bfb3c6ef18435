use Rattle.std.proofs.lemmas.Bool.Decides.{Decides-eqb}
use Rattle.std.proofs.lemmas.Slice.Eq.{slice_eq-Decides}
use Rattle.std.proofs.Common.{sym, ◌∙◌, arith}
use Rattle.gr_broker_relay.proofs.Placing.{edge_there}
use Rattle.gr_broker_relay.proofs.place.EdgeTable.edge_for.Goals as goal

pub returns-then-eq-clause-edge : goal.returns-then-eq-clause-edge
returns-then-eq-clause-edge c =
    let same = (slice_eq-Decides Decides-eqb _ _ _ c.eq.ensures).0 c.if-eq.true in
    edge_there c.args.topo.now c.args.self.now.edges.items c.args.self.now.behind.items c.entries.i c.index.result.now c.args.behind c.requires.edges (omega (arith, c.entries-test.true, c.len-i-end.ensures)) c.index.ensures
    (sym c.as_slice.ensures ∙ same ∙ c.as_slice-in-entries.ensures)
