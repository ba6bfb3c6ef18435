use Rattle.std.proofs.Common.{length, ap, arith}
use Rattle.gr_tick.proofs.StepLemmas.{read_alone}
use Rattle.gr_tick.proofs.piece.Piece.run.Goals as goal

pub returns-clause-alone : goal.returns-clause-alone
returns-clause-alone g c =
    read_alone g.V.Lattice.least c.self.inside.runs.items c.args.i c.get.result.now (omega (arith, ap length c.self.view_is)) c.get.ensures c.self.invariant
