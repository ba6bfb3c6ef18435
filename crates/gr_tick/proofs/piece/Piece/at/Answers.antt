use Rattle.std.proofs.Common.{sym, ◌∙◌, arith}
use Rattle.gr_tick.proofs.RunsLemmas.{value_at_past}
use Rattle.gr_tick.proofs.piece.Piece.at.Goals as goal

pub returns-then-tick-gt-MAX_TICK : goal.returns-then-tick-gt-MAX_TICK
returns-then-tick-gt-MAX_TICK g c =
    c.bottom.ensures ∙ sym (value_at_past g.V.Lattice.least c.args.self.now _ c.args.tick c.len.ensures.in_range (omega (arith, c.if-tick-gt-MAX_TICK.true)))
