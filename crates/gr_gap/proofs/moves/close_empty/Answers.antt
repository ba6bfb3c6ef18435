-- The block is there, and has no value where its length is 0.
use Rattle.std.proofs.Common.{◌<◌, length, arith}
use Rattle.gr_gap.proofs.Rows.{held_at, in_row}
use Rattle.gr_gap.proofs.moves.close_empty.Goals as goal

pub index-requires : goal.index-requires
index-requires g c =
    let q = c.args.blocks.now in
    omega (arith, in_row 0 c.args.starts.now.items q.items c.requires.row, c.requires.within, q.ok.0)

pub close-requires-clause-empty : goal.close-requires-clause-empty
close-requires-clause-empty g c =
    let q = c.args.blocks.now in let b = c.index.result.now in
    let inside : c.args.block < length q.items =
    omega (arith, in_row 0 c.args.starts.now.items q.items c.requires.row, c.requires.within) in
    omega (arith, held_at c.args.block q.items b inside c.index.ensures, c.len.ensures, b.ok.0, c.if-len-eq0.true)
