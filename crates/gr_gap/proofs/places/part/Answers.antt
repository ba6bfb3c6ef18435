-- The new block starts behind the full one, or behind the values that the full one keeps.
use Rattle.std.proofs.Common.{◌≡◌, ◌+◌, ◌<◌, length, get_or, arith}
use Rattle.gr_gap.proofs.Rows.{held_most, before_step, next_start, placed_for}
use Rattle.gr_gap.proofs.Changes.{read_is}
use Rattle.gr_gap.proofs.places.part.Goals as goal

pub open-requires-then-place-eq-BLOCK-clause-start : goal.open-requires-then-place-eq-BLOCK-clause-start
open-requires-then-place-eq-BLOCK-clause-start g c =
    let ss = c.args.starts.now.items in let bs = c.args.blocks.now.items in let k = c.args.block in
    let r = c.index.result.now in
    let near = placed_for k c.args.i ss bs c.requires.row c.requires.block c.requires.within in
    let read : r ≡ get_or ss k 0 = read_is k ss r c.requires.block.within c.index.ensures in
    let most = held_most k 0 ss bs c.requires.row in
    omega (arith, near.0, read, most, c.requires.full, before_step k bs, c.if-place-eq-BLOCK.true)

pub returns-else-place-kept-clause-place : goal.returns-else-place-kept-clause-place
returns-else-place-kept-clause-place g c =
    let ss = c.args.starts.now.items in let bs = c.args.blocks.now.items in let k = c.args.block in
    let r = c.index.result.now in let up = c.split.ensures in
    let near = placed_for k c.args.i ss bs c.requires.row c.requires.block c.requires.within in
    let read : r ≡ get_or ss k 0 = read_is k ss r c.requires.block.within c.index.ensures in
    let most = held_most k 0 ss bs c.requires.row in
    let within : k + 1 < length c.split.new.starts.items = omega (arith, up.starts, c.requires.block.within) in
    let next = next_start k c.split.new.starts.items c.split.new.blocks.items up.row.row within in
    record {
      within = within;
      begins = omega (arith, next, up.begins, up.kept, read, c.if-place-kept.false);
      ends = omega (arith, next, up.begins, up.kept, up.rest, near.1, most);
      room = omega (arith, up.rest, c.max.ensures, c.min-kept.ensures);
    }
