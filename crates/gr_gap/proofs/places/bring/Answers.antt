-- Where no block behind has a place, one before has. A place that was brought back is that of the last value; one that was
-- brought on is that of the first.
use Rattle.std.proofs.Common.{◌≡◌, ◌+◌, ◌<◌, length, get_or, arith}
use Rattle.gr_gap.proofs.Rows.{held_most, next_start, placed_for}
use Rattle.gr_gap.proofs.Changes.{read_is}
use Rattle.gr_gap.proofs.places.bring.Goals as goal

pub returns-then-behind-len-clause-place : goal.returns-then-behind-len-clause-place
returns-then-behind-len-clause-place g c =
    let ss = c.args.starts.now.items in let bs = c.args.blocks.now.items in let k = c.args.block in
    let at = c.requires.block in let up = c.bring_on.ensures in
    let near = placed_for k c.args.i ss bs c.requires.row at c.requires.within in
    let most = held_most k 0 ss bs c.requires.row in
    let some : 0 < k = omega (arith, c.place_before-before.ensures.within) in
    record {
      within = omega (arith, at.within, up.starts);
      begins = omega (arith, up.begins, at.behind some);
      ends = omega (arith, up.begins, up.one, near.1, most);
      room = omega (arith, up.one);
    }

pub returns-then-i-index-eq-BLOCK-clause-place : goal.returns-then-i-index-eq-BLOCK-clause-place
returns-then-i-index-eq-BLOCK-clause-place g c =
    let ss = c.args.starts.now.items in let bs = c.args.blocks.now.items in let k = c.args.block in
    let at = c.requires.block in let r = c.index.result.now in let up = c.bring_back.ensures in
    let within : k + 1 < length ss =
    omega (arith, c.place_behind-behind.ensures.within, c.place_behind-behind.ensures.end, c.if-behind-len.false, c.len.ensures, c.args.blocks.now.ok.0, c.requires.all) in
    let read : r ≡ get_or ss k 0 = read_is k ss r at.within c.index.ensures in
    let most = held_most k 0 ss bs c.requires.row in
    let next = next_start k ss bs c.requires.row within in
    record {
      within = omega (arith, within, up.starts);
      begins = omega (arith, up.begins, next, read, most, c.if-i-index-eq-BLOCK.true);
      ends = omega (arith, up.begins, next, read, c.requires.full, c.if-i-index-eq-BLOCK.true);
      room = up.place;
    }

pub returns-clause-place : goal.returns-clause-place
returns-clause-place g c =
    let ss = c.args.starts.now.items in let bs = c.args.blocks.now.items in let k = c.args.block in
    let at = c.requires.block in let r = c.index.result.now in let up = c.bring_back-2.ensures in
    let near = placed_for k c.args.i ss bs c.requires.row at c.requires.within in
    let read : r ≡ get_or ss k 0 = read_is k ss r at.within c.index.ensures in
    let most = held_most k 0 ss bs c.requires.row in
    let one = up.one (omega (arith, c.place_behind-behind.ensures.within)) in
    record {
      within = omega (arith, at.within, up.starts);
      begins = omega (arith, up.begins, at.begins);
      ends = omega (arith, up.begins, near.1, most, read, one, c.if-i-index-eq-BLOCK.false);
      room = up.place;
    }
