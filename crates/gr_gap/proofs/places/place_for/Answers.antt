-- With no block in use there is no value. Else the block is that of the value before, if it has a place.
use Rattle.std.proofs.Common.{subst, ◌≡◌, ◌+◌, ◌<◌, length, get_or, ap, ◌∙◌, arith}
use Rattle.std.proofs.lemmas.List.Edits.{length-insert, get_or-insert_at}
use Rattle.gr_gap.specs.Blocks.{IsBlockFor}
use Rattle.gr_gap.proofs.Rows.{fits, in_row, held_at, placed_for}
use Rattle.gr_gap.proofs.places.place_for.Goals as goal

pub returns-then-len-eq0-clause-place : goal.returns-then-len-eq0-clause-place
returns-then-len-eq0-clause-place g c =
    let ss = c.args.starts.now.items in let bs = c.args.blocks.now.items in let new = c.open.new.starts.items in
    let none : length ss ≡ 0 = omega (arith, c.len.ensures, c.if-len-eq0.true, c.args.starts.now.ok.0) in
    let all = fits 0 ss bs c.requires.row in
    let long : length new ≡ length ss + 1 = ap length c.open.ensures.starts ∙ length-insert ss 0 0 (omega arith) in
    let first : get_or new 0 0 ≡ 0 = ap (λ l. get_or l 0 0) c.open.ensures.starts ∙ get_or-insert_at ss 0 0 0 (omega arith) in
    record {
      within = omega (arith, long);
      begins = omega (arith, first);
      ends = omega (arith, c.requires.within, all, none);
      room = omega (arith, c.open.ensures.empty);
    }

pub index-requires : goal.index-requires
index-requires g c =
    let ss = c.args.starts.now.items in let q = c.args.blocks.now in
    let long : length c.as_slice.result.now ≡ length ss = ap length c.as_slice.ensures.value in
    omega (arith, in_row 0 ss q.items c.requires.row, c.block_for-block.ensures.within, long, q.ok.0)

pub returns-then-len-lt-BLOCK-clause-place : goal.returns-then-len-lt-BLOCK-clause-place
returns-then-len-lt-BLOCK-clause-place g c =
    let ss = c.args.starts.now.items in let q = c.args.blocks.now in let k = c.block_for-block.result in
    let b = c.index.result.now in
    let at : IsBlockFor ss k c.args.i = subst (λ l. IsBlockFor l k c.args.i) c.as_slice.ensures.value c.block_for-block.ensures in
    let near = placed_for k c.args.i ss q.items c.requires.row at c.requires.within in
    let inside : k < length q.items = omega (arith, in_row 0 ss q.items c.requires.row, at.within) in
    let was = held_at k q.items b inside c.index.ensures in
    record {
      within = at.within;
      begins = at.begins;
      ends = near.1;
      room = omega (arith, was, c.if-len-lt-BLOCK.true, c.len-2.ensures, b.ok.0);
    }

pub part-requires-clause-full : goal.part-requires-clause-full
part-requires-clause-full g c =
    let ss = c.args.starts.now.items in let q = c.args.blocks.now in let k = c.block_for-block.result in
    let b = c.index.result.now in
    let long : length c.as_slice.result.now ≡ length ss = ap length c.as_slice.ensures.value in
    let inside : k < length q.items = omega (arith, in_row 0 ss q.items c.requires.row, c.block_for-block.ensures.within, long) in
    omega (arith, held_at k q.items b inside c.index.ensures, c.if-len-lt-BLOCK.false, c.len-2.ensures, b.ok.0)

pub bring-requires-clause-all : goal.bring-requires-clause-all
bring-requires-clause-all g c =
    let starts = c.args.starts.now in let q = c.args.blocks.now in
    omega (arith, in_row 0 starts.items q.items c.requires.row, c.if-len.false, c.len-3.ensures, c.len-4.ensures, starts.ok.0, q.ok.0)

pub bring-requires-clause-full : goal.bring-requires-clause-full
bring-requires-clause-full g c =
    let ss = c.args.starts.now.items in let q = c.args.blocks.now in let k = c.block_for-block.result in
    let b = c.index.result.now in
    let long : length c.as_slice.result.now ≡ length ss = ap length c.as_slice.ensures.value in
    let inside : k < length q.items = omega (arith, in_row 0 ss q.items c.requires.row, c.block_for-block.ensures.within, long) in
    omega (arith, held_at k q.items b inside c.index.ensures, c.if-len-lt-BLOCK.false, c.len-2.ensures, b.ok.0)
