-- The new block starts behind the full one, and is empty at first.
use Rattle.std.proofs.Common.{◌≡◌, ◌+◌, ◌≤◌, length, get_or, ap, ◌∙◌, arith}
use Rattle.std.proofs.lemmas.List.Edits.{length-insert, get_or-insert_below}
use Rattle.gr_gap.proofs.Rows.{start_low, start_is, before_step, held_most}
use Rattle.gr_gap.proofs.Changes.{read_is}
use Rattle.gr_gap.proofs.places.split.Goals as goal

pub overflow_add-end : goal.overflow_add-end
overflow_add-end g c =
    let ss = c.args.starts.now.items in let bs = c.args.blocks.now.items in let k = c.args.block in let r = c.index.result.now in
    let read : r ≡ get_or ss k 0 = read_is k ss r c.requires.within c.index.ensures in
    omega (arith, read, start_low k 0 ss bs c.requires.row, c.requires.fits)

pub open-requires-clause-start : goal.open-requires-clause-start
open-requires-clause-start g c =
    let ss = c.args.starts.now.items in let bs = c.args.blocks.now.items in let k = c.args.block in let r = c.index.result.now in
    let read : r ≡ get_or ss k 0 = read_is k ss r c.requires.within c.index.ensures in
    omega (arith, read, start_is k 0 ss bs c.requires.row c.requires.within, before_step k bs, held_most k 0 ss bs c.requires.row, c.requires.full)

pub loop-left-init : goal.loop-left-init
loop-left-init g c =
    let ss = c.args.starts.now.items in let bs = c.args.blocks.now.items in let k = c.args.block in
    let end = c.index.result.now + 512 in let on = c.open.ensures in
    let le : k + 1 ≤ length ss = omega (arith, c.requires.within) in
    let most = held_most k 0 ss bs c.requires.row in
    let same = on.others k (omega arith) in
    record {
      row = on.row;
      starts = ap length on.starts ∙ length-insert ss (k + 1) end le;
      begins = ap (λ l. get_or l k 0) on.starts ∙ get_or-insert_below ss (k + 1) end 0 k (omega arith) le;
      left = omega (arith, same, most, c.requires.full);
      rest = omega (arith, on.empty);
      more = omega (arith, c.requires.kept.1);
      capacity = on.capacity;
    }
