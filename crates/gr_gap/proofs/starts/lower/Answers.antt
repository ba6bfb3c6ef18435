-- One number is changed, and those behind it are as they were.
use Rattle.std.proofs.Common.{◌≡◌, ◌+◌, ◌-◌, ◌<◌, length, get_or, set, ap, ◌∙◌, sym, arith, length-set}
use Rattle.gr_gap.specs.Blocks.{changed_from}
use Rattle.gr_gap.proofs.Changes.{changed_more, changed_end, set_apart, read_is}
use Rattle.gr_gap.proofs.starts.lower.Goals as goal

pub loop-block-preserved : goal.loop-block-preserved
loop-block-preserved c =
    let s = c.loop-block.starts in let k = c.loop-block.block in let so = c.loop-block.invariant in
    let there : k < length s.items = omega (arith, c.loop-block-test.true, c.len.ensures, s.ok.0) in
    let read : c.index_mut.result.now ≡ get_or s.items k 0 = read_is k s.items c.index_mut.result.now there c.index_mut.ensures.value in
    record {
      items = ap (λ x. changed_from (λ y. y - c.args.by) (k + 1) (set s.items k (x - c.args.by))) read
          ∙ changed_more (λ y. y - c.args.by) k s.items there ∙ so.items;
      len = length-set s.items k (c.index_mut.result.now - c.args.by) ∙ so.len;
      left = λ j le. set_apart k j s.items (c.index_mut.result.now - c.args.by) (λ e. omega (arith, e, le))
          ∙ so.left j (omega (arith, le));
      order = omega (arith, so.order);
      capacity = so.capacity;
    }

pub returns-clause-items : goal.returns-clause-items
returns-clause-items c =
    let s = c.loop-block.starts in let k = c.loop-block.block in
    sym (changed_end (λ y. y - c.args.by) k s.items (omega (arith, c.loop-block-test.false, c.len.ensures, s.ok.0)))
    ∙ c.loop-block.invariant.items
