-- The block before the place is full, and has one place once it has passed its last value on.
use Rattle.std.proofs.Common.{◌-◌, ◌∙◌, arith}
use Rattle.gr_gap.proofs.Rows.{held_most, then_on}
use Rattle.gr_gap.proofs.places.bring_back.Goals as goal

pub loop-place-preserved : goal.loop-place-preserved
loop-place-preserved g c =
    let so = c.loop-place.invariant in let p = c.loop-place.place in let on = c.pass_on.ensures in
    let ss = c.loop-place.starts.items in let bs = c.loop-place.blocks.items in
    let most = held_most (p - 1) 0 ss bs so.row.row in
    let full = so.full (p - 1) (omega (arith, c.loop-place-test.true)) (omega (arith, c.loop-place-test.true)) in
    record {
      row = then_on c.args.blocks.now.items ss bs c.pass_on.new.starts.items c.pass_on.new.blocks.items so.row on.row;
      starts = on.starts ∙ so.starts;
      begins = on.begins c.args.to (omega (arith, c.loop-place-test.true)) ∙ so.begins;
      low = omega (arith, c.loop-place-test.true);
      high = omega (arith, so.high);
      full = λ k le lt. omega (arith, on.others k lt, so.full k le (omega (arith, lt)));
      room = omega (arith, on.less, most);
      one = λ lt. omega (arith, on.less, full);
      capacity = on.capacity ∙ so.capacity;
    }
