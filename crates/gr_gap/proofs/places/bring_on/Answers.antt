-- The block behind the place is full, and has one place once it has passed its first value back.
use Rattle.std.proofs.Common.{◌+◌, ap, sym, get_or, ◌∙◌, arith}
use Rattle.gr_gap.proofs.Rows.{held_most, then_on}
use Rattle.gr_gap.proofs.places.bring_on.Goals as goal

pub loop-place-preserved : goal.loop-place-preserved
loop-place-preserved g c =
    let so = c.loop-place.invariant in let p = c.loop-place.place in let on = c.pass_back.ensures in
    let ss = c.loop-place.starts.items in let bs = c.loop-place.blocks.items in let ts = c.pass_back.new.starts.items in
    let most = held_most (p + 1) 0 ss bs so.row.row in
    let full = so.full (p + 1) (omega arith) (omega (arith, c.loop-place-test.true)) in
    record {
      row = then_on c.args.blocks.now.items ss bs ts c.pass_back.new.blocks.items so.row on.row;
      starts = on.starts ∙ so.starts;
      begins = λ lt. on.behind c.args.to lt ∙ so.begins (omega (arith, lt));
      moved = λ e. ap (λ j. get_or ts j 0) (sym e) ∙ on.begins
          ∙ ap (λ x. x + 1) (ap (λ j. get_or ss j 0) e ∙ so.begins c.loop-place-test.true);
      low = omega (arith, so.low);
      high = omega (arith, c.loop-place-test.true);
      full = λ k lt le. omega (arith, on.others k lt, so.full k (omega (arith, lt)) le);
      room = omega (arith, on.less, most);
      one = λ lt. omega (arith, on.less, full, most);
      capacity = on.capacity ∙ so.capacity;
    }
