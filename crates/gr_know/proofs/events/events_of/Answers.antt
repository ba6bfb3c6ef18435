use Rattle.std.proofs.Common.{◌≡◌, ◌<◌, ◌+◌, length, get_or, sym, arith}
use Rattle.std.proofs.lemmas.Option.{get_or_from_slice_get}
use Rattle.gr_tick.proofs.Canonical.{AreTickRuns-canonical}
use Rattle.gr_know.specs.declared.values.K.TheVariants.{Q}
use Rattle.gr_know.proofs.Counting.{own_more, own_fits}
use Rattle.gr_know.proofs.events.events_of.Goals as goal

pub overflow_add-count : goal.overflow_add-count
overflow_add-count c =
    let xs = c.args.piece.now in
    let r = c.run-run.result.now in
    let lt : c.loop-i.i < length xs = omega arith in
    let e : r ≡ get_or xs c.loop-i.i r = sym (get_or_from_slice_get xs c.loop-i.i r r c.run-run.ensures.run) in
    omega (arith, own_more xs c.loop-i.i r lt e, c.loop-i.invariant, c.events_shared-count.ensures, own_fits xs (c.loop-i.i + 1) (AreTickRuns-canonical Q xs c.len-i-end.ensures.canonical c.len-i-end.ensures.in_range))

pub loop-i-preserved : goal.loop-i-preserved
loop-i-preserved c =
    let xs = c.args.piece.now in
    let r = c.run-run.result.now in
    let lt : c.loop-i.i < length xs = omega arith in
    let e : r ≡ get_or xs c.loop-i.i r = sym (get_or_from_slice_get xs c.loop-i.i r r c.run-run.ensures.run) in
    omega (arith, own_more xs c.loop-i.i r lt e, c.loop-i.invariant, c.events_shared-count.ensures)
