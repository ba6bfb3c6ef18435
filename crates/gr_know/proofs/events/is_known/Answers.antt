use Rattle.std.proofs.Common.{◌≡◌, ◌<◌, length, get_or, sym, arith}
use Rattle.std.proofs.lemmas.Option.{get_or_from_slice_get}
use Rattle.gr_tick.specs.Stored.{AreTickRuns}
use Rattle.gr_tick.proofs.Canonical.{AreTickRuns-canonical}
use Rattle.gr_know.specs.Values.{known_at}
use Rattle.gr_know.specs.declared.values.K.TheVariants.{Q}
use Rattle.gr_know.proofs.Held.{held_more}
use Rattle.gr_know.proofs.events.is_known.Goals as goal

pub loop-i-preserved : goal.loop-i-preserved
loop-i-preserved c =
    let xs = c.args.piece.now in
    let r = c.run.result.now in
    let h : AreTickRuns Q xs = AreTickRuns-canonical Q xs c.len-i-end.ensures.canonical c.len-i-end.ensures.in_range in
    let lt : c.loop-i.i < length xs = omega arith in
    let e : r ≡ get_or xs c.loop-i.i r = sym (get_or_from_slice_get xs c.loop-i.i r r c.run.ensures.run) in
    record {
      within = omega (arith, lt);
      held = λ t. held_more xs c.loop-i.i t r (known_at c.args.stream.now.runs t) lt e h (c.is_held.ensures c.if-not-is_held.false t) (c.loop-i.invariant.held t);
    }
