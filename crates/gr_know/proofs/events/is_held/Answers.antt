use Rattle.std.proofs.Common.{◌≡◌, ◌<◌, length, get_or, sym, ◌∙◌, arith}
use Rattle.std.proofs.lemmas.Option.{get_or_from_slice_get}
use Rattle.gr_tick.specs.Stored.{AreTickRuns}
use Rattle.gr_tick.proofs.Canonical.{AreTickRuns-canonical}
use Rattle.gr_know.specs.declared.values.K.TheVariants.{Q}
use Rattle.gr_know.proofs.Held.{held_by}
use Rattle.gr_know.proofs.events.is_held.Goals as goal

pub returns : goal.returns
returns c = λ y.
    let xs = c.args.stream.now.runs in
    let r = c.run-known.result.now in
    let h : AreTickRuns Q xs = AreTickRuns-canonical Q xs c.len.ensures.canonical c.len.ensures.in_range in
    let lt : c.seek-i.result < length xs = omega arith in
    let e : r ≡ get_or xs c.seek-i.result r = sym (get_or_from_slice_get xs c.seek-i.result r r c.run-known.ensures.run) in
    held_by xs c.seek-i.result r c.args.run.now lt e h (omega arith) (omega arith) (sym c.at_most.ensures ∙ y)
