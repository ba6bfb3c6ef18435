use Rattle.std.proofs.Common.{◌≡◌, ◌<◌, ◌≤◌, ◌+◌, length, get_or, sym, ◌∙◌, arith}
use Rattle.std.proofs.lemmas.Option.{get_or_from_slice_get}
use Rattle.gr_tick.specs.Stored.{AreTickRuns}
use Rattle.gr_tick.proofs.Canonical.{AreTickRuns-canonical}
use Rattle.gr_tick.proofs.EditLemmas.{drop_read}
use Rattle.gr_tick.proofs.StepLemmas.{ahead_at, ahead_none}
use Rattle.gr_tick.proofs.SeekLemmas.{gap_at, run_at}
use Rattle.gr_know.specs.declared.values.K.TheVariants.{Q}
use Rattle.gr_know.proofs.news.came_until.Goals as goal

pub returns-then-i-len-clause-none : goal.returns-then-i-len-clause-none
returns-then-i-len-clause-none c = λ _.
    sym (gap_at Q c.args.piece.now c.seek-i.result (c.args.tick + 1) c.seek-i.ensures.front (ahead_none c.args.piece.now c.seek-i.result (c.args.tick + 1) (omega arith)))

pub returns-then-tick-run-clause-none : goal.returns-then-tick-run-clause-none
returns-then-tick-run-clause-none c = λ _.
    let xs = c.args.piece.now in
    let r = c.run-run.result.now in
    let h : AreTickRuns Q xs = AreTickRuns-canonical Q xs c.len.ensures.canonical c.len.ensures.in_range in
    let lt : c.seek-i.result < length xs = omega arith in
    let e : r ≡ get_or xs c.seek-i.result r = sym (get_or_from_slice_get xs c.seek-i.result r r c.run-run.ensures.run) in
    sym (gap_at Q xs c.seek-i.result (c.args.tick + 1) c.seek-i.ensures.front (ahead_at Q xs c.seek-i.result (c.args.tick + 1) r lt e h c.if-tick-run.true))

pub returns-clause-forward : goal.returns-clause-forward
returns-clause-forward c =
    let xs = c.args.piece.now in
    let r = c.run-run.result.now in
    let lt : c.seek-i.result < length xs = omega arith in
    let e : r ≡ get_or xs c.seek-i.result r = sym (get_or_from_slice_get xs c.seek-i.result r r c.run-run.ensures.run) in
    let reach : c.args.tick + 1 ≤ r.last = c.seek-i.ensures.here r _ (drop_read xs c.seek-i.result r lt e) in
    omega (arith, reach)

pub returns-clause-came : goal.returns-clause-came
returns-clause-came c = λ t lo hi z.
    let xs = c.args.piece.now in
    let r = c.run-run.result.now in
    let h : AreTickRuns Q xs = AreTickRuns-canonical Q xs c.len.ensures.canonical c.len.ensures.in_range in
    let lt : c.seek-i.result < length xs = omega arith in
    let e : r ≡ get_or xs c.seek-i.result r = sym (get_or_from_slice_get xs c.seek-i.result r r c.run-run.ensures.run) in
    c.run-run.ensures.alone.known (run_at Q xs c.seek-i.result t r lt e h (omega (arith, lo, c.if-tick-run.false)) hi ∙ z)

pub returns-clause-none : goal.returns-clause-none
returns-clause-none c = λ same.
    let xs = c.args.piece.now in
    let r = c.run-run.result.now in
    let lt : c.seek-i.result < length xs = omega arith in
    let e : r ≡ get_or xs c.seek-i.result r = sym (get_or_from_slice_get xs c.seek-i.result r r c.run-run.ensures.run) in
    let reach : c.args.tick + 1 ≤ r.last = c.seek-i.ensures.here r _ (drop_read xs c.seek-i.result r lt e) in
    absurd (omega (arith, reach, same))
