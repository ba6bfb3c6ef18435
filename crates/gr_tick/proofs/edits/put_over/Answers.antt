-- The longest run stands in the place of all that form one run with it
use Rattle.std.proofs.Common.{◌+◌, ◌∷◌, take, drop, arith, ap}
use Rattle.gr_tick.specs.Stored.{room, runs_in}
use Rattle.gr_tick.proofs.StepLemmas.{put_runs, put_values, put_room, alone_at_end, put_later}
use Rattle.gr_tick.proofs.edits.put_over.Goals as goal

pub with_after-next-requires-clause-alone : goal.with_after-next-requires-clause-alone
with_after-next-requires-clause-alone g c = alone_at_end _ _ _ c.with_before-place.ensures.runs

pub returns-clause-runs : goal.returns-clause-runs
returns-clause-runs g c =
    rw (c.put_between.ensures.items)
    (put_runs _ _ _ c.with_before-place.result.1 _ c.with_before-place.ensures.runs c.with_after-next.ensures.runs c.with_after-next.ensures.first c.with_after-next.ensures.value)

pub returns-clause-values : goal.returns-clause-values
returns-clause-values g c = λ t.
    rw (c.put_between.ensures.items)
    (put_values _ (take c.args.from c.args.runs.now.items) _ (drop c.args.upto c.args.runs.now.items) _ c.args.run c.with_before-place.result.1 _ c.with_before-place.ensures.values c.with_after-next.ensures.values c.requires.past t)

pub returns-clause-room : goal.returns-clause-room
returns-clause-room g c = λ last.
    let xs = c.args.runs.now.items in
    let rest = c.with_after-next.result.1 ∷ drop c.with_after-next.result.0 xs in
    omega (
      arith,
      ap (room (c.args.run.last + 1) last) c.put_between.ensures.items,
      put_room g.V.Lattice.least (c.args.run.last + 1) last (take c.with_before-place.result.0 xs) c.with_before-place.result.1 rest c.with_before-place.ensures.runs (omega (arith, c.with_before-place.ensures.first, c.requires.alone.ordered)),
      ap (λ n. room (n + 1) last rest) c.with_before-place.ensures.last,
      ap (λ n. room (n + 1) last (drop c.args.upto xs)) c.with_before-place.ensures.last,
      c.with_after-next.ensures.room last,
      c.put_between.ensures.spare,
      c.with_before-place.ensures.within,
    )

pub returns-clause-later : goal.returns-clause-later
returns-clause-later g c = λ f l lt le.
    let xs = c.args.runs.now.items in
    let rest = c.with_after-next.result.1 ∷ drop c.with_after-next.result.0 xs in
    omega (
      arith,
      ap (runs_in f l) c.put_between.ensures.items,
      put_later g.V.Lattice.least f l (take c.with_before-place.result.0 xs) c.with_before-place.result.1 rest c.with_before-place.ensures.runs (omega (arith, c.with_before-place.ensures.first, c.requires.alone.ordered, lt)),
      c.with_after-next.ensures.later f l (omega (arith, c.with_before-place.ensures.last, lt)) le,
    )
