-- The runs up to one that ends before the tick do so too.
use Rattle.std.proofs.Common.{◌≡◌, ◌+◌, ◌-◌, take, subst, arith}
use Rattle.gr_tick.specs.Stored.{EndBefore}
use Rattle.gr_tick.proofs.SeekLemmas.{seek_low}
use Rattle.gr_tick.proofs.edits.seek.Goals as goal

pub seek_behind-requires-clause-front : goal.seek_behind-requires-clause-front
seek_behind-requires-clause-front g c =
    seek_low g.V.Lattice.least c.args.runs.now.items c.min-place.result c.args.tick c.get-near.result.now (omega arith) c.get-near.ensures c.requires c.if-near-tick.true

pub returns-then-before-tick-clause-front : goal.returns-then-before-tick-clause-front
returns-then-before-tick-clause-front g c =
    let all : (c.min-place.result - 1) + 1 ≡ c.min-place.result = omega arith in
    subst (λ k. EndBefore (take k c.args.runs.now.items) c.args.tick) all
    (seek_low g.V.Lattice.least c.args.runs.now.items (c.min-place.result - 1) c.args.tick c.get-before.result.now (omega arith) c.get-before.ensures c.requires c.if-before-tick.true)

pub returns-then-place-count-clause-front : goal.returns-then-place-count-clause-front
returns-then-place-count-clause-front g c =
    let all : c.min-place.result + 1 ≡ c.len-count.result = omega (arith, c.if-place-count.true) in
    subst (λ k. EndBefore (take k c.args.runs.now.items) c.args.tick) all
    (seek_low g.V.Lattice.least c.args.runs.now.items c.min-place.result c.args.tick c.get-near.result.now (omega arith) c.get-near.ensures c.requires c.if-near-tick.true)
