use Rattle.std.proofs.Common.{sym, ◌∙◌}
use Rattle.gr_frame.proofs.Loop.{below_first, joins}
use Rattle.gr_frame.proofs.reading.run_at.Goals as goal

pub returns-clause-past : goal.returns-clause-past
returns-clause-past g c = below_first g.V.Lattice.least c.args.found.now c.in_ok-first.first c.is_above.ensures.runs (sym c.is_above.ensures.above ∙ c.if-not-is_above.false)

pub returns-clause-joins : goal.returns-clause-joins
returns-clause-joins g c =
    joins g.V.Lattice.least g.V.FrameValue.form.same c.args.found.now _ g.met.V.FrameValue.decides c.is_above.ensures.runs
    (record { from_one = c.in_ok-first.ensures.least; ordered = c.in_ok-last.ensures.least; upto = c.in_ok-last.ensures.most; known = c.in_ok-value.ensures.some })
    (sym c.is_above.ensures.above ∙ c.if-not-is_above.false) (sym c.goes_on.ensures ∙ c.if-goes_on.false)
