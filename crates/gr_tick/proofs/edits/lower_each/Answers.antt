-- A run more is taken out: the ticks told by then are those told before and those of the run.
use Rattle.std.proofs.Common.{arith}
use Rattle.gr_tick.proofs.StepLemmas.{read_alone}
use Rattle.gr_tick.proofs.ToldLemmas.{told_more}
use Rattle.gr_tick.proofs.edits.lower_each.Goals as goal

pub lower_over-requires-clause-ordered : goal.lower_over-requires-clause-ordered
lower_over-requires-clause-ordered g c = (read_alone g.V.Lattice.least c.args.others.now.items c.loop-i.i c.get-other.result.now (omega arith) c.get-other.ensures c.requires.others).ordered

pub lower_over-requires-clause-upto : goal.lower_over-requires-clause-upto
lower_over-requires-clause-upto g c = (read_alone g.V.Lattice.least c.args.others.now.items c.loop-i.i c.get-other.result.now (omega arith) c.get-other.ensures c.requires.others).upto

pub loop-i-preserved : goal.loop-i-preserved
loop-i-preserved g c = record {
  runs = c.lower_over.ensures.runs;
  values = λ t. told_more g.V.Lattice.least c.args.others.now.items c.loop-i.i t c.get-other.result.now _ _ _ (omega arith) c.get-other.ensures (c.loop-i.invariant.values t) (c.lower_over.ensures.values t);
  spare = omega arith;
}
