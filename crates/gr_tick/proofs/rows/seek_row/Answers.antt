use Rattle.std.proofs.Common.{◌+◌, ◌-◌, ◌/◌, arith}
use Rattle.gr_tick.proofs.SeekLemmas.{seek_low}
use Rattle.gr_tick.proofs.rows.seek_row.Goals as goal

pub loop-low-preserved-then-run-tick : goal.loop-low-preserved-then-run-tick
loop-low-preserved-then-run-tick g c = record {
  ordered = omega arith;
  within = c.loop-low.invariant.within;
  front = seek_low g.V.Lattice.least c.args.runs.now.items (c.loop-low.low + (c.loop-low.high - c.loop-low.low) / 2) c.args.tick c.get-run.result.now (omega arith) c.get-run.ensures c.requires c.if-run-tick.true;
  here = c.loop-low.invariant.here;
}
