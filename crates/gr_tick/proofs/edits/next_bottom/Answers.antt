use Rattle.std.proofs.Common.{arith}
use Rattle.gr_tick.proofs.RunsLemmas.{value_at_past}
use Rattle.gr_tick.proofs.StepLemmas.{read_alone, bottom_past, bottom_least, bottom_inside}
use Rattle.gr_tick.proofs.SeekLemmas.{bottom_early}
use Rattle.gr_tick.proofs.edits.next_bottom.Goals as goal

pub loop-i-init : goal.loop-i-init
loop-i-init g c = record {
  upto = c.seek-i.ensures.within;
  forward = omega arith;
  inside = c.requires.upto;
  past = value_at_past g.V.Lattice.least _ c.args.tick c.args.tick c.seek-i.ensures.front (omega arith);
  least = λ t lo hi. absurd (omega arith);
}

pub returns-then-next-run-clause-bottom : goal.returns-then-next-run-clause-bottom
returns-then-next-run-clause-bottom g c =
    bottom_early g.V.Lattice.least c.args.runs.now.items c.loop-i.i c.loop-i.next c.get-run.result.now (omega arith) c.get-run.ensures c.requires.runs c.loop-i.invariant.past c.if-next-run.true

pub after_run-next-requires : goal.after_run-next-requires
after_run-next-requires g c = (read_alone g.V.Lattice.least c.args.runs.now.items c.loop-i.i c.get-run.result.now (omega arith) c.get-run.ensures c.requires.runs).upto

pub loop-i-preserved : goal.loop-i-preserved
loop-i-preserved g c =
    let is = read_alone g.V.Lattice.least c.args.runs.now.items c.loop-i.i c.get-run.result.now (omega arith) c.get-run.ensures c.requires.runs in
    let b = bottom_inside g.V.Lattice.least c.get-run.result.now c.args.tick c.loop-i.next c.after_run-next.result is c.loop-i.invariant.forward c.loop-i.invariant.inside c.after_run-next.ensures in
    record {
      upto = omega arith;
      forward = b.0;
      inside = b.1;
      past = bottom_past g.V.Lattice.least c.args.runs.now.items c.loop-i.i c.loop-i.next c.after_run-next.result c.get-run.result.now (omega arith) c.get-run.ensures c.requires.runs c.loop-i.invariant.past c.after_run-next.ensures;
      least = bottom_least g.V.Lattice.least c.args.runs.now.items c.loop-i.i c.args.tick c.loop-i.next c.after_run-next.result c.get-run.result.now (omega arith) c.get-run.ensures c.requires.runs c.loop-i.invariant.least c.after_run-next.ensures;
    }
