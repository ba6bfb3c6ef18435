use Rattle.std.proofs.Common.{arith}
use Rattle.gr_tick.proofs.EachRun.{each_more, each_all, each_begins, each_next}
use Rattle.gr_curio.specs.Values.{asked_at}
use Rattle.gr_curio.specs.Due.{due_of}
use Rattle.gr_curio.specs.declared.values.Q3.TheVariants.{N}
use Rattle.gr_curio.proofs.asks.due_piece.Goals as goal

pub put_due-requires-clause-past : goal.put_due-requires-clause-past
put_due-requires-clause-past c = each_begins c.args.wanted.now c.loop-i.due c.loop-i.i c.run.result.now (omega arith) c.run.ensures.run c.loop-i.invariant.past

pub loop-i-preserved : goal.loop-i-preserved
loop-i-preserved c =
    let xs = c.args.wanted.now in
    record {
      upto = omega arith;
      values = λ t. each_more N (λ q. due_of (asked_at c.args.moments.now.runs t) q c.args.now c.args.retry) xs c.loop-i.i t c.run.result.now _ _ c.len-i-end.ensures.canonical c.len-i-end.ensures.in_range (omega arith) c.run.ensures.run
          (c.loop-i.invariant.values t) (c.in_ok-put_due.ensures.values t);
      past = each_next N xs _ c.loop-i.i c.run.result.now c.len-i-end.ensures.canonical c.len-i-end.ensures.in_range (omega arith) c.run.ensures.run c.in_ok-put_due.ensures.past;
    }

pub returns : goal.returns
returns c = record {
  canonical = c.len.ensures.canonical;
  in_range = c.len.ensures.in_range;
  values = λ t. each_all N (λ q. due_of (asked_at c.args.moments.now.runs t) q c.args.now c.args.retry) c.args.wanted.now c.loop-i.i t _ (omega arith) (c.loop-i.invariant.values t);
}
