use Rattle.std.proofs.Common.{◌&&◌, nat_le, cond, arith}
use Rattle.gr_tick.proofs.EachRun.{each_more, each_all, each_begins, each_next}
use Rattle.gr_curio.specs.Values.{is_A}
use Rattle.gr_curio.specs.Wants.{runs_of, all_A}
use Rattle.gr_curio.specs.declared.values.Q3.TheVariants.{N, A}
use Rattle.gr_curio.proofs.children.completed_by.Goals as goal

pub put_completed-requires-clause-past : goal.put_completed-requires-clause-past
put_completed-requires-clause-past c = each_begins c.args.piece.now c.loop-i.done c.loop-i.i c.run.result.now (omega arith) c.run.ensures.run c.loop-i.invariant.past

pub loop-i-preserved : goal.loop-i-preserved
loop-i-preserved c =
    let xs = c.args.piece.now in
    record {
      within = omega arith;
      values = λ t. each_more N (λ q. cond (is_A q && nat_le t c.args.upto && (all_A (runs_of c.args.before.now) t && all_A (runs_of c.args.after.now) t)) A N) xs c.loop-i.i t c.run.result.now _ _ c.len-i-end.ensures.canonical c.len-i-end.ensures.in_range (omega arith) c.run.ensures.run
          (c.loop-i.invariant.values t) (c.in_ok-put_completed.ensures.values t);
      past = each_next N xs _ c.loop-i.i c.run.result.now c.len-i-end.ensures.canonical c.len-i-end.ensures.in_range (omega arith) c.run.ensures.run c.in_ok-put_completed.ensures.past;
    }

pub returns : goal.returns
returns c = record {
  canonical = c.len.ensures.canonical;
  in_range = c.len.ensures.in_range;
  values = λ t. each_all N (λ q. cond (is_A q && nat_le t c.args.upto && (all_A (runs_of c.args.before.now) t && all_A (runs_of c.args.after.now) t)) A N) c.args.piece.now c.loop-i.i t _ (omega arith) (c.loop-i.invariant.values t);
}
