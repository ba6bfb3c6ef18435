use Rattle.std.proofs.Common.{arith, cond, not, ◌&&◌}
use Rattle.gr_tick.proofs.EachRun.{each_more, each_all, each_begins, each_next}
use Rattle.gr_know.specs.declared.values.K.TheVariants.{Q}
use Rattle.gr_curio.specs.declared.values.Q3.TheVariants.{N, C}
use Rattle.gr_curio.specs.Values.{is_C, wanted_at}
use Rattle.gr_know.specs.Values.{is_Q}
use Rattle.gr_curio.specs.Wants.{wants_of, runs_of}
use Rattle.gr_broker_walks.proofs.walks.quenched.Goals as goal

pub put_quenched-requires-clause-past : goal.put_quenched-requires-clause-past
put_quenched-requires-clause-past c = each_begins c.args.sent.now c.loop-i.quenched c.loop-i.i c.run.result.now (omega arith) c.run.ensures.run c.loop-i.invariant.past

pub loop-i-preserved : goal.loop-i-preserved
loop-i-preserved c =
    let xs = c.args.sent.now in
    record {
      within = omega arith;
      values = λ t. each_more Q (λ x. cond (not (is_Q x) && is_C (wanted_at (wants_of (runs_of c.args.wants.now) c.args.child) t)) C N) xs c.loop-i.i t c.run.result.now _ _ c.len-i-end.ensures.canonical c.len-i-end.ensures.in_range (omega arith) c.run.ensures.run
          (c.loop-i.invariant.values t) (c.in_ok-put_quenched.ensures.values t);
      past = each_next Q xs _ c.loop-i.i c.run.result.now c.len-i-end.ensures.canonical c.len-i-end.ensures.in_range (omega arith) c.run.ensures.run c.in_ok-put_quenched.ensures.past;
    }

pub returns : goal.returns
returns c = record {
  canonical = c.len.ensures.canonical;
  in_range = c.len.ensures.in_range;
  values = λ t. each_all Q (λ x. cond (not (is_Q x) && is_C (wanted_at (wants_of (runs_of c.args.wants.now) c.args.child) t)) C N) c.args.sent.now c.loop-i.i t _ (omega arith) (c.loop-i.invariant.values t);
}
