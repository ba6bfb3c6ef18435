use Rattle.std.proofs.Common.{arith, cond}
use Rattle.gr_tick.proofs.EachRun.{each_more, each_all, each_begins, each_next}
use Rattle.gr_know.specs.declared.values.K.TheVariants.{Q}
use Rattle.gr_curio.specs.Values.{is_A, wanted_at}
use Rattle.gr_curio.specs.Wants.{wants_of, runs_of}
use Rattle.gr_broker_walks.proofs.walks.unacknowledged.Goals as goal

pub put_sent-requires-clause-past : goal.put_sent-requires-clause-past
put_sent-requires-clause-past c = each_begins c.args.passed.now c.loop-i.sent c.loop-i.i c.run.result.now (omega arith) c.run.ensures.run c.loop-i.invariant.past

pub loop-i-preserved : goal.loop-i-preserved
loop-i-preserved c =
    let xs = c.args.passed.now in
    record {
      within = omega arith;
      values = λ t. each_more Q (λ x. cond (is_A (wanted_at (wants_of (runs_of c.args.wants.now) c.args.child) t)) Q x) xs c.loop-i.i t c.run.result.now _ _ c.len-i-end.ensures.canonical c.len-i-end.ensures.in_range (omega arith) c.run.ensures.run
          (c.loop-i.invariant.values t) (c.in_ok-put_sent.ensures.values t);
      past = each_next Q xs _ c.loop-i.i c.run.result.now c.len-i-end.ensures.canonical c.len-i-end.ensures.in_range (omega arith) c.run.ensures.run c.in_ok-put_sent.ensures.past;
    }

pub returns : goal.returns
returns c = record {
  canonical = c.len.ensures.canonical;
  in_range = c.len.ensures.in_range;
  values = λ t. each_all Q (λ x. cond (is_A (wanted_at (wants_of (runs_of c.args.wants.now) c.args.child) t)) Q x) c.args.passed.now c.loop-i.i t _ (omega arith) (c.loop-i.invariant.values t);
}
