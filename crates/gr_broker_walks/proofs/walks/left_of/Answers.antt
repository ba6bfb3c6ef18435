use Rattle.std.proofs.Common.{arith}
use Rattle.gr_tick.proofs.EachRun.{each_more, each_all, each_begins, each_next}
use Rattle.gr_curio.specs.declared.values.Q3.TheVariants.{N}
use Rattle.gr_know.specs.Values.{is_Q, known_at}
use Rattle.gr_broker_walks.specs.Told.{left_at}
use Rattle.gr_broker_walks.proofs.walks.left_of.Goals as goal

pub put_left-requires-clause-past : goal.put_left-requires-clause-past
put_left-requires-clause-past c = each_begins c.args.asked.now c.loop-i.piece c.loop-i.i c.run.result.now (omega arith) c.run.ensures.run c.loop-i.invariant.past

pub loop-i-preserved : goal.loop-i-preserved
loop-i-preserved c =
    let xs = c.args.asked.now in
    record {
      within = omega arith;
      values = λ t. each_more N (λ x. left_at x (is_Q (known_at c.args.reply.now t))) xs c.loop-i.i t c.run.result.now _ _ c.len-i-end.ensures.canonical c.len-i-end.ensures.in_range (omega arith) c.run.ensures.run
          (c.loop-i.invariant.values t) (c.in_ok-put_left.ensures.values t);
      past = each_next N xs _ c.loop-i.i c.run.result.now c.len-i-end.ensures.canonical c.len-i-end.ensures.in_range (omega arith) c.run.ensures.run c.in_ok-put_left.ensures.past;
    }

pub returns : goal.returns
returns c = record {
  canonical = c.len.ensures.canonical;
  in_range = c.len.ensures.in_range;
  values = λ t. each_all N (λ x. left_at x (is_Q (known_at c.args.reply.now t))) c.args.asked.now c.loop-i.i t _ (omega arith) (c.loop-i.invariant.values t);
}
