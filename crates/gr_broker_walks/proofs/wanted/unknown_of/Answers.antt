use Rattle.std.proofs.Common.{arith, cond, ◌&&◌}
use Rattle.gr_tick.proofs.EachRun.{each_more, each_all, each_begins, each_next}
use Rattle.gr_curio.specs.declared.values.Q3.TheVariants.{N, C}
use Rattle.gr_curio.specs.Values.{is_C}
use Rattle.gr_know.specs.Values.{is_Q, known_at}
use Rattle.gr_broker_walks.proofs.wanted.unknown_of.Goals as goal

pub put_unknown-requires-clause-past : goal.put_unknown-requires-clause-past
put_unknown-requires-clause-past c = each_begins c.args.wanted.now c.loop-i.piece c.loop-i.i c.run.result.now (omega arith) c.run.ensures.run c.loop-i.invariant.past

pub loop-i-preserved : goal.loop-i-preserved
loop-i-preserved c =
    let xs = c.args.wanted.now in
    record {
      within = omega arith;
      values = λ t. each_more N (λ x. cond (is_C x && is_Q (known_at c.args.know.now.runs t)) C N) xs c.loop-i.i t c.run.result.now _ _ c.len-i-end.ensures.canonical c.len-i-end.ensures.in_range (omega arith) c.run.ensures.run
          (c.loop-i.invariant.values t) (c.in_ok-put_unknown.ensures.values t);
      past = each_next N xs _ c.loop-i.i c.run.result.now c.len-i-end.ensures.canonical c.len-i-end.ensures.in_range (omega arith) c.run.ensures.run c.in_ok-put_unknown.ensures.past;
    }

pub returns : goal.returns
returns c = record {
  canonical = c.len.ensures.canonical;
  in_range = c.len.ensures.in_range;
  values = λ t. each_all N (λ x. cond (is_C x && is_Q (known_at c.args.know.now.runs t)) C N) c.args.wanted.now c.loop-i.i t _ (omega arith) (c.loop-i.invariant.values t);
}
