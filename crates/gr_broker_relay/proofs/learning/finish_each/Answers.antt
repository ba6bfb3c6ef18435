use Rattle.std.proofs.Common.{sym, refl, arith}
use Rattle.std.proofs.lemmas.Option.{get_or_from_slice_get}
use Rattle.gr_know.specs.declared.values.K.TheVariants.{F}
use Rattle.gr_curio.specs.declared.values.Q3.TheVariants.{N}
use Rattle.gr_curio.specs.Values.{is_A}
use Rattle.gr_broker_relay.proofs.Marked.{kind_more}
use Rattle.gr_broker_relay.proofs.learning.finish_each.Goals as goal

pub loop-i-preserved : goal.loop-i-preserved
loop-i-preserved c = record {
  room = omega (arith, c.loop-i.invariant.room, c.finish_run.ensures.spare);
  spare = omega (arith, c.loop-i.invariant.spare, c.finish_run.ensures.spare);
  values = λ t. kind_more N is_A c.args.done.now c.loop-i.i t c.run.result.now (omega arith) (sym (get_or_from_slice_get c.args.done.now c.loop-i.i c.run.result.now c.run.result.now c.run.ensures.run)) refl F _ _ _ c.len-i-end.ensures.canonical c.len-i-end.ensures.in_range (c.loop-i.invariant.values t) (c.finish_run.ensures.values t);
}
