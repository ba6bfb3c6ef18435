use Rattle.std.proofs.Common.{◌&&◌, sym, ap, ◌∙◌, refl, cond, arith}
use Rattle.std.proofs.lemmas.Option.{get_or_from_slice_get}
use Rattle.gr_tick.specs.Stored.{within}
use Rattle.gr_curio.specs.declared.asks.Moment.TheVariants.{Never}
use Rattle.gr_know.specs.declared.values.K.TheVariants.{Q}
use Rattle.gr_curio.specs.Values.{asked_at}
use Rattle.gr_model.specs.Broker.{is_F}
use Rattle.gr_broker_relay.proofs.Marked.{kind_more}
use Rattle.gr_broker_relay.proofs.learning.drop_final.Goals as goal

pub loop-i-preserved : goal.loop-i-preserved
loop-i-preserved c = record {
  room = omega (arith, c.loop-i.invariant.room, c.drop_run.ensures.spare);
  spare = omega (arith, c.loop-i.invariant.spare, c.drop_run.ensures.spare);
  values = λ t. kind_more Q is_F c.args.piece.now c.loop-i.i t c.run-run.result.now (omega arith) (sym (get_or_from_slice_get c.args.piece.now c.loop-i.i c.run-run.result.now c.run-run.result.now c.run-run.ensures.run)) refl Never _ _ _ c.len-i-end.ensures.canonical c.len-i-end.ensures.in_range (c.loop-i.invariant.values t)
      (c.drop_run.ensures.values t ∙ ap (λ b. cond (within c.run-run.result.now.first c.run-run.result.now.last t && b) Never (asked_at c.loop-i.asks.runs t)) c.is_final.ensures);
}
