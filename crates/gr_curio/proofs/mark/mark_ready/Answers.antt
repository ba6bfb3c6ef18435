use Rattle.std.proofs.Common.{cond, sym, ap, ◌∙◌, arith}
use Rattle.std.proofs.lemmas.Option.{get_or_from_slice_get}
use Rattle.std.proofs.lemmas.List.{take_all}
use Rattle.gr_tick.specs.Runs.{value_at}
use Rattle.gr_curio.specs.Values.{wanted_at, is_C}
use Rattle.gr_curio.proofs.MarkLemmas.{mark_more}
use Rattle.gr_curio.proofs.mark.mark_ready.Goals as goal

pub mark_run-requires-clause-room : goal.mark_run-requires-clause-room
mark_run-requires-clause-room g c = omega (arith, c.loop-i.invariant.room)

pub loop-i-preserved : goal.loop-i-preserved
loop-i-preserved g c = record {
  room = omega (arith, c.loop-i.invariant.room, c.mark_run.ensures.spare);
  spare = omega (arith, c.loop-i.invariant.spare, c.mark_run.ensures.spare);
  values = λ t. mark_more c.args.piece.now c.loop-i.i t c.run.result.now c.args.value.now _ _ _ (omega arith) (sym (get_or_from_slice_get c.args.piece.now c.loop-i.i c.run.result.now c.run.result.now c.run.ensures.run)) c.len-i-end.ensures.canonical c.len-i-end.ensures.in_range (c.loop-i.invariant.values t) (c.mark_run.ensures.values t);
}

pub returns-clause-marked : goal.returns-clause-marked
returns-clause-marked g c = record {
  canonical = c.len.ensures.canonical;
  in_range = c.len.ensures.in_range;
  values = λ t. c.loop-i.invariant.values t
      ∙ ap (λ zs. cond (is_C (wanted_at zs t)) c.args.value.now (value_at g.V.Lattice.least c.args.stream.now.runs t)) (take_all c.loop-i.i c.args.piece.now (omega arith));
}

pub returns-clause-spare : goal.returns-clause-spare
returns-clause-spare g c = omega (arith, c.loop-i.invariant.spare)
