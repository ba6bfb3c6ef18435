use Rattle.std.proofs.Common.{cond, ap, ◌∙◌}
use Rattle.gr_tick.specs.Runs.{value_at}
use Rattle.gr_curio.specs.Values.{wanted_at, is_C}
use Rattle.gr_curio.proofs.mark.mark_asked.Goals as goal

pub returns-clause-marked : goal.returns-clause-marked
returns-clause-marked g c = record {
  canonical = c.mark_ready.ensures.marked.canonical;
  in_range = c.mark_ready.ensures.marked.in_range;
  values = λ t. c.mark_ready.ensures.marked.values t ∙ ap (λ zs. cond (is_C (wanted_at c.args.piece.now t)) c.args.value.now (value_at g.V.Lattice.least zs t)) c.reserve.ensures.runs;
}
