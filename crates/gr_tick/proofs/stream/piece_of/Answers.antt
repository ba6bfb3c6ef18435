use Rattle.std.proofs.Common.{◌+◌, refl, sym, ap, ◌∙◌, subst, arith}
use Rattle.gr_tick.specs.declared.TheConstants.{MAX_TICK}
use Rattle.gr_tick.specs.Runs.{value_at, AreRuns}
use Rattle.gr_tick.specs.Stored.{EndBefore}
use Rattle.gr_tick.proofs.EditLemmas.{drop_read}
use Rattle.gr_tick.proofs.StepLemmas.{read_alone, piece_more, next_begins}
use Rattle.gr_tick.proofs.SeekLemmas.{piece_none, piece_whole}
use Rattle.gr_tick.proofs.stream.piece_of.Goals as goal

-- where all runs end before the range, nothing is in it
pub returns-then-is_past : goal.returns-then-is_past
returns-then-is_past g c = record {
  canonical = subst (AreRuns g.V.Lattice.least) (sym c.new-piece.ensures) tt;
  in_range = subst (λ p. EndBefore p (MAX_TICK + 1)) (sym c.new-piece.ensures) tt;
  values = λ t. ap (λ p. value_at g.V.Lattice.least p t) c.new-piece.ensures ∙ piece_none g.V.Lattice.least c.args.runs.now.items c.args.first c.args.last t (c.is_past.ensures c.if-is_past.true);
}

pub loop-i-init : goal.loop-i-init
loop-i-init g c = record {
  upto = c.seek-i.ensures.within;
  values = λ t. ap (λ p. value_at g.V.Lattice.least p t) c.new-piece.ensures ∙ piece_none g.V.Lattice.least _ c.args.first c.args.last t c.seek-i.ensures.front;
  past = λ s rest e. subst (λ p. EndBefore p s.first) (sym c.new-piece.ensures) tt;
}

pub push_cut-requires-clause-alone : goal.push_cut-requires-clause-alone
push_cut-requires-clause-alone g c = read_alone g.V.Lattice.least c.args.runs.now.items c.loop-i.i c.get-run.result.now (omega arith) c.get-run.ensures c.requires.runs

pub push_cut-requires-clause-past : goal.push_cut-requires-clause-past
push_cut-requires-clause-past g c = c.loop-i.invariant.past c.get-run.result.now _ (drop_read c.args.runs.now.items c.loop-i.i c.get-run.result.now (omega arith) c.get-run.ensures)

pub loop-i-preserved : goal.loop-i-preserved
loop-i-preserved g c = record {
  upto = omega arith;
  values = λ t. piece_more g.V.Lattice.least c.args.runs.now.items c.loop-i.i c.args.first c.args.last t c.get-run.result.now _ _ c.get-run.result.now.value (omega arith) c.get-run.ensures c.requires.runs refl (c.loop-i.invariant.values t) (c.in_ok-push_cut.ensures.ok.values t);
  past = λ s rest e. next_begins g.V.Lattice.least c.args.runs.now.items _ c.loop-i.i c.get-run.result.now (omega arith) c.get-run.ensures c.requires.runs c.in_ok-push_cut.ensures.past s rest e;
}

pub returns : goal.returns
returns g c = record {
  canonical = c.len.ensures.canonical;
  in_range = c.len.ensures.in_range;
  values = λ t. c.loop-i.invariant.values t ∙ piece_whole g.V.Lattice.least c.args.runs.now.items c.loop-i.i c.begun_by-i-end.result c.args.first c.args.last t (omega arith) c.begun_by-i-end.ensures.ahead;
}
