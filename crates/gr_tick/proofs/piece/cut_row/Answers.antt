use Rattle.std.proofs.Common.{refl, sym, ap, ◌∙◌, subst, arith}
use Rattle.gr_tick.specs.Runs.{value_at}
use Rattle.gr_tick.specs.Stored.{EndBefore}
use Rattle.gr_tick.proofs.EditLemmas.{drop_read}
use Rattle.gr_tick.proofs.StepLemmas.{ahead_at, ahead_none, read_alone, piece_more, next_begins}
use Rattle.gr_tick.proofs.SeekLemmas.{piece_none, piece_whole}
use Rattle.gr_tick.proofs.piece.cut_row.Goals as goal

pub loop-i-init : goal.loop-i-init
loop-i-init g c = record {
  upto = c.seek_row-i.ensures.within;
  values = λ t. ap (λ p. value_at g.V.Lattice.least p t) c.new-piece.ensures ∙ piece_none g.V.Lattice.least _ c.args.first c.args.last t c.seek_row-i.ensures.front;
  past = λ s rest e. subst (λ p. EndBefore p s.first) (sym c.new-piece.ensures) tt;
}

pub push_cut-requires-clause-alone : goal.push_cut-requires-clause-alone
push_cut-requires-clause-alone g c = read_alone g.V.Lattice.least c.args.runs.now.items c.loop-i.i c.get-run.result.now (omega arith) c.get-run.ensures c.requires.runs

pub push_cut-requires-clause-past : goal.push_cut-requires-clause-past
push_cut-requires-clause-past g c = c.loop-i.invariant.past c.get-run.result.now _ (drop_read c.args.runs.now.items c.loop-i.i c.get-run.result.now (omega arith) c.get-run.ensures)

pub loop-i-preserved : goal.loop-i-preserved
loop-i-preserved g c = record {
  upto = omega arith;
  values = λ t. piece_more g.V.Lattice.least c.args.runs.now.items c.loop-i.i c.args.first c.args.last t c.get-run.result.now _ _ c.get-run.result.now.value (omega arith) c.get-run.ensures c.requires.runs refl (c.loop-i.invariant.values t) (c.in_ok-push_cut.ensures.ok.values t);
  past = λ s rest e. next_begins g.V.Lattice.least c.args.runs.now.items _ c.loop-i.i c.get-run.result.now (omega arith) c.get-run.ensures c.requires.runs c.in_ok-push_cut.ensures.past s rest e;
}

pub returns-then-last-run : goal.returns-then-last-run
returns-then-last-run g c = record {
  canonical = c.len.ensures.canonical;
  in_range = c.len.ensures.in_range;
  values = λ t.
      c.loop-i.invariant.values t
      ∙ piece_whole g.V.Lattice.least c.args.runs.now.items c.loop-i.i c.loop-i.i c.args.first c.args.last t (omega arith) (ahead_at g.V.Lattice.least c.args.runs.now.items c.loop-i.i c.args.last c.get-run.result.now (omega arith) c.get-run.ensures c.requires.runs c.if-last-run.true);
}

pub returns : goal.returns
returns g c = record {
  canonical = c.len-2.ensures.canonical;
  in_range = c.len-2.ensures.in_range;
  values = λ t.
      c.loop-i.invariant.values t
      ∙ piece_whole g.V.Lattice.least c.args.runs.now.items c.loop-i.i c.loop-i.i c.args.first c.args.last t (omega arith) (ahead_none c.args.runs.now.items c.loop-i.i c.args.last (omega arith));
}
