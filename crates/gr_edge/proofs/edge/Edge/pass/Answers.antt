use Rattle.std.proofs.Common.{◌≡◌, ◌<◌, length, get_or, sym, arith}
use Rattle.std.proofs.lemmas.Option.{get_or_from_slice_get}
use Rattle.gr_tick.specs.Stored.{AreTickRuns}
use Rattle.gr_tick.proofs.EditLemmas.{drop_read}
use Rattle.gr_tick.proofs.StepLemmas.{next_begins}
use Rattle.gr_tick.proofs.Canonical.{AreTickRuns-canonical}
use Rattle.gr_know.specs.declared.values.K.TheVariants.{Q}
use Rattle.gr_edge.proofs.Passing.{passed_more}
use Rattle.gr_edge.proofs.edge.Edge.pass.Goals as goal

pub put_from-requires-clause-past : goal.put_from-requires-clause-past
put_from-requires-clause-past c =
    let r = c.run-run.result.now in
    c.loop-i.invariant.past r _ (drop_read c.args.piece.now c.loop-i.i r (omega arith) (sym (get_or_from_slice_get c.args.piece.now c.loop-i.i r r c.run-run.ensures.run)))

pub loop-i-preserved : goal.loop-i-preserved
loop-i-preserved c =
    let r = c.run-run.result.now in
    let inside : c.loop-i.i < length c.args.piece.now = omega arith in
    let read : r ≡ get_or c.args.piece.now c.loop-i.i r = sym (get_or_from_slice_get c.args.piece.now c.loop-i.i r r c.run-run.ensures.run) in
    let runs : AreTickRuns Q c.args.piece.now = AreTickRuns-canonical Q c.args.piece.now c.len-i-end.ensures.canonical c.len-i-end.ensures.in_range in
    record {
      upto = omega arith;
      values = λ t. passed_more c.args.self.now c.args.joins.now c.args.piece.now c.loop-i.i t c.passes_from.result r _ _ runs inside c.run-run.ensures.run c.run-run.ensures.alone c.passes_from.ensures
          (c.loop-i.invariant.values t) (c.in_ok-put_from.ensures.ok.values t);
      past = λ s rest e. next_begins Q c.args.piece.now _ c.loop-i.i r inside read runs c.in_ok-put_from.ensures.past s rest e;
    }
