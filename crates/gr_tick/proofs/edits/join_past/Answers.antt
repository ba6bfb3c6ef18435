use Rattle.std.proofs.Common.{cond, length, ap, sym, ◌∙◌, subst, arith}
use Rattle.std.proofs.lemmas.List.{take_all, drop_all}
use Rattle.gr_tick.specs.Runs.{value_at}
use Rattle.gr_tick.specs.Stored.{EndBefore, BeginAfter, within}
use Rattle.gr_tick.proofs.EditLemmas.{drop_read}
use Rattle.gr_tick.proofs.StepLemmas.{read_alone, each_more, gap_values, next_begins}
use Rattle.gr_tick.proofs.edits.join_past.Goals as goal

pub put_end-requires-clause-past : goal.put_end-requires-clause-past
put_end-requires-clause-past g c = c.loop-i.invariant.past c.get-other.result.now _ (drop_read c.args.others.now.items c.loop-i.i c.get-other.result.now (omega arith) c.get-other.ensures)

pub put_end-requires-clause-alone : goal.put_end-requires-clause-alone
put_end-requires-clause-alone g c =
    let alone = read_alone g.V.Lattice.least c.args.others.now.items c.loop-i.i c.get-other.result.now (omega arith) c.get-other.ensures c.requires.others in
    record {
      from_one = alone.from_one;
      ordered = alone.ordered;
      upto = alone.upto;
      known = λ e. alone.known (sym c.share.ensures ∙ e);
    }

pub loop-i-preserved : goal.loop-i-preserved
loop-i-preserved g c =
    let least = g.V.Lattice.least in
    let runs = c.loop-i.runs.items in
    let o = c.get-other.result.now in
    let ended = c.loop-i.invariant.past o _ (drop_read c.args.others.now.items c.loop-i.i o (omega arith) c.get-other.ensures) in
    let front = subst (λ xs. EndBefore xs o.first) (sym (take_all (length runs) runs (omega arith))) ended in
    let ahead = subst (λ xs. BeginAfter xs o.last) (sym (drop_all (length runs) runs (omega arith))) tt in
    record {
      runs = c.put_end.ensures.runs;
      values = λ t. each_more least g.V.Lattice.join_of g.V.Lattice.is_at_most c.args.others.now.items c.loop-i.i t o _ _ _ g.met.V.Lattice.laws (omega arith) c.get-other.ensures c.requires.others (c.loop-i.invariant.values t)
          (gap_values least g.V.Lattice.join_of g.V.Lattice.is_at_most o.value runs c.put_end.new.runs.items (length runs) o.first o.last g.met.V.Lattice.laws front ahead
          (λ u. c.put_end.ensures.values u ∙ ap (λ w. cond (within o.first o.last u) w (value_at least runs u)) c.share.ensures) t);
      past = λ s rest e. next_begins least c.args.others.now.items _ c.loop-i.i o (omega arith) c.get-other.ensures c.requires.others c.put_end.ensures.past s rest e;
      room = omega (arith, c.loop-i.invariant.room, c.put_end.ensures.spare);
      spare = omega (arith, c.loop-i.invariant.spare, c.put_end.ensures.spare);
    }
