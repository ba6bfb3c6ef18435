use Rattle.std.proofs.Common.{◌≡◌, ◌<◌, length, get_or, sym, ap, ◌∙◌, subst, arith}
use Rattle.std.proofs.lemmas.List.{take_all}
use Rattle.std.proofs.lemmas.Option.{get_or_from_slice_get}
use Rattle.gr_tick.specs.Stored.{AreTickRuns}
use Rattle.gr_tick.proofs.Canonical.{AreTickRuns-canonical}
use Rattle.gr_tick.proofs.SeekLemmas.{run_at}
use Rattle.gr_know.specs.Values.{is_D}
use Rattle.gr_know.specs.declared.values.K.TheVariants.{Q}
use Rattle.gr_know.proofs.DataBelow.{Dataless, front_dataless, dataless_more, dataless_before, dataless_all}
use Rattle.gr_know.proofs.forgetting.first_data.Goals as goal

pub loop-i-init : goal.loop-i-init
loop-i-init c = record {
  within = c.seek-i.ensures.within;
  none = front_dataless c.args.from 1 c.seek-i.result c.args.stream.now.runs c.len.ensures.canonical c.seek-i.ensures.front c.requires.none;
}

pub returns-then-is_data-clause-none : goal.returns-then-is_data-clause-none
returns-then-is_data-clause-none c =
    let xs = c.args.stream.now.runs in
    let r = c.run-run.result.now in
    let lt : c.loop-i.i < length xs = omega arith in
    let e : r ≡ get_or xs c.loop-i.i r = sym (get_or_from_slice_get xs c.loop-i.i r r c.run-run.ensures.run) in
    dataless_before 1 c.loop-i.i xs r c.len.ensures.canonical lt e c.loop-i.invariant.none

pub returns-then-is_data-clause-event : goal.returns-then-is_data-clause-event
returns-then-is_data-clause-event c = λ small.
    let xs = c.args.stream.now.runs in
    let r = c.run-run.result.now in
    let h : AreTickRuns Q xs = AreTickRuns-canonical Q xs c.len.ensures.canonical c.len.ensures.in_range in
    let lt : c.loop-i.i < length xs = omega arith in
    let e : r ≡ get_or xs c.loop-i.i r = sym (get_or_from_slice_get xs c.loop-i.i r r c.run-run.ensures.run) in
    sym (ap is_D (run_at Q xs c.loop-i.i r.first r lt e h (omega arith) c.run-run.ensures.alone.ordered)) ∙ (sym c.is_data.ensures ∙ c.if-is_data.true)

pub loop-i-preserved : goal.loop-i-preserved
loop-i-preserved c =
    let xs = c.args.stream.now.runs in
    let r = c.run-run.result.now in
    let lt : c.loop-i.i < length xs = omega arith in
    let e : r ≡ get_or xs c.loop-i.i r = sym (get_or_from_slice_get xs c.loop-i.i r r c.run-run.ensures.run) in
    record {
      within = omega (arith, lt);
      none = dataless_more c.loop-i.i xs r lt e (sym c.is_data.ensures ∙ c.if-is_data.false) c.loop-i.invariant.none;
    }

pub returns-clause-none : goal.returns-clause-none
returns-clause-none c =
    let xs = c.args.stream.now.runs in
    dataless_all _ xs (subst Dataless (take_all c.loop-i.i xs (omega arith)) c.loop-i.invariant.none)
