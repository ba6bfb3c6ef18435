use Rattle.std.proofs.Common.{◌≡◌, ◌<◌, suc, ◌+◌, ◌-◌, length, take, get_or, sym, ap, ◌∙◌, arith}
use Rattle.std.proofs.lemmas.Option.{get_or_from_slice_get}
use Rattle.std.proofs.lemmas.List.{take_all}
use Rattle.gr_tick.specs.Stored.{AreTickRuns}
use Rattle.gr_tick.proofs.Canonical.{AreTickRuns-canonical}
use Rattle.gr_tick.proofs.RunsLemmas.{value_at_past}
use Rattle.gr_tick.proofs.StepLemmas.{ahead_at}
use Rattle.gr_know.specs.Values.{Known, known_at}
use Rattle.gr_know.specs.Events.{events_from}
use Rattle.gr_know.specs.declared.values.K.TheVariants.{Q}
use Rattle.gr_know.proofs.Walks.{front_value}
use Rattle.gr_know.proofs.Counting.{events_unknown, events_same, events_more, events_le}
use Rattle.gr_know.proofs.events.events_in.Goals as goal

pub loop-i-init : goal.loop-i-init
loop-i-init c = record {
  within = c.seek-i.ensures.within;
  counted = sym (events_unknown (known_at (take c.seek-i.result c.args.stream.now.runs)) (suc c.args.last - c.args.first) c.args.first (λ t lo hi. value_at_past Q (take c.seek-i.result c.args.stream.now.runs) c.args.first t c.seek-i.ensures.front lo));
}

pub returns-then-last-run : goal.returns-then-last-run
returns-then-last-run c =
    let xs = c.args.stream.now.runs in
    let r = c.run-run.result.now in
    let h : AreTickRuns Q xs = AreTickRuns-canonical Q xs c.len.ensures.canonical c.len.ensures.in_range in
    let lt : c.loop-i.i < length xs = omega arith in
    let e : r ≡ get_or xs c.loop-i.i r = sym (get_or_from_slice_get xs c.loop-i.i r r c.run-run.ensures.run) in
    c.loop-i.invariant.counted
    ∙ sym (events_same (known_at xs) (known_at (take c.loop-i.i xs)) (suc c.args.last - c.args.first) c.args.first
    (λ t lo hi. front_value xs c.loop-i.i c.args.last t (ahead_at Q xs c.loop-i.i c.args.last r lt e h c.if-last-run.true) (omega (arith, lo, hi, c.requires.ordered))))

pub overflow_add-count : goal.overflow_add-count
overflow_add-count c =
    let xs = c.args.stream.now.runs in
    let r = c.run-run.result.now in
    let h : AreTickRuns Q xs = AreTickRuns-canonical Q xs c.len.ensures.canonical c.len.ensures.in_range in
    let lt : c.loop-i.i < length xs = omega arith in
    let e : r ≡ get_or xs c.loop-i.i r = sym (get_or_from_slice_get xs c.loop-i.i r r c.run-run.ensures.run) in
    let more = events_more xs c.loop-i.i r c.args.first c.args.last lt e h c.requires.ordered in
    omega (arith, more, c.loop-i.invariant.counted, c.events_shared-count.ensures, events_le (known_at (take (c.loop-i.i + 1) xs)) (suc c.args.last - c.args.first) c.args.first, c.requires.upto)

pub loop-i-preserved : goal.loop-i-preserved
loop-i-preserved c =
    let xs = c.args.stream.now.runs in
    let r = c.run-run.result.now in
    let h : AreTickRuns Q xs = AreTickRuns-canonical Q xs c.len.ensures.canonical c.len.ensures.in_range in
    let lt : c.loop-i.i < length xs = omega arith in
    let e : r ≡ get_or xs c.loop-i.i r = sym (get_or_from_slice_get xs c.loop-i.i r r c.run-run.ensures.run) in
    let more = events_more xs c.loop-i.i r c.args.first c.args.last lt e h c.requires.ordered in
    record {
      within = omega (arith, lt);
      counted = omega (arith, more, c.loop-i.invariant.counted, c.events_shared-count.ensures);
    }

pub returns : goal.returns
returns c =
    c.loop-i.invariant.counted
    ∙ ap (λ (zs : Known). events_from (known_at zs) c.args.first (suc c.args.last - c.args.first)) (take_all c.loop-i.i c.args.stream.now.runs (omega arith))
