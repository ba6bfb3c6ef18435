use Rattle.std.proofs.Common.{◌≡◌, ◌≤◌, ◌<◌, length, take, get_or, sym, ap, ◌∙◌, arith}
use Rattle.std.proofs.lemmas.Option.{get_or_from_slice_get}
use Rattle.gr_tick.specs.Stored.{AreTickRuns}
use Rattle.gr_tick.proofs.Canonical.{AreTickRuns-canonical}
use Rattle.gr_tick.proofs.EditLemmas.{drop_read}
use Rattle.gr_tick.proofs.RunsLemmas.{value_at_past}
use Rattle.gr_tick.proofs.StepLemmas.{ahead_at}
use Rattle.gr_know.specs.Values.{clash_K}
use Rattle.gr_know.specs.declared.values.K.TheVariants.{Q}
use Rattle.gr_know.proofs.Walks.{front_value, in_run, next_here, no_clash_known, clash_found}
use Rattle.gr_know.proofs.news.clash_of.Goals as goal

pub loop-i-init : goal.loop-i-init
loop-i-init c = record {
  within = c.seek-i.ensures.within;
  here = c.seek-i.ensures.here;
  none = λ t y. ap (λ k. clash_K k c.args.run.now.value) (value_at_past Q (take c.seek-i.result c.args.stream.now.runs) c.args.run.now.first t c.seek-i.ensures.front (in_run c.args.run.now t y).0);
}

pub returns-then-run-known : goal.returns-then-run-known
returns-then-run-known c = λ t y.
    let xs = c.args.stream.now.runs in
    let r = c.run-known.result.now in
    let h : AreTickRuns Q xs = AreTickRuns-canonical Q xs c.len.ensures.canonical c.len.ensures.in_range in
    let lt : c.loop-i.i < length xs = omega arith in
    let e : r ≡ get_or xs c.loop-i.i r = sym (get_or_from_slice_get xs c.loop-i.i r r c.run-known.ensures.run) in
    ap (λ k. clash_K k c.args.run.now.value) (front_value xs c.loop-i.i c.args.run.now.last t (ahead_at Q xs c.loop-i.i c.args.run.now.last r lt e h c.if-run-known.true) (in_run c.args.run.now t y).1)
    ∙ c.loop-i.invariant.none t y

pub returns-then-clashing : goal.returns-then-clashing
returns-then-clashing c =
    let xs = c.args.stream.now.runs in
    let r = c.run-known.result.now in
    let h : AreTickRuns Q xs = AreTickRuns-canonical Q xs c.len.ensures.canonical c.len.ensures.in_range in
    let lt : c.loop-i.i < length xs = omega arith in
    let e : r ≡ get_or xs c.loop-i.i r = sym (get_or_from_slice_get xs c.loop-i.i r r c.run-known.ensures.run) in
    let reach : c.args.run.now.first ≤ r.last = c.loop-i.invariant.here r _ (drop_read xs c.loop-i.i r lt e) in
    let begun : r.first ≤ c.args.run.now.last = omega (arith, c.if-run-known.false) in
    clash_found xs c.loop-i.i r c.args.run.now c.max.result c.share.result c.share-then-clashing.result lt e h begun c.requires.ordered c.run-known.ensures.alone.ordered reach c.max.ensures c.share.ensures c.share-then-clashing.ensures (sym c.clashing.ensures ∙ c.if-clashing.true) c.loop-i.invariant.none

pub loop-i-preserved : goal.loop-i-preserved
loop-i-preserved c =
    let xs = c.args.stream.now.runs in
    let r = c.run-known.result.now in
    let h : AreTickRuns Q xs = AreTickRuns-canonical Q xs c.len.ensures.canonical c.len.ensures.in_range in
    let lt : c.loop-i.i < length xs = omega arith in
    let e : r ≡ get_or xs c.loop-i.i r = sym (get_or_from_slice_get xs c.loop-i.i r r c.run-known.ensures.run) in
    let reach : c.args.run.now.first ≤ r.last = c.loop-i.invariant.here r _ (drop_read xs c.loop-i.i r lt e) in
    record {
      within = omega (arith, lt);
      here = λ s rest d. omega (arith, reach, next_here xs c.loop-i.i r lt e h s rest d);
      none = λ t y. no_clash_known xs c.loop-i.i t r c.args.run.now.value lt e h (sym c.clashing.ensures ∙ c.if-clashing.false) (c.loop-i.invariant.none t y);
    }
