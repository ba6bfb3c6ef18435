use Rattle.std.proofs.Common.{◌≡◌, ◌≤◌, ◌<◌, ◌+◌, ◌-◌, max, length, take, get_or, sym, ◌∙◌, arith}
use Rattle.std.proofs.lemmas.Option.{get_or_from_slice_get}
use Rattle.gr_tick.specs.Stored.{AreTickRuns}
use Rattle.gr_tick.proofs.Canonical.{AreTickRuns-canonical}
use Rattle.gr_tick.proofs.EditLemmas.{drop_read}
use Rattle.gr_tick.proofs.RunsLemmas.{value_at_past, EndBefore-later}
use Rattle.gr_tick.proofs.StepLemmas.{ahead_at, ahead_none}
use Rattle.gr_tick.proofs.SeekLemmas.{gap_at, run_at, seek_low}
use Rattle.gr_know.specs.Values.{known_at}
use Rattle.gr_know.specs.declared.values.K.TheVariants.{Q}
use Rattle.gr_know.proofs.Walks.{next_here, news_start, news_put, news_skip, news_all}
use Rattle.gr_know.proofs.news.put_news.Goals as goal

pub loop-i-init : goal.loop-i-init
loop-i-init c = record {
  within = c.seek-i.ensures.within;
  forward = omega arith;
  front = c.seek-i.ensures.front;
  here = c.seek-i.ensures.here;
  news = news_start (known_at c.args.stream.now.runs) c.args.run.now (known_at c.args.fresh.now);
  past = λ t lo. EndBefore-later c.args.fresh.now c.args.run.now.first t c.requires.past lo;
  past_run = λ t lo. EndBefore-later c.args.fresh.now c.args.run.now.first t c.requires.past (omega (arith, c.requires.alone.ordered, lo));
}

pub returns-then-run-known-clause-values : goal.returns-then-run-known-clause-values
returns-then-run-known-clause-values c = λ t.
    let xs = c.args.stream.now.runs in
    let r = c.run-known.result.now in
    let h : AreTickRuns Q xs = AreTickRuns-canonical Q xs c.len.ensures.canonical c.len.ensures.in_range in
    let lt : c.loop-i.i < length xs = omega arith in
    let e : r ≡ get_or xs c.loop-i.i r = sym (get_or_from_slice_get xs c.loop-i.i r r c.run-known.ensures.run) in
    news_all (known_at xs) c.args.run.now (known_at c.args.fresh.now) (known_at c.put_part.new.fresh) (max c.loop-i.next (c.args.run.now.last + 1)) t
    (news_put (known_at xs) c.args.run.now (known_at c.args.fresh.now) (known_at c.loop-i.fresh) (known_at c.put_part.new.fresh) c.loop-i.next c.args.run.now.last c.loop-i.invariant.forward (omega arith) c.loop-i.invariant.news c.in_ok-put_part.ensures.values
    (λ u lo hi. gap_at Q xs c.loop-i.i u (EndBefore-later (take c.loop-i.i xs) c.loop-i.next u c.loop-i.invariant.front lo) (ahead_at Q xs c.loop-i.i u r lt e h (omega (arith, hi, c.if-run-known.true)))))
    (omega arith)

pub loop-i-preserved : goal.loop-i-preserved
loop-i-preserved c =
    let xs = c.args.stream.now.runs in
    let r = c.run-known.result.now in
    let h : AreTickRuns Q xs = AreTickRuns-canonical Q xs c.len.ensures.canonical c.len.ensures.in_range in
    let lt : c.loop-i.i < length xs = omega arith in
    let e : r ≡ get_or xs c.loop-i.i r = sym (get_or_from_slice_get xs c.loop-i.i r r c.run-known.ensures.run) in
    let reach : c.loop-i.next ≤ r.last = c.loop-i.invariant.here r _ (drop_read xs c.loop-i.i r lt e) in
    let begun : r.first ≤ c.args.run.now.last = omega (arith, c.if-run-known.false) in
    let is = c.run-known.ensures.alone in
    record {
      within = omega (arith, lt);
      forward = omega (arith, reach, c.loop-i.invariant.forward);
      front = seek_low Q xs c.loop-i.i (r.last + 1) r lt e h (omega arith);
      here = next_here xs c.loop-i.i r lt e h;
      news = news_skip (known_at xs) c.args.run.now (known_at c.args.fresh.now) (known_at c.put_part-in-loop-i.new.fresh) (max c.loop-i.next (r.first - 1 + 1)) (r.last + 1) (omega (arith, reach, is.ordered, is.from_one))
          (news_put (known_at xs) c.args.run.now (known_at c.args.fresh.now) (known_at c.loop-i.fresh) (known_at c.put_part-in-loop-i.new.fresh) c.loop-i.next (r.first - 1) c.loop-i.invariant.forward (omega (arith, begun)) c.loop-i.invariant.news c.in_ok-put_part-2.ensures.values
          (λ u lo hi. gap_at Q xs c.loop-i.i u (EndBefore-later (take c.loop-i.i xs) c.loop-i.next u c.loop-i.invariant.front lo) (ahead_at Q xs c.loop-i.i u r lt e h (omega (arith, hi, is.from_one)))))
          (λ u lo hi z. is.known (run_at Q xs c.loop-i.i u r lt e h (omega (arith, lo, is.from_one)) (omega (arith, hi)) ∙ z))
          (λ u lo. value_at_past Q c.args.fresh.now c.args.run.now.first u c.requires.past lo);
      past = λ t lo. c.in_ok-put_part-2.ensures.past t (c.loop-i.invariant.past t (omega (arith, reach, lo))) (omega (arith, lo, is.ordered, is.from_one));
      past_run = λ t lo. c.in_ok-put_part-2.ensures.past t (c.loop-i.invariant.past_run t lo) (omega (arith, begun, lo, is.from_one));
    }

pub returns-clause-values : goal.returns-clause-values
returns-clause-values c = λ t.
    let xs = c.args.stream.now.runs in
    news_all (known_at xs) c.args.run.now (known_at c.args.fresh.now) (known_at c.put_part-2.new.fresh) (max c.loop-i.next (c.args.run.now.last + 1)) t
    (news_put (known_at xs) c.args.run.now (known_at c.args.fresh.now) (known_at c.loop-i.fresh) (known_at c.put_part-2.new.fresh) c.loop-i.next c.args.run.now.last c.loop-i.invariant.forward (omega arith) c.loop-i.invariant.news c.in_ok-put_part-3.ensures.values
    (λ u lo hi. gap_at Q xs c.loop-i.i u (EndBefore-later (take c.loop-i.i xs) c.loop-i.next u c.loop-i.invariant.front lo) (ahead_none xs c.loop-i.i u (omega arith))))
    (omega arith)
