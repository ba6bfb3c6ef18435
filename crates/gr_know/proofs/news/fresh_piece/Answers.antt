use Rattle.std.proofs.Common.{◌≡◌, ◌<◌, length, get_or, sym, arith}
use Rattle.std.proofs.lemmas.Option.{get_or_from_slice_get}
use Rattle.gr_tick.specs.Stored.{AreTickRuns}
use Rattle.gr_tick.proofs.Canonical.{AreTickRuns-canonical}
use Rattle.gr_tick.proofs.EditLemmas.{drop_read}
use Rattle.gr_tick.proofs.StepLemmas.{next_begins}
use Rattle.gr_know.specs.Values.{known_at}
use Rattle.gr_know.specs.declared.values.K.TheVariants.{Q}
use Rattle.gr_know.proofs.Walks.{news_more}
use Rattle.gr_know.proofs.news.fresh_piece.Goals as goal

pub put_news-requires-clause-past : goal.put_news-requires-clause-past
put_news-requires-clause-past c =
    let xs = c.args.piece.now in
    let r = c.run.result.now in
    let lt : c.loop-i.i < length xs = omega arith in
    c.loop-i.invariant.past r _ (drop_read xs c.loop-i.i r lt (sym (get_or_from_slice_get xs c.loop-i.i r r c.run.ensures.run)))

pub loop-i-preserved : goal.loop-i-preserved
loop-i-preserved c =
    let xs = c.args.piece.now in
    let r = c.run.result.now in
    let h : AreTickRuns Q xs = AreTickRuns-canonical Q xs c.len-i-end.ensures.canonical c.len-i-end.ensures.in_range in
    let lt : c.loop-i.i < length xs = omega arith in
    let e : r ≡ get_or xs c.loop-i.i r = sym (get_or_from_slice_get xs c.loop-i.i r r c.run.ensures.run) in
    record {
      within = omega (arith, lt);
      values = λ t. news_more xs c.loop-i.i t r (known_at c.args.stream.now.runs t) (known_at c.loop-i.fresh t) (known_at c.put_news.new.fresh t) lt e h (c.loop-i.invariant.values t) (c.in_ok-put_news.ensures.values t);
      past = λ s rest d. next_begins Q xs c.put_news.new.fresh c.loop-i.i r lt e h c.in_ok-put_news.ensures.past s rest d;
    }
