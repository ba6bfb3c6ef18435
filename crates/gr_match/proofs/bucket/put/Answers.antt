use Rattle.std.proofs.Common.{◌<◌, length, sym, ◌∙◌, arith}
use Rattle.std.proofs.lemmas.Result.{on_ok_weaker}
use Rattle.gr_match.specs.Needed.{pair_of}
use Rattle.gr_match.proofs.Adding.{put_here}
use Rattle.gr_match.proofs.bucket.put.Goals as goal

pub returns-then-is_of-clause-ok : goal.returns-then-is_of-clause-ok
returns-then-is_of-clause-ok c =
    let bs = c.loop-i.buckets.items in
    let inside : c.loop-i.i < length bs = omega arith in
    on_ok_weaker c.push.result
    (λ e. put_here (pair_of c.args.pair) c.args.place c.loop-i.i bs _ c.index.result.now c.index_mut.result.now c.push.new.self inside c.index.ensures c.index_mut.ensures.value (sym c.is_of.ensures ∙ c.if-is_of.true) e c.loop-i.invariant.left)
    c.push.ensures.ok
