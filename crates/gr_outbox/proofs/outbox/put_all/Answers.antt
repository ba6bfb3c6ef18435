-- Each turn puts the next frame
use Rattle.std.proofs.Common.{◌++◌, length, ap, sym, ◌∙◌, append-nil, arith}
use Rattle.std.specs.Vec.Iter.{into_iter_items}
use Rattle.gr_outbox.proofs.Telling.{nothing_left, put_more}
use Rattle.gr_outbox.proofs.outbox.put_all.Goals as goal

pub frames-preserved : goal.frames-preserved
frames-preserved c =
    let taken = c.in-Some.ensures.steps.0 in
    let gone = c.in-Some.ensures.steps.1 in
    let short = ap length taken in
    let was = c.frames.invariant.count in
    record {
      put = put_more c.frames.said.items c.push.new.self.items _ _ _ c.in-Some.frame taken c.in_ok-push.ensures.ok c.frames.invariant.put;
      count = omega (arith, was, gone, short);
    }

pub returns : goal.returns
returns c =
    let empty = nothing_left (into_iter_items c.frames.frame-iterator) (sym c.frames.invariant.count ∙ c.in-None.ensures.steps.0) in
    sym (append-nil c.frames.said.items) ∙ ap (λ l. c.frames.said.items ++ l) (sym empty) ∙ c.frames.invariant.put
    ∙ ap (λ l. c.args.said.now.items ++ l) c.into_iter-frame-iterator.ensures.into_iter_gives.0
