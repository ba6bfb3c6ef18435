use Rattle.std.proofs.Common.{◌∙◌}
use Rattle.gr_trace.proofs.Waiting.{made_more, made_some}
use Rattle.gr_trace.proofs.writing.offer_all.Goals as goal

pub offers-preserved : goal.offers-preserved
offers-preserved g c = record {
  sent = λ tells. made_more c.args.offers.now c.offers.waiting-index c.waiting-item.result c.as_slice.result.now (g.P.Post.journal c.args.post.now) (g.P.Post.journal c.offers.post) (g.P.Post.journal c.offer.new.post)
      c.offers-test.true c.waiting-item.is c.as_slice.ensures (c.offers.invariant.sent tells) (c.in-Ok.ensures.sent tells);
  same = c.offer.ensures.post ∙ c.offers.invariant.same;
}

pub returns-in-Err-clause-front : goal.returns-in-Err-clause-front
returns-in-Err-clause-front g c = λ tells.
    made_some c.args.offers.now c.offers.waiting-index (g.P.Post.journal c.args.post.now) (g.P.Post.journal c.offers.post) (g.P.Post.journal c.offer.new.post) (c.offers.invariant.sent tells) (c.in-Err.ensures.unsent tells)

pub returns-in-Err-clause-post : goal.returns-in-Err-clause-post
returns-in-Err-clause-post g c = c.offer.ensures.post ∙ c.offers.invariant.same
