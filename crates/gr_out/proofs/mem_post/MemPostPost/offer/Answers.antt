-- The offers that are kept are those of the journal
use Rattle.gr_out.proofs.Posts.{post_offered}
use Rattle.gr_out.proofs.mem_post.MemPostPost.offer.Goals as goal

pub invariant_of-self-2 : goal.invariant_of-self-2
invariant_of-self-2 c =
    post_offered _ _ _ _ _ _ _ c.args.from c.args.to c.args.bytes.now c.contains-fails.result c.answer-answer.result c.self.invariant c.in-Ok.ensures.ok c.answer-answer.ensures c.then-self-inside.ensures
