-- The brokers that are kept are those of the journal
use Rattle.std.proofs.Common.{ℕ, List, [], ◌∷◌, ◌++◌, if◌then◌else◌, ap, ◌∙◌}
use Rattle.gr_out.proofs.Posts.{post_bound}
use Rattle.gr_out.proofs.mem_post.MemPostPost.bind.Goals as goal

pub invariant_of-self-2 : goal.invariant_of-self-2
invariant_of-self-2 c =
    post_bound _ _ _ _ _ _ _ c.args.broker c.args.address.now c.args.here c.contains-fails.result c.answer-answer.result c.self.invariant (c.host.ensures ∙ ap (λ (bs : List ℕ). bs ++ (if c.contains-fails.result then [] else (if c.args.here then c.args.broker ∷ [] else []))) c.reserve.ensures.items) c.answer-answer.ensures c.then-self-inside.ensures
