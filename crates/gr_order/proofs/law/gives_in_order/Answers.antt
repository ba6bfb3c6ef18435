use Rattle.std.proofs.Common.{[]}
use Rattle.gr_order.specs.Merge.{fresh}
use Rattle.gr_order.specs.Law.{taken, given, after_calls}
use Rattle.gr_order.proofs.Following.{follows_fresh, follows_all, merged}
use Rattle.gr_order.proofs.law.gives_in_order.Goals as goal

pub returns : goal.returns
returns c = λ publishers calls may.
    let start = fresh publishers in
    merged (taken calls) (given start calls) (after_calls start calls) (follows_all calls [] [] start may (follows_fresh publishers))
