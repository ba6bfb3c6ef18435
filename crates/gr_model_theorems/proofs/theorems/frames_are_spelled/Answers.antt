use Rattle.std.proofs.Common.{sym, subst}
use Rattle.gr_model.specs.World.{Transition}
use Rattle.gr_model_theorems.specs.Statements.{joined_net, AllSpelled, AllDecode}
use Rattle.gr_model_theorems.proofs.limits.Spelled.{always_spelled, always_decodes}
use Rattle.gr_model_theorems.proofs.joins.AsOne.{as_one, late_in}
use Rattle.gr_model_theorems.proofs.theorems.frames_are_spelled.Goals as goal

pub returns-clause-spelled : goal.returns-clause-spelled
returns-clause-spelled c = λ net steps r.
    let x = as_one net steps r.run.tree r.run.steps_in in
    let one = joined_net net steps in
    subst (λ (t : Transition). AllSpelled t.world) (sym x.run)
    (λ k f e. always_spelled one steps k f x.tree r.brokers r.publishers (late_in net one.wants r.late) x.steps_in r.numbers_in e)

pub returns-clause-decodes : goal.returns-clause-decodes
returns-clause-decodes c = λ net steps r.
    let x = as_one net steps r.run.tree r.run.steps_in in
    let one = joined_net net steps in
    subst (λ (t : Transition). AllDecode t.world) (sym x.run)
    (λ k f e. always_decodes one steps k f x.tree r.brokers r.publishers (late_in net one.wants r.late) x.steps_in r.numbers_in e)
