use Rattle.std.proofs.Common.{sym, subst}
use Rattle.gr_model.specs.World.{Transition, start}
use Rattle.gr_model_calls.specs.OneNet.{run_all}
use Rattle.gr_model_calls.proofs.runs.Schedules.{always_true}
use Rattle.gr_model_calls.proofs.runs.Clash.{no_frame_clashes, no_frame_splits}
use Rattle.gr_model_theorems.specs.Statements.{joined_net, NothingClashes, NothingSplits}
use Rattle.gr_model_theorems.proofs.joins.AsOne.{as_one}
use Rattle.gr_model_theorems.proofs.theorems.never_clashes.Goals as goal

pub returns-clause-clashes : goal.returns-clause-clashes
returns-clause-clashes c = λ net steps r.
    let x = as_one net steps r.tree r.steps_in in
    let one = joined_net net steps in
    subst (λ (t : Transition). NothingClashes net t.world) (sym x.run)
    (λ k f runs js at is. no_frame_clashes one (run_all one (start one) steps).world k f runs x.tree (always_true one steps x.tree x.steps_in) at is)

pub returns-clause-splits : goal.returns-clause-splits
returns-clause-splits c = λ net steps r.
    let x = as_one net steps r.tree r.steps_in in
    let one = joined_net net steps in
    subst (λ (t : Transition). NothingSplits net t.world) (sym x.run)
    (λ k f runs js at is. no_frame_splits one (run_all one (start one) steps).world k f runs js x.tree (always_true one steps x.tree x.steps_in) at is)
