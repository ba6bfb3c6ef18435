use Rattle.std.proofs.Common.{sym, subst}
use Rattle.gr_model.specs.World.{Transition}
use Rattle.gr_model_calls.specs.Fits.{WorldFits}
use Rattle.gr_model_calls.proofs.runs.Schedules.{always_true as by_steps}
use Rattle.gr_model_theorems.specs.Statements.{joined_net}
use Rattle.gr_model_theorems.proofs.joins.AsOne.{as_one}
use Rattle.gr_model_theorems.proofs.theorems.always_true.Goals as goal

pub returns : goal.returns
returns c = λ net steps r.
    let x = as_one net steps r.tree r.steps_in in
    subst (λ (t : Transition). WorldFits (joined_net net steps) t.world) (sym x.run) (by_steps (joined_net net steps) steps x.tree x.steps_in)
