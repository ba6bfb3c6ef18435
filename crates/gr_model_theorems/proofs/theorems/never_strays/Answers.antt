use Rattle.std.proofs.Common.{sym, subst}
use Rattle.gr_model.specs.World.{Transition}
use Rattle.gr_model_calls.proofs.topology.Strays.{no_strays}
use Rattle.gr_model_theorems.specs.Statements.{joined_net, NothingStrays}
use Rattle.gr_model_theorems.proofs.joins.AsOne.{as_one}
use Rattle.gr_model_theorems.proofs.theorems.never_strays.Goals as goal

pub returns : goal.returns
returns c = λ net steps r.
    let x = as_one net steps r.tree r.steps_in in
    let one = joined_net net steps in
    subst (λ (t : Transition). NothingStrays net t.world) (sym x.run)
    (λ k f e. let y = no_strays one steps k f x.tree x.steps_in e in record { publisher = y.publisher; from = y.from; to = y.to; between = y.between; joins = y.joins })
