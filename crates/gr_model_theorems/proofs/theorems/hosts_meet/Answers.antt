use Rattle.std.proofs.Common.{sym, subst}
use Rattle.gr_model.specs.World.{Transition}
use Rattle.gr_model_theorems.specs.Statements.{joined_net, HostsMeet}
use Rattle.gr_model_theorems.proofs.cuts.CutOrder.{hosts_always_meet}
use Rattle.gr_model_theorems.proofs.joins.AsOne.{as_one}
use Rattle.gr_model_theorems.proofs.theorems.hosts_meet.Goals as goal

pub returns : goal.returns
returns c = λ net steps r.
    let x = as_one net steps r.tree r.steps_in in
    subst (λ (t : Transition). HostsMeet net t.world) (sym x.run) (λ p j y. hosts_always_meet (joined_net net steps) steps x.tree x.steps_in p j y)
