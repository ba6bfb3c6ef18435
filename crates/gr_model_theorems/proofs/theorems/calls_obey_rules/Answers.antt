use Rattle.std.proofs.Common.{sym, subst}
use Rattle.std.specs.Prelude.{List}
use Rattle.gr_model.specs.declared.report.Report.{Report}
use Rattle.gr_model_theorems.specs.Obeys.{CallsObey}
use Rattle.gr_model_theorems.specs.Statements.{joined_net}
use Rattle.gr_model_theorems.proofs.sweep.Obeying.{always_obeys}
use Rattle.gr_model_theorems.proofs.joins.AsOne.{as_one}
use Rattle.gr_model_theorems.proofs.theorems.calls_obey_rules.Goals as goal

pub returns : goal.returns
returns c = λ net steps r.
    let x = as_one net steps r.tree r.steps_in in
    subst (λ (rs : List (List Report)). CallsObey (joined_net net steps) steps rs) (sym x.report) (always_obeys (joined_net net steps) steps x.tree r.quiet x.steps_in)
