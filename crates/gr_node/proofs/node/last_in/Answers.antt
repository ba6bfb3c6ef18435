use Rattle.std.proofs.Common.{sym, ap, ◌∙◌, arith}
use Rattle.std.specs.Prelude.{Option}
use Rattle.gr_publog.specs.Views.{LogView}
use Rattle.gr_pubend.specs.Log.{Log}
use Rattle.gr_broker.specs.Seen.{log_said}
use Rattle.gr_node.proofs.Notes.{last_upto}
use Rattle.gr_node.proofs.node.last_in.Goals as goal

pub returns-clause-last : goal.returns-clause-last
returns-clause-last c = c.last.ensures ∙ sym (ap (λ (o : Option LogView). let l : Log = log_said o in l.last) c.log-log.ensures)

pub returns-clause-most : goal.returns-clause-most
returns-clause-most c =
    let upto = last_upto _ c.is_broken.ensures.state in
    let is = c.last.ensures in
    omega (arith, upto, is)
