-- No call below a receipt looks at the log
use Rattle.std.proofs.Common.{ap}
use Rattle.gr_model.specs.Broker.{Outcome}
use Rattle.gr_broker.proofs.Receipts.{receive_on_log}
use Rattle.gr_broker.proofs.law.frames_pass_the_log.Goals as goal

pub returns-clause-log : goal.returns-clause-log
returns-clause-log c = λ net now f v log. ap (λ (o : Outcome). o.log) (receive_on_log net now f v log)

pub returns-clause-rest : goal.returns-clause-rest
returns-clause-rest c = λ net now f v log.
    let e = receive_on_log net now f v log in
    (ap (λ (o : Outcome). o.view) e, ap (λ (o : Outcome). o.lines) e, ap (λ (o : Outcome). o.frames) e)
