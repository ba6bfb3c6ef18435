-- No log is found damaged by a call
use Rattle.std.proofs.Common.{Result, Err, ap, ◌∙◌}
use Rattle.gr_broker_relay.specs.declared.outcome.Outcome.{Outcome}
use Rattle.gr_broker.specs.declared.outcome.BrokerFault.{BrokerFault}
use Rattle.gr_broker.specs.Told.{log_answer}
use Rattle.gr_node.proofs.calling.answered.Goals as goal

pub unreachable-requires-in-Damaged : goal.unreachable-requires-in-Damaged
unreachable-requires-in-Damaged c =
    c.requires.undamaged c.in-Damaged.at
    (ap (λ (r : Result Outcome BrokerFault). log_answer r) (c.in-Err.is ∙ ap (λ (e : BrokerFault). Err e) c.in-Damaged.is))
