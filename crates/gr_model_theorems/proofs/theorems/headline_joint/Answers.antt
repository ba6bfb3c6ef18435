use Rattle.gr_model_theorems.proofs.joins.Joint.{headline_joint as by_turns, joint_does, joint_same}
use Rattle.gr_model_theorems.proofs.theorems.headline_joint.Goals as goal

pub returns-clause-headline : goal.returns-clause-headline
returns-clause-headline c = λ net processes steps turns r. let a = r.asked in by_turns net processes steps turns a.tree (record { brokers = r.brokers; publishers = r.publishers; late = r.late }) a.quiet a.retry a.steps_in r.numbers_in r.hosted r.bytes r.honest

pub returns-clause-calls : goal.returns-clause-calls
returns-clause-calls c = λ net processes steps turns r. let a = r.asked in joint_does net processes steps turns a.tree (record { brokers = r.brokers; publishers = r.publishers; late = r.late }) a.quiet a.retry a.steps_in r.numbers_in r.hosted r.bytes r.honest

pub returns-clause-same : goal.returns-clause-same
returns-clause-same c = λ net processes steps turns r. let a = r.asked in joint_same net processes steps turns a.tree (record { brokers = r.brokers; publishers = r.publishers; late = r.late }) a.quiet a.retry a.steps_in r.numbers_in r.hosted r.bytes r.honest
