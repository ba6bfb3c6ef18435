use Rattle.gr_model_theorems.proofs.joins.Served.{headline_served as by_arrivals, served_does}
use Rattle.gr_model_theorems.proofs.theorems.headline_served.Goals as goal

pub returns-clause-headline : goal.returns-clause-headline
returns-clause-headline c = λ net logs steps arrivals r. let a = r.over.asked in by_arrivals net logs steps arrivals a.tree (record { brokers = r.brokers; publishers = r.publishers; late = r.late }) a.quiet a.retry r.over.reopened_cuts a.steps_in r.numbers_in r.bytes r.honest

pub returns-clause-calls : goal.returns-clause-calls
returns-clause-calls c = λ net logs steps arrivals r. let a = r.over.asked in served_does net logs steps arrivals a.tree (record { brokers = r.brokers; publishers = r.publishers; late = r.late }) a.quiet a.retry r.over.reopened_cuts a.steps_in r.numbers_in r.bytes r.honest
