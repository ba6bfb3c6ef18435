use Rattle.gr_model_theorems.proofs.joins.Served.{holds_over_lanes, holds_served_lanes}
use Rattle.gr_model_theorems.proofs.theorems.headline_over_lanes.Goals as goal

pub returns-clause-schedules : goal.returns-clause-schedules
returns-clause-schedules c = λ net logs steps r. holds_over_lanes net logs steps r.asked.tree r.asked.quiet r.asked.retry r.found r.asked.steps_in

pub returns-clause-served : goal.returns-clause-served
returns-clause-served c = λ net logs steps arrivals r.
    let o = r.over in
    holds_served_lanes net logs steps arrivals o.asked.tree (record { brokers = r.brokers; publishers = r.publishers; late = r.late }) o.asked.quiet o.asked.retry o.found o.asked.steps_in r.numbers_in r.bytes r.honest
