use Rattle.gr_model_theorems.proofs.joins.Served.{ordered_lanes, ordered_served_lanes}
use Rattle.gr_model_theorems.proofs.theorems.ordered_over_lanes.Goals as goal

pub returns-clause-schedules : goal.returns-clause-schedules
returns-clause-schedules c = λ net totals logs steps r a. ordered_lanes net totals logs steps r.asked.tree r.asked.quiet r.found r.asked.steps_in a.apart a.there

pub returns-clause-served : goal.returns-clause-served
returns-clause-served c = λ net totals logs steps arrivals r a.
    let o = r.over in
    ordered_served_lanes net totals logs steps arrivals o.asked.tree (record { brokers = r.brokers; publishers = r.publishers; late = r.late }) o.asked.quiet o.asked.retry o.found o.asked.steps_in r.numbers_in r.bytes a.apart a.there r.honest
