-- What each list over all publishers says where logs were found: of a schedule that begins on them, and of a server
use Rattle.std.specs.Prelude.{◌≡◌, ℕ, List, [], ◌∷◌, ◌++◌}
use Rattle.gr_sched.specs.declared.step.Line.{Line}
use Rattle.gr_model.specs.declared.report.Report.{Report}
use Rattle.gr_model.specs.Net.{Net, numbers}
use Rattle.gr_model.specs.Broker.{Log}
use Rattle.gr_model.specs.Opening.{begin_over}
use Rattle.gr_model.specs.Arrivals.{Arrival, requests_of, left_after, served, Request}
use Rattle.gr_model_calls.specs.OneNet.{IsOrdered, TotallyOrdered_from}
use Rattle.gr_model.specs.Headline.{History}
use Rattle.gr_model.specs.Orders.{orders_over, ordered_steps}
use Rattle.gr_model.specs.Ordered.{OneOrder}
use Rattle.gr_model_theorems.specs.Served.{ArrivalHolds}
use Rattle.gr_model_theorems.specs.Statements.{started_over, lines_over, over_net}
use Rattle.gr_model_theorems.specs.Forgets.{kept_logs}
use Rattle.gr_model_theorems.specs.Lanes.{lanes_net}

-- Of a report, what is told in one order of these subscribers behind the lines of each step
abbrev pub told_in_order : Net → List ℕ → List (List Report) → List (List Report)
told_in_order net totals rs = ordered_steps (orders_over net.publishers totals) rs

-- A schedule over lanes

-- the lines of the opening, and then those of each step
abbrev pub opened_report : Net → List Log → List Line → List (List Report)
opened_report net logs steps =
    (started_over net logs).lines ∷ lines_over net logs steps

-- each of these subscribers was told exactly what all publishers have up to where it has heard them all, after the
-- opening and after each step; the record begins with what was found
abbrev pub TotallyOrderedOver : Net → List ℕ → List Log → List Line → List (List Report) → List (List Report) → Type 0
TotallyOrderedOver net totals logs steps (r ∷ rs) (o ∷ os) =
    TotallyOrdered_from net totals (begin_over net logs r) o steps rs os
TotallyOrderedOver net totals logs steps _ _ = ⊥

abbrev pub OrderedOverLanes : Net → List ℕ → List Log → List Line → Type 0
OrderedOverLanes net totals logs steps =
    let rs = opened_report net logs steps in
    TotallyOrderedOver (over_net net (kept_logs logs) steps) totals (kept_logs logs) steps rs
    (told_in_order net totals rs)

-- and of two of these subscribers that want the same, at any two steps, one list begins with the other
abbrev pub OneOrderOverLanes : Net → List ℕ → List Log → List Line → Type 0
OneOrderOverLanes net totals logs steps =
    OneOrder (over_net net (kept_logs logs) steps) totals
    (told_in_order net totals (opened_report net logs steps))

-- A server over lanes

-- Each of these subscribers was told exactly what all publishers have up to where it has heard them all: before each
-- arrival, and at the end, where no more is told. The history is that of the headline, which holds of each arrival
abbrev pub OrderedServed_from : Net → List ℕ → History → List Report → List Request → List Arrival
    → List (List Report) → List (List Report) → Type 0
OrderedServed_from net totals h told left [] (r ∷ []) (o ∷ []) = IsOrdered net totals h told × (o ≡ [])
OrderedServed_from net totals h told left (a ∷ arrivals) (r ∷ rs) (o ∷ os) = IsOrdered net totals h told
    × ArrivalHolds net h left a r (λ g.
    OrderedServed_from net totals g (told ++ o) (left_after left a) arrivals rs os)
OrderedServed_from net totals h told left _ _ _ = ⊥

-- from the opening on; the record begins with what was found
abbrev pub TotallyOrderedServed : Net → List ℕ → List Log → List Line → List Arrival → List (List Report)
    → List (List Report) → Type 0
TotallyOrderedServed net totals logs steps arrivals (r ∷ rs) (o ∷ os) =
    OrderedServed_from net totals (begin_over net logs r) o (requests_of net (numbers net.brokers) steps) arrivals rs
    os
TotallyOrderedServed net totals logs steps arrivals _ _ = ⊥

abbrev pub OrderedServedLanes : Net → List ℕ → List Log → List Line → List Arrival → Type 0
OrderedServedLanes net totals logs steps arrivals =
    let rs = served net (numbers net.brokers) logs steps arrivals in
    TotallyOrderedServed (lanes_net net logs steps arrivals) totals (kept_logs logs) steps arrivals rs
    (told_in_order net totals rs)

-- and of two of these subscribers that want the same, at any two arrivals, one list begins with the other
abbrev pub OneOrderServedLanes : Net → List ℕ → List Log → List Line → List Arrival → Type 0
OneOrderServedLanes net totals logs steps arrivals =
    OneOrder (lanes_net net logs steps arrivals) totals
    (told_in_order net totals (served net (numbers net.brokers) logs steps arrivals))
