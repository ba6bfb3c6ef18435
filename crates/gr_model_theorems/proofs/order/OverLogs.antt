-- What each list over all publishers says of a schedule over old logs: the opening's lines are heard like those of a step
use Rattle.std.proofs.Common.{◌≡◌, ℕ, ◌≤◌, ◌<◌, true, List, [], ◌∷◌}
use Rattle.std.specs.Prelude.{nat_eq}
use Rattle.std.specs.List.{list_any}
use Rattle.gr_sched.specs.declared.step.Line.{Line}
use Rattle.gr_model.specs.declared.report.Report.{Report}
use Rattle.gr_model.specs.Net.{Net}
use Rattle.gr_model.specs.Broker.{Log}
use Rattle.gr_model.specs.Tree.{IsNet, IsDistinct}
use Rattle.gr_model.specs.World.{Transition}
use Rattle.gr_model_calls.specs.OneNet.{run_from}
use Rattle.gr_model.specs.Opening.{begin_over}
use Rattle.gr_model.specs.Orders.{Order, fed, ordered, without_ordered, orders_over, ordered_steps}
use Rattle.gr_model_calls.specs.Fits.{StepsIn}
use Rattle.gr_model_theorems.specs.Found.{AreReopened}
use Rattle.gr_model_theorems.specs.Statements.{opened_over}
use Rattle.gr_model_theorems.specs.OrderedServed.{told_in_order, TotallyOrderedOver}
use Rattle.gr_model_theorems.proofs.server.OverLogs.{opened_whole}
use Rattle.gr_model_theorems.proofs.server.ServedOver.{begun_lines}
use Rattle.gr_model_theorems.proofs.order.Hearing.{joined}
use Rattle.gr_model_theorems.proofs.order.Always.{from_here, begins}
use Rattle.gr_model_theorems.proofs.order.OneOrder.{AtEnd, last_step}

-- from an opening over logs that were found
pub ordered_over : (net : Net) (totals : List ℕ) (logs : List Log) (steps : List Line) → IsNet net → 1 ≤ net.quiet → AreReopened net logs → StepsIn net steps → IsDistinct totals → ((s : ℕ) → list_any (λ x. nat_eq x s) totals ≡ true → s < net.subscribers)
    → (let o : Transition = opened_over net logs in
    let rs : List (List Report) = o.lines ∷ run_from net o.world steps in
    TotallyOrderedOver net totals logs steps rs (told_in_order net totals rs))
unfolding ordered_steps
ordered_over net totals logs steps n z a i apart below =
    let o : Transition = opened_over net logs in
    let next : List Order = fed (orders_over net.publishers totals) o.lines in
    from_here net totals o.world (begin_over net logs o.lines) (ordered next) (without_ordered next) (o.lines ∷ []) steps n z i apart (λ s here. n.subscriber s (below s here)) (opened_whole net logs n a).stands
    (begins net totals (begin_over net logs o.lines) o.lines (begun_lines net logs o.lines))

-- ---- one order

pub at_end : (net : Net) (totals : List ℕ) (logs : List Log) (steps : List Line) (rs told : List (List Report)) → TotallyOrderedOver net totals logs steps rs told → AtEnd net totals (joined told)
at_end net totals logs steps [] told k = absurd k
at_end net totals logs steps (r ∷ rs) [] k = absurd k
at_end net totals logs steps (r ∷ rs) (o ∷ os) k = last_step net totals (begin_over net logs r) o steps rs os k
