-- A server over logs that were found, with joins, and all that begins on logs that were opened: what holds on the net of the last joins
use Rattle.std.proofs.Common.{◌≡◌, inl, ℕ, ◌<◌, ◌≤◌, Bool, true, List, [], ◌∷◌, sym, ap, ◌∙◌, subst}
use Rattle.std.specs.Prelude.{nat_eq}
use Rattle.std.specs.List.{AllByRecursion, list_any}
use Rattle.gr_event.specs.declared.event.Event.{Event}
use Rattle.gr_event.specs.Joins.{Joins}
use Rattle.gr_frame.specs.Bytes.{frame_bytes}
use Rattle.gr_frame.proofs.Spelled.{spelled_decodes}
use Rattle.gr_sched.specs.declared.step.Line.{Line}
use Rattle.gr_model.specs.declared.report.Report.{Report}
use Rattle.gr_model.specs.Net.{Net, with_wants, wants_with, numbers}
use Rattle.gr_model.specs.Tree.{IsNet, IsDistinct}
use Rattle.gr_model.specs.Broker.{Log, seen}
use Rattle.gr_model.specs.World.{World, Transition, log_of}
use Rattle.gr_model.specs.Opening.{begin_over}
use Rattle.gr_model.specs.Headline.{History, Holds_from, recorded_net}
use Rattle.gr_model.specs.Arrivals.{Arrival, requests_of, served, served_by, served_from_by, arrived_by, Request}
use Rattle.gr_model_calls.specs.OneNet as one
use Rattle.gr_model_calls.specs.Fits.{StepsIn}
use Rattle.gr_model_calls.proofs.calls.Held.{grows_not}
use Rattle.gr_model_calls.proofs.joins.Growing.{AheadOf}
use Rattle.gr_model_calls.proofs.joins.OneRun.{IsNet-with}
use Rattle.gr_model_theorems.specs.Found.{AreReopened}
use Rattle.gr_model_theorems.specs.Spelled.{NumbersIn, WorldIn}
use Rattle.gr_model_theorems.specs.Served.{IsOfBytes, IsHonest, IsHonestRun, HeadlineServed_by, HoldsServed_by, AllDoSteps}
use Rattle.gr_model_theorems.specs.Statements.{started_over, opened_over, lines_over, over_net, served_end, served_net, MeetsHeadlineServed, ArrivalsDoSteps}
use Rattle.gr_model_theorems.specs.Forgets.{kept_logs}
use Rattle.gr_model_theorems.specs.Lanes.{lanes_net, HoldsOverLanes, HoldsServedLanes}
use Rattle.gr_model_theorems.specs.OrderedServed.{told_in_order, opened_report, TotallyOrderedOver, OrderedOverLanes, OneOrderOverLanes, TotallyOrderedServed, OrderedServedLanes, OneOrderServedLanes}
use Rattle.gr_model_theorems.proofs.limits.Spelled.{IsSmall, next_in}
use Rattle.gr_model_theorems.proofs.server.Serving.{requests_are_in}
use Rattle.gr_model_theorems.proofs.server.ServedOver.{opened_ready, begun_lines, served_does as does_on_one}
use Rattle.gr_model_theorems.proofs.server.Lanes.{opened_the_same}
use Rattle.gr_model_theorems.proofs.order.OverLogs.{ordered_over, at_end as over_end}
use Rattle.gr_model_theorems.proofs.order.Served.{ordered_served, at_end as served_at_end}
use Rattle.gr_model_theorems.proofs.order.OneOrder.{in_one_order}
use Rattle.gr_model_theorems.proofs.joins.AsOne.{late_in}
use Rattle.gr_model_theorems.proofs.joins.Over.{reopened_in, opening_runs, over_as_one, headline_over, found_upto, begin_same, opening_tells}
use Rattle.gr_model_theorems.proofs.joins.Telling.{served_holds}
use Rattle.gr_model_theorems.proofs.joins.Serving.{arrived_back, served_are}

pub small_in : (net : Net) (f : ℕ → ℕ → ℕ → Event → Bool) → IsSmall net → IsSmall (with_wants net f)
small_in net f z = record { brokers = z.brokers; publishers = z.publishers; late = late_in net f z.late }

-- beside the run on the net of the last joins
pub record ServedAsOne (net : Net) (logs : List Log) (steps : List Line) (arrivals : List Arrival) : Type 0 where
  pub tree : IsNet (served_net net logs steps arrivals)
  pub small : IsSmall (served_net net logs steps arrivals)
  pub steps_in : StepsIn (served_net net logs steps arrivals) steps
  pub reopened : AreReopened (served_net net logs steps arrivals) logs
  pub opens : started_over net logs ≡ opened_over (served_net net logs steps arrivals) logs
  pub ends : served_end net logs steps arrivals ≡ one.arrived (served_net net logs steps arrivals) (numbers net.brokers) (opened_over (served_net net logs steps arrivals) logs).world (requests_of net (numbers net.brokers) steps) arrivals
  pub reports : served net (numbers net.brokers) logs steps arrivals ≡ one.served (served_net net logs steps arrivals) (numbers net.brokers) logs steps arrivals

pub served_as_one : (net : Net) (logs : List Log) (steps : List Line) (arrivals : List Arrival) → IsNet net → IsSmall net → 1 ≤ net.quiet → 1 ≤ net.retry → AreReopened net logs → StepsIn net steps → NumbersIn steps → AllByRecursion IsOfBytes arrivals → IsHonestRun arrivals (served net (numbers net.brokers) logs steps arrivals) → ServedAsOne net logs steps arrivals
unfolding served_by
served_as_one net logs steps arrivals n small z retry a i m fits honest =
    let all : List ℕ = numbers net.brokers in
    let left : List Request = requests_of net all steps in
    let wants : ℕ → ℕ → ℕ → Event → Bool = λ p s t e. wants_with net (last p) p s t e in
    let g = served_net net logs steps arrivals in
    let tree : IsNet g = IsNet-with net wants n in
    let tiny : IsSmall g = small_in net wants small in
    let found : AreReopened g logs = reopened_in net wants logs a in
    let s : Transition = started_over net logs in
    let o : Transition = opened_over g logs in
    let opens : s ≡ o = (opening_runs net last n logs a).on (inl (arrived_back net (seen net) last all arrivals left s.world ends)) in
    let h : History = begin_over g logs o.lines in
    let here : IsHonest o.lines arrivals (served_from_by (seen net) net all o.world left arrivals) = subst (λ (t : Transition). IsHonest t.lines arrivals (served_from_by (seen net) net all t.world left arrivals)) opens honest in
    let begun : IsHonest h.lines arrivals (served_from_by (seen net) net all o.world left arrivals) = subst (λ (ls : List Report). IsHonest ls arrivals (served_from_by (seen net) net all o.world left arrivals)) (sym (begun_lines g logs o.lines)) here in
    let x = served_are net last n z retry (WorldIn net.late) (λ u l f j k y. next_in g u l tree tiny f j k y) (λ u y. y.frames) (λ f y. spelled_decodes (frame_bytes f) f y) arrivals o.world h left (opened_ready g logs tree tiny found) (requests_are_in net all steps i m) fits begun
    (subst (λ (t : Transition). AheadOf net last (arrived_by (seen net) net all t.world left arrivals)) opens ends) in
    record {
      tree = tree;
      small = tiny;
      steps_in = i;
      reopened = found;
      opens = opens;
      ends = ap (λ (t : Transition). arrived_by (seen net) net all t.world left arrivals) opens ∙ x.1;
      reports =
          ap (λ (t : Transition). t.lines ∷ served_from_by (seen net) net all t.world left arrivals) opens
          ∙ ap (λ (rs : List (List Report)). o.lines ∷ rs) x.0;
    }
  where
    last : ℕ → Joins
    last p = (log_of (served_end net logs steps arrivals) p).joins

    ends : AheadOf net last (served_end net logs steps arrivals)
    ends p j = let l = log_of (served_end net logs steps arrivals) p in grows_not l.joins l.settled

pub headline_served : (net : Net) (logs : List Log) (steps : List Line) (arrivals : List Arrival) → IsNet net → IsSmall net → 1 ≤ net.quiet → 1 ≤ net.retry → AreReopened net logs → StepsIn net steps → NumbersIn steps → AllByRecursion IsOfBytes arrivals → IsHonestRun arrivals (served net (numbers net.brokers) logs steps arrivals) → MeetsHeadlineServed net logs steps arrivals
unfolding served_by
headline_served net logs steps arrivals n small z retry a i k fits honest =
    let x = served_as_one net logs steps arrivals n small z retry a i k fits honest in
    let g = served_net net logs steps arrivals in
    let all : List ℕ = numbers net.brokers in
    let left : List Request = requests_of net all steps in
    let o : Transition = opened_over g logs in
    let h : History = begin_over g logs o.lines in
    let same : served net all logs steps arrivals ≡ o.lines ∷ one.served_from g all o.world left arrivals = x.reports in
    let here : IsHonest o.lines arrivals (one.served_from g all o.world left arrivals) = subst (λ (rs : List (List Report)). IsHonestRun arrivals rs) same honest in
    let begun : IsHonest h.lines arrivals (one.served_from g all o.world left arrivals) = subst (λ (ls : List Report). IsHonest ls arrivals (one.served_from g all o.world left arrivals)) (sym (begun_lines g logs o.lines)) here in
    let y = served_holds net last n z retry (WorldIn net.late) (λ u l f j q v. next_in g u l x.tree x.small f j q v) (λ u v. v.frames) (λ f v. spelled_decodes (frame_bytes f) f v) arrivals o.world h left (opened_ready g logs x.tree x.small x.reopened) (requests_are_in net all steps i k) fits begun (found_upto g logs o.lines x.reopened)
    (λ p. ap (λ (w : World). (log_of w p).joins) (sym x.ends)) in
    subst (λ (rs : List (List Report)). HeadlineServed_by (recorded_net net) (over_net net logs []) net logs steps arrivals rs) (sym same) (
      sym (ap (λ (t : Transition). t.lines) x.opens) ∙ opening_tells net logs n a,
      subst (λ (q : History). HoldsServed_by (recorded_net net) net q left arrivals (one.served_from g all o.world left arrivals)) (begin_same net g.wants logs o.lines) y.1,
    )
  where
    last : ℕ → Joins
    last p = (log_of (served_end net logs steps arrivals) p).joins

pub served_does : (net : Net) (logs : List Log) (steps : List Line) (arrivals : List Arrival) → IsNet net → IsSmall net → 1 ≤ net.quiet → 1 ≤ net.retry → AreReopened net logs → StepsIn net steps → NumbersIn steps → AllByRecursion IsOfBytes arrivals → IsHonestRun arrivals (served net (numbers net.brokers) logs steps arrivals) → ArrivalsDoSteps net logs steps arrivals
served_does net logs steps arrivals n small z retry a i m fits honest =
    let x = served_as_one net logs steps arrivals n small z retry a i m fits honest in
    let g = served_net net logs steps arrivals in
    record {
      opens = x.opens;
      does = subst (λ (t : Transition). AllDoSteps g t.world t.lines (requests_of net (numbers net.brokers) steps) arrivals) (sym x.opens)
          (does_on_one g logs steps arrivals x.tree x.small z retry x.reopened x.steps_in m fits (subst (λ (rs : List (List Report)). IsHonestRun arrivals rs) x.reports honest));
      reports = x.reports;
    }

-- Logs that were opened

pub holds_over_lanes : (net : Net) (logs : List Log) (steps : List Line) → IsNet net → 1 ≤ net.quiet → 1 ≤ net.retry → AreReopened net (kept_logs logs) → StepsIn net steps → HoldsOverLanes net logs steps
holds_over_lanes net logs steps n z r a i =
    let k = opened_the_same (seen net) net (numbers net.brokers) logs in
    let kept : List Log = kept_logs logs in
    subst (λ (ls : List Report). Holds_from net (begin_over net kept ls) steps (lines_over net logs steps)) (sym k.opened)
    (subst (λ (rs : List (List Report)). Holds_from net (begin_over net kept (started_over net kept).lines) steps rs) (sym (k.lines steps)) (headline_over net kept steps n z r a i))

pub holds_served_lanes : (net : Net) (logs : List Log) (steps : List Line) (arrivals : List Arrival) → IsNet net → IsSmall net → 1 ≤ net.quiet → 1 ≤ net.retry → AreReopened net (kept_logs logs) → StepsIn net steps → NumbersIn steps → AllByRecursion IsOfBytes arrivals → IsHonestRun arrivals (served net (numbers net.brokers) logs steps arrivals) → HoldsServedLanes net logs steps arrivals
holds_served_lanes net logs steps arrivals n small z r a i m fits =
    let k = opened_the_same (seen net) net (numbers net.brokers) logs in
    subst (λ (rs : List (List Report)). IsHonestRun arrivals rs → HeadlineServed_by (recorded_net net) (over_net net (kept_logs logs) []) net (kept_logs logs) steps arrivals rs) (sym (k.served_same steps arrivals))
    (λ honest. headline_served net (kept_logs logs) steps arrivals n small z r a i m fits honest)

-- One order

-- of a schedule
pub ordered_lanes : (net : Net) (totals : List ℕ) (logs : List Log) (steps : List Line) → IsNet net → 1 ≤ net.quiet → AreReopened net (kept_logs logs) → StepsIn net steps → IsDistinct totals → ((s : ℕ) → list_any (λ x. nat_eq x s) totals ≡ true → s < net.subscribers)
    → OrderedOverLanes net totals logs steps
ordered_lanes net totals logs steps n z a i apart there =
    let k = opened_the_same (seen net) net (numbers net.brokers) logs in
    let kept : List Log = kept_logs logs in
    let x = over_as_one net kept steps n a i in
    let g = over_net net kept steps in
    let same : opened_report net logs steps ≡ (opened_over g kept).lines ∷ one.run_from g (opened_over g kept).world steps =
    ap (λ (ls : List Report). ls ∷ lines_over net logs steps) k.opened
    ∙ ap (λ (rs : List (List Report)). (started_over net kept).lines ∷ rs) (k.lines steps ∙ x.lines)
    ∙ ap (λ (t : Transition). t.lines ∷ one.run_from g t.world steps) x.opens in
    subst (λ (rs : List (List Report)). TotallyOrderedOver g totals kept steps rs (told_in_order net totals rs)) (sym same) (ordered_over g totals kept steps x.tree z x.reopened x.steps_in apart there)

pub one_order_lanes : (net : Net) (totals : List ℕ) (logs : List Log) (steps : List Line) → OrderedOverLanes net totals logs steps → OneOrderOverLanes net totals logs steps
one_order_lanes net totals logs steps k =
    let rs : List (List Report) = opened_report net logs steps in
    let told : List (List Report) = told_in_order net totals rs in
    let g = over_net net (kept_logs logs) steps in
    in_one_order g totals told (over_end g totals (kept_logs logs) steps rs told k)

-- of a server
pub ordered_served_lanes : (net : Net) (totals : List ℕ) (logs : List Log) (steps : List Line) (arrivals : List Arrival) → IsNet net → IsSmall net → 1 ≤ net.quiet → 1 ≤ net.retry → AreReopened net (kept_logs logs) → StepsIn net steps → NumbersIn steps → AllByRecursion IsOfBytes arrivals
    → IsDistinct totals → ((s : ℕ) → list_any (λ x. nat_eq x s) totals ≡ true → s < net.subscribers) → IsHonestRun arrivals (served net (numbers net.brokers) logs steps arrivals) → OrderedServedLanes net totals logs steps arrivals
ordered_served_lanes net totals logs steps arrivals n small z r a i m fits apart there honest =
    let e = (opened_the_same (seen net) net (numbers net.brokers) logs).served_same steps arrivals in
    let kept : List Log = kept_logs logs in
    let here : IsHonestRun arrivals (served net (numbers net.brokers) kept steps arrivals) = subst (λ (rs : List (List Report)). IsHonestRun arrivals rs) e honest in
    let x = served_as_one net kept steps arrivals n small z r a i m fits here in
    let g = served_net net kept steps arrivals in
    subst (λ (rs : List (List Report)). TotallyOrderedServed g totals kept steps arrivals rs (told_in_order net totals rs)) (sym (e ∙ x.reports))
    (ordered_served g totals kept steps arrivals x.tree x.small z r x.reopened x.steps_in m fits apart there (subst (λ (rs : List (List Report)). IsHonestRun arrivals rs) x.reports here))

pub one_order_served : (net : Net) (totals : List ℕ) (logs : List Log) (steps : List Line) (arrivals : List Arrival) → OrderedServedLanes net totals logs steps arrivals → OneOrderServedLanes net totals logs steps arrivals
one_order_served net totals logs steps arrivals k =
    let rs : List (List Report) = served net (numbers net.brokers) logs steps arrivals in
    let told : List (List Report) = told_in_order net totals rs in
    let g = lanes_net net logs steps arrivals in
    in_one_order g totals told (served_at_end g totals (kept_logs logs) steps arrivals rs told k)
