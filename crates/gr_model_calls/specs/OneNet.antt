-- A run in which every call sees one net, whatever joins it holds: what a run with joins is compared with
use Rattle.std.specs.Prelude.{◌≡◌, ℕ, List, [], ◌∷◌, Result}
use Rattle.gr_event.specs.declared.event.Event.{Event}
use Rattle.gr_frame.specs.declared.Frame.{Frame}
use Rattle.gr_frame.specs.declared.fault.FrameFault.{FrameFault}
use Rattle.gr_note.specs.declared.note.Note.{Note}
use Rattle.gr_note.specs.declared.fault.NoteFault.{NoteFault}
use Rattle.gr_sched.specs.declared.step.Stop.{Stop}
use Rattle.gr_sched.specs.declared.step.Line.{Line}
use Rattle.gr_model.specs.declared.report.Report.{Report}
use Rattle.gr_model.specs.Net.{Net, with_wants, wants_with}
use Rattle.gr_model.specs.Broker.{Log}
use Rattle.gr_model.specs.World.{World, Transition, log_of, start, wake_for_by, wake_all_by, deliver_frame_by}
use Rattle.gr_model.specs.World.{publish_now_by, join_now_by}
use Rattle.gr_model.specs.World.{publish_stopped_by, deliver_up_by, wake_up_by, hand_down_by, sweep_for_by, sweep_by}
use Rattle.gr_model.specs.World.{next_by, run_from_by, report_of_by, run_all_by}
use Rattle.gr_model.specs.Opening.{opened_for_by, opening_by}
use Rattle.gr_model.specs.Arrivals.{Arrival, takes_by, receives_by, notes_by, reads_by, answered_first_by, Request}
use Rattle.gr_model.specs.Arrivals.{quieted_by, comes_by, served_from_by, arrived_by, served_by}
use Rattle.gr_model.specs.Headline.{History, begin, history, Holds_from_by}
use Rattle.gr_model.specs.Ordered.{IsOrdered_by, TotallyOrdered_from_by}

-- the net in which a late subscriber wants what is past its join, by the joins that the logs of a world have
abbrev pub last_net : Net → World → Net
last_net net w = with_wants net (λ p s t e. wants_with net (log_of w p).joins p s t e)

abbrev pub wake_for : Net → World → ℕ → ℕ → Transition
wake_for net = wake_for_by (λ _. net) net

abbrev pub wake_all : Net → World → ℕ → Transition
wake_all net = wake_all_by (λ _. net) net

abbrev pub deliver_frame : Net → World → Frame → Transition
deliver_frame net = deliver_frame_by (λ _. net) net

abbrev pub publish_now : Net → World → ℕ → ℕ → Event → Transition
publish_now net = publish_now_by (λ _. net) net

abbrev pub join_now : Net → World → ℕ → ℕ → Transition
join_now net = join_now_by (λ _. net) net

abbrev pub publish_stopped : Net → World → ℕ → ℕ → ℕ → Stop → Event → Transition
publish_stopped net = publish_stopped_by (λ _. net) net

abbrev pub deliver_up : Net → ℕ → List Frame → World → Transition
deliver_up net = deliver_up_by (λ _. net) net

abbrev pub wake_up : Net → ℕ → World → ℕ → Transition
wake_up net = wake_up_by (λ _. net) net

abbrev pub hand_down : Net → ℕ → ℕ → World → ℕ → Transition
hand_down net = hand_down_by (λ _. net) net

abbrev pub sweep_for : Net → World → ℕ → Transition
sweep_for net = sweep_for_by (λ _. net) net

abbrev pub sweep : Net → World → ℕ → Transition
sweep net = sweep_by (λ _. net) net

abbrev pub next : Net → World → Line → Transition
next net = next_by (λ _. net) net

abbrev pub run_from : Net → World → List Line → List (List Report)
run_from net = run_from_by (λ _. net) net

abbrev pub report_of : Net → List Line → List (List Report)
report_of net = report_of_by (λ _. net) net

abbrev pub run_all : Net → World → List Line → Transition
run_all net = run_all_by (λ _. net) net

abbrev pub opened_for : Net → World → ℕ → Transition
opened_for net = opened_for_by (λ _. net) net

abbrev pub opening : Net → List ℕ → List Log → Transition
opening net = opening_by (λ _. net) net

abbrev pub takes : Net → World → ℕ → Frame → Transition
takes net = takes_by (λ _. net) net

abbrev pub receives : Net → World → ℕ → Result Frame FrameFault → Transition
receives net = receives_by (λ _. net) net

abbrev pub notes : Net → World → ℕ → Result Note NoteFault → Transition
notes net = notes_by (λ _. net) net

abbrev pub reads : Net → World → ℕ → List ℕ → Transition
reads net = reads_by (λ _. net) net

abbrev pub answered_first : Net → World → List Request → Transition
answered_first net = answered_first_by (λ _. net) net

abbrev pub quieted : Net → List ℕ → World → List Request → Transition
quieted net = quieted_by (λ _. net) net

abbrev pub comes : Net → List ℕ → World → List Request → Arrival → Transition
comes net = comes_by (λ _. net) net

abbrev pub served_from : Net → List ℕ → World → List Request → List Arrival → List (List Report)
served_from net = served_from_by (λ _. net) net

abbrev pub arrived : Net → List ℕ → World → List Request → List Arrival → World
arrived net = arrived_by (λ _. net) net

abbrev pub served : Net → List ℕ → List Log → List Line → List Arrival → List (List Report)
served net = served_by (λ _. net) net

-- the history of a whole schedule and its report, of which the steps' lines are all but the first, empty list
abbrev pub history_of : Net → List Line → History
history_of net ls = history net (begin net) ls (run_from net (start net) ls)

-- The headline, where whom an event concerns is asked of that net

abbrev pub Holds_from : Net → History → List Line → List (List Report) → Type 0
Holds_from net = Holds_from_by (λ _. net) net

abbrev pub Headline : Net → List Line → List (List Report) → Type 0
Headline net steps [] = ⊥
Headline net steps (r ∷ rs) = (r ≡ []) × Holds_from net (begin net) steps rs

-- So is one order over all publishers

abbrev pub IsOrdered : Net → List ℕ → History → List Report → Type 0
IsOrdered net = IsOrdered_by (λ _. net) net

abbrev pub TotallyOrdered_from : Net → List ℕ → History → List Report → List Line → List (List Report)
    → List (List Report) → Type 0
TotallyOrdered_from net = TotallyOrdered_from_by (λ _. net) net

abbrev pub TotallyOrdered : Net → List ℕ → List Line → List (List Report) → List (List Report) → Type 0
TotallyOrdered net totals steps (r ∷ rs) (o ∷ os) = (o ≡ []) × TotallyOrdered_from net totals (begin net) [] steps rs os
TotallyOrdered net totals steps _ _ = ⊥
