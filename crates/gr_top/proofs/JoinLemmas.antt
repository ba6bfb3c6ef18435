-- Joins in a report: the history up to each step, what late subscribers have there, and the net of the joins that are recorded
use Rattle.std.proofs.Common.{◌≡◌, ℕ, ◌≤◌, List, [], ◌∷◌, ◌++◌, drop, refl, sym, ap, ◌∙◌, subst}
use Rattle.gr_sched.specs.declared.step.Line.{Line}
use Rattle.gr_model.specs.declared.report.Report.{Report}
use Rattle.gr_model.specs.Net.{Net, wants_with}
use Rattle.gr_model.specs.Tree.{IsNet}
use Rattle.gr_model.specs.Headline.{History, Recorded, history, history_after, begin, record_of}
use Rattle.gr_model.specs.Ordered.{OneOrder}
use Rattle.gr_model.specs.World.{World, Transition, next, run_from, report_of, report_of_by, run_from_by, log_of, start}
use Rattle.gr_model_calls.specs.OneNet as one
use Rattle.gr_model_calls.specs.Fits.{StepsIn, history_of}
use Rattle.gr_model_calls.proofs.runs.Schedules.{start_fits}
use Rattle.gr_model_theorems.specs.Statements.{IsMarkedRun, LateGetExactly, joined_net, world_after}
use Rattle.gr_model_theorems.proofs.records.Recorded.{record_core, runs, begin_fits}
use Rattle.gr_model_theorems.proofs.joins.AsOne.{as_one}
use Rattle.gr_top.specs.Joining.{LateGetPastJoin, joined_by}

-- The history up to a step

front_in : (net : Net) (done left : List Line) → StepsIn net (done ++ left) → StepsIn net done
front_in net [] left i = tt
front_in net (x ∷ xs) left i = (i.0, front_in net xs left i.1)

history_front : (net : Net) (h : History) (w : World) (done left : List Line) → history net h done (run_from net w (done ++ left)) ≡ history net h done (run_from net w done)
unfolding run_from_by
history_front net h w [] left = refl
history_front net h w (x ∷ xs) left = history_front net (history_after net h x (next net w x).lines) (next net w x).world xs left

-- the lines of a report but the first, which is empty
lines_of : (net : Net) (lines : List Line) → drop 1 (report_of net lines) ≡ run_from net (start net) lines
unfolding report_of_by
lines_of net lines = refl

history_upto : (net : Net) (done left : List Line) → history net (begin net) done (drop 1 (report_of net (done ++ left))) ≡ history_of net done
history_upto net done left = ap (history net (begin net) done) (lines_of net (done ++ left)) ∙ history_front net (begin net) (start net) done left

history_whole : (net : Net) (lines : List Line) → history net (begin net) lines (drop 1 (report_of net lines)) ≡ history_of net lines
history_whole net lines = ap (history net (begin net) lines) (lines_of net lines)

-- What late subscribers have

pub late_get : (net : Net) (lines : List Line) → IsMarkedRun net lines → ((steps : List Line) → IsMarkedRun net steps → LateGetExactly net (history_of net steps)) → LateGetPastJoin net lines (report_of net lines)
late_get net lines r late = λ done left order.
    let run : IsMarkedRun net done = record { tree = r.tree; quiet = r.quiet; steps_in = front_in net done left (subst (StepsIn net) order r.steps_in) } in
    let same : history net (begin net) done (drop 1 (report_of net lines)) ≡ history_of net done = ap (λ ls. history net (begin net) done (drop 1 (report_of net ls))) order ∙ history_upto net done left in
    subst (LateGetExactly net) (sym same) (late done run)

-- The joins that are recorded

-- they are those of the logs
pub recorded_last : (net : Net) (steps : List Line) (p : ℕ) → IsNet net → 1 ≤ net.quiet → StepsIn net steps → (record_of (history_of net steps) p).joined ≡ (log_of (world_after net steps) p).joins
recorded_last net steps p n z i =
    let x = as_one net steps n i in
    let g = joined_net net steps in
    let r = (runs g (start g) (begin g) steps x.tree z (start_fits g x.tree) (begin_fits g) x.steps_in).records in
    ap (λ (h : History). (record_of h p).joined) x.history
    ∙ (ap (λ (c : Recorded). c.joined) (record_core g (one.run_all g (start g) steps).world (one.history_of g steps) p r) ∙ ap (λ (t : Transition). (log_of t.world p).joins) (sym x.run))

-- so subscribers that want the same by the record want the same by the logs, and have one order
pub one_order_by : (net : Net) (totals : List ℕ) (lines : List Line) (told : List (List Report)) → IsMarkedRun net lines → OneOrder (joined_net net lines) totals told → OneOrder (joined_by net lines (report_of net lines)) totals told
one_order_by net totals lines told run order = λ s r i j here there same.
    order s r i j here there (λ p t e.
    subst (λ js. wants_with net js p s t e ≡ wants_with net js p r t e)
    (ap (λ (h : History). (record_of h p).joined) (history_whole net lines) ∙ recorded_last net lines p run.tree run.quiet run.steps_in) (same p t e))
