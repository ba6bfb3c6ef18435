-- The headline holds of a run over old logs and an honest journal, since each arrival does what its steps do
use Rattle.std.proofs.Common.{◌≡◌, ℕ, ◌≤◌, ◌<◌, Bool, true, false, List, [], ◌∷◌, ◌++◌, map, refl, sym, subst, arith}
use Rattle.std.specs.List.{AllByRecursion}
use Rattle.gr_frame.specs.declared.Frame.{Frame}
use Rattle.gr_frame.specs.Bytes.{frame_bytes}
use Rattle.gr_frame.proofs.Spelled.{spelled_decodes}
use Rattle.gr_sched.specs.declared.step.Line.{Line}
use Rattle.gr_model.specs.declared.report.Report.{Report}
use Rattle.gr_model.specs.Net.{Net, not_empty, numbers}
use Rattle.gr_model.specs.Broker.{Log, learn, started}
use Rattle.gr_model.specs.World.{World, Transition, view_of, log_of, absorbed, unchanged, in_turn}
use Rattle.gr_model.specs.Opening.{reopened_log, over_logs, publishers_at, begin_over, opened_for_by, opening_by}
use Rattle.gr_model_calls.specs.OneNet.{opened_for, served}
use Rattle.gr_model_theorems.specs.Found.{AreReopened}
use Rattle.gr_model.specs.Arrivals.{Arrival, requests_of, served_by}
use Rattle.gr_model_theorems.specs.Served.{IsOfBytes, IsHonestRun, AllDoSteps, HeadlineServed_by}
use Rattle.gr_model_calls.specs.Edges.{GoesOverEdge}
use Rattle.gr_model_theorems.specs.Spelled.{NumbersIn, ViewIn, LogIn, WorldIn}
use Rattle.gr_model.specs.Tree.{IsNet}
use Rattle.gr_model_calls.specs.Fits.{StepsIn}
use Rattle.gr_model_calls.proofs.runs.Worlds.{Each}
use Rattle.gr_model_theorems.proofs.limits.SpelledCalls.{started_in}
use Rattle.gr_model_theorems.proofs.limits.SpelledRuns.{all_tabulated}
use Rattle.gr_model_theorems.proofs.limits.Spelled.{IsSmall, deliver_in, next_in}
use Rattle.gr_model_theorems.proofs.server.Opening.{Opening, nothing, nothing_is_true, delivered_nothing, opening_turn, over_opening}
use Rattle.gr_model_theorems.proofs.server.OverLogs.{all_opened, publishers_below, opened, opened_whole}
use Rattle.gr_model_theorems.proofs.server.OpenedLines.{opened_tells}
use Rattle.gr_model_theorems.proofs.server.Serving.{Ready, requests_are_in, holds, all_do}

-- The opening is within the limits

over_in : (net : Net) (logs : List Log) → AreReopened net logs → WorldIn net.late (over_logs net logs)
unfolding over_logs
over_in net logs a = record {
  clock = omega arith;
  views = all_tabulated (AllByRecursion ViewIn) (λ b. map (λ p. started net p b (reopened_log logs p)) (numbers net.publishers)) (numbers net.brokers) (λ b. all_tabulated ViewIn (λ p. started net p b (reopened_log logs p)) (numbers net.publishers) (λ p. started_in net p b (reopened_log logs p) (a p).within));
  logs = all_tabulated (LogIn net.late) (reopened_log logs) (numbers net.publishers) (λ p. (a p).within);
  frames = tt;
}

turn_in : (net : Net) (logs : List Log) (w : World) (ls : List Report) (p : ℕ) → IsNet net → IsSmall net → p < net.publishers → Opening net logs w ls → WorldIn net.late w → WorldIn net.late (opened_for net w p).world
unfolding opened_for_by
turn_in net logs w ls p n z j o i = go (not_empty (net.subscribers_at (net.host p)))
  where
    go : (q : Bool) → WorldIn net.late (let t : Transition = elim q [ true ↦ absorbed w (net.host p) p (learn net p (net.host p) [] (view_of w (net.host p) p) (log_of w p)) | false ↦ unchanged w [] ] in t.world)
    go true = subst (λ (t : Transition). WorldIn net.late t.world) (delivered_nothing net w p n o.fits j) (deliver_in net w (nothing net p) n z o.fits (nothing_is_true net w p n j) (tt, omega arith) i)
    go false = i

turns_in : (net : Net) (logs : List Log) (w : World) (ls : List Report) (ps : List ℕ) → IsNet net → IsSmall net → Each (λ p. p < net.publishers) ps → Opening net logs w ls → WorldIn net.late w → WorldIn net.late (in_turn (opened_for net) ps w).world
turns_in net logs w ls [] n z a o i = i
turns_in net logs w ls (p ∷ ps) n z a o i =
    let t = opened_for net w p in
    turns_in net logs t.world (ls ++ t.lines) ps n z a.1 (opening_turn net logs w ls p n a.0 o) (turn_in net logs w ls p n z a.0 o i)

opened_in : (net : Net) (logs : List Log) → IsNet net → IsSmall net → AreReopened net logs → WorldIn net.late (all_opened net logs).world
unfolding opening_by
opened_in net logs n z a = turns_in net logs (over_logs net logs) [] (publishers_at net (numbers net.brokers)) n z (publishers_below net (numbers net.brokers)) (over_opening net logs n a) (over_in net logs a)

pub opened_ready : (net : Net) (logs : List Log) → IsNet net → IsSmall net → AreReopened net logs → Ready net (WorldIn net.late) (all_opened net logs).world (begin_over net logs (all_opened net logs).lines)
opened_ready net logs n z a = record {
  whole = opened_whole net logs n a;
  unknown = (opened net logs n a).unknown;
  over = subst (λ (fs : List Frame). Each (GoesOverEdge net) fs) (sym (opened net logs n a).frames) tt;
  limits = opened_in net logs n z a;
}

pub begun_lines : (net : Net) (logs : List Log) (told : List Report) → (begin_over net logs told).lines ≡ told
unfolding begin_over
begun_lines net logs told = refl

-- The run

-- the headline holds of a server over reopened logs whose journal is honest
pub headline_served : (net : Net) (logs : List Log) (steps : List Line) (arrivals : List Arrival) → IsNet net → IsSmall net → 1 ≤ net.quiet → 1 ≤ net.retry → AreReopened net logs → StepsIn net steps → NumbersIn steps → AllByRecursion IsOfBytes arrivals → IsHonestRun arrivals (served net (numbers net.brokers) logs steps arrivals) → HeadlineServed_by (λ _. net) net net logs steps arrivals (served net (numbers net.brokers) logs steps arrivals)
unfolding served_by begin_over
headline_served net logs steps arrivals n z on retry a i m fits honest = (
  opened_tells net logs n a,
  holds net n on retry (WorldIn net.late) (λ u l f j k x. next_in net u l n z f j k x) (λ u x. x.frames) (λ f x. spelled_decodes (frame_bytes f) f x) arrivals (all_opened net logs).world (begin_over net logs (all_opened net logs).lines) (requests_of net (numbers net.brokers) steps) (opened_ready net logs n z a) (requests_are_in net (numbers net.brokers) steps i m) fits honest,
)

-- each arrival at such a server does what its steps of a schedule do
pub served_does : (net : Net) (logs : List Log) (steps : List Line) (arrivals : List Arrival) → IsNet net → IsSmall net → 1 ≤ net.quiet → 1 ≤ net.retry → AreReopened net logs → StepsIn net steps → NumbersIn steps → AllByRecursion IsOfBytes arrivals → IsHonestRun arrivals (served net (numbers net.brokers) logs steps arrivals) → AllDoSteps net (all_opened net logs).world (all_opened net logs).lines (requests_of net (numbers net.brokers) steps) arrivals
unfolding served_by begin_over
served_does net logs steps arrivals n z on retry a i m fits honest =
    all_do net n on retry (WorldIn net.late) (λ u l f j k x. next_in net u l n z f j k x) (λ u x. x.frames) (λ f x. spelled_decodes (frame_bytes f) f x) arrivals (all_opened net logs).world (begin_over net logs (all_opened net logs).lines) (requests_of net (numbers net.brokers) steps) (all_opened net logs).lines (opened_ready net logs n z a) (requests_are_in net (numbers net.brokers) steps i m) fits refl honest
