-- What stands after every schedule stands after a start over old logs and a schedule
-- from there, since the opening's turns are deliveries of a frame that says nothing
use Rattle.std.proofs.Common.{◌≡◌, ℕ, ◌≤◌, ◌<◌, Bool, true, false, List, [], ◌∷◌, ◌++◌, refl, sym, subst}
use Rattle.gr_event.specs.Joins.{Joins}
use Rattle.gr_know.specs.declared.values.K.TheVariants.{Q}
use Rattle.gr_know.specs.Values.{Known, known_at}
use Rattle.gr_frame.specs.declared.Body.TheVariants as body
use Rattle.gr_sched.specs.declared.step.Line.{Line}
use Rattle.gr_model.specs.declared.report.Report.{Report}
use Rattle.gr_model.specs.Net.{Net, not_empty, numbers}
use Rattle.gr_model.specs.Broker.{Log, learn}
use Rattle.gr_model.specs.World.{World, Transition, view_of, log_of, absorbed, unchanged, in_turn}
use Rattle.gr_model.specs.Opening.{reopened_log, over_logs, publishers_at, opened_for_by, opening_by}
use Rattle.gr_model_calls.specs.OneNet.{opened_for}
use Rattle.gr_model.specs.Tree.{IsNet}
use Rattle.gr_model_calls.specs.Edges.{GoesOverEdge}
use Rattle.gr_model_calls.specs.Fits.{StepsIn}
use Rattle.gr_model_theorems.specs.Found.{AreReopened}
use Rattle.gr_model_theorems.specs.Standing.{Fits}
use Rattle.gr_model_theorems.specs.OverLogs.{began_over, world_over, history_over, StandsOver}
use Rattle.gr_model_calls.proofs.runs.Worlds.{Each}
use Rattle.gr_model_theorems.proofs.hosts.FinalTicks.{AllFinal, all_started, final_closed}
use Rattle.gr_model_theorems.proofs.hosts.HostAlways.{HostsFinal, FinalsHold, deliver_hosts, hosts_started}
use Rattle.gr_model_calls.proofs.runs.Clash.{no_frame_clashes}
use Rattle.gr_model_theorems.proofs.sweep.Obeying.{steps_obey}
use Rattle.gr_model_theorems.proofs.headline.ReplyLines.{replied_from}
use Rattle.gr_model_theorems.proofs.headline.AfterSweeps.{stands_where_sweeps_reach}
use Rattle.gr_model_theorems.proofs.headline.SecondReaches.{sweeps_reach}
use Rattle.gr_model_theorems.proofs.headline.SettlesAlways.{settles_at, hands_over_at}
use Rattle.gr_model_theorems.proofs.headline.Standing.{fits_run}
use Rattle.gr_model_theorems.proofs.server.Opening.{Opening, nothing, nothing_is_true, delivered_nothing, opening_turn, over_opening, over_view, opened_logs}
use Rattle.gr_model_theorems.proofs.server.OverLogs.{all_opened, publishers_below, opened, opened_whole}

turn_final : (net : Net) (logs : List Log) (w : World) (ls : List Report) (p : ℕ) → IsNet net → 1 ≤ net.quiet → p < net.publishers → Opening net logs w ls → AllFinal net w → AllFinal net (opened_for net w p).world
unfolding opened_for_by
turn_final net logs w ls p n z j o a = go (not_empty (net.subscribers_at (net.host p)))
  where
    go : (q : Bool) → AllFinal net (let t : Transition = elim q [ true ↦ absorbed w (net.host p) p (learn net p (net.host p) [] (view_of w (net.host p) p) (log_of w p)) | false ↦ unchanged w [] ] in t.world)
    go true = subst (λ (t : Transition). AllFinal net t.world) (delivered_nothing net w p n o.fits j) ((final_closed net n z).calls.delivered w (nothing net p) o.fits (nothing_is_true net w p n j) tt a)
    go false = a

turns_final : (net : Net) (logs : List Log) (w : World) (ls : List Report) (ps : List ℕ) → IsNet net → 1 ≤ net.quiet → Each (λ p. p < net.publishers) ps → Opening net logs w ls → AllFinal net w → AllFinal net (in_turn (opened_for net) ps w).world
turns_final net logs w ls [] n z b o a = a
turns_final net logs w ls (p ∷ ps) n z b o a =
    let t = opened_for net w p in
    turns_final net logs t.world (ls ++ t.lines) ps n z b.1 (opening_turn net logs w ls p n b.0 o) (turn_final net logs w ls p n z b.0 o a)

pub opened_final : (net : Net) (logs : List Log) → IsNet net → 1 ≤ net.quiet → AreReopened net logs → AllFinal net (all_opened net logs).world
unfolding opening_by
opened_final net logs n z a = turns_final net logs (over_logs net logs) [] (publishers_at net (numbers net.brokers)) n z (publishers_below net (numbers net.brokers)) (over_opening net logs n a) (all_started net (over_logs net logs) (reopened_log logs) (λ p b j i. over_view net logs b p i j))

-- a turn brings the host nothing, so it keeps what the host knows as final
turn_hosts : (net : Net) (logs : List Log) (w : World) (ls : List Report) (p : ℕ) → IsNet net → p < net.publishers → Opening net logs w ls → HostsFinal net w → HostsFinal net (opened_for net w p).world
unfolding opened_for_by
turn_hosts net logs w ls p n j o a = go (not_empty (net.subscribers_at (net.host p)))
  where
    none : (runs : Known) (js : Joins) → body.Knowledge [] [] ≡ body.Knowledge runs js → (t : ℕ) → known_at runs t ≡ Q
    none runs js e t = let same : [] ≡ runs = cc in subst (λ (r : Known). known_at r t ≡ Q) same refl

    go : (q : Bool) → HostsFinal net (let t : Transition = elim q [ true ↦ absorbed w (net.host p) p (learn net p (net.host p) [] (view_of w (net.host p) p) (log_of w p)) | false ↦ unchanged w [] ] in t.world)
    go true = subst (λ (t : Transition). HostsFinal net t.world) (delivered_nothing net w p n o.fits j) (deliver_hosts net n w (nothing net p) o.fits (nothing_is_true net w p n j) (λ runs js e g t. none runs js e t) a)
    go false = a

turns_hosts : (net : Net) (logs : List Log) (w : World) (ls : List Report) (ps : List ℕ) → IsNet net → Each (λ p. p < net.publishers) ps → Opening net logs w ls → HostsFinal net w → HostsFinal net (in_turn (opened_for net) ps w).world
turns_hosts net logs w ls [] n b o a = a
turns_hosts net logs w ls (p ∷ ps) n b o a =
    let t = opened_for net w p in
    turns_hosts net logs t.world (ls ++ t.lines) ps n b.1 (opening_turn net logs w ls p n b.0 o) (turn_hosts net logs w ls p n b.0 o a)

opened_hosts : (net : Net) (logs : List Log) → IsNet net → AreReopened net logs → HostsFinal net (all_opened net logs).world
unfolding opening_by
opened_hosts net logs n a =
    let o = over_opening net logs n a in
    let w = over_logs net logs in
    turns_hosts net logs w [] (publishers_at net (numbers net.brokers)) n (publishers_below net (numbers net.brokers)) o
    (hosts_started net w (reopened_log logs) n (λ p b j i. over_view net logs b p i j) (λ p j. opened_logs net logs w [] p j o)
    (λ p j. subst (λ (l : Log). l.cut ≤ l.settled) (opened_logs net logs w [] p j o) (o.fits.logs p j).cut))

opened_finals : (net : Net) (logs : List Log) → IsNet net → 1 ≤ net.quiet → AreReopened net logs → FinalsHold net (all_opened net logs).world
opened_finals net logs n z a = record {
  final = opened_final net logs n z a;
  over = subst (Each (GoesOverEdge net)) (sym (opened net logs n a).frames) tt;
  hosts = opened_hosts net logs n a;
}

-- over old logs, after every schedule
pub fits_over_logs : (net : Net) (logs : List Log) (steps : List Line) → IsNet net → 1 ≤ net.quiet → 1 ≤ net.retry → AreReopened net logs → StepsIn net steps → Fits net (history_over net logs steps) (world_over net logs steps)
fits_over_logs net logs steps n z r a i = fits_run net (all_opened net logs).world (began_over net logs) steps n z r i (opened_whole net logs n a) (opened net logs n a).unknown (opened_finals net logs n z a)

-- and all else that holds of every run
pub stands_over_logs : (net : Net) (logs : List Log) (steps : List Line) → IsNet net → 1 ≤ net.quiet → 1 ≤ net.retry → AreReopened net logs → StepsIn net steps → StandsOver net logs steps
stands_over_logs net logs steps n z r a i =
    let w = (all_opened net logs).world in
    let h = began_over net logs in
    let x = opened_whole net logs n a in
    let y = stands_where_sweeps_reach net w h steps n (sweeps_reach net n z r) z i x (opened net logs n a).unknown in
    record {
      fits = fits_over_logs net logs steps n z r a i;
      calls = steps_obey net w steps n z x.stands.fits i;
      replies = replied_from net w h steps n z i x.stands;
      never_clashes = λ k f runs js at is. no_frame_clashes net (world_over net logs steps) k f runs n y.0.stands.fits at is;
      sweep_settles = λ k ok. settles_at net (world_over net logs steps) (history_over net logs steps) k n z r y.0 y.1 ok;
      sweep_hands_over = λ k ok. hands_over_at net (world_over net logs steps) (history_over net logs steps) k n z r y.0 y.1 ok;
    }
