-- What a start over logs that were found tells and leaves is what the rules allow, and nothing else: at each publisher it tells the log and
-- then learns nothing new, which is the delivery of a frame without runs
use Rattle.std.proofs.Common.{◌≡◌, ℕ, ◌≤◌, ◌<◌, Bool, true, false, List, [], sym, ap, ◌∙◌, subst, refl}
use Rattle.std.specs.Prelude.{nat_lt}
use Rattle.std.proofs.lemmas.Bool.{true≢false}
use Rattle.gr_sched.specs.declared.step.Line.{Line}
use Rattle.gr_model.specs.declared.report.Report.{Report}
use Rattle.gr_model.specs.Net.{Net, not_empty, numbers}
use Rattle.gr_model.specs.Broker.{with_joins, Log}
use Rattle.gr_model.specs.World.{view_of, World, Transition, log_of, absorbed, unchanged}
use Rattle.gr_model_calls.specs.OneNet.{run_from, run_all, opened_for, opening}
use Rattle.gr_model.specs.Opening.{over_logs, reopened_line, opened_for_by, publishers_at, opening_by}
use Rattle.gr_model.specs.Tree.{IsNet}
use Rattle.gr_model_calls.specs.Fits.{WorldFits, StepsIn}
use Rattle.gr_model_theorems.specs.Found.{AreReopened}
use Rattle.gr_model_theorems.specs.ByRules.{Calls, Tells, EachInTurn, Arrives, HostReaches, OpensLog, Opens, RunByRules, RunsOver}
use Rattle.gr_model_calls.proofs.runs.Worlds.{Kept, Kept-after, Kept-still, Kept-refl, deliver_kept}
use Rattle.gr_model_theorems.proofs.sweep.RunsByRules.{told_same, Exactly, tells_exactly, then_exactly, turns_exactly, arrival_exactly, begins_over, begins_once, run_by_rules, run_once}
use Rattle.gr_model_theorems.proofs.server.Opening.{longer_none, nothing, nothing_is_true, learns, delivered_nothing, found_line_says, over_opening}
use Rattle.gr_event.specs.Joins.{Joins}
use Rattle.gr_model_calls.specs.Rules.{NewTicks}
use Rattle.gr_model_theorems.proofs.server.OverLogs.{opened_whole, publishers_below}

abbrev reaches : Net → ℕ → World → Transition
reaches net p w = elim (not_empty (net.subscribers_at (net.host p))) [ true ↦ absorbed w (net.host p) p (learns net w p) | false ↦ unchanged w [] ]

-- a frame without runs or joins brings what the host learns: nothing new, of the view that it has
brings_nothing : (net : Net) (p : ℕ) (w : World) (t : Transition) → Arrives net (nothing net p) w t → Calls (net.host p) p (NewTicks net p (net.host p) []) w t
brings_nothing net p w t x = record {
  outcome = x.outcome;
  rule = subst (λ (js : Joins). NewTicks net p (net.host p) [] (with_joins (view_of w (net.host p) p) js) (log_of w p) x.outcome) (longer_none (view_of w (net.host p) p).joins) x.rule;
  lines = x.lines;
  frames = x.frames;
  views = x.views;
  logs = x.logs;
  clock = x.clock;
  most = x.most;
}

nothing_brought : (net : Net) (p : ℕ) (w : World) (t : Transition) → Calls (net.host p) p (NewTicks net p (net.host p) []) w t → Arrives net (nothing net p) w t
nothing_brought net p w t x = record {
  outcome = x.outcome;
  rule = subst (λ (js : Joins). NewTicks net p (net.host p) [] (with_joins (view_of w (net.host p) p) js) (log_of w p) x.outcome) (sym (longer_none (view_of w (net.host p) p).joins)) x.rule;
  lines = x.lines;
  frames = x.frames;
  views = x.views;
  logs = x.logs;
  clock = x.clock;
  most = x.most;
}

reaches_exactly : (net : Net) (p : ℕ) (w : World) → IsNet net → WorldFits net w → p < net.publishers → Exactly (HostReaches net p) w (reaches net p w)
reaches_exactly net p w n f j = go (not_empty (net.subscribers_at (net.host p))) refl
  where
    z : Exactly (Arrives net (nothing net p)) w (absorbed w (net.host p) p (learns net w p))
    z = subst (λ (t : Transition). Exactly (Arrives net (nothing net p)) w t) (delivered_nothing net w p n f j) (arrival_exactly net w (nothing net p) n f (nothing_is_true net w p n j))

    go : (q : Bool) → not_empty (net.subscribers_at (net.host p)) ≡ q → (let t : Transition = elim q [ true ↦ absorbed w (net.host p) p (learns net w p) | false ↦ unchanged w [] ] in Exactly (HostReaches net p) w t)
    go true e = record {
      holds = record { here = λ x. brings_nothing net p w (absorbed w (net.host p) p (learns net w p)) z.holds; none = λ x. absurd (true≢false (sym e ∙ x)) };
      only = λ u r. z.only u (nothing_brought net p w u (r.here e));
    }
    go false e = record {
      holds = record { here = λ x. absurd (true≢false (sym x ∙ e)); none = λ x. record { world = refl; lines = refl } };
      only = λ u r. let x = r.none e in told_same u (unchanged w []) x.world x.lines;
    }

reaches_kept : (net : Net) (p : ℕ) (w : World) → IsNet net → WorldFits net w → p < net.publishers → Kept net w (reaches net p w)
reaches_kept net p w n f j = go (not_empty (net.subscribers_at (net.host p)))
  where
    go : (q : Bool) → (let t : Transition = elim q [ true ↦ absorbed w (net.host p) p (learns net w p) | false ↦ unchanged w [] ] in Kept net w t)
    go true = subst (λ (t : Transition). Kept net w t) (delivered_nothing net w p n f j) (deliver_kept net w (nothing net p) n f (nothing_is_true net w p n j))
    go false = Kept-refl net w f

turn_exactly : (net : Net) (w : World) (p : ℕ) → IsNet net → WorldFits net w → p < net.publishers → Exactly (OpensLog net p) w (opened_for net w p)
unfolding opened_for_by
turn_exactly net w p n f j =
    let front = reopened_line (log_of w p) p in
    let x = then_exactly (Tells front) (HostReaches net p) w (unchanged w front) (λ u. reaches net p u) (tells_exactly front w) (reaches_exactly net p w n f j) in
    record { holds = x.holds; only = x.only }

turn_kept : (net : Net) (w : World) (p : ℕ) → IsNet net → WorldFits net w → p < net.publishers → Kept net w (opened_for net w p)
unfolding opened_for_by
turn_kept net w p n f j =
    let l : Log = log_of w p in
    let s = found_line_says (nat_lt 0 l.settled) p l.last l.settled l.cut in
    Kept-after net w (unchanged w (reopened_line (log_of w p) p)) (λ u. reaches net p u) (Kept-still net w (reopened_line (log_of w p) p) f s.0) (reaches_kept net p w n f j)

opening_exactly : (net : Net) (logs : List Log) → IsNet net → AreReopened net logs → Exactly (EachInTurn (OpensLog net) (publishers_at net (numbers net.brokers))) (over_logs net logs) (opening net (numbers net.brokers) logs)
unfolding opening_by
opening_exactly net logs n a =
    turns_exactly net (λ u p. p < net.publishers) (OpensLog net) (opened_for net) (λ u v p l j. j) (λ u p g j. turn_kept net u p n g j) (λ u p g j. turn_exactly net u p n g j) (publishers_at net (numbers net.brokers)) (over_logs net logs) (over_opening net logs n a).fits (publishers_below net (numbers net.brokers))

-- the machine's opening is by the rules, and no other is
pub opens_by_rules : (net : Net) (logs : List Log) → IsNet net → AreReopened net logs → Opens net logs (opening net (numbers net.brokers) logs)
opens_by_rules net logs n a = record { begun = over_logs net logs; begins = begins_over net logs; opens = (opening_exactly net logs n a).holds }

pub opens_once : (net : Net) (logs : List Log) (t : Transition) → IsNet net → AreReopened net logs → Opens net logs t → t ≡ opening net (numbers net.brokers) logs
opens_once net logs t n a o = (opening_exactly net logs n a).only t (subst (λ w. EachInTurn (OpensLog net) (publishers_at net (numbers net.brokers)) w t) (begins_once net logs o.begun (over_logs net logs) o.begins (begins_over net logs)) o.opens)

-- and so is all that follows
pub over_by_rules : (net : Net) (logs : List Log) (steps : List Line) → IsNet net → 1 ≤ net.quiet → AreReopened net logs → StepsIn net steps →
    (let o : Transition = opening net (numbers net.brokers) logs in RunsOver net logs steps o.lines (run_from net o.world steps) (run_all net o.world steps).world)
over_by_rules net logs steps n quiet a i =
    let o : Transition = opening net (numbers net.brokers) logs in
    record { opened = o.world; opens = opens_by_rules net logs n a; run = run_by_rules net steps o.world n quiet (opened_whole net logs n a).stands.fits i }

-- a run over reopened logs that is allowed by the rules has the lines and the world of the machine
pub over_once : (net : Net) (logs : List Log) (steps : List Line) (told : List Report) (rs : List (List Report)) (u : World) → IsNet net → 1 ≤ net.quiet → AreReopened net logs → StepsIn net steps → RunsOver net logs steps told rs u →
    (let o : Transition = opening net (numbers net.brokers) logs in (told ≡ o.lines) × (rs ≡ run_from net o.world steps) × (u ≡ (run_all net o.world steps).world))
over_once net logs steps told rs u n quiet a i r =
    let o : Transition = opening net (numbers net.brokers) logs in
    let t : Transition = record { world = r.opened; lines = told } in
    let e : t ≡ o = opens_once net logs t n a r.opens in
    let x = run_once net steps o.world rs u n quiet (opened_whole net logs n a).stands.fits i (subst (λ (z : Transition). RunByRules net z.world steps rs u) e r.run) in
    (ap (λ (z : Transition). z.lines) e, x.0, x.1)
