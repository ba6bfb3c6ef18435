-- Over logs that were found, with joins: the opening and the run after it are those on the net of the last joins
use Rattle.std.proofs.Common.{◌≡◌, inl, inr, ℕ, zero, suc, ◌<◌, ◌≤◌, Bool, List, [], ◌∷◌, ◌++◌, map, refl, sym, ap, ◌∙◌, subst}
use Rattle.gr_event.specs.declared.event.Event.{Event}
use Rattle.gr_event.specs.Joins.{Joins}
use Rattle.gr_sched.specs.declared.step.Line.{Line}
use Rattle.gr_model.specs.declared.report.Report.{Report}
use Rattle.gr_model.specs.Net.{Net, with_wants, wants_with, numbers}
use Rattle.gr_model.specs.Tree.{IsNet}
use Rattle.gr_model.specs.Broker.{Log, seen, started}
use Rattle.gr_model.specs.World.{World, Transition, log_of, unchanged, in_turn, run_all, run_from}
use Rattle.gr_model.specs.Opening.{reopened_log, over_logs, publishers_at, opened_for_by, opening, opening_by, recorded_of, begin_over}
use Rattle.gr_model.specs.Headline.{Recorded, History, history, record_of, Holds_from, Holds_from_by}
use Rattle.gr_model_calls.specs.OneNet as one
use Rattle.gr_model_calls.specs.OneNet.{last_net}
use Rattle.gr_model_calls.specs.Truth.{Grows}
use Rattle.gr_model_calls.specs.Fits.{WorldFits, StepsIn}
use Rattle.gr_model_calls.proofs.calls.Calls.{rise_upto}
use Rattle.gr_model_calls.proofs.calls.Held.{grows_not}
use Rattle.gr_model_calls.proofs.runs.Worlds.{Each}
use Rattle.gr_model_calls.proofs.runs.Seeing.{Runs, Runs-same, Runs-after, in_turn_back, run_back}
use Rattle.gr_model_calls.proofs.joins.Growing.{AheadOf, growing}
use Rattle.gr_model_calls.proofs.joins.OneRun.{IsNet-with, run_is, lines_are}
use Rattle.gr_model_calls.proofs.joins.Opened.{opened_back, opened_same}
use Rattle.gr_model_theorems.specs.Statements.{started_over, ended_over, over_net, RunsOverByRules, RunsOverByNoOther, OpeningTells, OpeningSendsNothing, RunsOverAsOne}
use Rattle.gr_model_theorems.specs.Found.{AreReopened}
use Rattle.gr_model_theorems.proofs.records.Recorded.{record_core, runs}
use Rattle.gr_model_theorems.proofs.server.Opening.{Opening, opening_turn, over_opening}
use Rattle.gr_model_theorems.proofs.server.OverLogs.{publishers_below, opened, opened_whole, headline_over_logs as headline_on_one}
use Rattle.gr_model_theorems.specs.ByRules.{RunsOver}
use Rattle.gr_model_theorems.specs.OverLogs.{StandsOver}
use Rattle.gr_model_theorems.proofs.server.OpenedLines.{opened_tells, opened_sends_nothing}
use Rattle.gr_model_theorems.proofs.server.OpenedFits.{stands_over_logs}
use Rattle.gr_model_theorems.proofs.server.OpensByRules.{over_by_rules as rules_on_one, over_once as once_on_one}
use Rattle.gr_model_theorems.proofs.joins.Owing.{RecordsUpto, holds_on}
use Rattle.gr_model_theorems.proofs.joins.AsOne.{on_as_one, history_same}

-- who wants what is no matter of logs that were found
pub reopened_in : (net : Net) (f : ℕ → ℕ → ℕ → Event → Bool) (logs : List Log) → AreReopened net logs → AreReopened (with_wants net f) logs
reopened_in net f logs a p = let x = a p in record { fits = x.fits; past_cut = x.past_cut; late = x.late; within = x.within }

over_same : (net : Net) (f : ℕ → ℕ → ℕ → Event → Bool) (logs : List Log) → over_logs (with_wants net f) logs ≡ over_logs net logs
unfolding over_logs started
over_same net f logs = refl

module _ (net : Net) (last : ℕ → Joins) (n : IsNet net) where
  abbrev on_last : Net
  on_last = with_wants net (λ p s t e. wants_with net (last p) p s t e)

  tree : IsNet on_last
  tree = IsNet-with net (λ p s t e. wants_with net (last p) p s t e) n

  turns_are : (logs : List Log) (w : World) (ls : List Report) (ps : List ℕ) → Each (λ p. p < net.publishers) ps → Opening on_last logs w ls → Runs (AheadOf net last) (in_turn (opened_for_by (seen net) net) ps w) (in_turn (one.opened_for on_last) ps w)
  turns_are logs w ls [] a o = Runs-same (AheadOf net last) (unchanged w [])
  turns_are logs w ls (p ∷ ps) a o =
      let t = one.opened_for on_last w p in
      Runs-after (AheadOf net last) (opened_for_by (seen net) net w p) t (in_turn (opened_for_by (seen net) net) ps) (in_turn (one.opened_for on_last) ps)
      (in_turn_back (AheadOf net last) (opened_for_by (seen net) net) (λ q. opened_back net (seen net) last q) ps) (in_turn_back (AheadOf net last) (one.opened_for on_last) (λ q. opened_back on_last (λ _. on_last) last q) ps)
      (opened_same net last w p tree o.fits a.0) (turns_are logs t.world (ls ++ t.lines) ps a.1 (opening_turn on_last logs w ls p tree a.0 o))

  pub opening_runs : (logs : List Log) → AreReopened net logs → Runs (AheadOf net last) (opening net (numbers net.brokers) logs) (one.opening on_last (numbers net.brokers) logs)
  unfolding opening_by
  opening_runs logs a =
      let g = on_last in
      let first : Opening g logs (over_logs g logs) [] = over_opening g logs tree (reopened_in net g.wants logs a) in
      subst (λ (w : World). Runs (AheadOf net last) (in_turn (opened_for_by (seen net) net) (publishers_at net (numbers net.brokers)) w) (in_turn (one.opened_for g) (publishers_at net (numbers net.brokers)) (over_logs g logs))) (over_same net g.wants logs)
      (turns_are logs (over_logs g logs) [] (publishers_at net (numbers net.brokers)) (publishers_below net (numbers net.brokers)) first)

pub record OverAsOne (net : Net) (logs : List Log) (steps : List Line) : Type 0 where
  pub tree : IsNet (over_net net logs steps)
  pub steps_in : StepsIn (over_net net logs steps) steps
  pub reopened : AreReopened (over_net net logs steps) logs
  pub opens : started_over net logs ≡ one.opening (over_net net logs steps) (numbers net.brokers) logs
  pub run : run_all net (started_over net logs).world steps ≡ one.run_all (over_net net logs steps) (started_over net logs).world steps
  pub lines : run_from net (started_over net logs).world steps ≡ one.run_from (over_net net logs steps) (started_over net logs).world steps

pub over_as_one : (net : Net) (logs : List Log) (steps : List Line) → IsNet net → AreReopened net logs → StepsIn net steps → OverAsOne net logs steps
over_as_one net logs steps n a i =
    let g = over_net net logs steps in
    let m : IsNet g = IsNet-with net g.wants n in
    let b : AreReopened g logs = reopened_in net g.wants logs a in
    let e = (opening_runs net last n logs a).on (inl (run_back net (seen net) (AheadOf net last) (growing net (seen net) last) steps (started_over net logs).world ends)) in
    let f : WorldFits g (started_over net logs).world = subst (λ (t : Transition). WorldFits g t.world) (sym e) (opened g logs m b).fits in
    let x = on_as_one net (started_over net logs).world steps n f i in
    record { tree = m; steps_in = i; reopened = b; opens = e; run = x.run; lines = x.lines }
  where
    last : ℕ → Joins
    last p = (log_of (ended_over net logs steps) p).joins

    ends : AheadOf net last (ended_over net logs steps)
    ends p j = let l = log_of (ended_over net logs steps) p in grows_not l.joins l.settled

-- The headline

pub begin_same : (net : Net) (f : ℕ → ℕ → ℕ → Event → Bool) (logs : List Log) (told : List Report) → begin_over (with_wants net f) logs told ≡ begin_over net logs told
unfolding begin_over
begin_same net f logs told = refl

pub found_upto : (net : Net) (logs : List Log) (told : List Report) → AreReopened net logs → RecordsUpto (begin_over net logs told).records
unfolding begin_over
found_upto net logs told a = go (numbers net.publishers)
  where
    go : (ps : List ℕ) → RecordsUpto (map (λ p. recorded_of (reopened_log logs p)) ps)
    go [] q = tt
    go (p ∷ ps) zero = let x = (a p).fits in rise_upto 0 (reopened_log logs p).settled (reopened_log logs p).events x.rise x.past
    go (p ∷ ps) (suc q) = go ps q

pub headline_over : (net : Net) (logs : List Log) (steps : List Line) → IsNet net → 1 ≤ net.quiet → 1 ≤ net.retry → AreReopened net logs → StepsIn net steps
    → Holds_from net (begin_over net logs (started_over net logs).lines) steps (run_from net (started_over net logs).world steps)
headline_over net logs steps n z r a i =
    let x = over_as_one net logs steps n a i in
    let g = over_net net logs steps in
    let o = one.opening g (numbers net.brokers) logs in
    let h = begin_over g logs o.lines in
    let on : Holds_from_by (λ _. g) g h steps (one.run_from g o.world steps) = headline_on_one g logs steps x.tree z r x.reopened x.steps_in in
    let whole = opened_whole g logs x.tree x.reopened in
    let fit = (runs g o.world h steps x.tree z whole.stands.fits whole.stands.records x.steps_in).records in
    let ends : (p : ℕ) → (record_of (history g h steps (one.run_from g o.world steps)) p).joined ≡ last p = λ p.
    ap (λ (c : Recorded). c.joined) (record_core g (one.run_all g o.world steps).world (history g h steps (one.run_from g o.world steps)) p fit)
    ∙ ap (λ (t : Transition). (log_of (one.run_all g t.world steps).world p).joins) (sym x.opens)
    ∙ ap (λ (t : Transition). (log_of t.world p).joins) (sym x.run) in
    let lines : run_from net (started_over net logs).world steps ≡ one.run_from g o.world steps = x.lines ∙ ap (λ (t : Transition). one.run_from g t.world steps) x.opens in
    subst (λ (t : Transition). Holds_from net (begin_over net logs t.lines) steps (run_from net (started_over net logs).world steps)) (sym x.opens)
    (subst (λ (rs : List (List Report)). Holds_from net (begin_over net logs o.lines) steps rs) (sym lines)
    (subst (λ (k : History). Holds_from net k steps (one.run_from g o.world steps)) (begin_same net g.wants logs o.lines)
    (holds_on net last h steps (one.run_from g o.world steps)
    (λ p. ap (λ (k : History). (record_of k p).joined) (sym (history_same net last h steps (one.run_from g o.world steps))) ∙ ends p)
    (found_upto g logs o.lines x.reopened) on)))
  where
    last : ℕ → Joins
    last p = (log_of (ended_over net logs steps) p).joins

-- What the opening tells

pub opening_tells : (net : Net) (logs : List Log) → IsNet net → AreReopened net logs → OpeningTells net logs
opening_tells net logs n a =
    let x = over_as_one net logs [] n a tt in
    ap (λ (t : Transition). t.lines) x.opens ∙ opened_tells (over_net net logs []) logs x.tree x.reopened

pub opening_sends_nothing : (net : Net) (logs : List Log) → IsNet net → AreReopened net logs → OpeningSendsNothing net logs
opening_sends_nothing net logs n a =
    let x = over_as_one net logs [] n a tt in
    ap (λ (t : Transition). t.world.frames) x.opens ∙ opened_sends_nothing (over_net net logs []) logs x.tree x.reopened

-- One run

pub runs_as_one : (net : Net) (logs : List Log) (steps : List Line) → IsNet net → AreReopened net logs → StepsIn net steps → RunsOverAsOne net logs steps
runs_as_one net logs steps n a i = let x = over_as_one net logs steps n a i in record { opens = x.opens; run = x.run; lines = x.lines }

pub over_stands : (net : Net) (logs : List Log) (steps : List Line) → IsNet net → 1 ≤ net.quiet → 1 ≤ net.retry → AreReopened net logs → StepsIn net steps → StandsOver (over_net net logs steps) logs steps
over_stands net logs steps n z r a i = let x = over_as_one net logs steps n a i in stands_over_logs (over_net net logs steps) logs steps x.tree z r x.reopened x.steps_in

-- By the rules

pub over_by_rules : (net : Net) (logs : List Log) (steps : List Line) → IsNet net → 1 ≤ net.quiet → AreReopened net logs → StepsIn net steps → RunsOverByRules net logs steps
over_by_rules net logs steps n z a i =
    let x = over_as_one net logs steps n a i in
    let g = over_net net logs steps in
    subst (λ (t : Transition). RunsOver g logs steps t.lines (run_from net t.world steps) (run_all net t.world steps).world) (sym x.opens)
    (subst (λ (rs : List (List Report)). RunsOver g logs steps (one.opening g (numbers net.brokers) logs).lines rs (run_all net (one.opening g (numbers net.brokers) logs).world steps).world) (sym (moved_lines x))
    (subst (λ (t : Transition). RunsOver g logs steps (one.opening g (numbers net.brokers) logs).lines (one.run_from g (one.opening g (numbers net.brokers) logs).world steps) t.world) (sym (moved_run x)) (rules_on_one g logs steps x.tree z x.reopened x.steps_in)))
  where
    moved_lines : OverAsOne net logs steps → (let o = one.opening (over_net net logs steps) (numbers net.brokers) logs in run_from net o.world steps ≡ one.run_from (over_net net logs steps) o.world steps)
    moved_lines x = subst (λ (t : Transition). run_from net t.world steps ≡ one.run_from (over_net net logs steps) t.world steps) x.opens x.lines

    moved_run : OverAsOne net logs steps → (let o = one.opening (over_net net logs steps) (numbers net.brokers) logs in run_all net o.world steps ≡ one.run_all (over_net net logs steps) o.world steps)
    moved_run x = subst (λ (t : Transition). run_all net t.world steps ≡ one.run_all (over_net net logs steps) t.world steps) x.opens x.run

pub over_once : (net : Net) (logs : List Log) (steps : List Line) → IsNet net → 1 ≤ net.quiet → AreReopened net logs → StepsIn net steps → RunsOverByNoOther net logs steps
over_once net logs steps n z a i told rs w by =
    let wants : ℕ → ℕ → ℕ → Event → Bool = λ p s t e. wants_with net (last p) p s t e in
    let g = last_net net w in
    let tree : IsNet g = IsNet-with net wants n in
    let into : StepsIn g steps = i in
    let found : AreReopened g logs = reopened_in net wants logs a in
    let o = one.opening g (numbers net.brokers) logs in
    let y = once_on_one g logs steps told rs w tree z found into by in
    let ends : (p : ℕ) → p < net.publishers → (log_of (one.run_all g o.world steps).world p).joins ≡ last p = λ p j. ap (λ (u : World). (log_of u p).joins) (sym y.2) in
    let at_end : AheadOf net last (one.run_all g o.world steps).world = λ p j. let l = log_of (one.run_all g o.world steps).world p in subst (λ (js : Joins). Grows l.joins js l.settled) (ends p j) (grows_not l.joins l.settled) in
    let opens : started_over net logs ≡ o = (opening_runs net last n logs a).on (inr (run_back g (λ _. g) (AheadOf net last) (growing g (λ _. g) last) steps o.world at_end)) in
    let f : WorldFits g o.world = (opened g logs tree found).fits in
    let run : run_all net o.world steps ≡ one.run_all g o.world steps = run_is net last steps n into o.world f (inr ends) in
    let lines : run_from net o.world steps ≡ one.run_from g o.world steps = lines_are net last steps n into o.world f (inr ends) in (
      y.0 ∙ ap (λ (t : Transition). t.lines) (sym opens),
      y.1 ∙ (sym lines ∙ ap (λ (t : Transition). run_from net t.world steps) (sym opens)),
      y.2 ∙ (ap (λ (t : Transition). t.world) (sym run) ∙ ap (λ (t : Transition). (run_all net t.world steps).world) (sym opens)),
    )
  where
    last : ℕ → Joins
    last p = (log_of w p).joins
