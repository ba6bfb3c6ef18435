-- No two reports are by the rules: whatever joins each of them ends on, its arrivals do what their steps do in one run, that of which
-- each call sees the joins of its view
use Rattle.std.proofs.Common.{◌≡◌, inr, ℕ, ◌≤◌, Bool, List, [], ◌∷◌, ◌++◌, sym, ap, ap₂, ◌∙◌, subst}
use Rattle.std.specs.List.{AllByRecursion}
use Rattle.gr_event.specs.declared.event.Event.{Event}
use Rattle.gr_event.specs.Joins.{Joins}
use Rattle.gr_sched.specs.declared.step.Line.{Line}
use Rattle.gr_model.specs.declared.report.Report.{Report}
use Rattle.gr_model.specs.Net.{Net, with_wants, wants_with, numbers}
use Rattle.gr_model.specs.Tree.{IsNet}
use Rattle.gr_model.specs.Broker.{Log, seen}
use Rattle.gr_model.specs.World.{World, Transition, log_of, run_all, run_from}
use Rattle.gr_model.specs.Arrivals.{Arrival, Request, requests_of, left_after}
use Rattle.gr_model_calls.specs.OneNet as one
use Rattle.gr_model_calls.specs.Fits.{WorldFits, StepsIn}
use Rattle.gr_model_calls.proofs.calls.Held.{grows_not}
use Rattle.gr_model_calls.proofs.runs.Schedules.{run_kept}
use Rattle.gr_model_calls.proofs.runs.Seeing.{run_runs, lines_run, run_back}
use Rattle.gr_model_calls.proofs.joins.Growing.{AheadOf, growing}
use Rattle.gr_model_calls.proofs.joins.OneRun.{IsNet-with}
use Rattle.gr_model_calls.proofs.joins.SameCalls.{same_calls}
use Rattle.gr_model_theorems.specs.ByRules.{shown}
use Rattle.gr_model_theorems.specs.Forgets.{kept_logs}
use Rattle.gr_model_theorems.specs.Found.{AreReopened}
use Rattle.gr_model_theorems.specs.Served.{IsOfBytes, joined, steps_of_arrival, dropped_line}
use Rattle.gr_model_theorems.specs.Spelled.{NumbersIn}
use Rattle.gr_model_theorems.specs.Statements.{started_over}
use Rattle.gr_model_theorems.proofs.joins.Over.{reopened_in, opening_runs}
use Rattle.gr_model_theorems.proofs.server.OpensByRules.{opens_once}
use Rattle.gr_model_theorems.proofs.server.OverLogs.{opened}
use Rattle.gr_model_theorems.proofs.server.Serving.{LeftIn, left_in, requests_are_in, all_brokers, arrival_in}
use Rattle.gr_model_theorems.proofs.sweep.RunsByRules.{run_once}
use Rattle.gr_node.specs.Obeyed.{ComeByRules, ServedByRules, ObeysRules}

-- what an arrival's steps tell, and then the line of a datagram that is dropped
abbrev told_at : Net → World → List Report → List Request → Arrival → List Report
told_at net w told left a = joined (run_from net w (steps_of_arrival net told left a)) ++ dropped_line net a

-- so does each, in the world that the steps of those before it leave; at the end all is shown
steps_tell : Net → World → List Report → List Request → List Arrival → List (List Report)
steps_tell net w told left [] = shown net w ∷ []
steps_tell net w told left (a ∷ arrivals) =
    told_at net w told left a ∷ steps_tell net (run_all net w (steps_of_arrival net told left a)).world (told ++ told_at net w told left a) (left_after left a) arrivals

-- behind the start
abbrev all_tell : Net → List Log → List Line → List Arrival → List (List Report)
all_tell net logs steps arrivals =
    let o : Transition = started_over net logs in
    o.lines ∷ steps_tell net o.world o.lines (requests_of net (numbers net.brokers) steps) arrivals

module _ (net : Net) (last : ℕ → Joins) (n : IsNet net) (quiet : 1 ≤ net.quiet) where
  abbrev wants : ℕ → ℕ → ℕ → Event → Bool
  wants p s t e = wants_with net (last p) p s t e

  abbrev g : Net
  g = with_wants net wants

  tree : IsNet g
  tree = IsNet-with net wants n

  -- what goes on by the rules on the net of the joins that it ends on: before it these are still to come, and it tells
  -- what the steps do
  come_once : (arrivals : List Arrival) (w : World) (told : List Report) (left : List Request) (rs : List (List Report)) (u : World) → WorldFits g w → LeftIn g left → AllByRecursion IsOfBytes arrivals → AheadOf net last u → ComeByRules g w told left arrivals rs u
      → AheadOf net last w × (rs ≡ steps_tell net w told left arrivals)
  unfolding steps_tell
  come_once [] w told left rs u f l bytes ends x = (subst (AheadOf net last) x.1 ends, x.0)
  come_once (a ∷ arrivals) w told left [] u f l bytes ends x = absurd x
  come_once (a ∷ arrivals) w told left (r ∷ rs) u f l bytes ends x =
      let steps : List Line = steps_of_arrival net told left a in
      let i : StepsIn g steps = (arrival_in g (numbers net.brokers) told left a (all_brokers g) l bytes.0).steps in
      let y = run_once g steps w x.parts x.after tree quiet f i x.happens in
      let fits : WorldFits g x.after = subst (WorldFits g) (sym y.1) (run_kept g w steps tree f i).fits in
      let later = come_once arrivals x.after (told ++ r) (left_after left a) rs u fits (left_in g left a l) bytes.1 ends x.rest in
      let there : AheadOf net last (one.run_all g w steps).world = subst (AheadOf net last) y.1 later.0 in
      let run : run_all net w steps ≡ one.run_all g w steps = (run_runs net wants (seen net) (AheadOf net last) tree (growing net (seen net) last) (growing g (λ v. g) last) (same_calls net last tree) w steps f i).on (inr there) in
      let lines : run_from net w steps ≡ one.run_from g w steps = lines_run net wants (seen net) (AheadOf net last) tree (growing net (seen net) last) (growing g (λ v. g) last) (same_calls net last tree) w steps f i (inr there) in
      let world : x.after ≡ (run_all net w steps).world = y.1 ∙ ap (λ (t : Transition). t.world) (sym run) in
      let told_as : r ≡ told_at net w told left a = x.lines ∙ ap (λ (parts : List (List Report)). joined parts ++ dropped_line net a) (y.0 ∙ sym lines) in (
        run_back g (λ v. g) (AheadOf net last) (growing g (λ v. g) last) steps w there,
        ap₂ (λ (q : List Report) (qs : List (List Report)). q ∷ qs) told_as (later.1 ∙ ap₂ (λ (v : World) (q : List Report). steps_tell net v (told ++ q) (left_after left a) arrivals) world told_as),
      )

  -- and so does the whole run
  served_once : (logs : List Log) (steps : List Line) (arrivals : List Arrival) (rs : List (List Report)) (u : World) → AreReopened net logs → StepsIn net steps → NumbersIn steps → AllByRecursion IsOfBytes arrivals → AheadOf net last u → ServedByRules g logs steps arrivals rs u
      → rs ≡ all_tell net logs steps arrivals
  served_once logs steps arrivals [] u found i m bytes ends x = absurd x
  served_once logs steps arrivals (r ∷ rs) u found i m bytes ends x =
      let left : List Request = requests_of net (numbers net.brokers) steps in
      let again : AreReopened g logs = reopened_in net wants logs found in
      let o : Transition = one.opening g (numbers net.brokers) logs in
      let t : Transition = record { world = x.opened; lines = r } in
      let e : t ≡ o = opens_once g logs t tree again x.opens in
      let rest : ComeByRules g o.world o.lines left arrivals rs u = subst (λ (z : Transition). ComeByRules g z.world z.lines left arrivals rs u) e x.rest in
      let y = come_once arrivals o.world o.lines left rs u (opened g logs tree again).fits (requests_are_in g (numbers net.brokers) steps i m) bytes ends rest in
      let opens : started_over net logs ≡ o = (opening_runs net last n logs found).on (inr y.0) in
      ap₂ (λ (q : List Report) (qs : List (List Report)). q ∷ qs) (ap (λ (z : Transition). z.lines) e) y.1 ∙ ap (λ (z : Transition). z.lines ∷ steps_tell net z.world z.lines left arrivals) (sym opens)

-- a report that is by the rules is that one
obeys_once : (net : Net) (logs : List Log) (steps : List Line) (arrivals : List Arrival) (rs : List (List Report)) → IsNet net → 1 ≤ net.quiet → AreReopened net (kept_logs logs) → StepsIn net steps → NumbersIn steps → AllByRecursion IsOfBytes arrivals → ObeysRules net logs steps arrivals rs
    → rs ≡ all_tell net (kept_logs logs) steps arrivals
obeys_once net logs steps arrivals rs n quiet found i m bytes x = served_once net last n quiet (kept_logs logs) steps arrivals rs x.left found i m bytes ends x.run
  where
    last : ℕ → Joins
    last p = (log_of x.left p).joins

    ends : AheadOf net last x.left
    ends p j = let l = log_of x.left p in grows_not l.joins l.settled

-- so two of them are equal
pub only_one_obeys : (net : Net) (logs : List Log) (steps : List Line) (arrivals : List Arrival) (rs qs : List (List Report)) → IsNet net → 1 ≤ net.quiet → AreReopened net (kept_logs logs) → StepsIn net steps → NumbersIn steps → AllByRecursion IsOfBytes arrivals → ObeysRules net logs steps arrivals rs → ObeysRules net logs steps arrivals qs → qs ≡ rs
only_one_obeys net logs steps arrivals rs qs n quiet found i m bytes x y =
    obeys_once net logs steps arrivals qs n quiet found i m bytes y ∙ sym (obeys_once net logs steps arrivals rs n quiet found i m bytes x)
