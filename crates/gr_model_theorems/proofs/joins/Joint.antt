-- Processes that run side by side, with joins: what holds on the net of the last joins
use Rattle.std.proofs.Common.{◌≡◌, inl, ℕ, ◌≤◌, Bool, List, [], ◌∷◌, ◌++◌, filter, refl, sym, ap, ◌∙◌, subst, Ok}
use Rattle.std.specs.List.{AllByRecursion}
use Rattle.gr_event.specs.declared.event.Event.{Event}
use Rattle.gr_event.specs.Joins.{Joins}
use Rattle.gr_frame.specs.declared.Frame.{Frame}
use Rattle.gr_frame.specs.Bytes.{frame_bytes}
use Rattle.gr_frame.specs.Decode.{frame_decoded}
use Rattle.gr_frame.proofs.Spelled.{spelled_decodes}
use Rattle.gr_sched.specs.declared.step.Line.{Line}
use Rattle.gr_model.specs.declared.report.Report.{Report}
use Rattle.gr_model.specs.Net.{Net, with_wants, wants_with}
use Rattle.gr_model.specs.Tree.{IsNet}
use Rattle.gr_model.specs.Broker.{View, seen}
use Rattle.gr_model.specs.World.{World, Transition, log_of, start, run_from_by}
use Rattle.gr_model.specs.Headline.{Recorded, History, history, record_of, recorded_net, begin, is_sent}
use Rattle.gr_model.specs.Arrivals.{Arrival, left_after, Request}
use Rattle.gr_model_calls.specs.OneNet as one
use Rattle.gr_model_calls.specs.Truth.{Grows}
use Rattle.gr_model_calls.specs.Fits.{WorldFits, StepIn, StepsIn}
use Rattle.gr_model_calls.proofs.calls.Held.{grows_not}
use Rattle.gr_model_calls.proofs.runs.Schedules.{report_lines}
use Rattle.gr_model_calls.proofs.joins.Growing.{AheadOf}
use Rattle.gr_model_calls.proofs.joins.OneRun.{IsNet-with}
use Rattle.gr_model_theorems.specs.Spelled.{IsInLimits, NumbersIn, IsSpelled, WorldIn}
use Rattle.gr_model_theorems.specs.Served.{IsOfBytes, steps_at, dropped_line}
use Rattle.gr_model_theorems.specs.Joint.{brokers_of, left_of, lefts_after, lefts_at_start, IsHonestJoint, HoldsJoint, HoldsJoint_by, AllDoStepsJoint, JointAsOne, joint_reports, joint_net, joint_comes_by, joint_from_by, joint_end_by}
use Rattle.gr_model_theorems.proofs.limits.Spelled.{IsSmall, next_in}
use Rattle.gr_model_theorems.proofs.records.Recorded.{record_core}
use Rattle.gr_model_theorems.proofs.headline.AfterSweeps.{holds_where_sweeps_reach}
use Rattle.gr_model_theorems.proofs.headline.SecondReaches.{sweeps_reach}
use Rattle.gr_model_theorems.proofs.server.Serving.{AreBrokers, LeftIn, left_in, Ready, turn, arrival_told}
use Rattle.gr_model_theorems.proofs.server.Joint.{part_of, with_part, lefts_in, honest_same, start_ready, honest_begun, joint_does as does_on_one}
use Rattle.gr_model_theorems.proofs.joins.AsOne.{start_same, history_same}
use Rattle.gr_model_theorems.proofs.joins.Serving.{comes_back, comes_runs, honest_told}
use Rattle.gr_model_theorems.proofs.joins.Owing.{RecordedAhead, RecordsUpto, ahead_from, holds_before}
use Rattle.gr_model_theorems.proofs.joins.Always.{begin_upto}
use Rattle.gr_model_theorems.proofs.joins.Telling.{upto_run}
use Rattle.gr_model_theorems.proofs.joins.Served.{small_in}

module _ (m : Net) (see : View → Net) (last : ℕ → Joins) (processes : List (List ℕ)) where
  pub end_back : (turns : List (ℕ × Arrival)) (lefts : List (List Request)) (w : World) → AheadOf m last (joint_end_by see m processes w lefts turns) → AheadOf m last w
  unfolding joint_end_by
  end_back [] lefts w b = b
  end_back (x ∷ turns) lefts w b = comes_back m see last (brokers_of processes x.0) (left_of lefts x.0) x.1 w (end_back turns (lefts_after lefts x) (joint_comes_by see m processes w lefts x).world b)

module _ (net : Net) (last : ℕ → Joins) (n : IsNet net) (on : 1 ≤ net.quiet) (retry : 1 ≤ net.retry) (P : World → Type 0) (keeps : (u : World) (l : Line) → (let g = with_wants net (λ p s t e. wants_with net (last p) p s t e) in WorldFits g u → StepIn g l.step → IsInLimits l.step → P u → P (one.next g u l).world)) (spelled : (u : World) → P u → AllByRecursion IsSpelled u.frames) (decodes : (f : Frame) → IsSpelled f → frame_decoded (frame_bytes f) ≡ Ok f) (processes : List (List ℕ)) (are : AllByRecursion (AreBrokers net) processes) where
  abbrev m : Net
  m = with_wants net (λ p s t e. wants_with net (last p) p s t e)

  tree : IsNet m
  tree = IsNet-with net (λ p s t e. wants_with net (last p) p s t e) n

  -- from where all stands on, what an honest joint journal leads to is the same
  pub joint_are : (turns : List (ℕ × Arrival)) (w : World) (h : History) (lefts : List (List Request)) → Ready m P w h → AllByRecursion (LeftIn net) lefts → AllByRecursion (λ (x : ℕ × Arrival). IsOfBytes x.1) turns → IsHonestJoint h.lines turns (joint_from_by (seen net) net processes w lefts turns) → AheadOf net last (joint_end_by (seen net) net processes w lefts turns)
      → (joint_from_by (seen net) net processes w lefts turns ≡ joint_from_by (λ _. m) m processes w lefts turns) × (joint_end_by (seen net) net processes w lefts turns ≡ joint_end_by (λ _. m) m processes w lefts turns)
  unfolding joint_from_by joint_end_by
  joint_are [] w h lefts r l f x b = (refl, refl)
  joint_are (x ∷ turns) w h lefts r l f honest b =
      let hosted : List ℕ = brokers_of processes x.0 in
      let left : List Request = left_of lefts x.0 in
      let rest : List (List Request) = lefts_after lefts x in
      let steps : List Line = steps_at m hosted h.lines left x.1 in
      let t : Transition = joint_comes_by (seen net) net processes w lefts x in
      let u : Transition = joint_comes_by (λ _. m) m processes w lefts x in
      let v : World = (one.run_all m w steps).world in
      let g : History = history m h steps (one.run_from m w steps) in
      let here : AreBrokers net hosted = part_of (AreBrokers net) processes x.0 tt are in
      let low : LeftIn net left = part_of (LeftIn net) lefts x.0 tt l in
      let e : t ≡ u = (comes_runs net last n hosted w left x.1 here r.whole.stands.fits low (honest_told m P w h x.1 spelled decodes r honest.0)).on (inl (end_back net (seen net) last processes turns rest t.world b)) in
      let y = turn m tree on retry P keeps spelled decodes hosted w h left x.1 here r low f.0 honest.0 in
      let to_v : t.world ≡ v = ap (λ (z : Transition). z.world) e ∙ y.does.world in
      let later : IsHonestJoint g.lines turns (joint_from_by (seen net) net processes v rest turns) = subst (λ (z : World). IsHonestJoint g.lines turns (joint_from_by (seen net) net processes z rest turns)) to_v
      (honest_same (h.lines ++ t.lines) g.lines turns (joint_from_by (seen net) net processes t.world rest turns) (ap (λ (z : Transition). filter is_sent (h.lines ++ z.lines)) e ∙ y.same) honest.1) in
      let more = joint_are turns v g rest y.ready (with_part (LeftIn net) lefts x.0 (left_after left x.1) (left_in net left x.1 low) l) f.1 later (subst (λ (z : World). AheadOf net last (joint_end_by (seen net) net processes z rest turns)) to_v b) in (
        ap (λ (z : Transition). z.lines ∷ joint_from_by (seen net) net processes z.world rest turns) e
            ∙ ap (λ (rs : List (List Report)). u.lines ∷ rs) (subst (λ (z : World). joint_from_by (seen net) net processes z rest turns ≡ joint_from_by (λ _. m) m processes z rest turns) (sym y.does.world) more.0),
        ap (λ (z : Transition). joint_end_by (seen net) net processes z.world rest turns) e
            ∙ subst (λ (z : World). joint_end_by (seen net) net processes z rest turns ≡ joint_end_by (λ _. m) m processes z rest turns) (sym y.does.world) more.1,
      )

  -- at the end nothing is to be joined any more, so what is to come is ahead of each history before it
  pub joint_holds : (turns : List (ℕ × Arrival)) (w : World) (h : History) (lefts : List (List Request)) → Ready m P w h → AllByRecursion (LeftIn net) lefts → AllByRecursion (λ (x : ℕ × Arrival). IsOfBytes x.1) turns → IsHonestJoint h.lines turns (joint_from_by (λ _. m) m processes w lefts turns) → RecordsUpto h.records → ((p : ℕ) → (log_of (joint_end_by (λ _. m) m processes w lefts turns) p).joins ≡ last p)
      → RecordedAhead last h × HoldsJoint_by (recorded_net net) net processes h lefts turns (joint_from_by (λ _. m) m processes w lefts turns)
  unfolding joint_from_by joint_end_by run_from_by
  joint_holds [] w h lefts r l f x u ends =
      let ahead : RecordedAhead last h = λ p. subst (λ (js : Joins). Grows (record_of h p).joined js (record_of h p).settled) (ap (λ (c : Recorded). c.joined) (record_core m w h p r.whole.stands.records) ∙ ends p) (grows_not (record_of h p).joined (record_of h p).settled) in
      (ahead, holds_before net last h [] [] ahead u (holds_where_sweeps_reach m w h [] tree (sweeps_reach m tree on retry) on tt r.whole r.unknown))
  joint_holds (x ∷ turns) w h lefts r l f honest u ends =
      let hosted : List ℕ = brokers_of processes x.0 in
      let left : List Request = left_of lefts x.0 in
      let rest : List (List Request) = lefts_after lefts x in
      let steps : List Line = steps_at m hosted h.lines left x.1 in
      let parts : List (List Report) = one.run_from m w steps in
      let t : Transition = joint_comes_by (λ _. m) m processes w lefts x in
      let v : World = (one.run_all m w steps).world in
      let g : History = history m h steps parts in
      let here : AreBrokers net hosted = part_of (AreBrokers net) processes x.0 tt are in
      let low : LeftIn net left = part_of (LeftIn net) lefts x.0 tt l in
      let y = turn m tree on retry P keeps spelled decodes hosted w h left x.1 here r low f.0 honest.0 in
      let g_same : g ≡ history net h steps parts = history_same net last h steps parts in
      let later : IsHonestJoint g.lines turns (joint_from_by (λ _. m) m processes v rest turns) = subst (λ (z : World). IsHonestJoint g.lines turns (joint_from_by (λ _. m) m processes z rest turns)) y.does.world
      (honest_same (h.lines ++ t.lines) g.lines turns (joint_from_by (λ _. m) m processes t.world rest turns) y.same honest.1) in
      let more = joint_holds turns v g rest y.ready (with_part (LeftIn net) lefts x.0 (left_after left x.1) (left_in net left x.1 low) l) f.1 later (subst (λ (k : History). RecordsUpto k.records) (sym g_same) (upto_run net h steps parts u))
      (subst (λ (z : World). (p : ℕ) → (log_of (joint_end_by (λ _. m) m processes z rest turns) p).joins ≡ last p) y.does.world ends) in
      let ahead : RecordedAhead last (history net h steps parts) = subst (RecordedAhead last) g_same more.0 in
      let told = arrival_told m tree on retry P keeps spelled decodes hosted w h left x.1 r y in (
        ahead_from net last h steps parts ahead,
        record {
          told = record { dropped = told.dropped; unreplied = told.unreplied; numbered = told.numbered };
          parts = parts;
          lines = y.does.lines ∙ ap (λ (z : List Report). z ++ dropped_line m x.1) (sym (report_lines m w steps));
          steps = holds_before net last h steps parts ahead u (holds_where_sweeps_reach m w h steps tree (sweeps_reach m tree on retry) on y.are_in.steps r.whole r.unknown);
          rest = subst (λ (k : History). HoldsJoint_by (recorded_net net) net processes k rest turns (joint_from_by (λ _. m) m processes t.world rest turns)) g_same
              (subst (λ (z : World). HoldsJoint_by (recorded_net net) net processes g rest turns (joint_from_by (λ _. m) m processes z rest turns)) (sym y.does.world) more.1);
        },
      )

begin_same : (net : Net) (f : ℕ → ℕ → ℕ → Event → Bool) → begin (with_wants net f) ≡ begin net
unfolding begin
begin_same net f = refl

joint_both : (net : Net) (processes : List (List ℕ)) (steps : List Line) (turns : List (ℕ × Arrival)) → IsNet net → IsSmall net → 1 ≤ net.quiet → 1 ≤ net.retry → StepsIn net steps → NumbersIn steps → AllByRecursion (AreBrokers net) processes → AllByRecursion (λ (x : ℕ × Arrival). IsOfBytes x.1) turns → IsHonestJoint [] turns (joint_reports net processes steps turns) → (let g = joint_net net processes steps turns in let lefts = lefts_at_start net processes steps in JointAsOne net processes steps turns × (joint_end_by (seen net) net processes (start net) lefts turns ≡ joint_end_by (λ _. g) g processes (start net) lefts turns))
joint_both net processes steps turns n small z retry i k are fits honest =
    let wants : ℕ → ℕ → ℕ → Event → Bool = λ p s t e. wants_with net (last p) p s t e in
    let g = joint_net net processes steps turns in
    let tree : IsNet g = IsNet-with net wants n in
    let tiny : IsSmall g = small_in net wants small in
    let lefts = lefts_at_start net processes steps in
    let ready : Ready g (WorldIn net.late) (start net) (begin g) = subst (λ (w : World). Ready g (WorldIn net.late) w (begin g)) (start_same net wants) (start_ready g tree tiny) in
    joint_are net last n z retry (WorldIn net.late) (λ u l f j q y. next_in g u l tree tiny f j q y) (λ u y. y.frames) (λ f y. spelled_decodes (frame_bytes f) f y) processes are
    turns (start net) (begin g) lefts ready (lefts_in net processes steps i k) fits (honest_begun g turns (joint_reports net processes steps turns) honest) ends
  where
    last : ℕ → Joins
    last p = (log_of (joint_end_by (seen net) net processes (start net) (lefts_at_start net processes steps) turns) p).joins

    ends : AheadOf net last (joint_end_by (seen net) net processes (start net) (lefts_at_start net processes steps) turns)
    ends p j = let l = log_of (joint_end_by (seen net) net processes (start net) (lefts_at_start net processes steps) turns) p in grows_not l.joins l.settled

pub joint_same : (net : Net) (processes : List (List ℕ)) (steps : List Line) (turns : List (ℕ × Arrival)) → IsNet net → IsSmall net → 1 ≤ net.quiet → 1 ≤ net.retry → StepsIn net steps → NumbersIn steps → AllByRecursion (AreBrokers net) processes → AllByRecursion (λ (x : ℕ × Arrival). IsOfBytes x.1) turns → IsHonestJoint [] turns (joint_reports net processes steps turns) → JointAsOne net processes steps turns
joint_same net processes steps turns n small z retry i k are fits honest = (joint_both net processes steps turns n small z retry i k are fits honest).0

-- the reports are those on that net, from its own start
on_one : (net : Net) (processes : List (List ℕ)) (steps : List Line) (turns : List (ℕ × Arrival)) → JointAsOne net processes steps turns → (let g = joint_net net processes steps turns in joint_reports net processes steps turns ≡ joint_from_by (λ _. g) g processes (start g) (lefts_at_start g processes steps) turns)
on_one net processes steps turns e =
    let g = joint_net net processes steps turns in
    e ∙ ap (λ (w : World). joint_from_by (λ _. g) g processes w (lefts_at_start net processes steps) turns) (sym (start_same net g.wants))

pub headline_joint : (net : Net) (processes : List (List ℕ)) (steps : List Line) (turns : List (ℕ × Arrival)) → IsNet net → IsSmall net → 1 ≤ net.quiet → 1 ≤ net.retry → StepsIn net steps → NumbersIn steps → AllByRecursion (AreBrokers net) processes → AllByRecursion (λ (x : ℕ × Arrival). IsOfBytes x.1) turns → IsHonestJoint [] turns (joint_reports net processes steps turns)
    → HoldsJoint net processes (begin net) (lefts_at_start net processes steps) turns (joint_reports net processes steps turns)
headline_joint net processes steps turns n small z retry i k are fits honest =
    let wants : ℕ → ℕ → ℕ → Event → Bool = λ p s t e. wants_with net (last p) p s t e in
    let g = joint_net net processes steps turns in
    let tree : IsNet g = IsNet-with net wants n in
    let tiny : IsSmall g = small_in net wants small in
    let lefts = lefts_at_start net processes steps in
    let both = joint_both net processes steps turns n small z retry i k are fits honest in
    let rs : List (List Report) = joint_from_by (λ _. g) g processes (start net) lefts turns in
    let ready : Ready g (WorldIn net.late) (start net) (begin net) = subst (λ (w : World). Ready g (WorldIn net.late) w (begin net)) (start_same net wants) (subst (λ (h : History). Ready g (WorldIn net.late) (start g) h) (begin_same net wants) (start_ready g tree tiny)) in
    subst (λ (qs : List (List Report)). HoldsJoint net processes (begin net) lefts turns qs) (sym both.0)
    (joint_holds net last n z retry (WorldIn net.late) (λ u l f j q y. next_in g u l tree tiny f j q y) (λ u y. y.frames) (λ f y. spelled_decodes (frame_bytes f) f y) processes are
    turns (start net) (begin net) lefts ready (lefts_in net processes steps i k) fits (honest_begun net turns rs (subst (λ (qs : List (List Report)). IsHonestJoint [] turns qs) both.0 honest)) (begin_upto net)
    (λ p. ap (λ (w : World). (log_of w p).joins) (sym both.1))).1
  where
    last : ℕ → Joins
    last p = (log_of (joint_end_by (seen net) net processes (start net) (lefts_at_start net processes steps) turns) p).joins

pub joint_does : (net : Net) (processes : List (List ℕ)) (steps : List Line) (turns : List (ℕ × Arrival)) → IsNet net → IsSmall net → 1 ≤ net.quiet → 1 ≤ net.retry → StepsIn net steps → NumbersIn steps → AllByRecursion (AreBrokers net) processes → AllByRecursion (λ (x : ℕ × Arrival). IsOfBytes x.1) turns → IsHonestJoint [] turns (joint_reports net processes steps turns)
    → AllDoStepsJoint (joint_net net processes steps turns) processes (start net) [] (lefts_at_start net processes steps) turns
joint_does net processes steps turns n small z retry i k are fits honest =
    let g = joint_net net processes steps turns in
    let e = on_one net processes steps turns (joint_same net processes steps turns n small z retry i k are fits honest) in
    subst (λ (w : World). AllDoStepsJoint g processes w [] (lefts_at_start net processes steps) turns) (start_same net g.wants)
    (does_on_one g processes steps turns (IsNet-with net g.wants n) (small_in net g.wants small) z retry i k are fits (subst (λ (qs : List (List Report)). IsHonestJoint [] turns qs) e honest))
