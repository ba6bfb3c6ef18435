-- The headline holds of processes that run side by side, since each arrival, at whichever process, does what its steps do
use Rattle.std.proofs.Common.{◌≡◌, ℕ, zero, suc, ◌≤◌, List, [], ◌∷◌, ◌++◌, get_or, set, sym, ap, ◌∙◌, subst, Ok}
use Rattle.std.specs.Prelude.{filter}
use Rattle.std.specs.List.{AllByRecursion}
use Rattle.std.proofs.lemmas.List.Elements.{filter-append}
use Rattle.gr_frame.specs.declared.Frame.{Frame}
use Rattle.gr_frame.specs.Bytes.{frame_bytes}
use Rattle.gr_frame.specs.Decode.{frame_decoded}
use Rattle.gr_frame.proofs.Spelled.{spelled_decodes}
use Rattle.gr_sched.specs.declared.step.Line.{Line}
use Rattle.gr_model.specs.declared.report.Report.{Report}
use Rattle.gr_model.specs.Net.{Net}
use Rattle.gr_model.specs.Tree.{IsNet}
use Rattle.gr_model.specs.World.{World, Transition, start, run_from_by}
use Rattle.gr_model_calls.specs.OneNet.{next, run_all, run_from}
use Rattle.gr_model.specs.Headline.{History, history, begin, is_sent}
use Rattle.gr_model.specs.Arrivals.{Arrival, left_after, Request}
use Rattle.gr_model_calls.specs.Fits.{WorldFits, StepIn, StepsIn}
use Rattle.gr_model_calls.proofs.topology.Strays.{start_over}
use Rattle.gr_model_theorems.specs.Spelled.{IsInLimits, NumbersIn, IsSpelled, WorldIn}
use Rattle.gr_model_theorems.specs.Served.{IsOfBytes, steps_at, DoesStepsAt}
use Rattle.gr_model_theorems.specs.Joint.{brokers_of, left_of, lefts_after, lefts_at_start, IsHonestJoint, HoldsJoint_by, AllDoStepsJoint, joint_comes_by, joint_from_by}
use Rattle.gr_model_theorems.proofs.limits.Spelled.{IsSmall, next_in, start_in}
use Rattle.gr_model_theorems.proofs.records.Recorded.{begin_lines}
use Rattle.gr_model_theorems.proofs.sweep.FirstUnknown.{unknowns_always}
use Rattle.gr_model_theorems.proofs.sweep.Obeying.{steps_obey}
use Rattle.gr_model_theorems.proofs.sweep.RunsByRules.{run_by_rules}
use Rattle.gr_model_theorems.proofs.headline.WithoutSweeps.{start_whole}
use Rattle.gr_model_theorems.proofs.headline.AfterSweeps.{holds_where_sweeps_reach}
use Rattle.gr_model_theorems.proofs.headline.SecondReaches.{sweeps_reach}
use Rattle.gr_model_theorems.proofs.server.Serving.{AreBrokers, LeftIn, left_in, requests_are_in, honest_at, Ready, turn, arrival_holds, steps_same}

-- Processes where every call sees one net

abbrev pub joint_comes : Net → List (List ℕ) → World → List (List Request) → ℕ × Arrival → Transition
joint_comes net = joint_comes_by (λ _. net) net

abbrev pub joint_from : Net → List (List ℕ) → World → List (List Request) → List (ℕ × Arrival) → List (List Report)
joint_from net = joint_from_by (λ _. net) net

abbrev pub joint_reports : Net → List (List ℕ) → List Line → List (ℕ × Arrival) → List (List Report)
joint_reports net processes steps turns = joint_from net processes (start net) (lefts_at_start net processes steps) turns

-- the parts of a list of lists

pub part_of : {X : Type 0} (P : List X → Type 0) (xs : List (List X)) (k : ℕ) → P [] → AllByRecursion P xs → P (get_or xs k [])
part_of P [] k none a = none
part_of P (x ∷ xs) zero none a = a.0
part_of P (x ∷ xs) (suc k) none a = part_of P xs k none a.1

pub with_part : {X : Type 0} (P : List X → Type 0) (xs : List (List X)) (k : ℕ) (x : List X) → P x → AllByRecursion P xs → AllByRecursion P (set xs k x)
with_part P [] k x h a = a
with_part P (y ∷ xs) zero x h a = (h, a.1)
with_part P (y ∷ xs) (suc k) x h a = (a.0, with_part P xs k x h a.1)

pub lefts_in : (net : Net) (processes : List (List ℕ)) (steps : List Line) → StepsIn net steps → NumbersIn steps → AllByRecursion (LeftIn net) (lefts_at_start net processes steps)
lefts_in net [] steps i m = tt
lefts_in net (hosted ∷ processes) steps i m = (requests_are_in net hosted steps i m, lefts_in net processes steps i m)

-- an honest journal is one by the lines of frames alone
pub honest_same : (xs ys : List Report) (turns : List (ℕ × Arrival)) (rs : List (List Report)) → filter is_sent xs ≡ filter is_sent ys → IsHonestJoint xs turns rs → IsHonestJoint ys turns rs
honest_same xs ys [] rs e h = tt
honest_same xs ys (x ∷ turns) [] e h = h
honest_same xs ys (x ∷ turns) (r ∷ rs) e h = (honest_at xs ys x.1 e h.0, honest_same (xs ++ r) (ys ++ r) turns rs (filter-append is_sent xs r ∙ (ap (λ (z : List Report). z ++ filter is_sent r) e ∙ sym (filter-append is_sent ys r))) h.1)

module _ (net : Net) (n : IsNet net) (on : 1 ≤ net.quiet) (retry : 1 ≤ net.retry) (P : World → Type 0) (keeps : (u : World) (l : Line) → WorldFits net u → StepIn net l.step → IsInLimits l.step → P u → P (next net u l).world) (spelled : (u : World) → P u → AllByRecursion IsSpelled u.frames) (decodes : (f : Frame) → IsSpelled f → frame_decoded (frame_bytes f) ≡ Ok f) (processes : List (List ℕ)) (are : AllByRecursion (AreBrokers net) processes) where
  -- from where all stands on, the headline holds of what an honest joint journal leads to
  pub holds_joint : (turns : List (ℕ × Arrival)) (w : World) (h : History) (lefts : List (List Request)) → Ready net P w h → AllByRecursion (LeftIn net) lefts → AllByRecursion (λ (x : ℕ × Arrival). IsOfBytes x.1) turns
      → IsHonestJoint h.lines turns (joint_from net processes w lefts turns) → HoldsJoint_by (λ _. net) net processes h lefts turns (joint_from net processes w lefts turns)
  unfolding joint_from_by run_from_by
  holds_joint [] w h lefts r l f x = holds_where_sweeps_reach net w h [] n (sweeps_reach net n on retry) on tt r.whole r.unknown
  holds_joint (x ∷ turns) w h lefts r l f honest =
      let hosted : List ℕ = brokers_of processes x.0 in
      let left : List Request = left_of lefts x.0 in
      let steps : List Line = steps_at net hosted h.lines left x.1 in
      let t : Transition = joint_comes net processes w lefts x in
      let g : History = history net h steps (run_from net w steps) in
      let here = part_of (AreBrokers net) processes x.0 tt are in
      let low = part_of (LeftIn net) lefts x.0 tt l in
      let y = turn net n on retry P keeps spelled decodes hosted w h left x.1 here r low f.0 honest.0 in
      arrival_holds net n on retry P keeps spelled decodes hosted (λ k. HoldsJoint_by (λ _. net) net processes k (lefts_after lefts x) turns (joint_from net processes t.world (lefts_after lefts x) turns)) w h left x.1 r y
      (subst (λ (u : World). HoldsJoint_by (λ _. net) net processes g (lefts_after lefts x) turns (joint_from net processes u (lefts_after lefts x) turns)) (sym y.does.world)
      (holds_joint turns (run_all net w steps).world g (lefts_after lefts x) y.ready (with_part (LeftIn net) lefts x.0 (left_after left x.1) (left_in net left x.1 low) l) f.1
      (subst (λ (u : World). IsHonestJoint g.lines turns (joint_from net processes u (lefts_after lefts x) turns)) y.does.world (honest_same (h.lines ++ t.lines) g.lines turns (joint_from net processes t.world (lefts_after lefts x) turns) y.same honest.1))))

  -- and each arrival does what its steps do
  pub all_do_joint : (turns : List (ℕ × Arrival)) (w : World) (h : History) (lefts : List (List Request)) (lines : List Report) → Ready net P w h → AllByRecursion (LeftIn net) lefts → AllByRecursion (λ (x : ℕ × Arrival). IsOfBytes x.1) turns
      → filter is_sent h.lines ≡ filter is_sent lines → IsHonestJoint h.lines turns (joint_from net processes w lefts turns) → AllDoStepsJoint net processes w lines lefts turns
  unfolding joint_from_by
  all_do_joint [] w h lefts lines r l f e x = sym e ∙ r.whole.stands.sent
  all_do_joint (x ∷ turns) w h lefts lines r l f e honest =
      let hosted : List ℕ = brokers_of processes x.0 in
      let left : List Request = left_of lefts x.0 in
      let steps : List Line = steps_at net hosted h.lines left x.1 in
      let t : Transition = joint_comes net processes w lefts x in
      let g : History = history net h steps (run_from net w steps) in
      let here = part_of (AreBrokers net) processes x.0 tt are in
      let low = part_of (LeftIn net) lefts x.0 tt l in
      let y = turn net n on retry P keeps spelled decodes hosted w h left x.1 here r low f.0 honest.0 in
      let same : filter is_sent g.lines ≡ filter is_sent (lines ++ t.lines) = sym y.same ∙ (filter-append is_sent h.lines t.lines ∙ (ap (λ (z : List Report). z ++ filter is_sent t.lines) e ∙ sym (filter-append is_sent lines t.lines))) in (
        sym e ∙ r.whole.stands.sent,
        subst (λ (z : List Line). DoesStepsAt net hosted w left x.1 z) (steps_same net n on retry P keeps spelled decodes hosted h.lines lines left x.1 e)
            (record { world = y.does.world; lines = y.does.lines; obey = steps_obey net w steps n on r.whole.stands.fits y.are_in.steps; by_rules = run_by_rules net steps w n on r.whole.stands.fits y.are_in.steps }),
        subst (λ (u : World). AllDoStepsJoint net processes u (lines ++ t.lines) (lefts_after lefts x) turns) (sym y.does.world)
            (all_do_joint turns (run_all net w steps).world g (lefts_after lefts x) (lines ++ t.lines) y.ready (with_part (LeftIn net) lefts x.0 (left_after left x.1) (left_in net left x.1 low) l) f.1 same
            (subst (λ (u : World). IsHonestJoint g.lines turns (joint_from net processes u (lefts_after lefts x) turns)) y.does.world (honest_same (h.lines ++ t.lines) g.lines turns (joint_from net processes t.world (lefts_after lefts x) turns) y.same honest.1))),
      )

-- ---- from a start with nothing

pub start_ready : (net : Net) → IsNet net → IsSmall net → Ready net (WorldIn net.late) (start net) (begin net)
start_ready net n z = record {
  whole = start_whole net n;
  unknown = unknowns_always net [] n tt;
  over = start_over net;
  limits = start_in net z.late.few;
}

pub honest_begun : (net : Net) (turns : List (ℕ × Arrival)) (rs : List (List Report)) → IsHonestJoint [] turns rs → IsHonestJoint (begin net).lines turns rs
honest_begun net turns rs h = subst (λ (ls : List Report). IsHonestJoint ls turns rs) (sym (begin_lines net)) h

pub headline_joint : (net : Net) (processes : List (List ℕ)) (steps : List Line) (turns : List (ℕ × Arrival)) → IsNet net → IsSmall net → 1 ≤ net.quiet → 1 ≤ net.retry → StepsIn net steps → NumbersIn steps → AllByRecursion (AreBrokers net) processes
    → AllByRecursion (λ (x : ℕ × Arrival). IsOfBytes x.1) turns → IsHonestJoint [] turns (joint_reports net processes steps turns)
    → HoldsJoint_by (λ _. net) net processes (begin net) (lefts_at_start net processes steps) turns (joint_reports net processes steps turns)
headline_joint net processes steps turns n z on retry i m are fits honest =
    holds_joint net n on retry (WorldIn net.late) (λ u l f j k x. next_in net u l n z f j k x) (λ u x. x.frames) (λ f x. spelled_decodes (frame_bytes f) f x) processes are
    turns (start net) (begin net) (lefts_at_start net processes steps) (start_ready net n z) (lefts_in net processes steps i m) fits (honest_begun net turns (joint_reports net processes steps turns) honest)

pub joint_does : (net : Net) (processes : List (List ℕ)) (steps : List Line) (turns : List (ℕ × Arrival)) → IsNet net → IsSmall net → 1 ≤ net.quiet → 1 ≤ net.retry → StepsIn net steps → NumbersIn steps → AllByRecursion (AreBrokers net) processes
    → AllByRecursion (λ (x : ℕ × Arrival). IsOfBytes x.1) turns → IsHonestJoint [] turns (joint_reports net processes steps turns)
    → AllDoStepsJoint net processes (start net) [] (lefts_at_start net processes steps) turns
joint_does net processes steps turns n z on retry i m are fits honest =
    all_do_joint net n on retry (WorldIn net.late) (λ u l f j k x. next_in net u l n z f j k x) (λ u x. x.frames) (λ f x. spelled_decodes (frame_bytes f) f x) processes are
    turns (start net) (begin net) (lefts_at_start net processes steps) [] (start_ready net n z) (lefts_in net processes steps i m) fits (ap (filter is_sent) (begin_lines net)) (honest_begun net turns (joint_reports net processes steps turns) honest)
