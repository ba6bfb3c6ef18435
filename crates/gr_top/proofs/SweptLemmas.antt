-- Each sweep of a schedule that is not refused settles everything: its lines are those of the machine's sweep, after the steps before it
use Rattle.std.proofs.Common.{◌≡◌, ◌⊎◌, inl, inr, ℕ, suc, ◌≤◌, ◌<◌, max, Bool, true, false, List, [], ◌∷◌, ◌++◌, length, drop, filter, refl, sym, ap, ap₂, ◌∙◌, subst, arith}
use Rattle.std.specs.Prelude.{nat_lt, nat_le}
use Rattle.std.proofs.lemmas.Bool.{cases_lt, le-leb, lt-ltb}
use Rattle.gr_sched.specs.declared.step.Step.TheVariants as step
use Rattle.gr_sched.specs.declared.step.Line.{Line}
use Rattle.gr_model.specs.declared.report.Report.{Report}
use Rattle.gr_model.specs.declared.report.Report.TheVariants as line
use Rattle.gr_model.specs.Net.{Net, numbers, wants_with}
use Rattle.gr_model.specs.Broker.{max_tick}
use Rattle.gr_model.specs.Headline.{History, history, begin, record_of, recorded_net}
use Rattle.gr_model.specs.World.{World, Transition, next, next_by, run_all, run_from, run_from_by, report_of, report_of_by, start, unchanged, followed_by, in_turn, sweep as sweep_now, sweep_by, sweep_moment}
use Rattle.gr_model_calls.specs.OneNet.{sweep, sweep_for}
use Rattle.gr_model_calls.specs.Fits.{StepsIn, history_of}
use Rattle.gr_model_theorems.specs.Settles.{SweepSettles, AllGot, all_made, at_sweep, is_accepted, sweep_calls}
use Rattle.gr_model_theorems.specs.Statements.{IsAskedRun, IsMarkedRun, IsSweptRun, SweepsAsOne, joined_net, world_after}
use Rattle.gr_top.specs.Swept.{SettlesAll, SweepsSettle}
use Rattle.gr_top.proofs.JoinLemmas.{recorded_last}

-- Lists

-- the last line, or another where there is none
abbrev last_of : Report → List Report → Report
last_of r [] = r
last_of r (x ∷ xs) = last_of x xs

last_is : (r x : Report) (xs : List Report) → last_of r (xs ++ x ∷ []) ≡ x
last_is r x [] = refl
last_is r x (y ∷ ys) = last_is y x ys

-- a list is cut at one place in one way
cut_once : {X : Type 0} (a b : List X) (x y : X) (xs ys : List X) → length a ≡ length b → a ++ x ∷ xs ≡ b ++ y ∷ ys → (a ≡ b) × (x ≡ y)
cut_once [] [] x y xs ys n e = (refl, cc)
cut_once [] (b ∷ bs) x y xs ys n e = absurd (omega (arith, n))
cut_once (a ∷ more) [] x y xs ys n e = absurd (omega (arith, n))
cut_once {X} (a ∷ more) (b ∷ bs) x y xs ys n e =
    let tails : more ++ x ∷ xs ≡ bs ++ y ∷ ys = ap (drop 1) e in
    let head : a ≡ b = cc in
    let rest = cut_once more bs x y xs ys (omega (arith, n)) tails in
    (ap₂ (λ z zs. z ∷ zs) head rest.0, rest.1)

-- A schedule up to a step

front_in : (net : Net) (done : List Line) (l : Line) (left : List Line) → StepsIn net (done ++ l ∷ left) → StepsIn net done
front_in net [] l left i = tt
front_in net (x ∷ xs) l left i = (i.0, front_in net xs l left i.1)

lines_cut : (net : Net) (w : World) (done : List Line) (l : Line) (left : List Line) → run_from net w (done ++ l ∷ left) ≡ run_from net w done ++ (next net (run_all net w done).world l).lines ∷ run_from net (next net (run_all net w done).world l).world left
unfolding run_from_by
lines_cut net w [] l left = refl
lines_cut net w (x ∷ xs) l left = ap (λ rs. (next net w x).lines ∷ rs) (lines_cut net (next net w x).world xs l left)

report_cut : (net : Net) (done : List Line) (l : Line) (left : List Line) → report_of net (done ++ l ∷ left)
    ≡ ([] ∷ run_from net (start net) done) ++ (next net (world_after net done) l).lines ∷ run_from net (next net (world_after net done) l).world left
unfolding report_of_by
report_cut net done l left = ap (λ rs. [] ∷ rs) (lines_cut net (start net) done l left)

as_many : (net : Net) (w : World) (done : List Line) → length (run_from net w done) ≡ length done
unfolding run_from_by
as_many net w [] = refl
as_many net w (x ∷ xs) = ap suc (as_many net (next net w x).world xs)

-- A sweep

next_sweep : (net : Net) (w : World) (k : ℕ) → next net w (record { number = k; step = step.Sweep }) ≡ sweep_now net w k
unfolding next_by
next_sweep net w k = refl

-- past the last tick it is refused
refused : (net : Net) (w : World) (k : ℕ) → nat_lt max_tick (sweep_moment net w) ≡ true → (sweep net w k).lines ≡ line.RefusedClock k (sweep_moment net w) ∷ []
unfolding sweep_by
refused net w k h = go (nat_lt max_tick (sweep_moment net w)) h
  where
    m : ℕ
    m = sweep_moment net w

    u : World
    u = record { clock = m; most = max m w.most; frames = w.frames; views = w.views; logs = w.logs }

    go : (q : Bool) → q ≡ true → (let t : Transition = elim q [ true ↦ unchanged w (line.RefusedClock k m ∷ []) | false ↦ followed_by (in_turn (sweep_for net) (numbers net.publishers) u) (λ x. unchanged x (line.Swept m ∷ [])) ] in t.lines)
        ≡ line.RefusedClock k m ∷ []
    go true e = refl
    go false e = cc

-- one that tells its moment is not
accepts : (net : Net) (w : World) (k moment : ℕ) (most : List Report) → (sweep net w k).lines ≡ most ++ line.Swept moment ∷ [] → is_accepted net w ≡ true
accepts net w k moment most e = go (cases_lt max_tick (sweep_moment net w))
  where
    apart : line.RefusedClock k (sweep_moment net w) ≡ line.Swept moment → ⊥
    apart h = cc

    go : (max_tick < sweep_moment net w) ⊎ (sweep_moment net w ≤ max_tick) → is_accepted net w ≡ true
    go (inl past) =
        absurd (apart (ap (last_of (line.Swept 0)) (sym (refused net w k (lt-ltb max_tick (sweep_moment net w) past)) ∙ e) ∙ last_is (line.Swept 0) (line.Swept moment) most))
    go (inr within) = le-leb (sweep_moment net w) max_tick within

-- and the moment that it tells is its own
moment_is : (net : Net) (w : World) (k moment : ℕ) (most : List Report) → SweepSettles net w k → (sweep net w k).lines ≡ most ++ line.Swept moment ∷ [] → sweep_moment net w ≡ moment
moment_is net w k moment most s e = swept (sym (last_is (line.Swept 0) (line.Swept (sweep_moment net w)) (all_made net (sweep_calls net w) (at_sweep net w)).lines) ∙ (ap (last_of (line.Swept 0)) (sym (ap (λ (t : Transition). t.lines) s.calls) ∙ e) ∙ last_is (line.Swept 0) (line.Swept moment) most))
  where
    swept : {a b : ℕ} → line.Swept a ≡ line.Swept b → a ≡ b
    swept h = cc

-- A sweep by the joins so far

-- its moment is no matter of the joins
moment_same : (net : Net) (steps : List Line) (w : World) → sweep_moment (joined_net net steps) w ≡ sweep_moment net w
unfolding sweep_moment
moment_same net steps w = refl

-- what each subscriber is to have by the logs is what it is to have by the record
owed_same : (net : Net) (steps : List Line) (s p : ℕ) → IsAskedRun net steps
    → (let h = history_of net steps in filter (λ x. (joined_net net steps).wants p s x.0 x.1) (record_of h p).events ≡ filter (λ x. (recorded_net net h).wants p s x.0 x.1) (record_of h p).events)
owed_same net steps s p r =
    ap (λ js. filter (λ x. wants_with net js p s x.0 x.1) (record_of (history_of net steps) p).events) (sym (recorded_last net steps p r.tree r.quiet r.steps_in))

-- Each sweep of a schedule

pub sweeps_settle : (net : Net) (lines : List Line) → IsAskedRun net lines → ((steps : List Line) (k : ℕ) → IsSweptRun net steps → SweepSettles (joined_net net steps) (world_after net steps) k)
    → ((steps : List Line) (k : ℕ) → IsMarkedRun net steps → SweepsAsOne net steps k)
    → ((steps : List Line) (k : ℕ) → IsSweptRun net steps → AllGot (joined_net net steps) (history_of net steps) (world_after net steps) k) → SweepsSettle net lines (report_of net lines)
sweeps_settle net lines r settles same_sweep gets done left k moment before after told most order is many ends =
    let l : Line = record { number = k; step = step.Sweep } in
    let w : World = world_after net done in
    let g : Net = joined_net net done in
    let front : List (List Report) = [] ∷ run_from net (start net) done in
    let whole : before ++ told ∷ after ≡ front ++ (next net w l).lines ∷ run_from net (next net w l).world left = sym is ∙ (ap (report_of net) order ∙ report_cut net done l left) in
    let long : length before ≡ length front = many ∙ ap suc (sym (as_many net (start net) done)) in
    let cut = cut_once before front told (next net w l).lines after (run_from net (next net w l).world left) long whole in
    let steps_in : StepsIn net done = front_in net done l left (subst (StepsIn net) order r.steps_in) in
    let asked : IsAskedRun net done = record { tree = r.tree; quiet = r.quiet; retry = r.retry; steps_in = steps_in } in
    let marked : IsMarkedRun net done = record { tree = r.tree; quiet = r.quiet; steps_in = steps_in } in
    let lines_are : told ≡ (sweep g w k).lines = cut.1 ∙ (ap (λ (t : Transition). t.lines) (next_sweep net w k) ∙ ap (λ (t : Transition). t.lines) (same_sweep done k marked)) in
    let accepted : is_accepted net w ≡ true = subst (λ m. nat_le m max_tick ≡ true) (moment_same net done w) (accepts g w k moment most (sym lines_are ∙ ends)) in
    let run : IsSweptRun net done = record { asked = asked; accepted = accepted } in
    let s = settles done k run in
    let at : sweep_moment g w ≡ moment = moment_is g w k moment most s (sym lines_are ∙ ends) in
    let h : History = history_of net done in
    let same : history net (begin net) done (drop 1 before) ≡ h = ap (λ b. history net (begin net) done (drop 1 b)) cut.0 in
    subst (λ x. SettlesAll net x moment told) (sym same)
    (subst (λ ls. SettlesAll net h moment ls) (sym lines_are)
    (subst (λ m. SettlesAll net h m (sweep g w k).lines) at
    (record { marked = s.marked; cut = s.last_cuts; horizon = s.last_horizons; all_got = λ q p at_s at_p. gets done k run q p at_s at_p ∙ owed_same net done q p asked })))
