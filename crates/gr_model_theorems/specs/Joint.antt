-- The headline of several processes that run side by side, each with some of the brokers: their arrivals take turns
use Rattle.std.specs.Prelude.{◌≡◌, ℕ, ◌≤◌, ◌<◌, ◌^◌, List, [], ◌∷◌, ◌++◌, map, filter, get_or, set}
use Rattle.std.specs.List.{AllByRecursion}
use Rattle.gr_sched.specs.declared.step.Line.{Line}
use Rattle.gr_model.specs.declared.report.Report.{Report}
use Rattle.gr_model.specs.Net.{Net}
use Rattle.gr_model.specs.Broker.{View, seen}
use Rattle.gr_model.specs.World.{World, Transition, start, sent_lines}
use Rattle.gr_model.specs.Headline.{History, Delivered, InOrder, recorded_net, is_sent}
use Rattle.gr_model.specs.Arrivals.{Arrival, requests_of, left_after, comes_by, Request}
use Rattle.gr_model_calls.specs.OneNet.{last_net}
use Rattle.gr_model_theorems.specs.Spelled.{LateIn, NumbersIn}
use Rattle.gr_model_theorems.specs.Statements.{IsAskedRun}
use Rattle.gr_model_theorems.specs.Served.{IsOfBytes, IsHonestAt, steps_at, DoesStepsAt, ArrivalHoldsAt_by}

-- Processes are lists of their brokers, and what comes is an arrival with the number of its process

-- the brokers of a process; the publishes that are left to it
abbrev pub brokers_of : List (List ℕ) → ℕ → List ℕ
brokers_of processes k = get_or processes k []

abbrev pub left_of : List (List Request) → ℕ → List Request
left_of lefts k = get_or lefts k []

-- what is left to each once an arrival has come to one
abbrev pub lefts_after : List (List Request) → ℕ × Arrival → List (List Request)
lefts_after lefts x = set lefts x.0 (left_after (left_of lefts x.0) x.1)

-- an arrival at the brokers of its process, where each call sees a net of its view
abbrev pub joint_comes_by : (View → Net) → Net → List (List ℕ) → World → List (List Request) → ℕ × Arrival
    → Transition
joint_comes_by see net processes w lefts x = comes_by see net (brokers_of processes x.0) w (left_of lefts x.0) x.1

-- the lines of each arrival, and the world in the end
unfoldable pub joint_from_by : (View → Net) → Net → List (List ℕ) → World → List (List Request) → List (ℕ × Arrival)
    → List (List Report)
joint_from_by see net processes w lefts [] = []
joint_from_by see net processes w lefts (x ∷ turns) = let t = joint_comes_by see net processes w lefts x in
    t.lines ∷ joint_from_by see net processes t.world (lefts_after lefts x) turns

unfoldable pub joint_end_by : (View → Net) → Net → List (List ℕ) → World → List (List Request) → List (ℕ × Arrival)
    → World
joint_end_by see net processes w lefts [] = w
joint_end_by see net processes w lefts (x ∷ turns) = let t = joint_comes_by see net processes w lefts x in
    joint_end_by see net processes t.world (lefts_after lefts x) turns

-- what a schedule asks of each process
abbrev pub lefts_at_start : Net → List (List ℕ) → List Line → List (List Request)
lefts_at_start net processes steps = map (λ hosted. requests_of net hosted steps) processes

-- the lines of a run that begins with nothing
abbrev pub joint_reports : Net → List (List ℕ) → List Line → List (ℕ × Arrival) → List (List Report)
joint_reports net processes steps turns =
    joint_from_by (seen net) net processes (start net) (lefts_at_start net processes steps) turns

-- the net of the joins that the logs have in the end
abbrev pub joint_net : Net → List (List ℕ) → List Line → List (ℕ × Arrival) → Net
joint_net net processes steps turns =
    last_net net (joint_end_by (seen net) net processes (start net) (lefts_at_start net processes steps) turns)

-- each arrival is honest after the lines told so far, by whichever process
abbrev pub IsHonestJoint : List Report → List (ℕ × Arrival) → List (List Report) → Type 0
IsHonestJoint lines [] rs = Unit {0}
IsHonestJoint lines (x ∷ turns) [] = ⊥
IsHonestJoint lines (x ∷ turns) (r ∷ rs) = IsHonestAt lines x.1 × IsHonestJoint (lines ++ r) turns rs

-- such a run is that on this net
abbrev pub JointAsOne : Net → List (List ℕ) → List Line → List (ℕ × Arrival) → Type 0
JointAsOne net processes steps turns =
    let g = joint_net net processes steps turns in
    joint_reports net processes steps turns
    ≡ joint_from_by (λ _. g) g processes (start net) (lefts_at_start net processes steps) turns

-- a run of processes within the limits of frames, whose joint journal is honest
pub record IsJointRun (net : Net) (processes : List (List ℕ)) (steps : List Line) (turns : List (ℕ × Arrival))
    : Type 0 where
  pub asked : IsAskedRun net steps
  pub brokers : net.brokers ≤ 2 ^ 16
  pub publishers : net.publishers ≤ 2 ^ 16
  pub late : LateIn net
  pub numbers_in : NumbersIn steps
  pub hosted : AllByRecursion (AllByRecursion (λ b. b < net.brokers)) processes
  pub bytes : AllByRecursion (λ (x : ℕ × Arrival). IsOfBytes x.1) turns
  pub honest : IsHonestJoint [] turns (joint_reports net processes steps turns)

-- of each arrival the headline holds, as of its steps of a schedule; whom an event concerns is asked of a net that the
-- history shows
abbrev pub HoldsJoint_by : (History → Net) → Net → List (List ℕ) → History → List (List Request) → List (ℕ × Arrival)
    → List (List Report) → Type 0
HoldsJoint_by at net processes h lefts [] [] = Delivered (at h) h × InOrder (at h) h
HoldsJoint_by at net processes h lefts [] (r ∷ rs) = ⊥
HoldsJoint_by at net processes h lefts (x ∷ turns) [] = ⊥
HoldsJoint_by at net processes h lefts (x ∷ turns) (r ∷ rs) =
    ArrivalHoldsAt_by at net (brokers_of processes x.0) h (left_of lefts x.0) x.1 r
    (λ g. HoldsJoint_by at net processes g (lefts_after lefts x) turns rs)

-- by the joins recorded so far
abbrev pub HoldsJoint : Net → List (List ℕ) → History → List (List Request) → List (ℕ × Arrival) → List (List Report)
    → Type 0
HoldsJoint net = HoldsJoint_by (recorded_net net) net

-- and each leaves what its steps leave, by the rules; the lines of frames tell all frames, numbered 1, 2, 3 and so on
abbrev pub AllDoStepsJoint : Net → List (List ℕ) → World → List Report → List (List Request) → List (ℕ × Arrival)
    → Type 0
AllDoStepsJoint net processes w lines lefts [] = filter is_sent lines ≡ sent_lines 1 w.frames
AllDoStepsJoint net processes w lines lefts (x ∷ turns) =
    (filter is_sent lines ≡ sent_lines 1 w.frames)
    × DoesStepsAt net (brokers_of processes x.0) w (left_of lefts x.0) x.1
    (steps_at net (brokers_of processes x.0) lines (left_of lefts x.0) x.1)
    × (let t : Transition = joint_comes_by (λ _. net) net processes w lefts x in
    AllDoStepsJoint net processes t.world (lines ++ t.lines) (lefts_after lefts x) turns)
