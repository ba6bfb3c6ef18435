-- A call goes on with a run: its step is the last one, and its lines are those that the machine tells in it. A sweep that is answered reaches all that is recorded
use Rattle.std.proofs.Common.{◌≡◌, ◌≢◌, ℕ, ◌≤◌, max, arith, true, false, List, [], ◌∷◌, ◌++◌, Some, None, Result, Ok, Err, refl, sym, ap, ap₂, ◌∙◌, subst}
use Rattle.std.specs.Prelude.{IfOk}
use Rattle.std.proofs.lemmas.Bool.{le-leb}
use Rattle.gr_out.specs.Lane.{Lane}
use Rattle.gr_sched.specs.declared.step.Step.{Step}
use Rattle.gr_sched.specs.declared.step.Step.TheVariants as step
use Rattle.gr_sched.specs.declared.step.Line.{Line}
use Rattle.gr_topo.specs.Topology.{TopologyView}
use Rattle.gr_model.specs.declared.report.Report.{Report}
use Rattle.gr_model.specs.Net.{Net}
use Rattle.gr_model.specs.NetOf.{net_of, IsOrderly}
use Rattle.gr_model.specs.Tree.{IsNet}
use Rattle.gr_model.specs.Broker.{max_tick}
use Rattle.gr_model.specs.World.{World, Transition, next, next_by, run_all, run_from, run_from_by, report_of, report_of_by, start_by, show, sweep, sweep_moment}
use Rattle.gr_model_calls.specs.Fits.{StepIn, StepsIn, history_of}
use Rattle.gr_model_theorems.specs.Forgets.{ForgetTheSame, DifferInCut, TellTheSame}
use Rattle.gr_model_theorems.specs.Settles.{is_accepted}
use Rattle.gr_model_theorems.specs.Statements.{world_after, joined_net}
use Rattle.gr_model_theorems.specs.Standing.{Fits as Stands}
use Rattle.gr_model_theorems.proofs.joins.Always.{fits_always, sweep_same, sweep_settles, sweep_hands_over}
use Rattle.gr_model_theorems.proofs.server.Lanes.{started_same, sweeps_same, moment_same}
use Rattle.gr_world.specs.declared.fault.WorldFault.{WorldFault}
use Rattle.gr_world.specs.declared.fault.WorldFault.TheVariants as fault
use Rattle.gr_world.specs.Seen.{WorldView, net_in, world_of}
use Rattle.gr_world.specs.Of.{IsWorld, LanesFit, IsSound}
use Rattle.gr_world.specs.Steps.{Makes, NotMemory, lines_of_step}
use Rattle.gr_world.specs.Disk.{NotDisk}
use Rattle.gr_world.specs.Ran.{noted_in}
use Rattle.gr_world.specs.Fits.{forgetting_after, Fits, GoesOn, SettlesAll}
use Rattle.gr_world.proofs.Stepping.{at_clock, clock_makes, clock_lanes}

-- One step more

world_then : (net : Net) (w : World) (xs : List Line) (l : Line) → (run_all net w (xs ++ l ∷ [])).world ≡ (next net (run_all net w xs).world l).world
world_then net w [] l = refl
world_then net w (x ∷ xs) l = world_then net (next net w x).world xs l

lines_then : (net : Net) (w : World) (xs : List Line) (l : Line) → run_from net w (xs ++ l ∷ []) ≡ run_from net w xs ++ (next net (run_all net w xs).world l).lines ∷ []
unfolding run_from_by
lines_then net w [] l = refl
lines_then net w (x ∷ xs) l = ap (λ rs. (next net w x).lines ∷ rs) (lines_then net (next net w x).world xs l)

-- logs that forget lead to the same lines
forgotten : (net : Net) (xs : List Line) → report_of net xs ≡ [] ∷ run_from net (start_by true net) xs
unfolding report_of_by
forgotten net xs = let same : ForgetTheSame net xs = started_same net xs in ap (λ (rs : List (List Report)). [] ∷ rs) (sym same.lines)

report_then : (net : Net) (xs : List Line) (l : Line) → report_of net (xs ++ l ∷ []) ≡ report_of net xs ++ (next net (forgetting_after net xs) l).lines ∷ []
report_then net xs l =
    forgotten net (xs ++ l ∷ [])
    ∙ (ap (λ (rs : List (List Report)). [] ∷ rs) (lines_then net (start_by true net) xs l)
    ∙ ap (λ (rs : List (List Report)). rs ++ (next net (forgetting_after net xs) l).lines ∷ []) (sym (forgotten net xs)))

steps_then : (net : Net) (xs : List Line) (l : Line) → StepsIn net xs → StepIn net l.step → StepsIn net (xs ++ l ∷ [])
steps_then net [] l a i = (i, tt)
steps_then net (x ∷ xs) l a i = (a.0, steps_then net xs l a.1 i)

-- Answers with lines

no_lines : (lines : List Report) → None ≡ Some lines → ⊥
no_lines lines e = cc

-- they are none of these faults
told_not : (n : ℕ) (s : Step) (r : Result (List Report) WorldFault) (lines : List Report) → lines_of_step n s r ≡ Some lines → NotMemory r × NotDisk r
told_not n s (Ok ls) lines e = (tt, tt)
told_not n s (Err fault.Memory) lines e = absurd (no_lines lines e)
told_not n s (Err fault.Disk) lines e = absurd (no_lines lines e)
told_not n s (Err fault.Reopen) lines e = absurd (no_lines lines e)
told_not n s (Err (fault.Damaged p at)) lines e = absurd (no_lines lines e)
told_not n s (Err (fault.HostsSubscriber b)) lines e = (tt, tt)
told_not n s (Err (fault.NoFrame sent)) lines e = (tt, tt)
told_not n s (Err (fault.ClockRange at)) lines e = (tt, tt)

-- and nothing is noted then
pub noted_none : (w : WorldView) (r : Result (List Report) WorldFault) → NotMemory r → noted_in w r ≡ w
noted_none w (Ok ls) m = refl
noted_none w (Err fault.Memory) m = absurd m
noted_none w (Err fault.Disk) m = refl
noted_none w (Err fault.Reopen) m = refl
noted_none w (Err (fault.Damaged p at)) m = refl
noted_none w (Err (fault.HostsSubscriber b)) m = refl
noted_none w (Err (fault.NoFrame sent)) m = refl
noted_none w (Err (fault.ClockRange at)) m = refl

pub not_memory : (r : Result (List Report) WorldFault) → NotMemory r → r ≢ Err fault.Memory
not_memory r m e = subst NotMemory e m

-- A call

-- that is a step of the machine goes on with the run
pub goes_on : (s : Step) (lanes lanes' : ℕ → Lane) (old new : WorldView) (r : Result (List Report) WorldFault) → StepIn (net_in old) s → (IsSound old → Makes s old new r) → new.topo ≡ old.topo
    → (NotMemory r → new.spent ≡ false) → IsWorld new → (NotMemory r → NotDisk r → IsSound old → IsSound new) → (NotMemory r → LanesFit lanes old → LanesFit lanes' new) → GoesOn s lanes lanes' old new r
goes_on s lanes lanes' old new r i makes topo unspent fits sound lanes_fit n lines steps told e f =
    let nots = told_not n s r lines e in
    let l : Line = record { number = n; step = s } in
    let net : Net = net_in old in
    let made = makes f.sound n lines e in
    let here : next net (forgetting_after net steps) l ≡ record { world = world_of new; lines = lines } = subst (λ (w : World). next net w l ≡ record { world = world_of new; lines = lines }) f.reached made in
    record {
      world = fits;
      lanes_fit = lanes_fit nots.0 f.lanes_fit;
      sound = sound nots.0 nots.1 f.sound;
      unspent = unspent nots.0;
      tree = subst (λ (t : TopologyView). IsNet (net_of t)) (sym topo) f.tree;
      orderly = subst (λ (t : TopologyView). IsOrderly (net_of t)) (sym topo) f.orderly;
      steps_in = subst (λ (t : TopologyView). StepsIn (net_of t) (steps ++ l ∷ [])) (sym topo) (steps_then net steps l f.steps_in i);
      reached = subst (λ (t : TopologyView). world_of new ≡ forgetting_after (net_of t) (steps ++ l ∷ [])) (sym topo) (sym (ap (λ t. t.world) here) ∙ sym (world_then net (start_by true net) steps l));
      report = subst (λ (t : TopologyView). told ++ lines ∷ [] ≡ report_of (net_of t) (steps ++ l ∷ [])) (sym topo)
          (ap₂ (λ rs ls. rs ++ ls ∷ []) f.report (sym (ap (λ t. t.lines) here)) ∙ sym (report_then net steps l));
    }

-- also where it is noted that memory was refused
pub goes_on_noted : (s : Step) (lanes lanes' : ℕ → Lane) (old mid new : WorldView) (r result : Result (List Report) WorldFault) → result ≡ r → new ≡ noted_in mid r → StepIn (net_in old) s → (IsSound old → Makes s old new result)
    → mid.topo ≡ old.topo → (old.spent ≡ false → mid.spent ≡ false) → IsWorld mid → (NotMemory r → NotDisk r → IsSound old → IsSound mid) → (NotMemory r → LanesFit lanes' mid) → GoesOn s lanes lanes' old new result
goes_on_noted s lanes lanes' old mid new r result same e i makes topo unspent fits sound lanes_fit n lines steps told at f =
    let nots = told_not n s result lines at in
    let m : NotMemory r = subst NotMemory same nots.0 in
    let left : new ≡ mid = e ∙ noted_none mid r m in
    goes_on s lanes lanes' old new result i makes (ap (λ (w : WorldView). w.topo) left ∙ topo) (λ k. ap (λ (w : WorldView). w.spent) left ∙ unspent f.unspent) (subst IsWorld (sym left) fits)
    (λ a b h. subst IsSound (sym left) (sound (subst NotMemory same a) (subst (λ (q : Result (List Report) WorldFault). NotDisk q) same b) h))
    (λ a k. subst (LanesFit lanes') (sym left) (lanes_fit m)) n lines steps told at f

-- A call that leaves the world and the lanes as they are
pub goes_on_same : (s : Step) (lanes : ℕ → Lane) (w : WorldView) (r : Result (List Report) WorldFault) → StepIn (net_in w) s → Makes s w w r → GoesOn s lanes lanes w w r
goes_on_same s lanes w r i makes n lines steps told at f = goes_on s lanes lanes w w r i (λ h. makes) refl (λ m. f.unspent) f.world (λ a b h. h) (λ a k. k) n lines steps told at f

-- as what shows it
pub show_makes : (w : WorldView) (lines : List Report) → lines ≡ show (net_in w) (world_of w) → Makes step.Show w w (Ok lines)
unfolding next_by
show_makes w lines e n ls h = let same : lines ≡ ls = cc in ap (λ k. record { world = world_of w; lines = k }) (sym e ∙ same)

-- the clock is moved
clock_fits : (w : WorldView) (now most : ℕ) → IsWorld w → now ≤ max_tick → most ≤ max_tick → IsWorld (at_clock w now most)
clock_fits w now most f a b = record { count = f.count; brokers = f.brokers; numbered = f.numbered; spelled = f.spelled; over = f.over; clock = a; most = b; down = f.down }

pub clock_goes_on : (v w : WorldView) (now most : ℕ) (lanes : ℕ → Lane) → v ≡ w → IsWorld w → now ≤ max_tick → most ≡ max v.most now → GoesOn (step.Clock now) lanes lanes w (at_clock v now most) (Ok [])
clock_goes_on v w now most lanes same fits within e n lines steps told at f =
    let i : IsWorld v = subst IsWorld (sym same) fits in
    let below : most ≤ max_tick = omega (arith, e, i.most, within) in
    goes_on (step.Clock now) lanes lanes w (at_clock v now most) (Ok []) tt (λ h. clock_makes v w now most same e) (ap (λ (u : WorldView). u.topo) same) (λ m. ap (λ (u : WorldView). u.spent) same ∙ f.unspent) (clock_fits v now most i within below)
    (λ a b h. let k = subst IsSound (sym same) h in record { logs = k.logs; up = k.up }) (λ a k. clock_lanes v w now most same lanes k) n lines steps told at f

-- nothing was done yet
pub fits_start : (w : WorldView) (lanes : ℕ → Lane) → IsWorld w → LanesFit lanes w → IsSound w → w.spent ≡ false → IsNet (net_in w) → IsOrderly (net_in w) → world_of w ≡ start_by true (net_in w) → Fits w lanes [] ([] ∷ [])
unfolding report_of_by run_from_by
fits_start w lanes fits f sound unspent tree orderly is = record {
  world = fits;
  lanes_fit = f;
  sound = sound;
  unspent = unspent;
  tree = tree;
  orderly = orderly;
  steps_in = tt;
  reached = is;
  report = refl;
}

-- What stands of it

-- the machine that keeps all events is in the same world but for those that were cut
pub differs_in_cut : (w : WorldView) (lanes : ℕ → Lane) (steps : List Line) (told : List (List Report)) → Fits w lanes steps told → DifferInCut (world_after (net_in w) steps) (world_of w)
differs_in_cut w lanes steps told f =
    let same : ForgetTheSame (net_in w) steps = started_same (net_in w) steps in
    subst (DifferInCut (world_after (net_in w) steps)) (sym f.reached) same.worlds

-- of it all stands that a layer above may use, and of the history of its steps
pub stands_of : (w : WorldView) (lanes : ℕ → Lane) (steps : List Line) (told : List (List Report)) → Fits w lanes steps told
    → Stands (joined_net (net_in w) steps) (history_of (net_in w) steps) (world_after (net_in w) steps)
stands_of w lanes steps told f = fits_always (net_in w) steps f.tree f.orderly.quiet f.orderly.retry f.steps_in

-- A sweep

next_sweep : (net : Net) (w : World) (k : ℕ) → next net w (record { number = k; step = step.Sweep }) ≡ sweep net w k
unfolding next_by
next_sweep net w k = refl

-- that was answered with lines reaches all
pub settles_all : (old new : WorldView) (lanes : ℕ → Lane) (r : Result (List Report) WorldFault) → Makes step.Sweep old new r → sweep_moment (net_in old) (world_of old) ≤ max_tick
    → (steps : List Line) (told : List (List Report)) → Fits old lanes steps told → IfOk r (SettlesAll steps old new)
settles_all old new lanes (Err e) makes within steps told f = tt
settles_all old new lanes (Ok lines) makes within steps told f =
    let net : Net = net_in old in
    let differ : DifferInCut (world_after net steps) (world_of old) = differs_in_cut old lanes steps told f in
    let accepted : is_accepted net (world_after net steps) ≡ true =
    le-leb (sweep_moment net (world_after net steps)) max_tick (subst (λ m. m ≤ max_tick) (moment_same net (world_after net steps) (world_of old) differ) within) in
    let reaches : (k : ℕ) → sweep net (world_of old) k ≡ record { world = world_of new; lines = lines } = λ k. sym (next_sweep net (world_of old) k) ∙ makes k lines refl in
    record {
      is = reaches;
      on_one = λ k.
          subst (λ (t : Transition). TellTheSame t (record { world = world_of new; lines = lines })) (sweep_same net steps k f.tree f.orderly.quiet f.steps_in)
          (subst (λ (t : Transition). TellTheSame (sweep net (world_after net steps) k) t) (reaches k) (sweeps_same net k (world_after net steps) (world_of old) differ));
      settles = λ k. sweep_settles net steps k f.tree f.orderly.quiet f.orderly.retry f.steps_in accepted;
      all_got = λ k. sweep_hands_over net steps k f.tree f.orderly.quiet f.orderly.retry f.steps_in accepted;
    }

-- with its moment as the code has it
pub settles_within : (old new : WorldView) (lanes : ℕ → Lane) (r : Result (List Report) WorldFault) (m : ℕ) → m ≡ sweep_moment (net_in old) (world_of old) → m ≤ max_tick → Makes step.Sweep old new r
    → (steps : List Line) (told : List (List Report)) → Fits old lanes steps told → IfOk r (SettlesAll steps old new)
settles_within old new lanes r m e h makes = settles_all old new lanes r makes (subst (λ k. k ≤ max_tick) e h)
