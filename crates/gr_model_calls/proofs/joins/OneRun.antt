-- A run in which each call sees the joins that its view holds is the run on the net of the last joins
use Rattle.std.proofs.Common.{◌≡◌, ◌⊎◌, inl, inr, ℕ, ◌<◌, Bool, List, subst}
use Rattle.gr_event.specs.declared.event.Event.{Event}
use Rattle.gr_event.specs.Joins.{Joins}
use Rattle.gr_sched.specs.declared.step.Line.{Line}
use Rattle.gr_model.specs.Net.{Net, with_wants, wants_with}
use Rattle.gr_model.specs.Broker.{seen}
use Rattle.gr_model.specs.World.{World, log_of, start, next_by, run_all_by, run_from_by, report_of_by}
use Rattle.gr_model_calls.specs.OneNet.{next, run_all, run_from, report_of}
use Rattle.gr_model.specs.Tree.{IsNet}
use Rattle.gr_model_calls.specs.Truth.{Grows}
use Rattle.gr_model_calls.specs.Fits.{WorldFits, StepIn, StepsIn}
use Rattle.gr_model_calls.proofs.calls.Held.{grows_not}
use Rattle.gr_model_calls.proofs.runs.Seeing.{next_runs, run_runs, lines_run, report_runs, next_back}
use Rattle.gr_model_calls.proofs.joins.Growing.{AheadOf, growing}
use Rattle.gr_model_calls.proofs.joins.SameCalls.{same_calls}

-- who wants what is no matter of the trees
pub IsNet-with : (net : Net) (f : ℕ → ℕ → ℕ → Event → Bool) → IsNet net → IsNet (with_wants net f)
IsNet-with net f n = record {
  place = λ p b i j. let x = n.place p b i j in record {
    child_below = x.child_below;
    child_not_host = x.child_not_host;
    split = x.split;
  };
  depth_in = n.depth_in;
  host_in = n.host_in;
  child_in = n.child_in;
  up_in = n.up_in;
  distinct = n.distinct;
  here_below = n.here_below;
  all_below = n.all_below;
  here_at = n.here_at;
  depth_up = n.depth_up;
  children_once = n.children_once;
  subscriber = λ s i. let x = n.subscriber s i in record { at_in = x.at_in; here = x.here };
  up_below = n.up_below;
  child_up = n.child_up;
}

-- where the joins at an end are the last ones, nothing is still to be joined there
last_ends : (net : Net) (last : ℕ → Joins) (ls : List Line) (w : World) → (let one = with_wants net (λ p s t e. wants_with net (last p) p s t e) in
    ((p : ℕ) → p < net.publishers → (log_of (run_all_by (seen net) net w ls).world p).joins ≡ last p) ⊎ ((p : ℕ) → p < net.publishers → (log_of (run_all one w ls).world p).joins ≡ last p) →
    (AheadOf net last (run_all_by (seen net) net w ls).world) ⊎ (AheadOf net last (run_all one w ls).world))
last_ends net last ls w (inl e) = inl (λ p j. let l = log_of (run_all_by (seen net) net w ls).world p in subst (λ z. Grows l.joins z l.settled) (e p j) (grows_not l.joins l.settled))
last_ends net last ls w (inr e) = inr (λ p j. let l = log_of (run_all (with_wants net (λ p s t e. wants_with net (last p) p s t e)) w ls).world p in subst (λ z. Grows l.joins z l.settled) (e p j) (grows_not l.joins l.settled))

-- the whole run, at either end of which the joins are the last ones
pub run_is : (net : Net) (last : ℕ → Joins) (ls : List Line) → IsNet net →
    (let one = with_wants net (λ p s t e. wants_with net (last p) p s t e) in StepsIn one ls → (w : World) → WorldFits one w →
    ((p : ℕ) → p < net.publishers → (log_of (run_all_by (seen net) net w ls).world p).joins ≡ last p) ⊎ ((p : ℕ) → p < net.publishers → (log_of (run_all one w ls).world p).joins ≡ last p) →
    run_all_by (seen net) net w ls ≡ run_all one w ls)
run_is net last ls n i w f x =
    let wants : ℕ → ℕ → ℕ → Event → Bool = λ p s t e. wants_with net (last p) p s t e in
    (run_runs net wants (seen net) (AheadOf net last) (IsNet-with net wants n) (growing net (seen net) last) (growing (with_wants net wants) (λ v. with_wants net wants) last) (same_calls net last (IsNet-with net wants n)) w ls f i).on (last_ends net last ls w x)

-- the same where the last joins are still to come at an end
pub run_ahead : (net : Net) (last : ℕ → Joins) (ls : List Line) → IsNet net →
    (let one = with_wants net (λ p s t e. wants_with net (last p) p s t e) in StepsIn one ls → (w : World) → WorldFits one w → AheadOf net last (run_all_by (seen net) net w ls).world → run_all_by (seen net) net w ls ≡ run_all one w ls)
run_ahead net last ls n i w f a =
    let wants : ℕ → ℕ → ℕ → Event → Bool = λ p s t e. wants_with net (last p) p s t e in
    (run_runs net wants (seen net) (AheadOf net last) (IsNet-with net wants n) (growing net (seen net) last) (growing (with_wants net wants) (λ v. with_wants net wants) last) (same_calls net last (IsNet-with net wants n)) w ls f i).on (inl a)

-- of one step
pub next_ahead : (net : Net) (last : ℕ → Joins) (l : Line) → IsNet net →
    (let one = with_wants net (λ p s t e. wants_with net (last p) p s t e) in StepIn one l.step → (w : World) → WorldFits one w → AheadOf net last (next_by (seen net) net w l).world → next_by (seen net) net w l ≡ next one w l)
next_ahead net last l n i w f a =
    let wants : ℕ → ℕ → ℕ → Event → Bool = λ p s t e. wants_with net (last p) p s t e in
    (next_runs net wants (seen net) (AheadOf net last) (IsNet-with net wants n) (growing net (seen net) last) (growing (with_wants net wants) (λ v. with_wants net wants) last) (same_calls net last (IsNet-with net wants n)) w l f i).on (inl a)

-- what comes after a step comes after what was before it
pub ahead_before : (net : Net) (last : ℕ → Joins) (l : Line) (w : World) → AheadOf net last (next_by (seen net) net w l).world → AheadOf net last w
ahead_before net last l w a = next_back net (seen net) (AheadOf net last) (growing net (seen net) last) l w a

-- and so are its lines, step by step
pub lines_are : (net : Net) (last : ℕ → Joins) (ls : List Line) → IsNet net →
    (let one = with_wants net (λ p s t e. wants_with net (last p) p s t e) in StepsIn one ls → (w : World) → WorldFits one w →
    ((p : ℕ) → p < net.publishers → (log_of (run_all_by (seen net) net w ls).world p).joins ≡ last p) ⊎ ((p : ℕ) → p < net.publishers → (log_of (run_all one w ls).world p).joins ≡ last p) →
    run_from_by (seen net) net w ls ≡ run_from one w ls)
lines_are net last ls n i w f x =
    let wants : ℕ → ℕ → ℕ → Event → Bool = λ p s t e. wants_with net (last p) p s t e in
    lines_run net wants (seen net) (AheadOf net last) (IsNet-with net wants n) (growing net (seen net) last) (growing (with_wants net wants) (λ v. with_wants net wants) last) (same_calls net last (IsNet-with net wants n)) w ls f i (last_ends net last ls w x)

-- the report of the product is that of the run on the net of its last joins
pub report_is : (net : Net) (ls : List Line) → IsNet net → (let last : ℕ → Joins = λ p. (log_of (run_all_by (seen net) net (start net) ls).world p).joins in
    let one = with_wants net (λ p s t e. wants_with net (last p) p s t e) in StepsIn one ls → report_of_by (seen net) net ls ≡ report_of one ls)
report_is net ls n i =
    let last : ℕ → Joins = λ p. (log_of (run_all_by (seen net) net (start net) ls).world p).joins in
    let wants : ℕ → ℕ → ℕ → Event → Bool = λ p s t e. wants_with net (last p) p s t e in
    report_runs net wants (seen net) (AheadOf net last) (IsNet-with net wants n) (growing net (seen net) last) (growing (with_wants net wants) (λ v. with_wants net wants) last) (same_calls net last (IsNet-with net wants n)) ls i
    (inl (λ p j. grows_not (last p) (log_of (run_all_by (seen net) net (start net) ls).world p).settled))

-- and no other joins are the last ones of a run on their net
pub report_only : (net : Net) (last : ℕ → Joins) (ls : List Line) → IsNet net → (let one = with_wants net (λ p s t e. wants_with net (last p) p s t e) in StepsIn one ls →
    ((p : ℕ) → p < net.publishers → (log_of (run_all one (start net) ls).world p).joins ≡ last p) → report_of_by (seen net) net ls ≡ report_of one ls)
report_only net last ls n i e =
    let wants : ℕ → ℕ → ℕ → Event → Bool = λ p s t e. wants_with net (last p) p s t e in
    report_runs net wants (seen net) (AheadOf net last) (IsNet-with net wants n) (growing net (seen net) last) (growing (with_wants net wants) (λ v. with_wants net wants) last) (same_calls net last (IsNet-with net wants n)) ls i
    (inr (λ p j. let l = log_of (run_all (with_wants net wants) (start net) ls).world p in subst (λ z. Grows l.joins z l.settled) (e p j) (grows_not l.joins l.settled)))
