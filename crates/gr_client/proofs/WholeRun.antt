-- A run of a client, from its bindings to its last line
use Rattle.std.proofs.Common.{◌≡◌, ℕ, zero, suc, ◌+◌, ◌<◌, ◌≤◌, nat_eq, Bool, true, false, if◌then◌else◌, List, [], ◌∷◌, ◌++◌, length, take, Option, Result, Err, refl, sym, ap, ◌∙◌, subst, arith, append_assoc, append-nil, length-append}
use Rattle.std.proofs.lemmas.Bool.{false≢true}
use Rattle.gr_event.specs.declared.event.Event.{Event}
use Rattle.gr_out.specs.declared.fault.RunFault.{RunFault}
use Rattle.gr_out.specs.declared.fault.RunFault.TheVariants as run
use Rattle.gr_out.specs.Entry.{Entry}
use Rattle.gr_out.proofs.Fronts.{with_more-nil, front-nothing}
use Rattle.gr_sched.specs.declared.step.Line.{Line}
use Rattle.gr_sched.specs.declared.step.Step.{Step}
use Rattle.gr_sched.specs.declared.step.Step.TheVariants as step
use Rattle.gr_topo.specs.Topology.{TopologyView, host_of}
use Rattle.gr_client.specs.Moves.{IsExact, fault_entries}
use Rattle.gr_client.specs.Run.{events_in, events_of, begun, turns_text, turns_entries, nodes, offer_entries, begun_entries}
use Rattle.gr_client.specs.Ran.{Course, IsRunOf, Posts, Prints, run_entries, run_text}
use Rattle.gr_client.specs.Turns.{came_entries, Finished}
use Rattle.gr_client.proofs.Begun.{begins_all, begins_later, put_later}
use Rattle.gr_client.proofs.Ways.{on_ok}

-- There are no more events than lines

few_chosen : (b : Bool) (e : Event) → length (if b then e ∷ [] else []) ≤ 1
few_chosen true e = omega arith
few_chosen false e = omega arith

few_in : (p : ℕ) (s : Step) → length {A = Event} (elim s [ step.Publish q number stop e ↦ if nat_eq q p then e ∷ [] else [] | _ ↦ [] ]) ≤ 1
few_in p (step.Clock now) = omega arith
few_in p (step.Publish q number stop e) = few_chosen (nat_eq q p) e
few_in p (step.Wake broker) = omega arith
few_in p (step.Deliver frame) = omega arith
few_in p (step.Crash broker) = omega arith
few_in p step.Sweep = omega arith
few_in p step.Show = omega arith
few_in p (step.Bytes frame) = omega arith
few_in p (step.Join s q) = omega arith

few_events : (p : ℕ) (steps : List Line) → length (events_of p steps) ≤ length steps
few_events p [] = omega arith
few_events p (l ∷ steps) =
    let whole : length (events_of p (l ∷ steps)) ≡ length (events_in p l) + length (events_of p steps) = length-append (events_in p l) (events_of p steps) in
    let one : length (events_in p l) ≤ 1 = few_in p l.step in
    let others : length (events_of p steps) ≤ length steps = few_events p steps in
    omega (arith, whole, one, others)

-- so what is read of few lines are few events
pub few_read : (p most : ℕ) (steps read : List Line) (events : List Event) → read ≡ steps → events ≡ events_of p read → length steps ≤ most → length events ≤ most
few_read p most steps read events same are few =
    let fewer : length (events_of p read) ≤ length read = few_events p read in
    let count : length events ≡ length (events_of p read) = ap length are in
    let lines : length read ≡ length steps = ap length same in
    omega (arith, fewer, count, lines, few)

-- What a run did

abbrev pub DidRun : (t : TopologyView) (p : ℕ) (tells : Type 0) (steps : List Line) (turns : ℕ) (taken taken' : Option (List ℕ)) (journal journal' : List Entry) (result : Result (Unit {0}) RunFault) → Type 0
DidRun t p tells steps turns taken taken' journal journal' result =
    (c : Course) × (IsRunOf {T = Unit {0}} t p steps turns c result × ((tells → Posts {T = Unit {0}} t p steps c journal journal' result) × Prints {T = Unit {0}} t p steps c taken taken' result))

-- a course in which not all was bound, or nothing came
abbrev short : ℕ → Course
short k = record { bound = k; came = []; closed = false }

inexact_none : (e : RunFault) → (IsExact {T = Unit {0}} (Err e) → ⊥) → fault_entries {T = Unit {0}} (Err e) ≡ []
inexact_none run.Memory h = refl
inexact_none run.Write h = refl
inexact_none run.Disk h = refl
inexact_none (run.Damaged p at) h = refl
inexact_none run.Post h = absurd (h tt)

-- only so many nodes are bound then
unbound_entries : (t : TopologyView) (p : ℕ) (steps : List Line) (k : ℕ) → k < 2 → run_entries t p steps (short k) ≡ take k (nodes t p)
unfolding turns_entries
unbound_entries t p steps zero h = refl
unbound_entries t p steps (suc zero) h = refl
unbound_entries t p steps (suc (suc k)) h = absurd (omega (arith, h))

-- A node could not be bound
pub ran_unbound : (t : TopologyView) (p : ℕ) (tells : Type 0) (steps : List Line) (turns : ℕ) (taken : Option (List ℕ)) (journal journal' : List Entry) (k : ℕ) (e : RunFault) → k < 2
    → (tells → journal' ≡ journal ++ (take k (nodes t p) ++ fault_entries {T = Unit {0}} (Err e))) → DidRun t p tells steps turns taken taken journal journal' (Err e)
unfolding turns_text
ran_unbound t p tells steps turns taken journal journal' k e h put =
    let same : run_entries t p steps (short k) ≡ take k (nodes t p) = unbound_entries t p steps k h in (
      short k,
      (
        record {
          bound = omega (arith, h);
          unbound = λ some. (refl, refl);
          whole = tt;
          within = omega arith;
          runs = tt;
          open_until = λ shut. absurd (false≢true shut);
          ended = tt;
        },
        (
          λ told. record {
            exact = λ exact. put told ∙ ap (λ (xs : List Entry). journal ++ (xs ++ fault_entries {T = Unit {0}} (Err e))) (sym same);
            front = λ inexact. begins_all journal journal' (run_entries t p steps (short k))
                (put told ∙ ap (λ (xs : List Entry). journal ++ (take k (nodes t p) ++ xs)) (inexact_none e inexact)
                ∙ ap (λ (xs : List Entry). journal ++ xs) (append-nil (take k (nodes t p)) ∙ sym same));
          },
          record {
            report = tt;
            failed = λ post. sym (with_more-nil taken);
            front = front-nothing taken taken (run_text t p steps (short k)) refl;
          },
        ),
      ),
    )

-- There was no memory before the first binding
pub ran_none : (t : TopologyView) (p : ℕ) (tells : Type 0) (steps : List Line) (turns : ℕ) (taken : Option (List ℕ)) (journal : List Entry) → DidRun t p tells steps turns taken taken journal journal (Err run.Memory)
ran_none t p tells steps turns taken journal = ran_unbound t p tells steps turns taken journal journal 0 run.Memory (omega arith) (λ told. sym (append-nil journal))

-- Both nodes are bound, and there was no memory to offer the first event
pub ran_unoffered : (t : TopologyView) (p : ℕ) (tells : Type 0) (steps : List Line) (turns : ℕ) (taken : Option (List ℕ)) (journal middle journal' : List Entry) (e : RunFault) → e ≡ run.Memory
    → (tells → middle ≡ journal ++ (take 2 (nodes t p) ++ [])) → (tells → journal' ≡ middle) → DidRun t p tells steps turns taken taken journal journal' (Err e)
unfolding turns_entries
ran_unoffered t p tells steps turns taken journal middle journal' e is put same =
    let offers : List Entry = offer_entries (host_of t p) (begun p steps) in
    subst (λ (f : RunFault). DidRun t p tells steps turns taken taken journal journal' (Err f)) (sym is) (
      short 2,
      (
        record {
          bound = omega arith;
          unbound = λ some. (refl, refl);
          whole = tt;
          within = omega arith;
          runs = tt;
          open_until = λ shut. absurd (false≢true shut);
          ended = tt;
        },
        (
          λ told. record {
            exact = λ exact. absurd exact;
            front = λ inexact. record {
              part = take 2 (nodes t p);
              rest = offers ++ [];
              whole = append_assoc (take 2 (nodes t p)) offers [];
              are = same told ∙ put told;
            };
          },
          record {
            report = tt;
            failed = λ post. cc;
            front = front-nothing taken taken (run_text t p steps (short 2)) refl;
          },
        ),
      ),
    )

-- Both nodes are bound, the first event is offered, and the rest is as its turns and its last line

pub ran_finished : (t : TopologyView) (p : ℕ) (tells : Type 0) (steps : List Line) (turns : ℕ) (taken taken' : Option (List ℕ)) (journal middle next journal' : List Entry) (r : Result (Unit {0}) RunFault)
    → (tells → middle ≡ journal ++ (take 2 (nodes t p) ++ [])) → (tells → next ≡ middle ++ offer_entries (host_of t p) (begun p steps))
    → Finished t p tells turns (begun p steps) taken taken' next journal' r → DidRun t p tells steps turns taken taken' journal journal' r
ran_finished t p tells steps turns taken taken' journal middle next journal' r put offered f =
    let first : List Entry = begun_entries t p steps 2 in
    let more : List Entry = came_entries t p (begun p steps) f.came f.shut in
    let begins : tells → next ≡ journal ++ first = λ told. put_later journal middle next (take 2 (nodes t p)) (offer_entries (host_of t p) (begun p steps)) (put told) (offered told) in
    let course : Course = record { bound = 2; came = f.came; closed = f.shut } in (
      course,
      (
        record {
          bound = omega arith;
          unbound = λ some. absurd (omega (arith, some));
          whole = on_ok {T = Unit {0}} r refl;
          within = f.ends.within;
          runs = f.ends.runs;
          open_until = f.ends.open_until;
          ended = f.ends.ended;
        },
        (
          λ told. record {
            exact = λ exact. put_later journal next journal' first (more ++ fault_entries r) (begins told) (f.sent exact told)
                ∙ ap (λ (xs : List Entry). journal ++ xs) (sym (append_assoc first more (fault_entries r)));
            front = λ inexact. begins_later journal next journal' first more (begins told) (f.sent_front inexact told);
          },
          record { report = f.report; failed = f.failed; front = f.told_front },
        ),
      ),
    )
