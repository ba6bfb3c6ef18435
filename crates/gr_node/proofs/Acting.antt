-- What a run does once its brokers have started are calls of hosted brokers and answers, for publishers of the topology, and acts that
-- call none
use Rattle.std.proofs.Common.{◌≡◌, ◌<◌, ◌≤◌, ℕ, zero, suc, ◌+◌, ◌^◌, Bool, true, false, List, [], ◌∷◌, ◌++◌, length, map, flat_map, Option, Some, None, Result, Ok, Err, refl, ap, ◌∙◌, arith}
use Rattle.std.specs.Prelude.{nat_eq, if◌then◌else◌}
use Rattle.std.specs.List.{AllByRecursion}
use Rattle.std.proofs.lemmas.Bool.{eq-eqb, or_left, or_right, and_parts}
use Rattle.gr_frame.specs.Decode.{frame_decoded}
use Rattle.gr_note.specs.declared.note.Note.{Note}
use Rattle.gr_note.specs.declared.fault.NoteFault.{NoteFault}
use Rattle.gr_note.specs.Bytes.{begins_note}
use Rattle.gr_note.specs.Decode.{note_decoded}
use Rattle.gr_out.specs.Journal.{is_among}
use Rattle.gr_sched.specs.declared.step.Step.{Step}
use Rattle.gr_sched.specs.declared.step.Step.TheVariants as step
use Rattle.gr_sched.specs.declared.step.Line.{Line}
use Rattle.gr_scenario.specs.Steps.{IsStepOf, AreStepsOf}
use Rattle.gr_topo.specs.Topology.{TopologyView, host_of}
use Rattle.gr_model.specs.Net.{numbers_from}
use Rattle.gr_model.specs.NetOf.{net_of}
use Rattle.gr_model.specs.Arrivals.{Arrival, datagram, quiet, Publish, Request, asks_publish, asks_join, publisher_of, submitted_in, is_hosted, is_scheduled, requests_of, left_after}
use Rattle.gr_node.specs.Plan.{Call, gets, publishes, wakes, Act, calls, settles, shows, is_ours, call_of, request_calls, wake_calls, quiet_calls, submit_acts, note_acts, datagram_acts, acts_of, settling, led_to, acts_from, closing, turn_acts, run_acts}
use Rattle.gr_node.proofs.Moving.{IsCallOf, IsActOf}
use Rattle.gr_node.proofs.Notes.{submits}

-- Lists of which each element is so

-- of a list in two parts the front is so
pub all_front : {X : Type 0} (P : X → Type 0) (xs ys : List X) → AllByRecursion P (xs ++ ys) → AllByRecursion P xs
all_front P [] ys a = tt
all_front P (x ∷ xs) ys a = (a.0, all_front P xs ys a.1)

-- and so is what stands behind it
pub all_back : {X : Type 0} (P : X → Type 0) (xs ys : List X) → AllByRecursion P (xs ++ ys) → AllByRecursion P ys
all_back P [] ys a = a
all_back P (x ∷ xs) ys a = all_back P xs ys a.1

pub all_append : {X : Type 0} (P : X → Type 0) (xs ys : List X) → AllByRecursion P xs → AllByRecursion P ys → AllByRecursion P (xs ++ ys)
all_append P [] ys a b = b
all_append P (x ∷ xs) ys a b = (a.0, all_append P xs ys a.1 b)

module _ (t : TopologyView) (hosted : List ℕ) (few : length t.subscribers ≤ 2 ^ 16) where
  -- Requests

  abbrev pub AreRequests : List Request → Type 0
  AreRequests left = AllByRecursion (λ x. IsCallOf t hosted (call_of x)) left

  request_of : (s : Step) → IsStepOf t s → AreRequests (elim s [
    | step.Publish p number stop e ↦ if is_scheduled (net_of t) hosted p then asks_publish p number e ∷ [] else []
    | step.Join s p ↦ if is_hosted (net_of t) hosted p then asks_join s p ∷ [] else []
    | _ ↦ []
  ])
  request_of (step.Publish p number stop e) h = go (is_scheduled (net_of t) hosted p) refl
    where
      go : (q : Bool) → is_scheduled (net_of t) hosted p ≡ q → AreRequests (if q then asks_publish p number e ∷ [] else [])
      go true k = ((h.0, (and_parts (is_hosted (net_of t) hosted p) _ k).0), tt)
      go false k = tt
  request_of (step.Join s p) h = go (is_hosted (net_of t) hosted p) refl
    where
      go : (q : Bool) → is_hosted (net_of t) hosted p ≡ q → AreRequests (if q then asks_join s p ∷ [] else [])
      go true k = ((h.2, (k, omega (arith, h.0, few))), tt)
      go false k = tt
  request_of (step.Clock now) h = tt
  request_of (step.Wake b) h = tt
  request_of (step.Deliver frame) h = tt
  request_of (step.Crash b) h = tt
  request_of step.Sweep h = tt
  request_of step.Show h = tt
  request_of (step.Bytes frame) h = tt

  pub requests_are : (steps : List Line) → AreStepsOf t steps → AreRequests (requests_of (net_of t) hosted steps)
  requests_are [] a = tt
  requests_are (l ∷ ls) a = all_append (λ x. IsCallOf t hosted (call_of x)) _ _ (request_of l.step a.0) (requests_are ls a.1)

  pub left_are : (left : List Request) (a : Arrival) → AreRequests left → AreRequests (left_after left a)
  left_are left (datagram b bytes moment) h = h
  left_are [] (quiet moment) h = tt
  left_are (x ∷ left) (quiet moment) h = h.1

  -- Calls

  abbrev AreCalls : List Call → Type 0
  AreCalls cs = AllByRecursion (IsCallOf t hosted) cs

  first_is : (left : List Request) → AreRequests left → AreCalls (request_calls left)
  first_is [] h = tt
  first_is (x ∷ left) h = (h.0, tt)

  wakes_of : (b from k : ℕ) → is_among hosted b ≡ true → from + k ≤ length t.publishers → AreCalls (map (wakes b) (numbers_from from k))
  wakes_of b from zero h le = tt
  wakes_of b from (suc k) h le = ((h, omega (arith, le)), wakes_of b (suc from) k h (omega (arith, le)))

  wakes_are : (bs : List ℕ) → ((b : ℕ) → is_among bs b ≡ true → is_among hosted b ≡ true) → AreCalls (flat_map (wake_calls (length t.publishers)) bs)
  wakes_are [] h = tt
  wakes_are (b ∷ bs) h =
      all_append (IsCallOf t hosted) (wake_calls (length t.publishers) b) (flat_map (wake_calls (length t.publishers)) bs)
      (wakes_of b 0 (length t.publishers) (h b (or_left (nat_eq b b) (is_among bs b) (eq-eqb b b refl))) (omega arith))
      (wakes_are bs (λ c e. h c (or_right (nat_eq b c) (is_among bs c) e)))

  quiet_are : (left : List Request) → AreRequests left → AreCalls (quiet_calls (net_of t) hosted left)
  quiet_are left h =
      all_append (IsCallOf t hosted) (request_calls left) (flat_map (wake_calls (length t.publishers)) hosted) (first_is left h) (wakes_are hosted (λ b e. e))

  -- Acts

  abbrev AreActs : List Act → Type 0
  AreActs acts = AllByRecursion (IsActOf t hosted) acts

  made_of : (cs : List Call) → AreCalls cs → AreActs (map calls cs)
  made_of [] h = tt
  made_of (c ∷ cs) h = (h.0, made_of cs h.1)

  -- of a note at a hosted broker
  submitted_are : (b p : ℕ) (o : Option Publish) → is_among hosted b ≡ true → ((x : Publish) → o ≡ Some x → (x.0 < length t.publishers) × (host_of t x.0 ≡ b)) → AreActs (submit_acts b p o)
  submitted_are b p None here is = (refl, tt)
  submitted_are b p (Some x) here is =
      let e = is x refl in
      let k : IsCallOf t hosted (publishes x) = (e.0, ap (is_among hosted) e.1 ∙ here) in
      (k, (k, tt))

  note_are : (b : ℕ) (r : Result Note NoteFault) → is_among hosted b ≡ true → AreActs (note_acts (net_of t) b r)
  note_are b (Err fault) here = (refl, tt)
  note_are b (Ok n) here = submitted_are b (publisher_of n) (submitted_in (net_of t) b n) here (λ x e. submits (net_of t) b n x e)

  datagram_are : (b : ℕ) (bytes : List ℕ) → is_among hosted b ≡ true → AreActs (datagram_acts (net_of t) b bytes)
  datagram_are b bytes here = go (begins_note bytes)
    where
      go : (q : Bool) → AreActs (elim q [ true ↦ note_acts (net_of t) b (note_decoded bytes) | false ↦ calls (gets b (frame_decoded bytes)) ∷ [] ])
      go true = note_are b (note_decoded bytes) here
      go false = (here, tt)

  pub arrival_are : (left : List Request) (a : Arrival) → AreRequests left → AreActs (acts_of (net_of t) hosted left a)
  arrival_are left (datagram b bytes moment) h = go (is_among hosted b) refl
    where
      go : (q : Bool) → is_among hosted b ≡ q → AreActs (if q then datagram_acts (net_of t) b bytes else [])
      go true e = datagram_are b bytes e
      go false e = tt
  arrival_are left (quiet moment) h = made_of (quiet_calls (net_of t) hosted left) (quiet_are left h)

  pub settling_is : (a : Arrival) → AreActs (settling hosted a)
  settling_is a = go (is_ours hosted a)
    where
      go : (q : Bool) → AreActs (if q then settles ∷ [] else [])
      go true = (tt, tt)
      go false = tt

  came_are : (left : List Request) (came : List Arrival) → AreRequests left → AreActs (acts_from (net_of t) hosted left came)
  unfolding acts_from
  came_are left [] h = tt
  came_are left (a ∷ came) h = (
    tt,
    all_append (IsActOf t hosted) (led_to (net_of t) hosted left a) (acts_from (net_of t) hosted (left_after left a) came)
        (all_append (IsActOf t hosted) (acts_of (net_of t) hosted left a) (settling hosted a) (arrival_are left a h) (settling_is a)) (came_are (left_after left a) came (left_are left a h)),
  )

  closing_is : (closed : Bool) → AreActs (closing closed)
  closing_is true = (tt, tt)
  closing_is false = tt

  -- all that a run does after the starts
  pub acts_are : (steps : List Line) (came : List Arrival) (closed : Bool) → AreStepsOf t steps
      → AllByRecursion (IsActOf t hosted) (run_acts (net_of t) hosted steps came closed ++ shows ∷ [])
  acts_are steps came closed a =
      let turns : AreActs (turn_acts (net_of t) hosted steps came closed ++ shows ∷ []) =
      all_append (IsActOf t hosted) (turn_acts (net_of t) hosted steps came closed) (shows ∷ [])
      (all_append (IsActOf t hosted) (acts_from (net_of t) hosted (requests_of (net_of t) hosted steps) came) (closing closed)
      (came_are (requests_of (net_of t) hosted steps) came (requests_are steps a)) (closing_is closed)) (tt, tt) in
      (tt, turns)
