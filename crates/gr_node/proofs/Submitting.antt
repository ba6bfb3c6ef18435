-- What a run logs for a publisher with a client: publishes of it come of notes alone, so each event that is logged is the one that the
-- client submits with its number
use Rattle.std.proofs.Common.{◌≡◌, ℕ, zero, suc, ◌^◌, ◌≤◌, ◌<◌, min, Bool, true, false, not, List, [], ◌∷◌, ◌++◌, map, length, take, drop, Option, Some, None, Result, Ok, Err, refl, sym, ap, ap₂, ◌∙◌, subst, arith, inl, inr, append-nil, append_assoc, length-take, length-drop, take-add}
use Rattle.std.specs.Prelude.{if◌then◌else◌, flat_map, slice_get, is_some, IsSome}
use Rattle.std.specs.List.{AllByRecursion, list_any}
use Rattle.std.proofs.lemmas.Bool.{and_parts, true≢false}
use Rattle.std.proofs.lemmas.List.{map-append, length-map}
use Rattle.gr_event.specs.declared.event.Event.{Event}
use Rattle.gr_frame.specs.Decode.{frame_decoded}
use Rattle.gr_note.specs.declared.note.Note.{Note}
use Rattle.gr_note.specs.declared.note.Note.TheVariants.{Submit, Next, Spent}
use Rattle.gr_note.specs.declared.fault.NoteFault.{NoteFault}
use Rattle.gr_note.specs.Bytes.{begins_note}
use Rattle.gr_note.specs.Decode.{note_decoded}
use Rattle.gr_out.specs.Journal.{is_among}
use Rattle.gr_pubend.specs.Log.{past}
use Rattle.gr_sched.specs.declared.step.Step.{Step}
use Rattle.gr_sched.specs.declared.step.Step.TheVariants as step
use Rattle.gr_sched.specs.declared.step.Line.{Line}
use Rattle.gr_topo.specs.Topology.{TopologyView, host_of, client_of}
use Rattle.gr_model.specs.declared.report.Report.{Report}
use Rattle.gr_model.specs.Net.{Net, numbers}
use Rattle.gr_model.specs.NetOf.{net_of}
use Rattle.gr_model.specs.Broker.{Log, empty_log}
use Rattle.gr_model.specs.World.{Transition, log_of}
use Rattle.gr_model.specs.Opening.{reopened_log, over_logs}
use Rattle.gr_model.specs.Arrivals.{Arrival, datagram, quiet, Publish, Request, asks_publish, asks_join, publisher_of, takes_notes, submitted_in, is_hosted, is_scheduled, requests_of, left_after}
use Rattle.gr_model_calls.proofs.runs.Schedules.{get_numbers, length_numbers}
use Rattle.gr_node.specs.Plan.{Call, gets, wakes, Act, binds, starts, calls, settles, shows, is_ours, request_calls, wake_calls, submit_acts, note_acts, datagram_acts, acts_of, settling, led_to, acts_from, closing, turn_acts, run_acts, nodes, plan, all_entries}
use Rattle.gr_node.specs.Lasting.{IsAlike, SettlesOn, log_read}
use Rattle.gr_node.specs.Served.{Course, world_before, IsReachedFrom}
use Rattle.gr_node.specs.Submitted.{IsSubmission, AreSubmissions, RiseWithin, IsFirstOf, Logs, log_found, after_acts, AreFirst, IsOfClient, HoldsFirstOf, offers_next}
use Rattle.gr_node.proofs.Acting.{all_front, all_append}
use Rattle.gr_node.proofs.Notes.{submits}
use Rattle.gr_node.proofs.Taken.{some_is}
use Rattle.gr_node.proofs.Logging.{EachLogged, Adds, Grows, IsFine, rise_on, acts_grow}
use Rattle.gr_node.proofs.Onwards.{past_on}
use Rattle.gr_node.proofs.Replying.{acts_say}

-- What a plan publishes

-- where what these requests publish, and what notes submit, is so
abbrev pub IsRequest : ℕ → (ℕ → Event → Type 0) → Request → Type 0
IsRequest p P (asks_publish q number e) = q ≡ p → P number e
IsRequest p P (asks_join s q) = Unit {0}

abbrev pub AreRequests : ℕ → (ℕ → Event → Type 0) → List Request → Type 0
AreRequests p P left = AllByRecursion (IsRequest p P) left

abbrev pub IsNoted : Net → ℕ → (ℕ → Event → Type 0) → Arrival → Type 0
IsNoted net p P (datagram b bytes moment) = (n : Note) (x : Publish) → note_decoded bytes ≡ Ok n → submitted_in net b n ≡ Some x → x.0 ≡ p → P x.1.0 x.1.1
IsNoted net p P (quiet moment) = Unit {0}

module _ (p : ℕ) (P : ℕ → Event → Type 0) where
  abbrev AreFine : List Act → Type 0
  AreFine acts = AllByRecursion (IsFine p P) acts

  fine_append : (xs ys : List Act) → AreFine xs → AreFine ys → AreFine (xs ++ ys)
  fine_append xs ys a b = all_append (IsFine p P) xs ys a b

  map_append : (xs ys : List Call) → AreFine (map calls xs) → AreFine (map calls ys) → AreFine (map calls (xs ++ ys))
  map_append [] ys a b = b
  map_append (x ∷ xs) ys a b = (a.0, map_append xs ys a.1 b)

  woken_fine : (b : ℕ) (ps : List ℕ) → AreFine (map calls (map (wakes b) ps))
  woken_fine b [] = tt
  woken_fine b (q ∷ ps) = (tt, woken_fine b ps)

  wakes_fine : (publishers : ℕ) (bs : List ℕ) → AreFine (map calls (flat_map (wake_calls publishers) bs))
  wakes_fine publishers [] = tt
  wakes_fine publishers (b ∷ bs) = map_append (wake_calls publishers b) (flat_map (wake_calls publishers) bs) (woken_fine b (numbers publishers)) (wakes_fine publishers bs)

  first_fine : (left : List Request) → AreRequests p P left → AreFine (map calls (request_calls left))
  first_fine [] h = tt
  first_fine (asks_publish q number e ∷ left) h = (h.0, tt)
  first_fine (asks_join s q ∷ left) h = (tt, tt)

  left_fine : (left : List Request) (a : Arrival) → AreRequests p P left → AreRequests p P (left_after left a)
  left_fine left (datagram b bytes moment) h = h
  left_fine [] (quiet moment) h = tt
  left_fine (x ∷ left) (quiet moment) h = h.1

  submitted_fine : (b q : ℕ) (o : Option Publish) → ((x : Publish) → o ≡ Some x → x.0 ≡ p → P x.1.0 x.1.1) → AreFine (submit_acts b q o)
  submitted_fine b q None h = (refl, tt)
  submitted_fine b q (Some x) h = (h x refl, (tt, tt))

  noted_fine : (net : Net) (b : ℕ) (r : Result Note NoteFault) → ((n : Note) (x : Publish) → r ≡ Ok n → submitted_in net b n ≡ Some x → x.0 ≡ p → P x.1.0 x.1.1) → AreFine (note_acts net b r)
  noted_fine net b (Err fault) h = (refl, tt)
  noted_fine net b (Ok n) h = submitted_fine b (publisher_of n) (submitted_in net b n) (λ x e. h n x refl e)

  datagram_fine : (net : Net) (b : ℕ) (bytes : List ℕ) (moment : ℕ) → IsNoted net p P (datagram b bytes moment) → AreFine (datagram_acts net b bytes)
  datagram_fine net b bytes moment h = go (begins_note bytes)
    where
      go : (c : Bool) → AreFine (elim c [ true ↦ note_acts net b (note_decoded bytes) | false ↦ calls (gets b (frame_decoded bytes)) ∷ [] ])
      go true = noted_fine net b (note_decoded bytes) h
      go false = (tt, tt)

  arrival_fine : (net : Net) (hosted : List ℕ) (left : List Request) (a : Arrival) → AreRequests p P left → IsNoted net p P a → AreFine (acts_of net hosted left a)
  arrival_fine net hosted left (datagram b bytes moment) h noted = go (is_among hosted b)
    where
      go : (c : Bool) → AreFine (if c then datagram_acts net b bytes else [])
      go true = datagram_fine net b bytes moment noted
      go false = tt
  arrival_fine net hosted left (quiet moment) h noted =
      map_append (request_calls left) (flat_map (wake_calls net.publishers) hosted) (first_fine left h) (wakes_fine net.publishers hosted)

  settling_fine : (hosted : List ℕ) (a : Arrival) → AreFine (settling hosted a)
  settling_fine hosted a = go (is_ours hosted a)
    where
      go : (c : Bool) → AreFine (if c then settles ∷ [] else [])
      go true = (tt, tt)
      go false = tt

  came_fine : (net : Net) (hosted : List ℕ) (left : List Request) (came : List Arrival) → AreRequests p P left → AllByRecursion (IsNoted net p P) came → AreFine (acts_from net hosted left came)
  unfolding acts_from
  came_fine net hosted left [] h noted = tt
  came_fine net hosted left (a ∷ came) h noted = (
    tt,
    fine_append (led_to net hosted left a) (acts_from net hosted (left_after left a) came)
        (fine_append (acts_of net hosted left a) (settling hosted a) (arrival_fine net hosted left a h noted.0) (settling_fine hosted a)) (came_fine net hosted (left_after left a) came (left_fine left a h) noted.1),
  )

  closing_fine : (closed : Bool) → AreFine (closing closed)
  closing_fine true = (tt, tt)
  closing_fine false = tt

  binds_fine : (ns : List ℕ) → AreFine (map binds ns)
  binds_fine [] = tt
  binds_fine (n ∷ ns) = (tt, binds_fine ns)

  starts_fine : (bs : List ℕ) → AreFine (map starts bs)
  starts_fine [] = tt
  starts_fine (b ∷ bs) = (tt, starts_fine bs)

  -- then all acts of the plan are
  plan_fine : (t : TopologyView) (hosted : List ℕ) (steps : List Line) (came : List Arrival) (closed : Bool) → AreRequests p P (requests_of (net_of t) hosted steps)
      → AllByRecursion (IsNoted (net_of t) p P) came → AreFine (plan t hosted steps came closed)
  unfolding plan
  plan_fine t hosted steps came closed h noted =
      let net : Net = net_of t in
      let left : List Request = requests_of net hosted steps in
      let ran : List Act = run_acts net hosted steps came closed in
      let turns : List Act = turn_acts net hosted steps came closed in
      let turns_fine : AreFine (turns ++ shows ∷ []) =
      fine_append turns (shows ∷ [])
      (fine_append (acts_from net hosted left came) (closing closed) (came_fine net hosted left came h noted) (closing_fine closed)) (tt, tt) in
      fine_append (map binds (nodes t hosted)) (map starts hosted ++ (ran ++ shows ∷ [])) (binds_fine (nodes t hosted))
      (fine_append (map starts hosted) (ran ++ shows ∷ []) (starts_fine hosted) (tt, turns_fine))

  -- and so are the first of them
  first_are : (t : TopologyView) (hosted : List ℕ) (steps : List Line) (c : Course) (done : List Act) → AreFirst t hosted steps c done → AreRequests p P (requests_of (net_of t) hosted steps)
      → AllByRecursion (IsNoted (net_of t) p P) c.came → AreFine done
  first_are t hosted steps c done first h noted =
      all_front (IsFine p P) done first.left (subst AreFine (sym first.parts) (plan_fine t hosted steps c.came c.closed h noted))

-- Where nothing is asked of the events

-- a test of elements that all pass
all_pass : {X : Type 0} (P : X → Type 0) → ((x : X) → P x) → (xs : List X) → AllByRecursion P xs
all_pass P each [] = tt
all_pass {X} P each (x ∷ xs) = (each x, all_pass {X = X} P each xs)

abbrev pub any_event : ℕ → Event → Type 0
any_event n e = Unit {0}

any_request : (p : ℕ) (x : Request) → IsRequest p any_event x
any_request p (asks_publish q number e) = λ same. tt
any_request p (asks_join s q) = tt

any_noted : (net : Net) (p : ℕ) (a : Arrival) → IsNoted net p any_event a
any_noted net p (datagram b bytes moment) = λ n x d s e. tt
any_noted net p (quiet moment) = tt

-- no line that the acts of what came tell by themselves says that something was logged
pub turns_fine : (p : ℕ) (t : TopologyView) (hosted : List ℕ) (steps : List Line) (came : List Arrival) (closed : Bool) → AllByRecursion (IsFine p any_event) (turn_acts (net_of t) hosted steps came closed)
turns_fine p t hosted steps came closed =
    let net : Net = net_of t in
    fine_append p any_event (acts_from net hosted (requests_of net hosted steps) came) (closing closed)
    (came_fine p any_event net hosted (requests_of net hosted steps) came (all_pass (IsRequest p any_event) (any_request p) (requests_of net hosted steps)) (all_pass (IsNoted net p any_event) (any_noted net p) came))
    (closing_fine p any_event closed)

-- Where the events are those of a client

-- the event of a number in the list, from 1
abbrev is_of : List Event → ℕ → Event → Type 0
is_of es n e = (k : ℕ) → n ≡ suc k → slice_get es k ≡ Some e

-- a publisher with a client is not scheduled, so no step of the schedule publishes for it
scheduled_not : (t : TopologyView) (hosted : List ℕ) (p : ℕ) (es : List Event) → IsSome (client_of t p) → (s : Step) → AreRequests p (is_of es) (elim s [
  | step.Publish q number stop e ↦ if is_scheduled (net_of t) hosted q then asks_publish q number e ∷ [] else []
  | step.Join s q ↦ if is_hosted (net_of t) hosted q then asks_join s q ∷ [] else []
  | _ ↦ []
])
scheduled_not t hosted p es client (step.Publish q number stop e) = go (is_scheduled (net_of t) hosted q) refl
  where
    go : (c : Bool) → is_scheduled (net_of t) hosted q ≡ c → AreRequests p (is_of es) (if c then asks_publish q number e ∷ [] else [])
    go true h =
        let none : not (is_some (client_of t q)) ≡ true = (and_parts (is_hosted (net_of t) hosted q) (not (is_some (client_of t q))) h).1 in
        (λ same. absurd (true≢false (sym none ∙ (ap (λ k. not (is_some (client_of t k))) same ∙ ap not client))), tt)
    go false h = tt
scheduled_not t hosted p es client (step.Clock now) = tt
scheduled_not t hosted p es client (step.Wake b) = tt
scheduled_not t hosted p es client (step.Deliver frame) = tt
scheduled_not t hosted p es client (step.Crash b) = tt
scheduled_not t hosted p es client step.Sweep = tt
scheduled_not t hosted p es client step.Show = tt
scheduled_not t hosted p es client (step.Bytes frame) = tt
scheduled_not t hosted p es client (step.Join s q) = go (is_hosted (net_of t) hosted q)
  where
    go : (c : Bool) → AreRequests p (is_of es) (if c then asks_join s q ∷ [] else [])
    go true = (tt, tt)
    go false = tt

steps_not : (t : TopologyView) (hosted : List ℕ) (p : ℕ) (es : List Event) → IsSome (client_of t p) → (steps : List Line) → AreRequests p (is_of es) (requests_of (net_of t) hosted steps)
steps_not t hosted p es client [] = tt
steps_not t hosted p es client (l ∷ ls) = all_append (IsRequest p (is_of es)) _ _ (scheduled_not t hosted p es client l.step) (steps_not t hosted p es client ls)

-- what a note submits at the publisher's host is of the list
note_of : (t : TopologyView) (p : ℕ) (es : List Event) (b : ℕ) (bytes : List ℕ) (moment : ℕ) → IsSubmission t p es (datagram b bytes moment) → (n : Note) (x : Publish) → note_decoded bytes ≡ Ok n → submitted_in (net_of t) b n ≡ Some x → x.0 ≡ p → is_of es x.1.0 x.1.1
note_of t p es b bytes moment h (Submit q number e) x d s same = go (takes_notes (net_of t) b q) s
  where
    at : (k : ℕ) → x ≡ (q, (number, e)) → x.1.0 ≡ suc k → slice_get es k ≡ Some x.1.1
    at k is next =
        let host : host_of t x.0 ≡ b = (submits (net_of t) b (Submit q number e) x s).1 in
        let first : q ≡ p = sym (ap (λ (y : Publish). y.0) is) ∙ same in
        let second : number ≡ suc k = sym (ap (λ (y : Publish). y.1.0) is) ∙ next in
        let here : b ≡ host_of t p = sym host ∙ ap (host_of t) same in
        let read : note_decoded bytes ≡ Ok (Submit p (suc k) e) = d ∙ (ap (λ m. Ok (Submit m number e)) first ∙ ap (λ m. Ok (Submit p m e)) second) in
        h here k e read ∙ ap (λ (y : Publish). Some y.1.1) (sym is)

    go : (c : Bool) → (if c then Some (q, (number, e)) else None) ≡ Some x → is_of es x.1.0 x.1.1
    go true h = λ k next. at k (sym (some_is h)) next
    go false h = absurd (cc)
note_of t p es b bytes moment h (Next q next) x d s same = absurd (cc)
note_of t p es b bytes moment h (Spent q) x d s same = absurd (cc)

client_noted : (t : TopologyView) (p : ℕ) (es : List Event) (came : List Arrival) → AreSubmissions t p es came → AllByRecursion (IsNoted (net_of t) p (is_of es)) came
client_noted t p es [] h = tt
client_noted t p es (datagram b bytes moment ∷ came) h = (note_of t p es b bytes moment h.0, client_noted t p es came h.1)
client_noted t p es (quiet moment ∷ came) h = (tt, client_noted t p es came h.1)

-- The events of a list

drop_is : (es : List Event) (n : ℕ) (e : Event) → slice_get es n ≡ Some e → drop n es ≡ e ∷ drop (suc n) es
drop_is [] n e h = absurd (cc)
drop_is (x ∷ es) zero e h = ap (λ y. y ∷ es) (some_is h)
drop_is (x ∷ es) (suc n) e h = drop_is es n e h

-- events with numbers in a row are a part of the list
row_is : (es : List Event) (n : ℕ) (new : List (ℕ × Event)) → EachLogged (is_of es) (suc n) new → map (λ x. x.1) new ≡ take (length new) (drop n es)
row_is es n [] h = refl
row_is es n (x ∷ new) h =
    ap (λ (ys : List Event). x.1 ∷ ys) (row_is es (suc n) new h.1)
    ∙ sym (ap (take (suc (length new))) (drop_is es n x.1 (h.0 n refl)))

-- a log with a further part of the list
further : (p : ℕ) (es : List Event) (before after : Log) (told : List Report) (new : List (ℕ × Event)) → Logs p before after told new
    → map (λ x. x.1) new ≡ take (length new) (drop before.last es) → IsFirstOf es before → IsFirstOf es after
further p es before after told new logs are first =
    let part : List Event = drop before.last es in
    let many : length new ≡ min (length new) (length part) = sym (length-map new (λ (x : ℕ × Event). x.1)) ∙ (ap length are ∙ length-take (length new) part) in
    record {
      within = let last = logs.last in omega (arith, last, many, length-drop before.last es, first.within);
      logged = first.logged ++ new;
      ticks = rise_on 0 before.settled after.settled first.logged new first.ticks logs.ticks;
      events = map-append (λ (x : ℕ × Event). x.1) first.logged new
          ∙ (ap₂ (λ (xs ys : List Event). xs ++ ys) first.events are
          ∙ (sym (take-add before.last (length new) es) ∙ ap (λ k. take k es) (sym logs.last)));
      past_cut = past_on before.cut after.cut first.logged before.events after.events [] new logs.cut (first.past_cut ∙ ap (past before.cut) (sym (append-nil first.logged))) logs.events;
    }

-- The world before a run

-- the log of a publisher is the one found
log_before : (t : TopologyView) (c : Course) (p : ℕ) → p < length t.publishers → log_of (world_before t c) p ≡ log_found c p
unfolding over_logs
log_before t c p below =
    get_numbers (reopened_log c.logs) 0 (length t.publishers) p empty_log below ∙ ap (reopened_log c.logs) (omega arith)

logs_before : (t : TopologyView) (c : Course) → length (world_before t c).logs ≡ length t.publishers
unfolding over_logs
logs_before t c = length_numbers (reopened_log c.logs) 0 (length t.publishers)

module _ (t : TopologyView) (hosted : List ℕ) (steps : List Line) (c : Course) (done : List Act) (first : AreFirst t hosted steps c done) (p : ℕ) where
  abbrev end : Transition
  end = after_acts t hosted c done

  -- what is logged, where what the plan publishes is so
  grown : (P : ℕ → Event → Type 0) → p < length t.publishers → AreRequests p P (requests_of (net_of t) hosted steps) → AllByRecursion (IsNoted (net_of t) p P) c.came
      → Adds p P (log_found c p) (log_of end.world p) end.lines
  grown P below h noted =
      let g : Grows p P (world_before t c) end = acts_grow p P (net_of t) hosted done (world_before t c) (omega (arith, below, logs_before t c)) (first_are p P t hosted steps c done first h noted) in
      subst (λ (l : Log). Adds p P l (log_of end.world p) end.lines) (log_before t c p below) g.adds

  -- Of every publisher
  pub numbers_rise : p < length t.publishers → (new : List (ℕ × Event)) × Logs p (log_found c p) (log_of end.world p) end.lines new
  numbers_rise below =
      let x = grown any_event below (all_pass (IsRequest p any_event) (any_request p) (requests_of (net_of t) hosted steps)) (all_pass (IsNoted (net_of t) p any_event) (any_noted (net_of t) p) c.came) in
      (x.new, x.logs)

  -- Of one with a client
  pub are_submitted : (es : List Event) → IsOfClient t c p es
      → (new : List (ℕ × Event)) × Logs p (log_found c p) (log_of end.world p) end.lines new × (map (λ x. x.1) new ≡ take (length new) (drop (log_found c p).last es))
  are_submitted es of =
      let x = grown (is_of es) of.publisher (steps_not t hosted p es of.client steps) (client_noted t p es c.came of.submissions) in
      (x.new, x.logs, row_is es (log_found c p).last x.new x.each)

  pub stay_first : (es : List Event) → IsOfClient t c p es → IsFirstOf es (log_found c p) → IsFirstOf es (log_of end.world p)
  stay_first es of is =
      let x = are_submitted es of in
      further p es (log_found c p) (log_of end.world p) end.lines x.0 x.1 x.2 is

  -- Of what the journal offers to clients
  pub next_answered : (n : ℕ) → p < length t.publishers → n < 2 ^ 64 → list_any (offers_next p n) (all_entries t hosted (world_before t c) done) ≡ true
      → (let l : Log = log_of end.world p in n ≤ suc l.last)
  next_answered n below small e =
      acts_say t hosted p n small any_event done (world_before t c) (omega (arith, below, logs_before t c))
      (first_are p any_event t hosted steps c done first (all_pass (IsRequest p any_event) (any_request p) (requests_of (net_of t) hosted steps)) (all_pass (IsNoted (net_of t) p any_event) (any_noted (net_of t) p) c.came)) e

-- Images

-- a log that is settled further has the events that it had
settles_first : (es : List Event) (l m : Log) → SettlesOn l m → IsFirstOf es l → IsFirstOf es m
settles_first es l m s first = record {
  within = omega (arith, first.within, s.last);
  logged = first.logged;
  ticks = subst (RiseWithin 0 m.settled) (append-nil first.logged) (rise_on 0 l.settled m.settled first.logged [] first.ticks s.settled);
  events = first.events ∙ ap (λ k. take k es) (sym s.last);
  past_cut = ap₂ past s.cut s.events ∙ (first.past_cut ∙ ap (λ k. past k first.logged) (sym s.cut));
}

-- one that another says the same of has those of the other
alike_first : (es : List Event) (l m : Log) → IsAlike l m → IsFirstOf es m → IsFirstOf es l
alike_first es l m a first = record {
  within = omega (arith, first.within, a.last);
  logged = first.logged;
  ticks = subst (λ k. RiseWithin 0 k first.logged) a.settled first.ticks;
  events = first.events ∙ ap (λ k. take k es) a.last;
  past_cut = ap₂ past (sym a.cut) (sym a.events) ∙ (first.past_cut ∙ ap (λ k. past k first.logged) a.cut);
}

-- what the plan reached is a log of the first events
pub images_first : (t : TopologyView) (hosted : List ℕ) (steps : List Line) (c : Course) (done : List Act) (p : ℕ) (es : List Event) (a b : List ℕ) → IsOfClient t c p es → IsFirstOf es (log_found c p)
    → IsReachedFrom t hosted steps c done p a b → HoldsFirstOf t.late es a b
images_first t hosted steps c done p es a b of is h =
    let x = h.holds in
    let one : List Act = done ++ h.made in
    let two : List Act = done ++ (h.made ++ h.next) in
    let first : AreFirst t hosted steps c one = record { left = h.next ++ h.left; parts = append_assoc done h.made (h.next ++ h.left) ∙ h.parts } in
    let last : AreFirst t hosted steps c two = record { left = h.left; parts = append_assoc done (h.made ++ h.next) h.left ∙ (ap (λ (l : List Act). done ++ l) (append_assoc h.made h.next h.left) ∙ h.parts) } in (
      x.0,
      x.1,
      elim x.4 [
        | inl s ↦ settles_first es (log_of (after_acts t hosted c one).world p) (log_read x.0) s (stay_first t hosted steps c one first p es of is)
        | inr s ↦ alike_first es (log_read x.0) (log_of (after_acts t hosted c two).world p) s (stay_first t hosted steps c two last p es of is)
      ],
    )
