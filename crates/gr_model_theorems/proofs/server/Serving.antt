-- The headline holds of a run over an honest journal, since each
-- arrival does what its steps do, and of the steps the headline holds
use Rattle.std.proofs.lemmas.List.Elements.{filter-append}
use Rattle.std.proofs.Common.{◌≡◌, inl, inr, ⊎_elim, ℕ, suc, zero, ◌+◌, ◌≤◌, ◌<◌, min, max, Bool, true, false, List, [], ◌∷◌, ◌++◌, map, length, refl, sym, ap, ap₂, ◌∙◌, subst, Option, Some, None, arith, append-nil, append_assoc}
use Rattle.std.specs.Prelude.{◌&&◌, nat_eq, nat_lt, if◌then◌else◌, filter, flat_map, Result, Ok, Err}
use Rattle.std.proofs.lemmas.Bool.{cases_Bool, cond-true, cond-false, and_parts, ltb-true}
use Rattle.std.specs.List.{AllByRecursion}
use Rattle.gr_event.specs.Limits.{IsEvent}
use Rattle.gr_frame.specs.declared.Frame.{Frame}
use Rattle.gr_frame.specs.declared.fault.FrameFault.{FrameFault}
use Rattle.gr_frame.specs.Bytes.{frame_bytes}
use Rattle.gr_frame.specs.Decode.{frame_decoded}
use Rattle.gr_frame.proofs.Events.{event_limits}
use Rattle.gr_note.specs.declared.note.Note.{Note}
use Rattle.gr_note.specs.declared.note.Note.TheVariants.{Submit, Next, Spent}
use Rattle.gr_note.specs.declared.fault.NoteFault.{NoteFault}
use Rattle.gr_note.specs.Fault as note
use Rattle.gr_note.specs.Bytes.{begins_note}
use Rattle.gr_note.specs.Decode.{note_decoded}
use Rattle.gr_note.proofs.Fields.{AreBytes}
use Rattle.gr_note.proofs.Submitted.{event_decodes}
use Rattle.gr_sched.specs.declared.step.Step.{Step}
use Rattle.gr_sched.specs.declared.step.Step.TheVariants as step
use Rattle.gr_sched.specs.declared.step.Line.{Line}
use Rattle.gr_model.specs.declared.report.Report.{Report}
use Rattle.gr_model.specs.declared.report.Report.TheVariants as line
use Rattle.gr_model.specs.Net.{Net, keeps_horizon, numbers, numbers_from, is_late}
use Rattle.gr_model.specs.Broker.{max_tick}
use Rattle.gr_model.specs.World.{World, Transition, view_of, log_of, unchanged, sent_lines, show, kept_events, next_by, run_from_by}
use Rattle.gr_model_calls.specs.OneNet.{next, run_from, run_all, comes, served_from}
use Rattle.gr_model_calls.specs.Edges.{GoesOverEdge}
use Rattle.gr_model.specs.Arrivals.{asks_publish, asks_join, Arrival, datagram, quiet, Publish, fault_number, publisher_of, takes_notes, submitted_in, is_hosted, is_scheduled, requests_in, requests_of, left_after, show_hosted, served_from_by, Request}
use Rattle.gr_model_theorems.specs.Served.{IsOfBytes, number_of_bytes, IsHonestAt, IsHonest, DoesSteps, AllDoSteps, as_line, request_step, delivery_step, is_frame, submitted_step, note_step, datagram_step, steps_at, steps_of_arrival, dropped_as, unsubmitted_as, note_dropped_as, dropped_line, is_dropped, ArrivalTold, ArrivalHoldsAt, ShowHolds, HoldsServed}
use Rattle.gr_model_theorems.specs.Spelled.{IsInLimits, NumbersIn, IsSpelled}
use Rattle.gr_model.specs.Headline.{History, history, is_record_line, is_doubt_line, is_sent, sent_number}
use Rattle.gr_model_theorems.specs.Replies.{is_reply}
use Rattle.gr_model.specs.Tree.{IsNet}
use Rattle.gr_model_calls.specs.Fits.{WorldFits, StepIn, StepsIn}
use Rattle.gr_model_calls.proofs.runs.Worlds.{Each}
use Rattle.gr_model_calls.proofs.runs.Closed.{run_holds, frame_at_ready}
use Rattle.gr_model_calls.proofs.runs.Schedules.{next_kept, clocked_fits, report_lines}
use Rattle.gr_model_theorems.proofs.records.Records.{has_number}
use Rattle.gr_model_theorems.proofs.records.Recorded.{runs}
use Rattle.gr_model_theorems.proofs.sweep.Obeying.{steps_obey}
use Rattle.gr_model_theorems.proofs.sweep.RunsByRules.{run_by_rules}
use Rattle.gr_model_theorems.proofs.server.CallLines.{drops_foreign, replies_foreign}
use Rattle.gr_model_theorems.proofs.records.RecordLines.{Sends, sends_none, sends_seq}
use Rattle.gr_model_theorems.proofs.records.RecordSteps.{step_sends}
use Rattle.gr_model_theorems.proofs.headline.ReplyLines.{numbers_sent}
use Rattle.gr_model_theorems.proofs.headline.SoFar.{sent_count_is, lines_long}
use Rattle.gr_model_calls.proofs.topology.Strays.{AllOver, over_closed}
use Rattle.gr_model_theorems.proofs.sweep.SweepStates.{Unknowns}
use Rattle.gr_model_theorems.proofs.headline.WithoutSweeps.{Whole}
use Rattle.gr_model_theorems.proofs.headline.AfterSweeps.{holds_where_sweeps_reach, stands_where_sweeps_reach}
use Rattle.gr_model_theorems.proofs.headline.SecondReaches.{sweeps_reach}
use Rattle.gr_model_theorems.proofs.server.Arriving.{number_sent, number_is, Does, quiet_does, frame_does, fault_does, note_does}

-- The end: all brokers are hosted, so all is shown

host_hosted : (net : Net) (p : ℕ) → IsNet net → p < net.publishers → is_hosted net (numbers net.brokers) p ≡ true
host_hosted net p n j = has_number 0 net.brokers (net.host p) (omega arith) (omega (arith, n.host_in p j))

pub shown : (net : Net) (w : World) → IsNet net → show_hosted net (numbers net.brokers) w ≡ show net w
unfolding show_hosted show
shown net w n = ap (λ (z : List Report). line.Frames (length w.frames) ∷ (z ++ flat_map (λ b. flat_map (λ p. if keeps_horizon net p b then line.Doubt b p (view_of w b p).horizon ∷ [] else []) (numbers net.publishers)) (numbers net.brokers))) (logs 0 net.publishers (omega arith))
  where
    log_line : ℕ → Report
    log_line p = let l = log_of w p in line.LogOf p l.last l.settled l.cut (kept_events l)

    logs : (a k : ℕ) → a + k ≤ net.publishers → flat_map (λ p. let l = log_of w p in if is_hosted net (numbers net.brokers) p then line.LogOf p l.last l.settled l.cut (kept_events l) ∷ [] else []) (numbers_from a k) ≡ map log_line (numbers_from a k)
    logs a zero h = refl
    logs a (suc k) h = ap₂ (λ (x y : List Report). x ++ y) (ap (λ c. if c then log_line a ∷ [] else []) (host_hosted net a n (omega arith))) (logs (suc a) k (omega arith))

-- what is shown is the record, and then the horizons
pub shown_parts : (net : Net) (w : World) → show net w ≡ filter is_record_line (show net w) ++ filter is_doubt_line (show net w)
unfolding show
shown_parts net w = ap (λ (z : List Report). line.Frames (length w.frames) ∷ z) (ap₂ (λ (x y : List Report). x ++ y) (sym (records (numbers net.publishers))) (sym (ap₂ (λ (x y : List Report). x ++ y) (plain (numbers net.publishers)) (doubts (numbers net.brokers)))) ∙ whole)
  where
    log_line : ℕ → Report
    log_line p = let l = log_of w p in line.LogOf p l.last l.settled l.cut (kept_events l)

    here : ℕ → ℕ → List Report
    here b p = if keeps_horizon net p b then line.Doubt b p (view_of w b p).horizon ∷ [] else []

    there : ℕ → List Report
    there b = flat_map (here b) (numbers net.publishers)

    logs : List Report
    logs = map log_line (numbers net.publishers)

    kept : List Report
    kept = flat_map there (numbers net.brokers)

    records : (ps : List ℕ) → filter is_record_line (map log_line ps) ≡ map log_line ps
    records [] = refl
    records (p ∷ ps) = ap (λ (z : List Report). log_line p ∷ z) (records ps)

    plain : (ps : List ℕ) → filter is_doubt_line (map log_line ps) ≡ []
    plain [] = refl
    plain (p ∷ ps) = plain ps

    one : (b p : ℕ) (c : Bool) → (let ls : List Report = if c then line.Doubt b p (view_of w b p).horizon ∷ [] else [] in (filter is_doubt_line ls ≡ ls) × (filter is_record_line ls ≡ []))
    one b p true = (refl, refl)
    one b p false = (refl, refl)

    row : (b : ℕ) (ps : List ℕ) → (filter is_doubt_line (flat_map (here b) ps) ≡ flat_map (here b) ps) × (filter is_record_line (flat_map (here b) ps) ≡ [])
    row b [] = (refl, refl)
    row b (p ∷ ps) =
        let x = one b p (keeps_horizon net p b) in
        let y = row b ps in
        (filter-append is_doubt_line (here b p) (flat_map (here b) ps) ∙ ap₂ (λ (s t : List Report). s ++ t) x.0 y.0, filter-append is_record_line (here b p) (flat_map (here b) ps) ∙ ap₂ (λ (s t : List Report). s ++ t) x.1 y.1)

    doubts : (bs : List ℕ) → filter is_doubt_line (flat_map there bs) ≡ flat_map there bs
    doubts [] = refl
    doubts (b ∷ bs) = filter-append is_doubt_line (there b) (flat_map there bs) ∙ ap₂ (λ (s t : List Report). s ++ t) (row b (numbers net.publishers)).0 (doubts bs)

    unrecorded : (bs : List ℕ) → filter is_record_line (flat_map there bs) ≡ []
    unrecorded [] = refl
    unrecorded (b ∷ bs) = filter-append is_record_line (there b) (flat_map there bs) ∙ ap₂ (λ (s t : List Report). s ++ t) (row b (numbers net.publishers)).1 (unrecorded bs)

    whole : filter is_record_line logs ++ (filter is_doubt_line logs ++ filter is_doubt_line kept) ≡ filter is_record_line (logs ++ kept) ++ filter is_doubt_line (logs ++ kept)
    whole = ap₂ (λ (s t : List Report). s ++ t) (sym (filter-append is_record_line logs kept ∙ (ap (λ (z : List Report). filter is_record_line logs ++ z) (unrecorded (numbers net.brokers)) ∙ append-nil (filter is_record_line logs)))) (sym (filter-append is_doubt_line logs kept))

-- Publishes that are left

-- the publisher is one of the topology, and the event within the limits; and who joins is late
abbrev pub RequestIn : Net → Request → Type 0
RequestIn net x = elim x as (λ _. Type 0) [ asks_publish p number e ↦ (p < net.publishers) × IsEvent e | asks_join s p ↦ (is_late net s ≡ true) × (p < net.publishers) ]

abbrev pub LeftIn : Net → List Request → Type 0
LeftIn net left = AllByRecursion (RequestIn net) left

pub left_in : (net : Net) (left : List Request) (a : Arrival) → LeftIn net left → LeftIn net (left_after left a)
left_in net left (datagram b bytes moment) l = l
left_in net [] (quiet moment) l = tt
left_in net (x ∷ left) (quiet moment) l = l.1

both_in : (net : Net) (xs ys : List Request) → LeftIn net xs → LeftIn net ys → LeftIn net (xs ++ ys)
both_in net [] ys a b = b
both_in net (x ∷ xs) ys a b = (a.0, both_in net xs ys a.1 b)

line_requests : (net : Net) (hosted : List ℕ) (k : ℕ) (s : Step) → StepIn net s → IsInLimits s → LeftIn net (requests_in net hosted (record { number = k; step = s }))
line_requests net hosted k (step.Publish p number stop e) i m = go (is_scheduled net hosted p)
  where
    go : (c : Bool) → LeftIn net (if c then asks_publish p number e ∷ [] else [])
    go true = ((i, m), tt)
    go false = tt
line_requests net hosted k (step.Clock now) i m = tt
line_requests net hosted k (step.Wake b) i m = tt
line_requests net hosted k (step.Deliver j) i m = tt
line_requests net hosted k (step.Crash b) i m = tt
line_requests net hosted k step.Sweep i m = tt
line_requests net hosted k step.Show i m = tt
line_requests net hosted k (step.Bytes j) i m = tt
line_requests net hosted k (step.Join q p) i m = go (is_hosted net hosted p)
  where
    go : (c : Bool) → LeftIn net (if c then asks_join q p ∷ [] else [])
    go true = (i, tt)
    go false = tt

-- the publishes that are left for a server are within the limits where the steps are
pub requests_are_in : (net : Net) (hosted : List ℕ) (steps : List Line) → StepsIn net steps → NumbersIn steps → LeftIn net (requests_of net hosted steps)
requests_are_in net hosted [] i m = tt
requests_are_in net hosted (l ∷ ls) i m = both_in net (requests_in net hosted l) (requests_of net hosted ls) (line_requests net hosted l.number l.step i.0 m.0) (requests_are_in net hosted ls i.1 m.1)

-- Steps of an arrival

-- the numbers of steps are in range
pub record AreIn (net : Net) (ls : List Line) : Type 0 where
  pub steps : StepsIn net ls
  pub numbers : NumbersIn ls

in_front : (net : Net) (l : Line) (ls : List Line) → StepIn net l.step → IsInLimits l.step → AreIn net ls → AreIn net (l ∷ ls)
in_front net l ls i m a = record { steps = (i, a.steps); numbers = (m, a.numbers) }

none_in : (net : Net) → AreIn net []
none_in net = record { steps = tt; numbers = tt }

delivery_in : (net : Net) (o : Option ℕ) → AreIn net (delivery_step o)
delivery_in net None = none_in net
delivery_in net (Some k) = in_front net (as_line (step.Deliver k)) [] tt tt (none_in net)

-- each of these is a broker of the topology
abbrev pub AreBrokers : Net → List ℕ → Type 0
AreBrokers net hosted = AllByRecursion (λ b. b < net.brokers) hosted

brokers_from : (net : Net) (a k : ℕ) → a + k ≤ net.brokers → AreBrokers net (numbers_from a k)
brokers_from net a zero h = tt
brokers_from net a (suc k) h = (omega (arith, h), brokers_from net (suc a) k (omega (arith, h)))

-- as all of them are
pub all_brokers : (net : Net) → AreBrokers net (numbers net.brokers)
all_brokers net = brokers_from net 0 net.brokers (omega arith)

wakes_in : (net : Net) (bs : List ℕ) → AreBrokers net bs → AreIn net (map (λ b. as_line (step.Wake b)) bs)
wakes_in net [] k = none_in net
wakes_in net (b ∷ bs) k = in_front net (as_line (step.Wake b)) (map (λ c. as_line (step.Wake c)) bs) k.0 tt (wakes_in net bs k.1)

publish_in : (net : Net) (left : List Request) (ls : List Line) → LeftIn net left → AreIn net ls → AreIn net (request_step left ++ ls)
publish_in net [] ls l a = a
publish_in net (asks_publish p number e ∷ left) ls l a = in_front net (as_line (step.Publish p number None e)) ls l.0.0 l.0.1 a
publish_in net (asks_join q p ∷ left) ls l a = in_front net (as_line (step.Join q p)) ls l.0 tt a

submitted_is : (net : Net) (b : ℕ) (n : Note) (x : Publish) → submitted_in net b n ≡ Some x → (n ≡ Submit x.0 x.1.0 x.1.1) × (x.0 < net.publishers)
submitted_is net b (Submit p k e) x h = go (takes_notes net b p) refl h
  where
    go : (c : Bool) → takes_notes net b p ≡ c → (if c then Some (p, (k, e)) else None) ≡ Some x → (Submit p k e ≡ Submit x.0 x.1.0 x.1.1) × (x.0 < net.publishers)
    go true t h =
        let same : (p, (k, e)) ≡ x = cc in
        (ap (λ (y : Publish). Submit y.0 y.1.0 y.1.1) same, subst (λ (y : Publish). y.0 < net.publishers) same (ltb-true p net.publishers (and_parts (nat_lt p net.publishers) (net.client p && nat_eq (net.host p) b) t).0))
    go false t h = absurd (cc)
submitted_is net b (Next p k) x h = absurd (cc)
submitted_is net b (Spent p) x h = absurd (cc)

-- the publish that a note submits
note_in : (net : Net) (b : ℕ) (bytes : List ℕ) → AreBytes bytes → AreIn net (note_step net b (note_decoded bytes))
note_in net b bytes fits = go (note_decoded bytes) refl
  where
    submit : (n : Note) (o : Option Publish) → note_decoded bytes ≡ Ok n → submitted_in net b n ≡ o → AreIn net (submitted_step o)
    submit n None d e = none_in net
    submit n (Some x) d e =
        let s = submitted_is net b n x e in
        let f = event_decodes bytes x.0 x.1.0 x.1.1 fits (d ∙ ap (λ (m : Note). Ok m) s.0) in
        in_front net (as_line (step.Publish x.0 x.1.0 None x.1.1)) [] s.1 (event_limits f.0 x.1.1 f.1.0 f.1.1) (none_in net)

    go : (r : Result Note NoteFault) → note_decoded bytes ≡ r → AreIn net (note_step net b r)
    go (Err fault) d = none_in net
    go (Ok n) d = submit n (submitted_in net b n) d refl

-- and so are the steps of an arrival, whatever came
pub arrival_in : (net : Net) (hosted : List ℕ) (lines : List Report) (left : List Request) (a : Arrival) → AreBrokers net hosted → LeftIn net left → IsOfBytes a → AreIn net (steps_at net hosted lines left a)
arrival_in net hosted lines left (datagram b bytes moment) k l fits = in_front net (as_line (step.Clock (min moment max_tick))) (datagram_step net lines b bytes) tt (omega arith) (go (begins_note bytes))
  where
    delivered : (c : Bool) → AreIn net (if c then delivery_step (number_of_bytes b bytes lines) else [])
    delivered true = delivery_in net (number_of_bytes b bytes lines)
    delivered false = none_in net

    go : (c : Bool) → AreIn net (elim c [
      | true ↦ note_step net b (note_decoded bytes)
      | false ↦ if is_frame (frame_decoded bytes) then delivery_step (number_of_bytes b bytes lines) else []
    ])
    go true = note_in net b bytes fits
    go false = delivered (is_frame (frame_decoded bytes))
arrival_in net hosted lines left (quiet moment) k l fits = in_front net (as_line (step.Clock (min moment max_tick))) (request_step left ++ map (λ b. as_line (step.Wake b)) hosted) tt (omega arith) (publish_in net left (map (λ b. as_line (step.Wake b)) hosted) l (wakes_in net hosted k))

-- An honest journal

-- it is one by the lines of frames alone
pub honest_at : (xs ys : List Report) (a : Arrival) → filter is_sent xs ≡ filter is_sent ys → IsHonestAt xs a → IsHonestAt ys a
honest_at xs ys (datagram b bytes moment) e h = ⊎_elim (λ x. inl x) (λ x. inr (x.0, number_sent b bytes ys ∙ (ap (number_of_bytes b bytes) (sym e) ∙ (sym (number_sent b bytes xs) ∙ x.1)))) h
honest_at xs ys (quiet moment) e h = tt

pub honest_same : (xs ys : List Report) (arrivals : List Arrival) (rs : List (List Report)) → filter is_sent xs ≡ filter is_sent ys → IsHonest xs arrivals rs → IsHonest ys arrivals rs
honest_same xs ys [] rs e h = tt
honest_same xs ys (a ∷ arrivals) [] e h = h
honest_same xs ys (a ∷ arrivals) (r ∷ rs) e h = (honest_at xs ys a e h.0, honest_same (xs ++ r) (ys ++ r) arrivals rs (filter-append is_sent xs r ∙ (ap (λ (z : List Report). z ++ filter is_sent r) e ∙ sym (filter-append is_sent ys r))) h.1)

-- a test says the same of each line of a datagram that is dropped
record OfDrops (test : Report → Bool) (is : Bool) : Type 0 where
  frame : (b fault at : ℕ) → test (line.DroppedNotFrame b fault at) ≡ is
  bad : (b fault at : ℕ) → test (line.DroppedBadNote b fault at) ≡ is
  stray : (b p : ℕ) → test (line.DroppedStrayNote b p) ≡ is

drop_lines : (net : Net) (test : Report → Bool) (is : Bool) (a : Arrival) → OfDrops test is → filter test (dropped_line net a) ≡ (if is then dropped_line net a else [])
drop_lines net test true (quiet moment) o = refl
drop_lines net test false (quiet moment) o = refl
drop_lines net test is (datagram b bytes moment) o = go (begins_note bytes)
  where
    kept : List Report → Type 0
    kept ls = filter test ls ≡ (if is then ls else [])

    none : (k : Bool) → filter test [] ≡ (if k then [] else [])
    none true = refl
    none false = refl

    one : (l : Report) (k : Bool) → test l ≡ k → filter test (l ∷ []) ≡ (if k then l ∷ [] else [])
    one l true e = cond-true (test l) (l ∷ []) [] e
    one l false e = cond-false (test l) (l ∷ []) [] e

    unsubmitted : (p : ℕ) (x : Option Publish) → kept (unsubmitted_as b p x)
    unsubmitted p None = one (line.DroppedStrayNote b p) is (o.stray b p)
    unsubmitted p (Some x) = none is

    noted : (r : Result Note NoteFault) → kept (note_dropped_as net b r)
    noted (Ok n) = unsubmitted (publisher_of n) (submitted_in net b n)
    noted (Err fault) = one (line.DroppedBadNote b (note.fault_number fault.kind) fault.at) is (o.bad b (note.fault_number fault.kind) fault.at)

    framed : (r : Result Frame FrameFault) → kept (dropped_as b r)
    framed (Ok f) = none is
    framed (Err fault) = one (line.DroppedNotFrame b (fault_number fault.kind) fault.at) is (o.frame b (fault_number fault.kind) fault.at)

    go : (c : Bool) → kept (elim c [ true ↦ note_dropped_as net b (note_decoded bytes) | false ↦ dropped_as b (frame_decoded bytes) ])
    go true = noted (note_decoded bytes)
    go false = framed (frame_decoded bytes)

dropped_unsent : (net : Net) (a : Arrival) → filter is_sent (dropped_line net a) ≡ []
dropped_unsent net a = drop_lines net is_sent false a (record { frame = λ b k at. refl; bad = λ b k at. refl; stray = λ b p. refl })

dropped_itself : (net : Net) (a : Arrival) → filter is_dropped (dropped_line net a) ≡ dropped_line net a
dropped_itself net a = drop_lines net is_dropped true a (record { frame = λ b k at. refl; bad = λ b k at. refl; stray = λ b p. refl })

dropped_unreplied : (net : Net) (a : Arrival) → filter is_reply (dropped_line net a) ≡ []
dropped_unreplied net a = drop_lines net is_reply false a (record { frame = λ b k at. refl; bad = λ b k at. refl; stray = λ b p. refl })

-- the sent lines of a run are those of the frames that it sends
run_sends : (net : Net) (w : World) (ls : List Line) → IsNet net → WorldFits net w → StepsIn net ls → Sends w (run_all net w ls)
run_sends net w [] n f i = sends_none w (unchanged w []) refl refl
run_sends net w (l ∷ ls) n f i = sends_seq w (next net w l) (λ u. run_all net u ls) (step_sends net w l n f i.0) (run_sends net (next net w l).world ls n (next_kept net w l n f i.0).fits i.1)

-- The run

pub each_of : (P : Frame → Type 0) (fs : List Frame) → AllByRecursion P fs → Each P fs
each_of P [] a = tt
each_of P (f ∷ fs) a = (a.0, each_of P fs a.1)

-- what stands before each arrival; P is what keeps the frames within their limits
pub record Ready (net : Net) (P : World → Type 0) (w : World) (h : History) : Type 0 where
  pub whole : Whole net w h
  pub unknown : Unknowns net w
  pub over : AllOver net w
  pub limits : P w

module _ (net : Net) (n : IsNet net) (on : 1 ≤ net.quiet) (retry : 1 ≤ net.retry) (P : World → Type 0) (keeps : (u : World) (l : Line) → WorldFits net u → StepIn net l.step → IsInLimits l.step → P u → P (next net u l).world) (spelled : (u : World) → P u → AllByRecursion IsSpelled u.frames) (decodes : (f : Frame) → IsSpelled f → frame_decoded (frame_bytes f) ≡ Ok f) where
  limits_run : (w : World) (ls : List Line) → WorldFits net w → AreIn net ls → P w → P (run_all net w ls).world
  limits_run w [] f i x = x
  limits_run w (l ∷ ls) f i x = limits_run (next net w l).world ls (next_kept net w l n f i.steps.0).fits (record { steps = i.steps.1; numbers = i.numbers.1 }) (keeps w l f i.steps.0 i.numbers.0 x)

  arrival_does : (hosted : List ℕ) (w : World) (h : History) (left : List Request) (a : Arrival) → Ready net P w h → IsHonestAt h.lines a → Does net hosted w left a (steps_at net hosted h.lines left a)
  arrival_does hosted w h left (quiet moment) r x = quiet_does net hosted w left moment h.lines
  arrival_does hosted w h left (datagram b bytes moment) r x = elim (cases_Bool (begins_note bytes)) [
    | inl noted ↦ note_does net hosted w left b moment bytes h.lines noted
    | inr plain ↦ ⊎_elim
        (λ z. fault_does net hosted w left b moment bytes z.0 h.lines plain z.1)
        (λ z.
        let k : ℕ = z.0 in
        let s = number_is w k b bytes h.lines r.whole.stands.sent z.1 in
        let whole_frame : IsSpelled s.frame = frame_at_ready IsSpelled w k s.frame (each_of IsSpelled w.frames (spelled w r.limits)) s.there in
        frame_does net hosted w left b moment k bytes s.frame h.lines n (clocked_fits net w (min moment max_tick) (max (min moment max_tick) w.most) r.whole.stands.fits) plain
        (subst (λ z. frame_decoded z ≡ Ok s.frame) s.same (decodes s.frame whole_frame)) s.there s.to (frame_at_ready (GoesOverEdge net) w k s.frame r.over s.there) z.1)
        x
  ]

  -- an arrival, what stands after it, and the frames told on the way
  pub record Turn (hosted : List ℕ) (w : World) (h : History) (left : List Request) (a : Arrival) : Type 0 where
    pub are_in : AreIn net (steps_at net hosted h.lines left a)
    pub does : Does net hosted w left a (steps_at net hosted h.lines left a)
    pub ready : Ready net P (run_all net w (steps_at net hosted h.lines left a)).world (history net h (steps_at net hosted h.lines left a) (run_from net w (steps_at net hosted h.lines left a)))
    pub same : (let t : Transition = comes net hosted w left a in filter is_sent (h.lines ++ t.lines)) ≡ filter is_sent (history net h (steps_at net hosted h.lines left a) (run_from net w (steps_at net hosted h.lines left a))).lines

  pub turn : (hosted : List ℕ) (w : World) (h : History) (left : List Request) (a : Arrival) → AreBrokers net hosted → Ready net P w h → LeftIn net left → IsOfBytes a → IsHonestAt h.lines a → Turn hosted w h left a
  turn hosted w h left a k r l f x =
      let steps = steps_at net hosted h.lines left a in
      let i = arrival_in net hosted h.lines left a k l f in
      let t = comes net hosted w left a in
      let d = arrival_does hosted w h left a r x in
      let g : History = history net h steps (run_from net w steps) in
      let y = stands_where_sweeps_reach net w h steps n (sweeps_reach net n on retry) on i.steps r.whole r.unknown in
      let lines : g.lines ≡ h.lines ++ (run_all net w steps).lines = (runs net w h steps n on r.whole.stands.fits r.whole.stands.records i.steps).lines in
      record {
        are_in = i;
        does = d;
        ready = record {
          whole = y.0;
          unknown = y.1;
          over = run_holds net (GoesOverEdge net) (AllOver net) w steps n (over_closed net n) r.whole.stands.fits r.over i.steps;
          limits = limits_run w steps r.whole.stands.fits i r.limits;
        };
        same =
            ap (λ (z : List Report). filter is_sent (h.lines ++ z)) d.lines
            ∙ (ap (filter is_sent) (sym (append_assoc h.lines (run_all net w steps).lines (dropped_line net a)))
            ∙ (filter-append is_sent (h.lines ++ (run_all net w steps).lines) (dropped_line net a)
            ∙ (ap₂ (λ (p q : List Report). p ++ q) (ap (filter is_sent) (sym lines)) (dropped_unsent net a) ∙ append-nil (filter is_sent g.lines))));
      }

  -- what is left of the journal is honest after the steps
  pub still_honest : (w : World) (h : History) (left : List Request) (a : Arrival) (arrivals : List Arrival) → Turn (numbers net.brokers) w h left a → IsHonest h.lines (a ∷ arrivals) (served_from net (numbers net.brokers) w left (a ∷ arrivals)) →
      IsHonest (history net h (steps_of_arrival net h.lines left a) (run_from net w (steps_of_arrival net h.lines left a))).lines arrivals (served_from net (numbers net.brokers) (run_all net w (steps_of_arrival net h.lines left a)).world (left_after left a) arrivals)
  unfolding served_from_by
  still_honest w h left a arrivals y x =
      let steps = steps_of_arrival net h.lines left a in
      let t = comes net (numbers net.brokers) w left a in
      let g : History = history net h steps (run_from net w steps) in
      subst (λ z. IsHonest g.lines arrivals (served_from net (numbers net.brokers) z (left_after left a) arrivals)) y.does.world (honest_same (h.lines ++ t.lines) g.lines arrivals (served_from net (numbers net.brokers) t.world (left_after left a) arrivals) y.same x.1)

  pub arrival_told : (hosted : List ℕ) (w : World) (h : History) (left : List Request) (a : Arrival) → Ready net P w h → Turn hosted w h left a → (let t : Transition = comes net hosted w left a in ArrivalTold net h a t.lines)
  arrival_told hosted w h left a r y =
      let steps = steps_at net hosted h.lines left a in
      let t = comes net hosted w left a in
      let lines : List Report = (run_all net w steps).lines in
      let s = run_sends net w steps n r.whole.stands.fits y.are_in.steps in
      let parted : (f : Report → Bool) → filter f t.lines ≡ filter f lines ++ filter f (dropped_line net a) = λ f. ap (filter f) y.does.lines ∙ filter-append f lines (dropped_line net a) in
      let sent : filter is_sent t.lines ≡ sent_lines (suc (length w.frames)) s.more = parted is_sent ∙ (ap₂ (λ (p q : List Report). p ++ q) s.told (dropped_unsent net a) ∙ append-nil (sent_lines (suc (length w.frames)) s.more)) in
      record {
        dropped = parted is_dropped ∙ ap₂ (λ (p q : List Report). p ++ q) (y.does.called is_dropped drops_foreign) (dropped_itself net a);
        unreplied = parted is_reply ∙ ap₂ (λ (p q : List Report). p ++ q) (y.does.called is_reply replies_foreign) (dropped_unreplied net a);
        numbered = ap (map sent_number) sent ∙ (numbers_sent (suc (length w.frames)) s.more ∙ ap₂ (λ a k. numbers_from (suc a) k) (sym (sent_count_is net w h r.whole.stands)) (sym (ap length sent ∙ lines_long (suc (length w.frames)) s.more)));
      }

  -- the headline holds of one arrival, and after it what holds of the history then
  pub arrival_holds : (hosted : List ℕ) (Rest : History → Type 0) (w : World) (h : History) (left : List Request) (a : Arrival) → Ready net P w h → Turn hosted w h left a → Rest (history net h (steps_at net hosted h.lines left a) (run_from net w (steps_at net hosted h.lines left a)))
      → (let t : Transition = comes net hosted w left a in ArrivalHoldsAt net hosted h left a t.lines Rest)
  arrival_holds hosted Rest w h left a r y rest =
      let steps = steps_at net hosted h.lines left a in
      record {
        told = arrival_told hosted w h left a r y;
        parts = run_from net w steps;
        lines = y.does.lines ∙ ap (λ (z : List Report). z ++ dropped_line net a) (sym (report_lines net w steps));
        steps = holds_where_sweeps_reach net w h steps n (sweeps_reach net n on retry) on y.are_in.steps r.whole r.unknown;
        rest = rest;
      }

  -- from where all stands on, the headline holds of what an honest journal leads to
  pub holds : (arrivals : List Arrival) (w : World) (h : History) (left : List Request) → Ready net P w h → LeftIn net left → AllByRecursion IsOfBytes arrivals → IsHonest h.lines arrivals (served_from net (numbers net.brokers) w left arrivals) → HoldsServed net h left arrivals (served_from net (numbers net.brokers) w left arrivals)
  unfolding served_from_by next_by run_from_by
  holds [] w h left r l f x =
      subst (λ (z : List Report). ShowHolds net h z) (sym (shown net w n))
      (record { shown = shown_parts net w; steps = holds_where_sweeps_reach net w h (as_line step.Show ∷ []) n (sweeps_reach net n on retry) on (tt, tt) r.whole r.unknown })
  holds (a ∷ arrivals) w h left r l f x =
      let steps = steps_of_arrival net h.lines left a in
      let parts = run_from net w steps in
      let y = turn (numbers net.brokers) w h left a (all_brokers net) r l f.0 x.0 in
      let t = comes net (numbers net.brokers) w left a in
      let g : History = history net h steps parts in
      arrival_holds (numbers net.brokers) (λ k. HoldsServed net k (left_after left a) arrivals (served_from net (numbers net.brokers) t.world (left_after left a) arrivals)) w h left a r y
      (subst (λ z. HoldsServed net g (left_after left a) arrivals (served_from net (numbers net.brokers) z (left_after left a) arrivals)) (sym y.does.world) (holds arrivals (run_all net w steps).world g (left_after left a) y.ready (left_in net left a l) f.1 (still_honest w h left a arrivals y x)))

  -- the steps are the same by the lines of frames alone
  pub steps_same : (hosted : List ℕ) (xs ys : List Report) (left : List Request) (a : Arrival) → filter is_sent xs ≡ filter is_sent ys → steps_at net hosted xs left a ≡ steps_at net hosted ys left a
  steps_same hosted xs ys left (quiet moment) e = refl
  steps_same hosted xs ys left (datagram b bytes moment) e =
      let same : number_of_bytes b bytes xs ≡ number_of_bytes b bytes ys = number_sent b bytes xs ∙ (ap (number_of_bytes b bytes) e ∙ sym (number_sent b bytes ys)) in
      ap (λ (o : Option ℕ). as_line (step.Clock (min moment max_tick)) ∷ (elim (begins_note bytes) [
        | true ↦ note_step net b (note_decoded bytes)
        | false ↦ if is_frame (frame_decoded bytes) then delivery_step o else []
      ])) same

  -- from where all stands on, each arrival of an honest journal does what its steps do
  pub all_do : (arrivals : List Arrival) (w : World) (h : History) (left : List Request) (lines : List Report) → Ready net P w h → LeftIn net left → AllByRecursion IsOfBytes arrivals → filter is_sent h.lines ≡ filter is_sent lines → IsHonest h.lines arrivals (served_from net (numbers net.brokers) w left arrivals) → AllDoSteps net w lines left arrivals
  unfolding served_from_by
  all_do [] w h left lines r l f e x = sym e ∙ r.whole.stands.sent
  all_do (a ∷ arrivals) w h left lines r l f e x =
      let steps = steps_of_arrival net h.lines left a in
      let t = comes net (numbers net.brokers) w left a in
      let y = turn (numbers net.brokers) w h left a (all_brokers net) r l f.0 x.0 in
      let g : History = history net h steps (run_from net w steps) in
      let same : filter is_sent g.lines ≡ filter is_sent (lines ++ t.lines) = sym y.same ∙ (filter-append is_sent h.lines t.lines ∙ (ap (λ (z : List Report). z ++ filter is_sent t.lines) e ∙ sym (filter-append is_sent lines t.lines))) in (
        sym e ∙ r.whole.stands.sent,
        subst (λ (z : List Line). DoesSteps net w left a z) (steps_same (numbers net.brokers) h.lines lines left a e) (record { world = y.does.world; lines = y.does.lines; obey = steps_obey net w steps n on r.whole.stands.fits y.are_in.steps; by_rules = run_by_rules net steps w n on r.whole.stands.fits y.are_in.steps }),
        subst (λ z. AllDoSteps net z (lines ++ t.lines) (left_after left a) arrivals) (sym y.does.world) (all_do arrivals (run_all net w steps).world g (left_after left a) (lines ++ t.lines) y.ready (left_in net left a l) f.1 same (still_honest w h left a arrivals y x)),
      )
