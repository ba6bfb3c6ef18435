-- Logs that forget lead to the same lines as logs that keep all: an opening, arrivals, and steps over both. And a log that was opened
-- is an old log where it keeps its events
use Rattle.std.proofs.Common.{◌≡◌, ℕ, suc, zero, ◌-◌, ◌≤◌, ◌<◌, Bool, true, false, List, [], ◌∷◌, ◌++◌, map, length, get_or, refl, sym, ap, ap₂, ◌∙◌, subst, Option, Some, None, Result, Ok, Err, arith}
use Rattle.std.specs.Prelude.{if◌then◌else◌, flat_map}
use Rattle.std.specs.List.{AllByRecursion}
use Rattle.std.proofs.lemmas.Bool.{and_from, ne_eqb}
use Rattle.gr_event.specs.Limits.{IsEvent}
use Rattle.gr_frame.specs.declared.Frame.{Frame}
use Rattle.gr_frame.specs.declared.fault.FrameFault.{FrameFault}
use Rattle.gr_frame.specs.Decode.{frame_decoded}
use Rattle.gr_note.specs.declared.note.Note.{Note}
use Rattle.gr_note.specs.declared.fault.NoteFault.{NoteFault}
use Rattle.gr_note.specs.Fault as note
use Rattle.gr_note.specs.Bytes.{begins_note}
use Rattle.gr_note.specs.Decode.{note_decoded}
use Rattle.gr_publog.specs.declared.record.Entry.{Entry}
use Rattle.gr_publog.specs.declared.steps.Aside.TheVariants.{Short}
use Rattle.gr_publog.specs.State.{LogState, empty_state, EventsRise, EventsUpto, AreLate, AreHeld, IsState}
use Rattle.gr_publog.specs.Views.{LogView}
use Rattle.gr_publog.proofs.Entering.{held_first}
use Rattle.gr_pubend.specs.Log.{fresh_log, pairs, said}
use Rattle.gr_sched.specs.declared.step.Line.{Line}
use Rattle.gr_model.specs.declared.report.Report.{Report}
use Rattle.gr_model.specs.declared.report.Report.TheVariants as line
use Rattle.gr_model.specs.Net.{Net, is_late, all_late, keeps_horizon, not_empty, numbers}
use Rattle.gr_model.specs.Broker.{View, Log, empty_log, max_tick, learn, log_know, seen, started}
use Rattle.gr_model.specs.World.{World, Transition, view_of, log_of, unchanged, in_turn, absorbed, kept_events, sweep_moment, start_by, wake_all_by, deliver_frame_by, publish_now_by, sweep_by, next_by, run_all_by, run_from_by}
use Rattle.gr_model.specs.Opening.{reopened_log, over_logs, reopened_line, publishers_at, opened_for_by, opening_by}
use Rattle.gr_model.specs.Arrivals.{asks_publish, asks_join, joins_in, split_line, Arrival, datagram, quiet, Publish, requests_of, left_after, at_moment, fits_broker, least_clash, clash_line, fault_number, publisher_of, submitted_in, is_hosted, show_hosted, takes_by, receives_by, notes_by, quieted_by, comes_by, served_from_by, arrived_by, served_by, reads_by, answered_first_by, Request}
use Rattle.gr_model_calls.specs.Said.{said_at, TicksRise}
use Rattle.gr_model_theorems.specs.Found.{IsReopened, AreReopened}
use Rattle.gr_model_theorems.specs.Forgets.{SameLog, SameLogs, DifferInCut, TellTheSame, StepsTellTheSame, ForgetTheSame, keeping, kept_logs, WasOpened, AllOpened, OpenedTheSame_by}
use Rattle.gr_model_theorems.proofs.records.Recorded.{get_map}
use Rattle.gr_model_calls.proofs.runs.Closed.{with_logs}
use Rattle.gr_model_theorems.proofs.server.CutEvents.{same_get, same_started, same_learn, SameTold, Follows, same_absorbed, same_unchanged, same_after, same_in_turn, same_wake_all, same_deliver, same_publish_now, same_next, same_moment, same_sweep, same_run, same_join_now}
use Rattle.gr_event.specs.declared.limits.TheConstants.{MAX_JOINS}
use Rattle.gr_event.specs.Joins.{first_split, Joins}
use Rattle.gr_event.specs.declared.join.Split.{Split}

-- A log that was opened is an old log, where it keeps its events

-- ticks that rise from above a cut rise from above what is less
rise_low : (cut number low : ℕ) (es : List Entry) → low ≤ cut → EventsRise cut number es → TicksRise low (pairs es)
rise_low cut number low [] l r = tt
rise_low cut number low (e ∷ es) l r = (omega (arith, l, r.0), rise_low e.tick e.number e.tick es (omega arith) r.1.1)

-- no event is up to the cut
none_cut : (cut number t : ℕ) (es : List Entry) → t ≤ cut → EventsRise cut number es → said_at (pairs es) t ≡ None
none_cut cut number t [] l r = refl
none_cut cut number t (e ∷ es) l r =
    ap (λ (b : Bool). if b then Some e.event else said_at (pairs es) t) (ne_eqb e.tick t (λ h. omega (arith, l, h, r.0)))
    ∙ none_cut e.tick e.number t es (omega (arith, l, r.0)) r.1.1

-- none is past what is settled
none_past : (settled t : ℕ) (es : List Entry) → settled < t → EventsUpto settled es → said_at (pairs es) t ≡ None
none_past settled t [] l u = refl
none_past settled t (e ∷ es) l u =
    ap (λ (b : Bool). if b then Some e.event else said_at (pairs es) t) (ne_eqb e.tick t (λ h. omega (arith, l, h, u.0)))
    ∙ none_past settled t es l u.1

events_in : (settled : ℕ) (es : List Entry) → settled ≤ max_tick → EventsUpto settled es → AllByRecursion (λ e. IsEvent e.event) es → AllByRecursion (λ x. (x.0 ≤ max_tick) × IsEvent x.1) (pairs es)
events_in settled [] l u a = tt
events_in settled (e ∷ es) l u a = ((omega (arith, l, u.0), a.0), events_in settled es l u.1 a.1)

joins_late : (net : Net) (js : Joins) → AreLate net.late js → all_late net js ≡ true
joins_late net [] a = refl
joins_late net (j ∷ js) a = and_from (is_late net j.subscriber) (all_late net js) a.0 (joins_late net js a.1)

opened_is : (net : Net) (l : LogView) → IsState l.state → l.state.late ≡ net.late → IsReopened net (keeping (said l))
opened_is net l h e =
    let s : LogState = l.state in
    let held : AreHeld net.late s.joins s.settled = subst (λ (late : List ℕ). AreHeld late s.joins s.settled) e h.held in
    record {
      fits = record {
        rise = rise_low s.cut (s.last - length s.events) 0 s.events (omega arith) h.rise;
        past = λ t past. none_past s.settled t s.events past h.upto;
        cut = h.cut;
        keeps = refl;
      };
      past_cut = λ t upto. none_cut s.cut (s.last - length s.events) t s.events upto h.rise;
      late = joins_late net s.joins held.known;
      within = record { settled = h.settled; cut = omega (arith, h.cut, h.settled); events = events_in s.settled s.events h.settled h.upto h.events; held = held };
    }

-- what is said of a log of code is said of one that was opened
pub was_opened : (late : List ℕ) (l : LogView) → IsState l.state → l.state.late ≡ late → WasOpened late (said l)
was_opened late l h e = record { view = l; state = h; late = e; says = refl }

-- so is it where nothing was logged, whether that forgets or not
pub empty_opened : (late : List ℕ) (forgets : Bool) → length late ≤ MAX_JOINS → WasOpened late (fresh_log forgets)
empty_opened late forgets few = record {
  view = record { lane = 0; state = empty_state late; broken = false; second = false; generation = 1; size = 33; aside = Short };
  state = record { rise = tt; count = omega arith; upto = tt; cut = omega arith; settled = omega arith; low = omega arith; events = tt; apart = tt; held = held_first late 0 few };
  late = refl;
  says = refl;
}

kept_at : (logs : List Log) (p : ℕ) → reopened_log (kept_logs logs) p ≡ keeping (reopened_log logs p)
kept_at logs p = get_map keeping logs p empty_log

opened_at : (late : List ℕ) (logs : List Log) (p : ℕ) → length late ≤ MAX_JOINS → AllOpened late logs → WasOpened late (reopened_log logs p)
opened_at late [] p few a = empty_opened late false few
opened_at late (l ∷ logs) zero few a = a.0
opened_at late (l ∷ logs) (suc p) few a = opened_at late logs p few a.1

-- logs that were opened are old logs, where they keep their events
pub are_found : (net : Net) (logs : List Log) → length net.late ≤ MAX_JOINS → AllOpened net.late logs → AreReopened net (kept_logs logs)
are_found net logs few a p =
    let o = opened_at net.late logs p few a in
    subst (IsReopened net) (sym (kept_at logs p ∙ o.says)) (opened_is net o.view o.state o.late)

-- a log is one that keeps its events but for its flag
keeping_same : (l : Log) → SameLog (keeping l) l
keeping_same l = record { events = l.events; forgets = l.forgets; is = refl; past_same = refl }

kept_same : (logs : List Log) (p : ℕ) → SameLog (reopened_log (kept_logs logs) p) (reopened_log logs p)
kept_same logs p = subst (λ (l : Log). SameLog l (reopened_log logs p)) (sym (kept_at logs p)) (keeping_same (reopened_log logs p))

-- The opening

same_opened_for : (see : View → Net) (net : Net) (p : ℕ) → Follows (λ w. opened_for_by see net w p)
unfolding opened_for_by
same_opened_for see net p w ls s =
    same_after (unchanged w (reopened_line (log_of w p) p)) (unchanged (with_logs w ls) (reopened_line (get_or ls p empty_log) p)) learned learned
    (let h = same_get w.logs ls p s in record { logs = ls; is = ap (λ (l : Log). unchanged (with_logs w ls) (reopened_line l p)) h.is; same = s })
    (λ ms r. go (not_empty (net.subscribers_at (net.host p))) ms r)
  where
    by_test : Bool → World → Transition
    by_test q u = elim q [
      | true ↦ absorbed u (net.host p) p (learn (see (view_of u (net.host p) p)) p (net.host p) [] (view_of u (net.host p) p) (log_of u p))
      | false ↦ unchanged u []
    ]

    learned : World → Transition
    learned u = by_test (not_empty (net.subscribers_at (net.host p))) u

    go : (q : Bool) (ms : List Log) → SameLogs w.logs ms → SameTold (by_test q w) (by_test q (with_logs w ms))
    go true ms r =
        same_absorbed w ms (net.host p) p (learn (see (view_of w (net.host p) p)) p (net.host p) [] (view_of w (net.host p) p) (log_of w p)) (learn (see (view_of w (net.host p) p)) p (net.host p) [] (view_of w (net.host p) p) (get_or ms p empty_log)) r
        (same_learn (see (view_of w (net.host p) p)) p (net.host p) [] (view_of w (net.host p) p) (log_of w p) (get_or ms p empty_log) (same_get w.logs ms p r))
    go false ms r = same_unchanged w ms [] r

-- brokers that have just started know the same
same_over : (net : Net) (ls ms : List Log) → ((p : ℕ) → SameLog (reopened_log ls p) (reopened_log ms p)) → over_logs net ms ≡ with_logs (over_logs net ls) (map (reopened_log ms) (numbers net.publishers))
unfolding over_logs
same_over net ls ms h = ap (λ (views : List (List View)). let w : World = record { clock = 0; most = 0; frames = []; views = views; logs = map (reopened_log ms) (numbers net.publishers) } in w) (rows (numbers net.brokers))
  where
    row : (b : ℕ) (ps : List ℕ) → map (λ p. started net p b (reopened_log ms p)) ps ≡ map (λ p. started net p b (reopened_log ls p)) ps
    row b [] = refl
    row b (p ∷ ps) = ap₂ (λ (x : View) (xs : List View). x ∷ xs) (same_started net p b (reopened_log ls p) (reopened_log ms p) (h p)) (row b ps)

    rows : (bs : List ℕ) → map (λ b. map (λ p. started net p b (reopened_log ms p)) (numbers net.publishers)) bs ≡ map (λ b. map (λ p. started net p b (reopened_log ls p)) (numbers net.publishers)) bs
    rows [] = refl
    rows (b ∷ bs) = ap₂ (λ (x : List View) (xs : List (List View)). x ∷ xs) (row b (numbers net.publishers)) (rows bs)

all_same : (ls ms : ℕ → Log) (ps : List ℕ) → ((p : ℕ) → SameLog (ls p) (ms p)) → SameLogs (map ls ps) (map ms ps)
all_same ls ms [] h = tt
all_same ls ms (p ∷ ps) h = (h p, all_same ls ms ps h)

over_same : (net : Net) (ls ms : List Log) → ((p : ℕ) → SameLog (reopened_log ls p) (reopened_log ms p)) → SameLogs (over_logs net ls).logs (map (reopened_log ms) (numbers net.publishers))
unfolding over_logs
over_same net ls ms h = all_same (reopened_log ls) (reopened_log ms) (numbers net.publishers) h

same_opening : (see : View → Net) (net : Net) (hosted : List ℕ) (ls ms : List Log) → ((p : ℕ) → SameLog (reopened_log ls p) (reopened_log ms p)) → SameTold (opening_by see net hosted ls) (opening_by see net hosted ms)
unfolding opening_by
same_opening see net hosted ls ms h =
    subst (λ (u : World). SameTold (in_turn (opened_for_by see net) (publishers_at net hosted) (over_logs net ls)) (in_turn (opened_for_by see net) (publishers_at net hosted) u)) (sym (same_over net ls ms h))
    (same_in_turn (opened_for_by see net) (λ p. same_opened_for see net p) (publishers_at net hosted) (over_logs net ls) (map (reopened_log ms) (numbers net.publishers)) (over_same net ls ms h))

-- Arrivals

same_takes : (see : View → Net) (net : Net) (b : ℕ) (f : Frame) → Follows (λ w. takes_by see net w b f)
unfolding takes_by
same_takes see net b f w ls s = split_at (first_split 0 (view_of w b f.head.publisher).joins (joins_in f))
  where
    go : (o : Option ℕ) → (let t : World → Transition = λ u. elim o [ Some t ↦ unchanged u (clash_line b (view_of w b f.head.publisher).know f t ∷ []) | None ↦ deliver_frame_by see net u f ] in SameTold (t w) (t (with_logs w ls)))
    go None = same_deliver see net f w ls s
    go (Some t) = same_unchanged w ls (clash_line b (view_of w b f.head.publisher).know f t ∷ []) s

    split_at : (o : Option Split) → (let t : World → Transition = λ u. elim o [
      | Some x ↦ unchanged u (split_line b x ∷ [])
      | None ↦ elim (least_clash (view_of w b f.head.publisher).know f) [ Some t ↦ unchanged u (clash_line b (view_of w b f.head.publisher).know f t ∷ []) | None ↦ deliver_frame_by see net u f ]
    ] in SameTold (t w) (t (with_logs w ls)))
    split_at (Some x) = same_unchanged w ls (split_line b x ∷ []) s
    split_at None = go (least_clash (view_of w b f.head.publisher).know f)

same_receives : (see : View → Net) (net : Net) (b : ℕ) (r : Result Frame FrameFault) → Follows (λ w. receives_by see net w b r)
unfolding receives_by
same_receives see net b (Err fault) w ls s = same_unchanged w ls (line.DroppedNotFrame b (fault_number fault.kind) fault.at ∷ []) s
same_receives see net b (Ok f) w ls s = go (fits_broker net b f)
  where
    go : (q : Bool) → (let t : World → Transition = λ u. elim q [ false ↦ unchanged u (line.DroppedStray b f.head.from f.head.to f.head.publisher ∷ []) | true ↦ takes_by see net u b f ] in SameTold (t w) (t (with_logs w ls)))
    go true = same_takes see net b f w ls s
    go false = same_unchanged w ls (line.DroppedStray b f.head.from f.head.to f.head.publisher ∷ []) s

same_first : (see : View → Net) (net : Net) (left : List Request) → Follows (λ w. answered_first_by see net w left)
same_first see net [] w ls s = same_unchanged w ls [] s
same_first see net (asks_publish p number e ∷ left) w ls s = same_publish_now see net p number e w ls s
same_first see net (asks_join q p ∷ left) w ls s = same_join_now see net q p w ls s

same_quieted : (see : View → Net) (net : Net) (hosted : List ℕ) (left : List Request) → Follows (λ w. quieted_by see net hosted w left)
unfolding quieted_by
same_quieted see net hosted left w ls s =
    let wakes : World → Transition = in_turn (wake_all_by see net) hosted in
    same_after (answered_first_by see net w left) (answered_first_by see net (with_logs w ls) left) wakes wakes (same_first see net left w ls s)
    (λ ms r. same_in_turn (wake_all_by see net) (λ b. same_wake_all see net b) hosted (answered_first_by see net w left).world ms r)

same_notes : (see : View → Net) (net : Net) (b : ℕ) (r : Result Note NoteFault) → Follows (λ w. notes_by see net w b r)
unfolding notes_by
same_notes see net b (Err fault) w ls s = same_unchanged w ls (line.DroppedBadNote b (note.fault_number fault.kind) fault.at ∷ []) s
same_notes see net b (Ok n) w ls s = go (submitted_in net b n)
  where
    go : (o : Option Publish) → (let t : World → Transition = λ u. elim o [ Some x ↦ publish_now_by see net u x.0 x.1.0 x.1.1 | None ↦ unchanged u (line.DroppedStrayNote b (publisher_of n) ∷ []) ] in SameTold (t w) (t (with_logs w ls)))
    go (Some x) = same_publish_now see net x.0 x.1.0 x.1.1 w ls s
    go None = same_unchanged w ls (line.DroppedStrayNote b (publisher_of n) ∷ []) s

same_reads : (see : View → Net) (net : Net) (b : ℕ) (bytes : List ℕ) → Follows (λ w. reads_by see net w b bytes)
same_reads see net b bytes w ls s = go (begins_note bytes)
  where
    go : (c : Bool) → (let t : World → Transition = λ u. elim c [ true ↦ notes_by see net u b (note_decoded bytes) | false ↦ receives_by see net u b (frame_decoded bytes) ] in SameTold (t w) (t (with_logs w ls)))
    go true = same_notes see net b (note_decoded bytes) w ls s
    go false = same_receives see net b (frame_decoded bytes) w ls s

pub same_comes : (see : View → Net) (net : Net) (hosted : List ℕ) (left : List Request) (a : Arrival) → Follows (λ w. comes_by see net hosted w left a)
unfolding comes_by
same_comes see net hosted left (datagram b bytes moment) w ls s = same_reads see net b bytes (at_moment w moment) ls s
same_comes see net hosted left (quiet moment) w ls s = same_quieted see net hosted left (at_moment w moment) ls s

same_show_hosted : (net : Net) (hosted : List ℕ) (w : World) (ls : List Log) → SameLogs w.logs ls → show_hosted net hosted (with_logs w ls) ≡ show_hosted net hosted w
unfolding show_hosted
same_show_hosted net hosted w ls s = ap (λ (shown : List Report). line.Frames (length w.frames) ∷ (shown ++ doubts)) (go (numbers net.publishers))
  where
    doubts : List Report
    doubts = flat_map (λ b. flat_map (λ p. if keeps_horizon net p b then line.Doubt b p (view_of w b p).horizon ∷ [] else []) (numbers net.publishers)) hosted

    shown_log : ℕ → Log → List Report
    shown_log p l = if is_hosted net hosted p then line.LogOf p l.last l.settled l.cut (kept_events l) ∷ [] else []

    one : (p : ℕ) (l m : Log) → SameLog l m → shown_log p m ≡ shown_log p l
    one p l m h = ap (shown_log p) h.is ∙ ap (λ (n : ℕ). if is_hosted net hosted p then line.LogOf p l.last l.settled l.cut n ∷ [] else []) (ap length h.past_same)

    go : (ps : List ℕ) → flat_map (λ p. shown_log p (get_or ls p empty_log)) ps ≡ flat_map (λ p. shown_log p (get_or w.logs p empty_log)) ps
    go [] = refl
    go (p ∷ ps) = ap₂ (λ (x y : List Report). x ++ y) (one p (get_or w.logs p empty_log) (get_or ls p empty_log) (same_get w.logs ls p s)) (go ps)

same_served_from : (see : View → Net) (net : Net) (hosted : List ℕ) (left : List Request) (arrivals : List Arrival) (w : World) (ls : List Log) → SameLogs w.logs ls → served_from_by see net hosted (with_logs w ls) left arrivals ≡ served_from_by see net hosted w left arrivals
unfolding served_from_by
same_served_from see net hosted left [] w ls s = ap (λ (r : List Report). r ∷ []) (same_show_hosted net hosted w ls s)
same_served_from see net hosted left (a ∷ arrivals) w ls s =
    let k = same_comes see net hosted left a w ls s in
    let t : Transition = comes_by see net hosted w left a in
    ap (λ (u : Transition). u.lines ∷ served_from_by see net hosted u.world (left_after left a) arrivals) k.is ∙ ap (λ (rs : List (List Report)). t.lines ∷ rs) (same_served_from see net hosted (left_after left a) arrivals t.world k.logs k.same)

-- Worlds

differ : (w : World) (ls : List Log) → SameLogs w.logs ls → DifferInCut w (with_logs w ls)
differ w ls s = record { clock = refl; most = refl; frames = refl; views = refl; logs = s }

-- the second of two such worlds is the first with other logs
pub differ_is : (w u : World) → DifferInCut w u → u ≡ with_logs w u.logs
differ_is w u d = λ i. record { clock = d.clock i; most = d.most i; frames = d.frames i; views = d.views i; logs = u.logs }

tell_same : (t u : Transition) → SameTold t u → TellTheSame t u
tell_same t u k = record {
  lines = ap (λ (x : Transition). x.lines) k.is;
  worlds = subst (λ (x : Transition). DifferInCut t.world x.world) (sym k.is) (differ t.world k.logs k.same);
}

-- what follows over other logs tells the same from two such worlds
pub tells_same : (f : World → Transition) (w u : World) → Follows f → DifferInCut w u → TellTheSame (f w) (f u)
tells_same f w u follows d = subst (λ (x : World). TellTheSame (f w) (f x)) (sym (differ_is w u d)) (tell_same (f w) (f (with_logs w u.logs)) (follows w u.logs d.logs))

pub steps_same : StepsTellTheSame
steps_same net w u l d = tells_same (λ x. next_by (seen net) net x l) w u (same_next (seen net) net l) d

-- a sweep does as well
pub sweeps_same : (net : Net) (k : ℕ) (w u : World) → DifferInCut w u → TellTheSame (sweep_by (seen net) net w k) (sweep_by (seen net) net u k)
sweeps_same net k w u d = tells_same (λ x. sweep_by (seen net) net x k) w u (same_sweep (seen net) net k) d

-- and has the same moment
pub moment_same : (net : Net) (w u : World) → DifferInCut w u → sweep_moment net u ≡ sweep_moment net w
moment_same net w u d = ap (sweep_moment net) (differ_is w u d) ∙ same_moment net w u.logs d.logs

same_stepped : (see : View → Net) (net : Net) (steps : List Line) (w : World) (ls : List Log) → SameLogs w.logs ls → DifferInCut (run_all_by see net w steps).world (run_all_by see net (with_logs w ls) steps).world
same_stepped see net [] w ls s = differ w ls s
same_stepped see net (l ∷ steps) w ls s =
    let k = same_next see net l w ls s in
    subst (λ (t : Transition). DifferInCut (run_all_by see net (next_by see net w l).world steps).world (run_all_by see net t.world steps).world) (sym k.is) (same_stepped see net steps (next_by see net w l).world k.logs k.same)

same_arrived : (see : View → Net) (net : Net) (hosted : List ℕ) (left : List Request) (arrivals : List Arrival) (w : World) (ls : List Log) → SameLogs w.logs ls → DifferInCut (arrived_by see net hosted w left arrivals) (arrived_by see net hosted (with_logs w ls) left arrivals)
unfolding arrived_by
same_arrived see net hosted left [] w ls s = differ w ls s
same_arrived see net hosted left (a ∷ arrivals) w ls s =
    let k = same_comes see net hosted left a w ls s in
    let t : Transition = comes_by see net hosted w left a in
    subst (λ (u : Transition). DifferInCut (arrived_by see net hosted t.world (left_after left a) arrivals) (arrived_by see net hosted u.world (left_after left a) arrivals)) (sym k.is) (same_arrived see net hosted (left_after left a) arrivals t.world k.logs k.same)

-- The start

fresh_same : (ps : List ℕ) → SameLogs (map (λ p. fresh_log false) ps) (map (λ p. fresh_log true) ps)
fresh_same [] = tt
fresh_same (p ∷ ps) = (record { events = []; forgets = true; is = refl; past_same = refl }, fresh_same ps)

begun_same : (net : Net) → start_by true net ≡ with_logs (start_by false net) (map (λ p. fresh_log true) (numbers net.publishers))
unfolding start_by started log_know
begun_same net = refl

begun_logs : (net : Net) → SameLogs (start_by false net).logs (map (λ p. fresh_log true) (numbers net.publishers))
unfolding start_by
begun_logs net = fresh_same (numbers net.publishers)

pub started_same : (net : Net) (steps : List Line) → ForgetTheSame net steps
started_same net steps =
    let w : World = start_by false net in
    let ls : List Log = map (λ p. fresh_log true) (numbers net.publishers) in
    record {
      lines = ap (λ (u : World). run_from_by (seen net) net u steps) (begun_same net) ∙ same_run (seen net) net w ls steps (begun_logs net);
      worlds = subst (λ (u : World). DifferInCut (run_all_by (seen net) net w steps).world (run_all_by (seen net) net u steps).world) (sym (begun_same net)) (same_stepped (seen net) net steps w ls (begun_logs net));
    }

-- Logs that were opened

opened_same : (see : View → Net) (net : Net) (hosted : List ℕ) (logs : List Log) → SameTold (opening_by see net hosted (kept_logs logs)) (opening_by see net hosted logs)
opened_same see net hosted logs = same_opening see net hosted (kept_logs logs) logs (kept_same logs)

served_is : (see : View → Net) (net : Net) (hosted : List ℕ) (logs : List Log) (steps : List Line) (arrivals : List Arrival) → served_by see net hosted logs steps arrivals ≡ served_by see net hosted (kept_logs logs) steps arrivals
unfolding served_by
served_is see net hosted logs steps arrivals =
    let k = opened_same see net hosted logs in
    let o : Transition = opening_by see net hosted (kept_logs logs) in
    ap (λ (t : Transition). t.lines ∷ served_from_by see net hosted t.world (requests_of net hosted steps) arrivals) k.is
    ∙ ap (λ (rs : List (List Report)). o.lines ∷ rs) (same_served_from see net hosted (requests_of net hosted steps) arrivals o.world k.logs k.same)

pub opened_the_same : (see : View → Net) (net : Net) (hosted : List ℕ) (logs : List Log) → OpenedTheSame_by see net hosted logs
opened_the_same see net hosted logs =
    let k = opened_same see net hosted logs in
    let o : Transition = opening_by see net hosted (kept_logs logs) in
    record {
      opened = ap (λ (t : Transition). t.lines) k.is;
      stepped = λ steps. subst (λ (t : Transition). DifferInCut (run_all_by see net o.world steps).world (run_all_by see net t.world steps).world) (sym k.is) (same_stepped see net steps o.world k.logs k.same);
      lines = λ steps. ap (λ (t : Transition). run_from_by see net t.world steps) k.is ∙ same_run see net o.world k.logs steps k.same;
      served_same = λ steps arrivals. served_is see net hosted logs steps arrivals;
      arrived_same = λ steps arrivals.
          let left : List Request = requests_of net hosted steps in
          subst (λ (t : Transition). DifferInCut (arrived_by see net hosted o.world left arrivals) (arrived_by see net hosted t.world left arrivals)) (sym k.is) (same_arrived see net hosted left arrivals o.world k.logs k.same);
    }
