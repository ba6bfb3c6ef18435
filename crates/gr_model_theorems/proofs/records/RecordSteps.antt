-- What every step tells: the recorded lines that the record and the step demand, and a sent line for each frame sent
use Rattle.std.proofs.Common.{◌≡◌, inl, inr, ℕ, suc, zero, ◌+◌, ◌≤◌, ◌<◌, max, Bool, true, false, not, ◌&&◌, List, [], ◌∷◌, ◌-◌, ◌++◌, map, length, set, get_or, refl, sym, ap, ap₂, ◌∙◌, subst, Option, Some, None, arith}
use Rattle.std.specs.Prelude.{nat_eq, nat_le, nat_lt, if◌then◌else◌, flat_map, filter}
use Rattle.std.proofs.lemmas.Bool.{cases_eq, le-leb, lt-leb, ltb-true, ltb-false}
use Rattle.std.proofs.lemmas.List.{get_or-set_other, get_or-set_same}
use Rattle.std.proofs.lemmas.List.Elements.{filter-append}
use Rattle.gr_event.specs.declared.event.Event.{Event}
use Rattle.gr_frame.specs.declared.Frame.{Frame}
use Rattle.gr_frame.specs.Bytes.{frame_bytes}
use Rattle.gr_sched.specs.declared.step.Stop.{Stop}
use Rattle.gr_sched.specs.declared.step.Step.{Step}
use Rattle.gr_sched.specs.declared.step.Step.TheVariants as step
use Rattle.gr_sched.specs.declared.step.Line.{Line}
use Rattle.gr_model.specs.declared.report.Report.{Report}
use Rattle.gr_model.specs.declared.report.Report.TheVariants as line
use Rattle.gr_model.specs.Net.{Net, keeps_horizon, numbers, numbers_from, not_empty}
use Rattle.gr_model.specs.Broker.{Log, empty_log, with_event, is_kept, max_tick}
use Rattle.gr_model.specs.World.{World, Transition, view_of, log_of, unchanged, followed_by, in_turn, frame_at, crash, restarted, opened_lines, sweep_moment, show, kept_events, next_by, publish_stopped_by, sweep_by, wake_all_by}
use Rattle.gr_model_calls.specs.OneNet.{deliver_frame, publish_now, publish_stopped, sweep, sweep_for, next}
use Rattle.gr_model.specs.Headline.{join_line, Recorded, History, nothing_recorded, reopened_cut, record_of, is_record_line, is_sent, sent_count, record_lines, records_after, publish_line, opened_of, last_cut, count_past, is_next, tick_of, says_kept, may_crash, is_swept, sweep_at}
use Rattle.gr_model.specs.Headline as headline
use Rattle.gr_model.specs.Tree.{IsNet}
use Rattle.gr_model_calls.specs.Fits.{WorldFits, StepIn}
use Rattle.gr_model_theorems.proofs.records.Records.{core, core_of}
use Rattle.gr_model_theorems.proofs.records.Recorded.{RecordsFit, record_core, next_records, get_map, opened_no_kept, sweep_same, settled_below}
use Rattle.gr_model_calls.proofs.runs.Schedules.{clocked_fits}
use Rattle.gr_model_calls.proofs.runs.Chains.{wake_all_chain, sweeps_chain}
use Rattle.gr_model_theorems.proofs.records.RecordLines.{join_now_recs, join_now_sends, recs, Sends, sends_chain, sends_none, sends_seq, deliver_recs, deliver_sends, publish_now_recs, publish_now_sends, wakes_recs, sweeps_recs, mark_line}

-- What is opened

-- the last cut lines are the cuts of the logs
abbrev pub CutsTold : Net → List ℕ → List Log → List Report → Type 0
CutsTold net found logs ls = (q : ℕ) → q < net.publishers → last_cut q (get_or found q 0) ls ≡ (let log = get_or logs q empty_log in log.cut)

opened_same : (net : Net) (found : List ℕ) (logs : List Log) (ls : List Report) (b : ℕ) → CutsTold net found logs ls → opened_lines net logs b ≡ opened_of net found (map core logs) ls b
unfolding opened_lines
opened_same net found logs ls b c = go 0 net.publishers (omega arith)
  where
    here : ℕ → List Report
    here p = let log = get_or logs p empty_log in if nat_eq (net.host p) b && nat_lt 0 log.settled then line.Opened p log.last log.settled log.cut ∷ [] else []

    line_of : ℕ → Recorded → ℕ → List Report
    line_of p r cut = if nat_eq (net.host p) b && nat_lt 0 r.settled then line.Opened p r.last r.settled cut ∷ [] else []

    go : (a n : ℕ) → a + n ≤ net.publishers → flat_map here (numbers_from a n) ≡ flat_map (λ p. line_of p (get_or (map core logs) p nothing_recorded) (last_cut p (get_or found p 0) ls)) (numbers_from a n)
    go a zero h = refl
    go a (suc n) h = ap₂ (λ (x y : List Report). x ++ y) (ap₂ (line_of a) (sym (get_map core logs a empty_log)) (sym (c a (omega arith)))) (go (suc a) n (omega arith))

opened_recs : (net : Net) (logs : List Log) (b : ℕ) → recs (opened_lines net logs b) ≡ opened_lines net logs b
unfolding opened_lines
opened_recs net logs b = go (numbers net.publishers)
  where
    one : (p : ℕ) (c : Bool) → recs (let log = get_or logs p empty_log in if c then line.Opened p log.last log.settled log.cut ∷ [] else []) ≡ (let log = get_or logs p empty_log in if c then line.Opened p log.last log.settled log.cut ∷ [] else [])
    one p true = refl
    one p false = refl

    here : ℕ → List Report
    here p = let log = get_or logs p empty_log in if nat_eq (net.host p) b && nat_lt 0 log.settled then line.Opened p log.last log.settled log.cut ∷ [] else []

    go : (ps : List ℕ) → recs (flat_map here ps) ≡ flat_map here ps
    go [] = refl
    go (p ∷ ps) = filter-append is_record_line (here p) (flat_map here ps) ∙ ap₂ (λ (x y : List Report). x ++ y) (one p (nat_eq (net.host p) b && nat_lt 0 (get_or logs p empty_log).settled)) (go ps)

opened_unsent : (net : Net) (logs : List Log) (b : ℕ) → filter is_sent (opened_lines net logs b) ≡ []
unfolding opened_lines
opened_unsent net logs b = go (numbers net.publishers)
  where
    one : (p : ℕ) (c : Bool) → filter is_sent (let log = get_or logs p empty_log in if c then line.Opened p log.last log.settled log.cut ∷ [] else []) ≡ []
    one p true = refl
    one p false = refl

    here : ℕ → List Report
    here p = let log = get_or logs p empty_log in if nat_eq (net.host p) b && nat_lt 0 log.settled then line.Opened p log.last log.settled log.cut ∷ [] else []

    go : (ps : List ℕ) → filter is_sent (flat_map here ps) ≡ []
    go [] = refl
    go (p ∷ ps) = filter-append is_sent (here p) (flat_map here ps) ∙ ap₂ (λ (x y : List Report). x ++ y) (one p (nat_eq (net.host p) b && nat_lt 0 (get_or logs p empty_log).settled)) (go ps)

crash_recs : (net : Net) (found : List ℕ) (w : World) (b : ℕ) (ls : List Report) → CutsTold net found w.logs ls → recs (crash net w b).lines ≡ line.Crashed b ∷ opened_of net found (map core w.logs) ls b
unfolding crash
crash_recs net found w b ls c = ap (λ (z : List Report). line.Crashed b ∷ z) (opened_recs net w.logs b ∙ opened_same net found w.logs ls b c)

-- A stopped publish

-- the recorded lines of a stopped publish
abbrev stop_lines : Net → List ℕ → ℕ → ℕ → ℕ → Recorded → List Report → Bool → Bool → Bool → List Recorded → List Report
stop_lines net found p number clock r ls free due kept records =
    elim free [
      | false ↦ []
      | true ↦ elim due [
        | false ↦ publish_line p clock number r ∷ []
        | true ↦ line.Crashed (net.host p) ∷ ((if kept then line.Kept p number (tick_of clock r) else line.Lost p number (tick_of clock r)) ∷ opened_of net found records ls (net.host p))
      ]
    ]

stopped_recs : (net : Net) (found : List ℕ) (w : World) (k p number : ℕ) (stop : Stop) (e : Event) (ls : List Report) → WorldFits net w → p < net.publishers → CutsTold net found w.logs ls →
    (let t = publish_stopped net w k p number stop e in recs t.lines ≡ stop_lines net found p number w.clock (core_of w p) ls (may_crash net (net.host p)) (is_next w.clock (core_of w p) number) (says_kept t.lines) (map core t.world.logs))
unfolding publish_stopped_by restarted
stopped_recs net found w k p number stop e ls f j c = go (not_empty (net.subscribers_at (net.host p))) (nat_eq number (suc log.last) && nat_le tick max_tick) (is_kept (log.size - 1) stop.call stop.pick)
  where
    log : Log
    log = log_of w p

    tick : ℕ
    tick = max (suc log.settled) w.clock

    told_by : Bool → Transition
    told_by q =
        let logs : List Log = if q then set w.logs p (with_event log tick e) else w.logs in
        record {
          world = restarted net (record { clock = w.clock; most = w.most; frames = w.frames; views = w.views; logs = logs }) (net.host p);
          lines = line.Crashed (net.host p) ∷ ((if q then line.Kept p number tick else line.Lost p number tick) ∷ opened_lines net logs (net.host p));
        }

    cuts_kept : CutsTold net found (set w.logs p (with_event log tick e)) ls
    cuts_kept q i = c q i ∙ elim (cases_eq q p) [
      | inl x ↦ subst (λ z. (log_of w z).cut ≡ (let l = get_or (set w.logs p (with_event log tick e)) z empty_log in l.cut)) (sym x) (sym (ap (λ l. l.cut) (get_or-set_same w.logs p (with_event log tick e) empty_log (omega (arith, f.logs_long)))))
      | inr x ↦ sym (ap (λ l. l.cut) (get_or-set_other w.logs p q (with_event log tick e) empty_log x))
    ]

    go : (x y z : Bool) → (let t : Transition = elim x [ true ↦ unchanged w (line.RefusedHosts k (net.host p) ∷ []) | false ↦ elim y [ false ↦ publish_now net w p number e | true ↦ told_by z ] ] in
        recs t.lines ≡ stop_lines net found p number w.clock (core_of w p) ls (not x) y (says_kept t.lines) (map core t.world.logs))
    go true y z = refl
    go false false z = publish_now_recs net w p number e
    go false true true = ap (λ (z : List Report). line.Crashed (net.host p) ∷ (line.Kept p number tick ∷ z)) (opened_recs net (set w.logs p (with_event log tick e)) (net.host p) ∙ opened_same net found (set w.logs p (with_event log tick e)) ls (net.host p) cuts_kept)
    go false true false =
        ap (λ (z : List Report). line.Crashed (net.host p) ∷ (line.Lost p number tick ∷ z)) (opened_recs net w.logs (net.host p) ∙ opened_same net found w.logs ls (net.host p) c)
        ∙ sym (ap (λ q. line.Crashed (net.host p) ∷ ((if q then line.Kept p number tick else line.Lost p number tick) ∷ opened_of net found (map core w.logs) ls (net.host p))) (opened_no_kept net w.logs (net.host p)))

stopped_sends : (net : Net) (w : World) (k p number : ℕ) (stop : Stop) (e : Event) → Sends w (publish_stopped net w k p number stop e)
unfolding publish_stopped_by restarted
stopped_sends net w k p number stop e = go (not_empty (net.subscribers_at (net.host p))) (nat_eq number (suc log.last) && nat_le tick max_tick) (is_kept (log.size - 1) stop.call stop.pick)
  where
    log : Log
    log = log_of w p

    tick : ℕ
    tick = max (suc log.settled) w.clock

    told_by : Bool → Transition
    told_by q =
        let logs : List Log = if q then set w.logs p (with_event log tick e) else w.logs in
        record {
          world = restarted net (record { clock = w.clock; most = w.most; frames = w.frames; views = w.views; logs = logs }) (net.host p);
          lines = line.Crashed (net.host p) ∷ ((if q then line.Kept p number tick else line.Lost p number tick) ∷ opened_lines net logs (net.host p));
        }

    go : (x y z : Bool) → (let t : Transition = elim x [ true ↦ unchanged w (line.RefusedHosts k (net.host p) ∷ []) | false ↦ elim y [ false ↦ publish_now net w p number e | true ↦ told_by z ] ] in Sends w t)
    go true y z = sends_none w (unchanged w (line.RefusedHosts k (net.host p) ∷ [])) refl refl
    go false false z = publish_now_sends net w p number e
    go false true true = sends_none w (told_by true) refl (opened_unsent net (set w.logs p (with_event log tick e)) (net.host p))
    go false true false = sends_none w (told_by false) refl (opened_unsent net w.logs (net.host p))

-- A show

show_recs : (net : Net) (w : World) (h : History) → RecordsFit net w h → sent_count h.lines ≡ length w.frames → CutsTold net h.reopened_cuts w.logs h.lines →
    recs (show net w) ≡ line.Frames (sent_count h.lines) ∷ map (λ p. let r = record_of h p in let c = last_cut p (reopened_cut h p) h.lines in line.LogOf p r.last r.settled c (count_past c r.events)) (numbers net.publishers)
unfolding show
show_recs net w h r s c = ap₂ (λ n (ls : List Report). line.Frames n ∷ ls) (sym s) (logs 0 net.publishers (omega arith))
  where
    log_line : ℕ → Report
    log_line p = let l = log_of w p in line.LogOf p l.last l.settled l.cut (kept_events l)

    line_of : ℕ → Recorded → ℕ → Report
    line_of p r cut = line.LogOf p r.last r.settled cut (count_past cut r.events)

    here : ℕ → ℕ → List Report
    here b p = if keeps_horizon net p b then line.Doubt b p (view_of w b p).horizon ∷ [] else []

    there : ℕ → List Report
    there b = flat_map (here b) (numbers net.publishers)

    one : (b p : ℕ) (q : Bool) → recs (if q then line.Doubt b p (view_of w b p).horizon ∷ [] else []) ≡ []
    one b p true = refl
    one b p false = refl

    row : (b : ℕ) (ps : List ℕ) → recs (flat_map (here b) ps) ≡ []
    row b [] = refl
    row b (p ∷ ps) = filter-append is_record_line (here b p) (flat_map (here b) ps) ∙ ap₂ (λ (x y : List Report). x ++ y) (one b p (keeps_horizon net p b)) (row b ps)

    doubts : (bs : List ℕ) → recs (flat_map there bs) ≡ []
    doubts [] = refl
    doubts (b ∷ bs) = filter-append is_record_line (there b) (flat_map there bs) ∙ ap₂ (λ (x y : List Report). x ++ y) (row b (numbers net.publishers)) (doubts bs)

    logs : (a n : ℕ) → a + n ≤ net.publishers → recs (map log_line (numbers_from a n) ++ flat_map there (numbers net.brokers)) ≡ map (λ p. line_of p (record_of h p) (last_cut p (reopened_cut h p) h.lines)) (numbers_from a n)
    logs a zero k = doubts (numbers net.brokers)
    logs a (suc n) k = ap₂ (λ x (ls : List Report). x ∷ ls) (ap₂ (line_of a) (sym (record_core net w h a r)) (sym (c a (omega arith)))) (logs (suc a) n (omega arith))

show_unsent : (net : Net) (w : World) → filter is_sent (show net w) ≡ []
unfolding show
show_unsent net w = logs (numbers net.publishers)
  where
    log_line : ℕ → Report
    log_line p = let l = log_of w p in line.LogOf p l.last l.settled l.cut (kept_events l)

    here : ℕ → ℕ → List Report
    here b p = if keeps_horizon net p b then line.Doubt b p (view_of w b p).horizon ∷ [] else []

    there : ℕ → List Report
    there b = flat_map (here b) (numbers net.publishers)

    one : (b p : ℕ) (q : Bool) → filter is_sent (if q then line.Doubt b p (view_of w b p).horizon ∷ [] else []) ≡ []
    one b p true = refl
    one b p false = refl

    row : (b : ℕ) (ps : List ℕ) → filter is_sent (flat_map (here b) ps) ≡ []
    row b [] = refl
    row b (p ∷ ps) = filter-append is_sent (here b p) (flat_map (here b) ps) ∙ ap₂ (λ (x y : List Report). x ++ y) (one b p (keeps_horizon net p b)) (row b ps)

    doubts : (bs : List ℕ) → filter is_sent (flat_map there bs) ≡ []
    doubts [] = refl
    doubts (b ∷ bs) = filter-append is_sent (there b) (flat_map there bs) ∙ ap₂ (λ (x y : List Report). x ++ y) (row b (numbers net.publishers)) (doubts bs)

    logs : (ps : List ℕ) → filter is_sent (map log_line ps ++ flat_map there (numbers net.brokers)) ≡ []
    logs [] = doubts (numbers net.brokers)
    logs (p ∷ ps) = logs ps

-- A sweep

sweep_recs : (net : Net) (w : World) (h : History) (k : ℕ) → IsNet net → 1 ≤ net.quiet → WorldFits net w → RecordsFit net w h →
    recs (sweep net w k).lines ≡ (if is_swept net h then map (λ p. line.Mark p (sweep_at net h)) (numbers net.publishers) ++ line.Swept (sweep_at net h) ∷ [] else [])
unfolding sweep_by
sweep_recs net w h k n z f r = go (nat_lt max_tick m) refl
  where
    m : ℕ
    m = sweep_moment net w

    u : World
    u = record { clock = m; most = max m w.most; frames = w.frames; views = w.views; logs = w.logs }

    same : sweep_at net h ≡ m
    same = sweep_same net w h r

    go : (q : Bool) → nat_lt max_tick m ≡ q → recs (let t : Transition = elim q [ true ↦ unchanged w (line.RefusedClock k m ∷ []) | false ↦ followed_by (in_turn (sweep_for net) (numbers net.publishers) u) (λ x. unchanged x (line.Swept m ∷ [])) ] in t.lines)
        ≡ (if is_swept net h then map (λ p. line.Mark p (sweep_at net h)) (numbers net.publishers) ++ line.Swept (sweep_at net h) ∷ [] else [])
    go true x =
        let no : is_swept net h ≡ false = ap (λ c. nat_le c max_tick) same ∙ lt-leb m max_tick (ltb-true max_tick m x) in
        rw no refl
    go false x =
        let yes : is_swept net h ≡ true = ap (λ c. nat_le c max_tick) same ∙ le-leb m max_tick (ltb-false max_tick m x) in
        filter-append is_record_line (in_turn (sweep_for net) (numbers net.publishers) u).lines (line.Swept m ∷ [])
        ∙ (ap (λ (z : List Report). z ++ line.Swept m ∷ []) (sweeps_recs net u 0 net.publishers n z (clocked_fits net w m (max m w.most) f) (omega arith) (λ q a b. settled_below net w q f (omega arith)))
        ∙ (ap (λ c. map (λ p. line.Mark p c) (numbers net.publishers) ++ line.Swept c ∷ []) (sym same) ∙ sym (ap (λ c. if c then map (λ p. line.Mark p (sweep_at net h)) (numbers net.publishers) ++ line.Swept (sweep_at net h) ∷ [] else []) yes)))

sweep_sends : (net : Net) (w : World) (k : ℕ) → IsNet net → WorldFits net w → Sends w (sweep net w k)
unfolding sweep_by
sweep_sends net w k n f = go (nat_lt max_tick m)
  where
    m : ℕ
    m = sweep_moment net w

    u : World
    u = record { clock = m; most = max m w.most; frames = w.frames; views = w.views; logs = w.logs }

    go : (q : Bool) → Sends w (elim q [ true ↦ unchanged w (line.RefusedClock k m ∷ []) | false ↦ followed_by (in_turn (sweep_for net) (numbers net.publishers) u) (λ x. unchanged x (line.Swept m ∷ [])) ])
    go true = sends_none w (unchanged w (line.RefusedClock k m ∷ [])) refl refl
    go false =
        let s = in_turn (sweep_for net) (numbers net.publishers) u in
        let c = (sweeps_chain net Sends u (sends_chain net) n (clocked_fits net w m (max m w.most) f)).holds in
        let d : Sends u (followed_by s (λ x. unchanged x (line.Swept m ∷ []))) = sends_seq u s (λ x. unchanged x (line.Swept m ∷ [])) c (sends_none s.world (unchanged s.world (line.Swept m ∷ [])) refl refl) in
        record { more = d.more; frames = d.frames; told = d.told }

-- Every step

record_by : (net : Net) (w : World) (h : History) (k : ℕ) (s : Step) → IsNet net → 1 ≤ net.quiet → WorldFits net w → RecordsFit net w h → sent_count h.lines ≡ length w.frames → CutsTold net h.reopened_cuts w.logs h.lines → StepIn net s →
    records_after net h (record { number = k; step = s }) (next net w (record { number = k; step = s })).lines ≡ map core (next net w (record { number = k; step = s })).world.logs →
    recs (next net w (record { number = k; step = s })).lines ≡ record_lines net h (record { number = k; step = s }) (next net w (record { number = k; step = s })).lines
unfolding next_by record_lines wake_all_by
record_by net w h k (step.Clock now) n z f r s c i a = refl
record_by net w h k (step.Publish p number None e) n z f r s c i a =
    publish_now_recs net w p number e ∙ ap₂ (λ m x. publish_line p m number x ∷ []) (sym r.clock) (sym (record_core net w h p r))
record_by net w h k (step.Publish p number (Some stop) e) n z f r s c i a =
    let t = publish_stopped net w k p number stop e in
    stopped_recs net h.reopened_cuts w k p number stop e h.lines f i c
    ∙ (ap₂ (λ m x. stop_lines net h.reopened_cuts p number m x h.lines (may_crash net (net.host p)) (is_next m x number) (says_kept t.lines) (map core t.world.logs)) (sym r.clock) (sym (record_core net w h p r))
    ∙ ap (stop_lines net h.reopened_cuts p number h.clock (record_of h p) h.lines (may_crash net (net.host p)) (is_next h.clock (record_of h p) number) (says_kept t.lines)) (sym a))
record_by net w h k (step.Wake b) n z f r s c i a =
    wakes_recs net w 0 net.publishers b (λ p. mark_line net b h.clock p (record_of h p)) n z f i (omega arith) (λ q x y. ap₂ (λ m v. mark_line net b m q v) (sym r.clock) (sym (record_core net w h q r)))
record_by net w h k (step.Deliver j) n z f r s c i a = go (frame_at w j)
  where
    go : (o : Option Frame) → recs (let t : Transition = elim o [ None ↦ unchanged w (line.RefusedFrame k j (length w.frames) ∷ []) | Some x ↦ deliver_frame net w x ] in t.lines) ≡ []
    go None = refl
    go (Some x) = deliver_recs net w x
record_by net w h k (step.Crash b) n z f r s c i a = go (not_empty (net.subscribers_at b))
  where
    go : (q : Bool) → recs (let t : Transition = elim q [ true ↦ unchanged w (line.RefusedHosts k b ∷ []) | false ↦ crash net w b ] in t.lines) ≡ (if not q then line.Crashed b ∷ opened_of net h.reopened_cuts h.records h.lines b else [])
    go true = refl
    go false = crash_recs net h.reopened_cuts w b h.lines c ∙ ap (λ x. line.Crashed b ∷ opened_of net h.reopened_cuts x h.lines b) (sym r.records)
record_by net w h k step.Sweep n z f r s c i a = sweep_recs net w h k n z f r
record_by net w h k step.Show n z f r s c i a = show_recs net w h r s c
record_by net w h k (step.Bytes j) n z f r s c i a = go (frame_at w j)
  where
    go : (o : Option Frame) → recs (let t : Transition = elim o [ None ↦ unchanged w (line.RefusedFrame k j (length w.frames) ∷ []) | Some x ↦ unchanged w (line.BytesOf j (frame_bytes x) ∷ []) ] in t.lines) ≡ []
    go None = refl
    go (Some x) = refl
record_by net w h k (step.Join q p) n z f r s c i a =
    join_now_recs net w q p ∙ ap₂ (λ m x. join_line q p m x ∷ []) (sym r.clock) (sym (record_core net w h p r))

after_records : (net : Net) (h : History) (l : Line) (ls : List Report) → (headline.history_after net h l ls).records ≡ records_after net h l ls
unfolding headline.history_after
after_records net h l ls = refl

-- the recorded lines of the step after a world that fits its history
pub step_records : (net : Net) (w : World) (h : History) (l : Line) → IsNet net → 1 ≤ net.quiet → WorldFits net w → RecordsFit net w h → sent_count h.lines ≡ length w.frames → CutsTold net h.reopened_cuts w.logs h.lines → StepIn net l.step → filter is_record_line (next net w l).lines ≡ record_lines net h l (next net w l).lines
step_records net w h l n z f r s c i =
    record_by net w h l.number l.step n z f r s c i (sym (after_records net h l (next net w l).lines) ∙ (next_records net w h l n z f r i).records)

crash_sends : (net : Net) (w : World) (b : ℕ) → Sends w (crash net w b)
unfolding crash restarted
crash_sends net w b = sends_none w (crash net w b) refl (opened_unsent net w.logs b)

sends_by : (net : Net) (w : World) (k : ℕ) (s : Step) → IsNet net → WorldFits net w → StepIn net s → Sends w (next net w (record { number = k; step = s }))
unfolding next_by
sends_by net w k (step.Clock now) n f i = sends_none w (next net w (record { number = k; step = step.Clock now })) refl refl
sends_by net w k (step.Publish p number None e) n f i = publish_now_sends net w p number e
sends_by net w k (step.Publish p number (Some stop) e) n f i = stopped_sends net w k p number stop e
sends_by net w k (step.Wake b) n f i = (wake_all_chain net Sends w b (sends_chain net) n f i).holds
sends_by net w k (step.Deliver j) n f i = go (frame_at w j)
  where
    go : (o : Option Frame) → Sends w (elim o [ None ↦ unchanged w (line.RefusedFrame k j (length w.frames) ∷ []) | Some x ↦ deliver_frame net w x ])
    go None = sends_none w (unchanged w (line.RefusedFrame k j (length w.frames) ∷ [])) refl refl
    go (Some x) = deliver_sends net w x
sends_by net w k (step.Crash b) n f i = go (not_empty (net.subscribers_at b))
  where
    go : (q : Bool) → Sends w (elim q [ true ↦ unchanged w (line.RefusedHosts k b ∷ []) | false ↦ crash net w b ])
    go true = sends_none w (unchanged w (line.RefusedHosts k b ∷ [])) refl refl
    go false = crash_sends net w b
sends_by net w k step.Sweep n f i = sweep_sends net w k n f
sends_by net w k step.Show n f i = sends_none w (unchanged w (show net w)) refl (show_unsent net w)
sends_by net w k (step.Bytes j) n f i = go (frame_at w j)
  where
    go : (o : Option Frame) → Sends w (elim o [ None ↦ unchanged w (line.RefusedFrame k j (length w.frames) ∷ []) | Some x ↦ unchanged w (line.BytesOf j (frame_bytes x) ∷ []) ])
    go None = sends_none w (unchanged w (line.RefusedFrame k j (length w.frames) ∷ [])) refl refl
    go (Some x) = sends_none w (unchanged w (line.BytesOf j (frame_bytes x) ∷ [])) refl refl
sends_by net w k (step.Join q p) n f i = join_now_sends net w q p

-- the sent lines of each step are those of the frames that it sends
pub step_sends : (net : Net) (w : World) (l : Line) → IsNet net → WorldFits net w → StepIn net l.step → Sends w (next net w l)
step_sends net w l n f i = sends_by net w l.number l.step n f i
