-- Refused and bytes lines stand exactly where the steps and the frames sent demand, since no call of a broker tells one; and frames are numbered on
use Rattle.std.proofs.Common.{◌≡◌, inl, inr, ℕ, suc, ◌-◌, ◌≤◌, max, Bool, true, false, ◌&&◌, List, [], ◌∷◌, ◌++◌, map, length, set, refl, sym, ap, ap₂, ◌∙◌, Option, Some, None}
use Rattle.std.specs.Prelude.{nat_eq, nat_le, nat_lt, if◌then◌else◌, flat_map, filter, get_or, not}
use Rattle.std.proofs.lemmas.List.Elements.{filter-append}
use Rattle.std.proofs.lemmas.Bool.{cases_Bool, lt-leb, le-leb, ltb-true, ltb-false}
use Rattle.gr_event.specs.declared.event.Event.{Event}
use Rattle.gr_frame.specs.declared.Body.{Body}
use Rattle.gr_frame.specs.declared.Body.TheVariants as body
use Rattle.gr_frame.specs.declared.Frame.{Frame}
use Rattle.gr_frame.specs.Bytes.{frame_bytes}
use Rattle.gr_sched.specs.declared.step.Stop.{Stop}
use Rattle.gr_sched.specs.declared.step.Step.{Step}
use Rattle.gr_sched.specs.declared.step.Step.TheVariants as step
use Rattle.gr_sched.specs.declared.step.Line.{Line}
use Rattle.gr_model.specs.declared.report.Report.{Report}
use Rattle.gr_model.specs.declared.report.Report.TheVariants as line
use Rattle.gr_model.specs.Net.{Net, is_host, keeps_horizon, numbers, numbers_from, not_empty}
use Rattle.gr_model.specs.Broker.{joining, View, Log, Outcome, empty_log, is_kept, marking, cutting, wake, wake_host, wake_below, asking, publish, receive, with_event, max_tick}
use Rattle.gr_model.specs.World.{join_now_by, World, Transition, view_of, log_of, absorbed, unchanged, in_turn, sent_line, sent_lines, frame_at, restarted, crash, sweep_moment, show, start, opened_lines, kept_events, deliver_frame_by, next_by, publish_now_by, publish_stopped_by, report_of_by, run_from_by, sweep_by, wake_for_by}
use Rattle.gr_model_calls.specs.OneNet.{join_now, wake_for, deliver_frame, publish_now, publish_stopped, sweep_for, sweep, next, run_from, report_of}
use Rattle.gr_model.specs.World as world
use Rattle.gr_model.specs.Headline.{join_line, Recorded, History, begin, history_after, publish_line, may_crash, sent_number, sent_count}
use Rattle.gr_model_theorems.specs.Replies.{is_reply, frame_of_line, shown_bytes, replies, StepReplied, Replied_from, Replied}
use Rattle.gr_model.specs.Tree.{IsNet}
use Rattle.gr_model_calls.specs.Fits.{WorldFits, StepIn, StepsIn}
use Rattle.gr_model_theorems.proofs.records.Records.{core}
use Rattle.gr_model_theorems.proofs.records.RecordLines.{join_some, Skips, host_lines, receive_none, marking_none, publish_some, Sends}
use Rattle.gr_model_theorems.proofs.records.RecordSteps.{step_sends}
use Rattle.gr_model_theorems.proofs.records.Recorded.{sweep_same}
use Rattle.gr_model_calls.proofs.runs.Chains.{Chains, wake_all_chain, sweeps_chain}
use Rattle.gr_model_calls.proofs.runs.Schedules.{clocked_fits}
use Rattle.gr_model_theorems.proofs.heard.HeardSteps.{line_is, line_at, sent_line_number}
use Rattle.gr_event.specs.Joins.{has_joined}
use Rattle.gr_model_theorems.proofs.headline.SoFar.{Stands, next_stands, start_stands, sent_count_is}

-- the replies among some lines
abbrev replying : List Report → List Report
replying ls = filter is_reply ls

replies_skip : Skips is_reply
replies_skip = record { got = λ s p t e. refl; horizon = λ s p t. refl }

-- No call tells one

sent_silent : (n : ℕ) (fs : List Frame) → replying (sent_lines n fs) ≡ []
unfolding sent_line
sent_silent n [] = refl
sent_silent n (f ∷ fs) = filter-append is_reply (sent_line n f ∷ []) (sent_lines (suc n) fs) ∙ ap₂ (λ x y. x ++ y) (one f.body) (sent_silent (suc n) fs)
  where
    one : (y : Body) → replying ((elim y [ body.Knowledge runs js ↦ line.SentKnow n f.head.from f.head.to f.head.publisher runs js | body.Curiosity runs ↦ line.SentWant n f.head.from f.head.to f.head.publisher runs | body.Expect tick ↦ line.SentExpect n f.head.from f.head.to f.head.publisher tick ]) ∷ []) ≡ []
    one (body.Knowledge runs js) = refl
    one (body.Curiosity runs) = refl
    one (body.Expect tick) = refl

absorbed_silent : (w : World) (b p : ℕ) (o : Outcome) → replying o.lines ≡ [] → replying (absorbed w b p o).lines ≡ []
unfolding absorbed
absorbed_silent w b p o e = filter-append is_reply o.lines (sent_lines (suc (length w.frames)) o.frames) ∙ ap₂ (λ x y. x ++ y) e (sent_silent (suc (length w.frames)) o.frames)

wake_silent : (net : Net) (p b now : ℕ) (v : View) (log : Log) → replying (wake net p b now v log).lines ≡ []
unfolding wake wake_host wake_below asking
wake_silent net p b now v log = go (is_host net p b)
  where
    o : Outcome
    o = marking net p b now v log

    new : Log
    new = cutting net p b o.view o.log

    two : (c d e : Bool) → replying (host_lines p now new.cut new.generation c d e) ≡ []
    two true true true = refl
    two true true false = refl
    two true false e = refl
    two false true true = refl
    two false true false = refl
    two false false e = refl

    go : (q : Bool) → replying (let u : Outcome = elim q [ true ↦ wake_host net p b now v log | false ↦ wake_below net p b now v log ] in u.lines) ≡ []
    go true =
        let c = nat_lt log.settled o.log.settled in
        let d = nat_lt o.log.cut new.cut in
        let e = nat_lt o.log.generation new.generation in
        filter-append is_reply (host_lines p now new.cut new.generation c d e) o.lines ∙ ap₂ (λ x y. x ++ y) (two c d e) (marking_none is_reply net p b now v log replies_skip)
    go false = refl

wake_for_silent : (net : Net) (w : World) (b p : ℕ) → replying (wake_for net w b p).lines ≡ []
unfolding wake_for_by
wake_for_silent net w b p = absorbed_silent w b p (wake net p b w.clock (view_of w b p) (log_of w p)) (wake_silent net p b w.clock (view_of w b p) (log_of w p))

deliver_silent : (net : Net) (w : World) (x : Frame) → replying (deliver_frame net w x).lines ≡ []
unfolding deliver_frame_by
deliver_silent net w x =
    let o = receive net w.clock x (view_of w x.head.to x.head.publisher) (log_of w x.head.publisher) in
    absorbed_silent w x.head.to x.head.publisher o (receive_none is_reply net w.clock x (view_of w x.head.to x.head.publisher) (log_of w x.head.publisher) replies_skip)

publish_line_silent : (p now number : ℕ) (r : Recorded) → replying (publish_line p now number r ∷ []) ≡ []
publish_line_silent p now number r = go (nat_le number r.last) (nat_lt (suc r.last) number) (nat_lt max_tick (max (suc r.settled) now))
  where
    go : (x y z : Bool) → replying ((if x then line.Already p number else (if y then line.Gap p number (suc r.last) else (if z then line.Exhausted p number else line.Logged p number (max (suc r.settled) now)))) ∷ []) ≡ []
    go true y z = refl
    go false true z = refl
    go false false true = refl
    go false false false = refl

publish_now_silent : (net : Net) (w : World) (p number : ℕ) (e : Event) → replying (publish_now net w p number e).lines ≡ []
unfolding publish_now_by
publish_now_silent net w p number e =
    let v = view_of w (net.host p) p in
    absorbed_silent w (net.host p) p (publish net p (net.host p) w.clock number e v (log_of w p))
    (publish_some is_reply net p (net.host p) w.clock number e v (log_of w p) replies_skip ∙ publish_line_silent p w.clock number (core (log_of w p)))

join_line_silent : (s p now : ℕ) (r : Recorded) → replying (join_line s p now r ∷ []) ≡ []
join_line_silent s p now r = go (has_joined r.joined s) (nat_lt max_tick (max (suc r.settled) now))
  where
    go : (x y : Bool) → replying ((if x then line.AlreadyJoined s p else (if y then line.ExhaustedJoin s p else line.Joined s p (max (suc r.settled) now))) ∷ []) ≡ []
    go true y = refl
    go false true = refl
    go false false = refl

join_now_silent : (net : Net) (w : World) (s p : ℕ) → replying (join_now net w s p).lines ≡ []
unfolding join_now_by
join_now_silent net w s p =
    let v = view_of w (net.host p) p in
    absorbed_silent w (net.host p) p (joining net p (net.host p) w.clock s v (log_of w p))
    (join_some is_reply net p (net.host p) w.clock s v (log_of w p) replies_skip ∙ join_line_silent s p w.clock (core (log_of w p)))

silent_chain : (net : Net) → Chains net (λ w t. replying t.lines ≡ [])
silent_chain net = record {
  nil = λ w f. refl;
  seq = λ w t f g k a x b. filter-append is_reply t.lines (f t.world).lines ∙ ap₂ (λ x y. x ++ y) a b;
  wake = λ w b p f i j. wake_for_silent net w b p;
  deliver = λ w x f t. deliver_silent net w x;
}

opened_silent : (net : Net) (logs : List Log) (b : ℕ) → replying (opened_lines net logs b) ≡ []
unfolding opened_lines
opened_silent net logs b = go (numbers net.publishers)
  where
    one : (p : ℕ) (c : Bool) → replying (let log = get_or logs p empty_log in if c then line.Opened p log.last log.settled log.cut ∷ [] else []) ≡ []
    one p true = refl
    one p false = refl

    here : ℕ → List Report
    here p = let log = get_or logs p empty_log in if nat_eq (net.host p) b && nat_lt 0 log.settled then line.Opened p log.last log.settled log.cut ∷ [] else []

    go : (ps : List ℕ) → replying (flat_map here ps) ≡ []
    go [] = refl
    go (p ∷ ps) = filter-append is_reply (here p) (flat_map here ps) ∙ ap₂ (λ x y. x ++ y) (one p (nat_eq (net.host p) b && nat_lt 0 (get_or logs p empty_log).settled)) (go ps)

-- Each step

crash_silent : (net : Net) (w : World) (b : ℕ) → replying (crash net w b).lines ≡ []
unfolding crash
crash_silent net w b = opened_silent net w.logs b

stopped_replies : (net : Net) (w : World) (k p number : ℕ) (stop : Stop) (e : Event) → replying (publish_stopped net w k p number stop e).lines ≡ (if may_crash net (net.host p) then [] else line.RefusedHosts k (net.host p) ∷ [])
unfolding publish_stopped_by
stopped_replies net w k p number stop e = go (not_empty (net.subscribers_at (net.host p))) (nat_eq number (suc log.last) && nat_le tick max_tick) (is_kept (log.size - 1) stop.call stop.pick)
  where
    log : Log
    log = log_of w p

    tick : ℕ
    tick = max (suc log.settled) w.clock

    told_by : Bool → Transition
    told_by q =
        let logs : List Log = if q then set w.logs p (with_event log tick e) else w.logs in
        record {
          world = restarted net (record { clock = w.clock; most = w.most; frames = w.frames; views = w.views; logs = logs }) (net.host p);
          lines = line.Crashed (net.host p) ∷ ((if q then line.Kept p number tick else line.Lost p number tick) ∷ opened_lines net logs (net.host p));
        }

    go : (x y z : Bool) → replying (let t : Transition = elim x [ true ↦ unchanged w (line.RefusedHosts k (net.host p) ∷ []) | false ↦ elim y [ false ↦ publish_now net w p number e | true ↦ told_by z ] ] in t.lines) ≡ (if not x then [] else line.RefusedHosts k (net.host p) ∷ [])
    go true y z = refl
    go false false z = publish_now_silent net w p number e
    go false true true = opened_silent net (set w.logs p (with_event log tick e)) (net.host p)
    go false true false = opened_silent net w.logs (net.host p)

show_silent : (net : Net) (w : World) → replying (show net w) ≡ []
unfolding show
show_silent net w = logs (numbers net.publishers) ∙ brokers (numbers net.brokers)
  where
    log_line : ℕ → Report
    log_line p = let l = log_of w p in line.LogOf p l.last l.settled l.cut (kept_events l)

    here : ℕ → ℕ → List Report
    here b p = if keeps_horizon net p b then line.Doubt b p (view_of w b p).horizon ∷ [] else []

    there : ℕ → List Report
    there b = flat_map (here b) (numbers net.publishers)

    logs : (ps : List ℕ) → replying (map log_line ps ++ flat_map there (numbers net.brokers)) ≡ replying (flat_map there (numbers net.brokers))
    logs [] = refl
    logs (p ∷ ps) = logs ps

    one : (b p : ℕ) (c : Bool) → replying (if c then line.Doubt b p (view_of w b p).horizon ∷ [] else []) ≡ []
    one b p true = refl
    one b p false = refl

    row : (b : ℕ) (ps : List ℕ) → replying (flat_map (here b) ps) ≡ []
    row b [] = refl
    row b (p ∷ ps) = filter-append is_reply (here b p) (flat_map (here b) ps) ∙ ap₂ (λ x y. x ++ y) (one b p (keeps_horizon net p b)) (row b ps)

    brokers : (bs : List ℕ) → replying (flat_map there bs) ≡ []
    brokers [] = refl
    brokers (b ∷ bs) = filter-append is_reply (there b) (flat_map there bs) ∙ ap₂ (λ x y. x ++ y) (row b (numbers net.publishers)) (brokers bs)

sweep_replies : (net : Net) (w : World) (k : ℕ) → IsNet net → WorldFits net w → replying (sweep net w k).lines ≡ (if nat_le (sweep_moment net w) max_tick then [] else line.RefusedClock k (sweep_moment net w) ∷ [])
unfolding sweep_by
sweep_replies net w k n f = elim (cases_Bool (nat_lt max_tick m)) [
  | inl e ↦ go true (nat_le m max_tick) e (lt-leb m max_tick (ltb-true max_tick m e))
  | inr e ↦ go false (nat_le m max_tick) e (le-leb m max_tick (ltb-false max_tick m e))
]
  where
    m : ℕ
    m = sweep_moment net w

    u : World
    u = record { clock = m; most = max m w.most; frames = w.frames; views = w.views; logs = w.logs }

    swept : Transition
    swept = in_turn (sweep_for net) (numbers net.publishers) u

    lines_if : Bool → List Report
    lines_if q = let t : Transition = elim q [ true ↦ unchanged w (line.RefusedClock k m ∷ []) | false ↦ world.followed_by swept (λ x. unchanged x (line.Swept m ∷ [])) ] in t.lines

    go : (q r : Bool) → nat_lt max_tick m ≡ q → r ≡ not q → replying (lines_if (nat_lt max_tick m)) ≡ (if r then [] else line.RefusedClock k m ∷ [])
    go true r e g = rw (e, g) refl
    go false r e g = rw (e, g) (filter-append is_reply swept.lines (line.Swept m ∷ []) ∙ ap (λ x. x ++ []) (sweeps_chain net (λ w t. replying t.lines ≡ []) u (silent_chain net) n (clocked_fits net w m (max m w.most) f)).holds)

-- the line of a sent frame says the frame
pub frame_told : (k : ℕ) (f : Frame) → frame_of_line (sent_line k f) ≡ Some f
unfolding sent_line
frame_told k f = go f.body refl
  where
    go : (y : Body) → f.body ≡ y → frame_of_line (elim y [ body.Knowledge runs js ↦ line.SentKnow k f.head.from f.head.to f.head.publisher runs js | body.Curiosity runs ↦ line.SentWant k f.head.from f.head.to f.head.publisher runs | body.Expect tick ↦ line.SentExpect k f.head.from f.head.to f.head.publisher tick ]) ≡ Some f
    go (body.Knowledge runs js) e = ap (λ z. Some (record { head = f.head; body = z })) (sym e)
    go (body.Curiosity runs) e = ap (λ z. Some (record { head = f.head; body = z })) (sym e)
    go (body.Expect tick) e = ap (λ z. Some (record { head = f.head; body = z })) (sym e)

abbrev delivered_reply : ℕ → ℕ → ℕ → Option Report → List Report
delivered_reply n k sent o = elim o [ None ↦ line.RefusedFrame n k sent ∷ [] | Some s ↦ [] ]

abbrev bytes_reply : ℕ → ℕ → ℕ → Option Report → List Report
bytes_reply n k sent o = elim o [ None ↦ line.RefusedFrame n k sent ∷ [] | Some s ↦ shown_bytes k s ]

step_replies : (net : Net) (w : World) (h : History) (n : ℕ) (s : Step) → IsNet net → Stands net w h → StepIn net s → replying (next net w (record { number = n; step = s })).lines ≡ replies net h (record { number = n; step = s })
unfolding next_by replies
step_replies net w h n (step.Clock now) t k i = refl
step_replies net w h n (step.Publish p number None e) t k i = publish_now_silent net w p number e
step_replies net w h n (step.Publish p number (Some s) e) t k i = stopped_replies net w n p number s e
step_replies net w h n (step.Wake b) t k i = (wake_all_chain net (λ w t. replying t.lines ≡ []) w b (silent_chain net) t k.fits i).holds
step_replies net w h n (step.Deliver j) t k i = go (frame_at w j) ∙ ap (delivered_reply n j (sent_count h.lines)) (sym (line_is w j h.lines k.sent))
  where
    go : (o : Option Frame) → replying (let u : Transition = elim o [ None ↦ unchanged w (line.RefusedFrame n j (length w.frames) ∷ []) | Some x ↦ deliver_frame net w x ] in u.lines) ≡ delivered_reply n j (sent_count h.lines) (line_at j o)
    go None = ap (λ c. line.RefusedFrame n j c ∷ []) (sym (sent_count_is net w h k))
    go (Some x) = deliver_silent net w x
step_replies net w h n (step.Crash b) t k i = go (not_empty (net.subscribers_at b))
  where
    go : (q : Bool) → replying (let u : Transition = elim q [ true ↦ unchanged w (line.RefusedHosts n b ∷ []) | false ↦ crash net w b ] in u.lines) ≡ (if not q then [] else line.RefusedHosts n b ∷ [])
    go true = refl
    go false = crash_silent net w b
step_replies net w h n step.Sweep t k i = sweep_replies net w n t k.fits ∙ ap (λ m. if nat_le m max_tick then [] else line.RefusedClock n m ∷ []) (sym (sweep_same net w h k.records))
step_replies net w h n step.Show t k i = show_silent net w
step_replies net w h n (step.Bytes j) t k i = go (frame_at w j) ∙ ap (bytes_reply n j (sent_count h.lines)) (sym (line_is w j h.lines k.sent))
  where
    go : (o : Option Frame) → replying (let u : Transition = elim o [ None ↦ unchanged w (line.RefusedFrame n j (length w.frames) ∷ []) | Some x ↦ unchanged w (line.BytesOf j (frame_bytes x) ∷ []) ] in u.lines) ≡ bytes_reply n j (sent_count h.lines) (line_at j o)
    go None = ap (λ c. line.RefusedFrame n j c ∷ []) (sym (sent_count_is net w h k))
    go (Some x) = ap (λ z. elim z [ Some f ↦ line.BytesOf j (frame_bytes f) ∷ [] | None ↦ [] ]) (sym (frame_told j x))
step_replies net w h n (step.Join s p) t k i = join_now_silent net w s p

-- Numbers

-- the lines of sent frames are numbered on, one by one
pub numbers_sent : (n : ℕ) (fs : List Frame) → map sent_number (sent_lines n fs) ≡ numbers_from n (length fs)
numbers_sent n [] = refl
numbers_sent n (f ∷ fs) = ap₂ (λ x y. x ∷ y) (sent_line_number n f) (numbers_sent (suc n) fs)

long_sent : (n : ℕ) (fs : List Frame) → length (sent_lines n fs) ≡ length fs
long_sent n [] = refl
long_sent n (f ∷ fs) = ap suc (long_sent (suc n) fs)

step_replied : (net : Net) (w : World) (h : History) (l : Line) → IsNet net → StepIn net l.step → Stands net w h → StepReplied net h l (next net w l).lines
step_replied net w h l n i k =
    let s : Sends w (next net w l) = step_sends net w l n k.fits i in
    record {
      replied = step_replies net w h l.number l.step n k i;
      numbered = ap (map sent_number) s.told ∙ (numbers_sent (suc (length w.frames)) s.more
          ∙ ap₂ numbers_from (ap suc (sym (sent_count_is net w h k))) (sym (ap length s.told ∙ long_sent (suc (length w.frames)) s.more)));
    }

-- from a world that stands with its history, each step is replied
pub replied_from : (net : Net) (w : World) (h : History) (ls : List Line) → IsNet net → 1 ≤ net.quiet → StepsIn net ls → Stands net w h → Replied_from net h ls (run_from net w ls)
unfolding run_from_by
replied_from net w h [] n z i k = tt
replied_from net w h (l ∷ ls) n z i k = (step_replied net w h l n i.0 k, replied_from net (next net w l).world (history_after net h l (next net w l).lines) ls n z i.1 (next_stands net w h l n z i.0 k))

-- over every schedule refused and bytes lines stand exactly where the steps demand them
pub replied_always : (net : Net) (ls : List Line) → IsNet net → 1 ≤ net.quiet → StepsIn net ls → Replied net ls (report_of net ls)
unfolding report_of_by
replied_always net ls n z i = (refl, replied_from net (start net) (begin net) ls n z i (start_stands net n))
