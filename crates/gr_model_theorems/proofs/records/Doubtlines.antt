-- The doubt lines of each step are those of a show, place by place
use Rattle.std.proofs.Common.{◌≡◌, ℕ, suc, max, Bool, true, false, ◌&&◌, List, [], ◌∷◌, ◌-◌, ◌++◌, map, length, set, refl, ap, ap₂, ◌∙◌, Option, Some, None}
use Rattle.std.specs.Prelude.{nat_eq, nat_le, nat_lt, if◌then◌else◌, flat_map, filter, get_or}
use Rattle.gr_event.specs.Joins.{Joins, longer}
use Rattle.gr_event.specs.declared.event.Event.{Event}
use Rattle.gr_frame.specs.declared.Body.{Body}
use Rattle.gr_frame.specs.declared.Body.TheVariants as body
use Rattle.gr_frame.specs.declared.Frame.{Frame}
use Rattle.gr_sched.specs.declared.step.Stop.{Stop}
use Rattle.gr_sched.specs.declared.step.Step.{Step}
use Rattle.gr_sched.specs.declared.step.Step.TheVariants as step
use Rattle.gr_sched.specs.declared.step.Line.{Line}
use Rattle.gr_model.specs.declared.report.Report.{Report}
use Rattle.gr_model.specs.declared.report.Report.TheVariants as line
use Rattle.gr_know.specs.Values.{Known}
use Rattle.gr_model.specs.Net.{Net, is_host, keeps_horizon, numbers, not_empty}
use Rattle.gr_model.specs.Broker.{joining, with_joins, drops, View, Log, Outcome, empty_log, is_kept, delivery_lines, got_line, learn, publish, marking, cutting, wake, wake_host, wake_below, asking, curiosity, expect, receive, place_of, with_event, max_tick}
use Rattle.gr_model.specs.World.{join_now_by, World, Transition, view_of, log_of, absorbed, unchanged, followed_by, in_turn, sent_line, sent_lines, frame_at, restarted, crash, sweep_moment, show, opened_lines, kept_events, deliver_frame_by, next_by, publish_now_by, publish_stopped_by, sweep_by, wake_for_by}
use Rattle.gr_model_calls.specs.OneNet.{join_now, wake_for, wake_all, deliver_frame, publish_now, publish_stopped, sweep_for, sweep, next}
use Rattle.gr_frame.specs.Bytes.{frame_bytes}
use Rattle.gr_model.specs.Headline.{is_doubt_line, doubt_place, doubts_shown}
use Rattle.gr_model.specs.Tree.{IsNet}
use Rattle.gr_model_calls.specs.Fits.{WorldFits, StepIn}
use Rattle.gr_model_calls.proofs.calls.HostCases.{joining_cases, publish_cases, marking_cases}
use Rattle.gr_model_calls.proofs.runs.Schedules.{clocked_fits}
use Rattle.gr_model_calls.proofs.runs.Chains.{Chains, wake_all_chain, sweeps_chain}
use Rattle.gr_model_theorems.proofs.records.RecordLines.{host_lines}

-- no doubt line
abbrev pub Plain : List Report → Type 0
Plain [] = Unit {0}
Plain (line.Doubt b p t ∷ ls) = ⊥
Plain (l ∷ ls) = Plain ls

pub Plain-append : (xs ys : List Report) → Plain xs → Plain ys → Plain (xs ++ ys)
Plain-append [] ys a b = b
Plain-append (line.Doubt c p t ∷ xs) ys a b = absurd a
Plain-append (l ∷ xs) ys a b = Plain-append xs ys a b

plain_none : (ls : List Report) → Plain ls → map doubt_place (filter is_doubt_line ls) ≡ []
plain_none [] a = refl
plain_none (line.Doubt b p t ∷ ls) a = absurd a
plain_none (l ∷ ls) a = plain_none ls a

sent_plain : (n : ℕ) (fs : List Frame) → Plain (sent_lines n fs)
unfolding sent_line
sent_plain n [] = tt
sent_plain n (f ∷ fs) = Plain-append (sent_line n f ∷ []) (sent_lines (suc n) fs) (one f.body) (sent_plain (suc n) fs)
  where
    one : (y : Body) → Plain ((elim y [ body.Knowledge runs js ↦ line.SentKnow n f.head.from f.head.to f.head.publisher runs js | body.Curiosity runs ↦ line.SentWant n f.head.from f.head.to f.head.publisher runs | body.Expect tick ↦ line.SentExpect n f.head.from f.head.to f.head.publisher tick ]) ∷ [])
    one (body.Knowledge runs js) = tt
    one (body.Curiosity runs) = tt
    one (body.Expect tick) = tt

got_plain : (s p : ℕ) (xs : List (ℕ × Event)) → Plain (map (got_line s p) xs)
got_plain s p [] = tt
got_plain s p (x ∷ xs) = got_plain s p xs

told_plain : (net : Net) (p h h' s : ℕ) (items : List (ℕ × Event)) → Plain (delivery_lines net p h h' items s)
unfolding delivery_lines
told_plain net p h h' s items = go (nat_eq h h')
  where
    go : (c : Bool) → Plain (if c then [] else map (got_line s p) (filter (λ x. net.wants p s x.0 x.1) items) ++ line.Horizon s p h' ∷ [])
    go true = tt
    go false = Plain-append (map (got_line s p) (filter (λ x. net.wants p s x.0 x.1) items)) (line.Horizon s p h' ∷ []) (got_plain s p (filter (λ x. net.wants p s x.0 x.1) items)) tt

learn_plain : (net : Net) (p b : ℕ) (piece : Known) (v : View) (log : Log) → Plain (learn net p b piece v log).lines
unfolding learn
learn_plain net p b piece v log = go _ _ (net.subscribers_at b)
  where
    go : (h : ℕ) (items : List (ℕ × Event)) (xs : List ℕ) → Plain (flat_map (delivery_lines net p v.horizon h items) xs)
    go h items [] = tt
    go h items (x ∷ xs) = Plain-append (delivery_lines net p v.horizon h items x) (flat_map (delivery_lines net p v.horizon h items) xs) (told_plain net p v.horizon h x items) (go h items xs)

receive_plain : (net : Net) (now : ℕ) (f : Frame) (v : View) (log : Log) → Plain (receive net now f v log).lines
unfolding receive expect curiosity asking
receive_plain net now f v log = go f.body
  where
    learned : (runs : Known) (js : Joins) (c : Bool) → Plain (let o : Outcome = elim c [ true ↦ record { view = v; log = log; lines = []; frames = [] } | false ↦ learn net f.head.publisher f.head.to runs (with_joins v (longer v.joins js)) log ] in o.lines)
    learned runs js true = tt
    learned runs js false = learn_plain net f.head.publisher f.head.to runs (with_joins v (longer v.joins js)) log

    go : (y : Body) → Plain (let o : Outcome = elim y [
      | body.Knowledge runs js ↦ elim (drops v runs js) [ true ↦ record { view = v; log = log; lines = []; frames = [] } | false ↦ learn net f.head.publisher f.head.to runs (with_joins v (longer v.joins js)) log ]
      | body.Curiosity runs ↦ curiosity net f.head.publisher f.head.to now f.head.from (place_of f.head.from (net.children f.head.publisher f.head.to)) runs v log
      | body.Expect tick ↦ expect net f.head.publisher f.head.to now tick v log
    ] in o.lines)
    go (body.Knowledge runs js) = learned runs js (drops v runs js)
    go (body.Curiosity runs) = tt
    go (body.Expect tick) = tt

publish_plain : (net : Net) (p b now number : ℕ) (e : Event) (v : View) (log : Log) → Plain (publish net p b now number e v log).lines
publish_plain net p b now number e v log = publish_cases net p b now number e v log (λ o. Plain o.lines) (λ l. tt) (λ l. tt) (λ x l. tt) (λ x l. learn_plain net p b _ v _)

joining_plain : (net : Net) (p b now s : ℕ) (v : View) (log : Log) → Plain (joining net p b now s v log).lines
joining_plain net p b now s v log = joining_cases net p b now s v log (λ o. Plain o.lines) (λ e. tt) (λ e l. tt) (λ e l. learn_plain net p b _ _ _)

marking_plain : (net : Net) (p b now : ℕ) (v : View) (log : Log) → Plain (marking net p b now v log).lines
marking_plain net p b now v log = marking_cases net p b now v log (λ o. Plain o.lines) (λ e. learn_plain net p b _ v _) (λ e. tt)

wake_plain : (net : Net) (p b now : ℕ) (v : View) (log : Log) → Plain (wake net p b now v log).lines
unfolding wake wake_host wake_below asking
wake_plain net p b now v log = go (is_host net p b)
  where
    o : Outcome
    o = marking net p b now v log

    new : Log
    new = cutting net p b o.view o.log

    front : (c d e : Bool) → Plain (host_lines p now new.cut new.generation c d e)
    front true true true = tt
    front true true false = tt
    front true false e = tt
    front false true true = tt
    front false true false = tt
    front false false e = tt

    go : (q : Bool) → Plain (let u : Outcome = elim q [ true ↦ wake_host net p b now v log | false ↦ wake_below net p b now v log ] in u.lines)
    go true =
        let c = nat_lt log.settled o.log.settled in
        let d = nat_lt o.log.cut new.cut in
        let e = nat_lt o.log.generation new.generation in
        Plain-append (host_lines p now new.cut new.generation c d e) o.lines (front c d e) (marking_plain net p b now v log)
    go false = tt

absorbed_plain : (w : World) (b p : ℕ) (o : Outcome) → Plain o.lines → Plain (absorbed w b p o).lines
unfolding absorbed
absorbed_plain w b p o a = Plain-append o.lines (sent_lines (suc (length w.frames)) o.frames) a (sent_plain (suc (length w.frames)) o.frames)

wake_for_plain : (net : Net) (w : World) (b p : ℕ) → Plain (wake_for net w b p).lines
unfolding wake_for_by
wake_for_plain net w b p = absorbed_plain w b p (wake net p b w.clock (view_of w b p) (log_of w p)) (wake_plain net p b w.clock (view_of w b p) (log_of w p))

join_now_plain : (net : Net) (w : World) (s p : ℕ) → Plain (join_now net w s p).lines
unfolding join_now_by
join_now_plain net w s p = absorbed_plain w (net.host p) p (joining net p (net.host p) w.clock s (view_of w (net.host p) p) (log_of w p)) (joining_plain net p (net.host p) w.clock s (view_of w (net.host p) p) (log_of w p))

deliver_plain : (net : Net) (w : World) (x : Frame) → Plain (deliver_frame net w x).lines
unfolding deliver_frame_by
deliver_plain net w x = absorbed_plain w x.head.to x.head.publisher (receive net w.clock x (view_of w x.head.to x.head.publisher) (log_of w x.head.publisher)) (receive_plain net w.clock x (view_of w x.head.to x.head.publisher) (log_of w x.head.publisher))

publish_now_plain : (net : Net) (w : World) (p number : ℕ) (e : Event) → Plain (publish_now net w p number e).lines
unfolding publish_now_by
publish_now_plain net w p number e = absorbed_plain w (net.host p) p (publish net p (net.host p) w.clock number e (view_of w (net.host p) p) (log_of w p)) (publish_plain net p (net.host p) w.clock number e (view_of w (net.host p) p) (log_of w p))

plain_chain : (net : Net) → Chains net (λ w t. Plain t.lines)
plain_chain net = record {
  nil = λ w f. tt;
  seq = λ w t f g k a x b. Plain-append t.lines (f t.world).lines a b;
  wake = λ w b p f i j. wake_for_plain net w b p;
  deliver = λ w x f t. deliver_plain net w x;
}

opened_plain : (net : Net) (logs : List Log) (b : ℕ) → Plain (opened_lines net logs b)
unfolding opened_lines
opened_plain net logs b = go (numbers net.publishers)
  where
    one : (p : ℕ) (c : Bool) → Plain (let log = get_or logs p empty_log in if c then line.Opened p log.last log.settled log.cut ∷ [] else [])
    one p true = tt
    one p false = tt

    here : ℕ → List Report
    here p = let log = get_or logs p empty_log in if nat_eq (net.host p) b && nat_lt 0 log.settled then line.Opened p log.last log.settled log.cut ∷ [] else []

    go : (ps : List ℕ) → Plain (flat_map here ps)
    go [] = tt
    go (p ∷ ps) = Plain-append (here p) (flat_map here ps) (one p (nat_eq (net.host p) b && nat_lt 0 (get_or logs p empty_log).settled)) (go ps)

crash_plain : (net : Net) (w : World) (b : ℕ) → Plain (crash net w b).lines
unfolding crash
crash_plain net w b = opened_plain net w.logs b

stopped_plain : (net : Net) (w : World) (k p number : ℕ) (stop : Stop) (e : Event) → Plain (publish_stopped net w k p number stop e).lines
unfolding publish_stopped_by
stopped_plain net w k p number stop e = go (not_empty (net.subscribers_at (net.host p))) (nat_eq number (suc log.last) && nat_le tick max_tick) (is_kept (log.size - 1) stop.call stop.pick)
  where
    log : Log
    log = log_of w p

    tick : ℕ
    tick = max (suc log.settled) w.clock

    told_by : Bool → Transition
    told_by q =
        let logs : List Log = if q then set w.logs p (with_event log tick e) else w.logs in
        record {
          world = restarted net (record { clock = w.clock; most = w.most; frames = w.frames; views = w.views; logs = logs }) (net.host p);
          lines = line.Crashed (net.host p) ∷ ((if q then line.Kept p number tick else line.Lost p number tick) ∷ opened_lines net logs (net.host p));
        }

    go : (x y z : Bool) → Plain (let t : Transition = elim x [ true ↦ unchanged w (line.RefusedHosts k (net.host p) ∷ []) | false ↦ elim y [ false ↦ publish_now net w p number e | true ↦ told_by z ] ] in t.lines)
    go true y z = tt
    go false false z = publish_now_plain net w p number e
    go false true true = opened_plain net (set w.logs p (with_event log tick e)) (net.host p)
    go false true false = opened_plain net w.logs (net.host p)

sweep_plain : (net : Net) (w : World) (k : ℕ) → IsNet net → WorldFits net w → Plain (sweep net w k).lines
unfolding sweep_by
sweep_plain net w k n f = go (nat_lt max_tick m)
  where
    m : ℕ
    m = sweep_moment net w

    u : World
    u = record { clock = m; most = max m w.most; frames = w.frames; views = w.views; logs = w.logs }

    go : (q : Bool) → Plain (let t : Transition = elim q [ true ↦ unchanged w (line.RefusedClock k m ∷ []) | false ↦ followed_by (in_turn (sweep_for net) (numbers net.publishers) u) (λ x. unchanged x (line.Swept m ∷ [])) ] in t.lines)
    go true = tt
    go false = Plain-append (in_turn (sweep_for net) (numbers net.publishers) u).lines (line.Swept m ∷ []) (sweeps_chain net (λ w t. Plain t.lines) u (plain_chain net) n (clocked_fits net w m (max m w.most) f)).holds tt

-- What is shown

abbrev doubts_of : List Report → List (ℕ × ℕ)
doubts_of ls = map doubt_place (filter is_doubt_line ls)

doubts_append : (xs ys : List Report) → doubts_of (xs ++ ys) ≡ doubts_of xs ++ doubts_of ys
doubts_append [] ys = refl
doubts_append (line.Doubt b p t ∷ xs) ys = ap (λ z. (b, p) ∷ z) (doubts_append xs ys)
doubts_append (l ∷ xs) ys = doubts_append xs ys

show_doubts : (net : Net) (w : World) → doubts_of (show net w) ≡ flat_map (λ b. flat_map (λ p. if keeps_horizon net p b then (b, p) ∷ [] else []) (numbers net.publishers)) (numbers net.brokers)
unfolding show
show_doubts net w = logs (numbers net.publishers) ∙ brokers (numbers net.brokers)
  where
    log_line : ℕ → Report
    log_line p = let l = log_of w p in line.LogOf p l.last l.settled l.cut (kept_events l)

    here : ℕ → ℕ → List Report
    here b p = if keeps_horizon net p b then line.Doubt b p (view_of w b p).horizon ∷ [] else []

    there : ℕ → List Report
    there b = flat_map (here b) (numbers net.publishers)

    place : ℕ → ℕ → List (ℕ × ℕ)
    place b p = if keeps_horizon net p b then (b, p) ∷ [] else []

    logs : (ps : List ℕ) → doubts_of (map log_line ps ++ flat_map there (numbers net.brokers)) ≡ doubts_of (flat_map there (numbers net.brokers))
    logs [] = refl
    logs (p ∷ ps) = logs ps

    one : (b p : ℕ) (c : Bool) → doubts_of (if c then line.Doubt b p (view_of w b p).horizon ∷ [] else []) ≡ (if c then (b, p) ∷ [] else [])
    one b p true = refl
    one b p false = refl

    row : (b : ℕ) (ps : List ℕ) → doubts_of (flat_map (here b) ps) ≡ flat_map (place b) ps
    row b [] = refl
    row b (p ∷ ps) = doubts_append (here b p) (flat_map (here b) ps) ∙ ap₂ (λ x y. x ++ y) (one b p (keeps_horizon net p b)) (row b ps)

    brokers : (bs : List ℕ) → doubts_of (flat_map there bs) ≡ flat_map (λ b. flat_map (place b) (numbers net.publishers)) bs
    brokers [] = refl
    brokers (b ∷ bs) = doubts_append (there b) (flat_map there bs) ∙ ap₂ (λ x y. x ++ y) (row b (numbers net.publishers)) (brokers bs)

-- the places of the doubt lines of each step
lined_doubts : (net : Net) (w : World) (k : ℕ) (s : Step) → IsNet net → WorldFits net w → StepIn net s → doubts_of (next net w (record { number = k; step = s })).lines ≡ doubts_shown net (record { number = k; step = s })
unfolding next_by
lined_doubts net w k (step.Clock now) n f i = refl
lined_doubts net w k (step.Publish p number None e) n f i = plain_none (publish_now net w p number e).lines (publish_now_plain net w p number e)
lined_doubts net w k (step.Publish p number (Some s) e) n f i = plain_none (publish_stopped net w k p number s e).lines (stopped_plain net w k p number s e)
lined_doubts net w k (step.Wake b) n f i = plain_none (wake_all net w b).lines (wake_all_chain net (λ w t. Plain t.lines) w b (plain_chain net) n f i).holds
lined_doubts net w k (step.Deliver j) n f i = go (frame_at w j)
  where
    go : (o : Option Frame) → doubts_of (let t : Transition = elim o [ None ↦ unchanged w (line.RefusedFrame k j (length w.frames) ∷ []) | Some x ↦ deliver_frame net w x ] in t.lines) ≡ []
    go None = refl
    go (Some x) = plain_none (deliver_frame net w x).lines (deliver_plain net w x)
lined_doubts net w k (step.Crash b) n f i = go (not_empty (net.subscribers_at b))
  where
    go : (q : Bool) → doubts_of (let t : Transition = elim q [ true ↦ unchanged w (line.RefusedHosts k b ∷ []) | false ↦ crash net w b ] in t.lines) ≡ []
    go true = refl
    go false = plain_none (crash net w b).lines (crash_plain net w b)
lined_doubts net w k step.Sweep n f i = plain_none (sweep net w k).lines (sweep_plain net w k n f)
lined_doubts net w k step.Show n f i = show_doubts net w
lined_doubts net w k (step.Bytes j) n f i = go (frame_at w j)
  where
    go : (o : Option Frame) → doubts_of (let t : Transition = elim o [ None ↦ unchanged w (line.RefusedFrame k j (length w.frames) ∷ []) | Some x ↦ unchanged w (line.BytesOf j (frame_bytes x) ∷ []) ] in t.lines) ≡ []
    go None = refl
    go (Some x) = refl
lined_doubts net w k (step.Join s p) n f i = plain_none (join_now net w s p).lines (join_now_plain net w s p)

-- the doubt lines of a step are those that its show demands, place by place
pub doubts_stand : (net : Net) (w : World) (l : Line) → IsNet net → WorldFits net w → StepIn net l.step → map doubt_place (filter is_doubt_line (next net w l).lines) ≡ doubts_shown net l
doubts_stand net w l n f i = lined_doubts net w l.number l.step n f i
