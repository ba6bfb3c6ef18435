-- The cut and horizon lines of each step name publishers and subscribers of the topology, and its doubt lines say the horizons
use Rattle.std.proofs.Common.{◌≡◌, ◌<◌, subst, sym, arith, ℕ, suc, max, Bool, true, false, ◌&&◌, List, [], ◌∷◌, ◌-◌, ◌++◌, map, length, set, refl, Option, Some, None}
use Rattle.std.specs.Prelude.{nat_eq, nat_le, nat_lt, if◌then◌else◌, flat_map, filter, get_or}
use Rattle.gr_event.specs.Joins.{Joins, longer}
use Rattle.gr_event.specs.declared.event.Event.{Event}
use Rattle.gr_frame.specs.declared.Body.{Body}
use Rattle.gr_frame.specs.declared.Body.TheVariants as body
use Rattle.gr_frame.specs.declared.Frame.{Frame}
use Rattle.gr_sched.specs.declared.step.Stop.{Stop}
use Rattle.gr_sched.specs.declared.step.Step.{Step}
use Rattle.gr_sched.specs.declared.step.Step.TheVariants as step
use Rattle.gr_sched.specs.declared.step.Line.{Line}
use Rattle.gr_model.specs.declared.report.Report.{Report}
use Rattle.gr_model.specs.declared.report.Report.TheVariants as line
use Rattle.gr_know.specs.Values.{Known}
use Rattle.gr_model.specs.Net.{Net, is_host, keeps_horizon, numbers, not_empty}
use Rattle.gr_model.specs.Broker.{joining, with_joins, drops, View, Log, Outcome, empty_log, is_kept, delivery_lines, got_line, learn, publish, marking, cutting, wake, wake_host, wake_below, asking, curiosity, expect, receive, place_of, with_event, max_tick}
use Rattle.gr_model.specs.World.{join_now_by, World, Transition, view_of, log_of, absorbed, unchanged, followed_by, in_turn, sent_line, sent_lines, frame_at, restarted, crash, sweep_moment, show, opened_lines, kept_events, deliver_frame_by, next_by, publish_now_by, publish_stopped_by, sweep_by, wake_for_by}
use Rattle.gr_model_calls.specs.OneNet.{join_now, wake_for, wake_all, deliver_frame, publish_now, publish_stopped, sweep_for, sweep, next}
use Rattle.gr_frame.specs.Bytes.{frame_bytes}
use Rattle.gr_model.specs.Tree.{IsNet, IsSubscriber}
use Rattle.gr_model_calls.specs.Fits.{WorldFits, StepIn}
use Rattle.gr_model_calls.proofs.calls.HostCases.{joining_cases, publish_cases, marking_cases}
use Rattle.gr_model_calls.proofs.runs.Schedules.{clocked_fits, frame_at_true}
use Rattle.std.specs.List.{list_any}
use Rattle.std.proofs.lemmas.Bool.{eq-eqb, or_left, or_right}
use Rattle.gr_model_calls.proofs.runs.Worlds.{Each, numbers_below}
use Rattle.gr_model_calls.proofs.runs.Chains.{Chains, wake_all_chain, sweeps_chain}
use Rattle.gr_model_theorems.proofs.records.RecordLines.{host_lines}

-- cut and horizon lines name a publisher and a subscriber of the topology, and each doubt line is as G says
abbrev pub Named : Net → (ℕ → ℕ → ℕ → Type 0) → List Report → Type 0
Named net G [] = Unit {0}
Named net G (line.Cut p t ∷ ls) = (p < net.publishers) × Named net G ls
Named net G (line.Horizon s p t ∷ ls) = (IsSubscriber net s × (p < net.publishers)) × Named net G ls
Named net G (line.Doubt b p t ∷ ls) = G b p t × Named net G ls
Named net G (l ∷ ls) = Named net G ls

-- no doubt line
abbrev Never : ℕ → ℕ → ℕ → Type 0
Never b p t = ⊥

-- two lists of lines that name only what the topology has do so together
pub Named-append : (net : Net) (G : ℕ → ℕ → ℕ → Type 0) (xs ys : List Report) → Named net G xs → Named net G ys → Named net G (xs ++ ys)
Named-append net G [] ys a b = b
Named-append net G (line.Cut p t ∷ xs) ys a b = (a.0, Named-append net G xs ys a.1 b)
Named-append net G (line.Horizon s p t ∷ xs) ys a b = (a.0, Named-append net G xs ys a.1 b)
Named-append net G (line.Doubt c p t ∷ xs) ys a b = (a.0, Named-append net G xs ys a.1 b)
Named-append net G (l ∷ xs) ys a b = Named-append net G xs ys a b

-- it holds with a weaker demand on doubt lines too
pub Named-map : (net : Net) (G H : ℕ → ℕ → ℕ → Type 0) (xs : List Report) → ((b p t : ℕ) → G b p t → H b p t) → Named net G xs → Named net H xs
Named-map net G H [] k a = tt
Named-map net G H (line.Cut p t ∷ xs) k a = (a.0, Named-map net G H xs k a.1)
Named-map net G H (line.Horizon s p t ∷ xs) k a = (a.0, Named-map net G H xs k a.1)
Named-map net G H (line.Doubt c p t ∷ xs) k a = (k c p t a.0, Named-map net G H xs k a.1)
Named-map net G H (l ∷ xs) k a = Named-map net G H xs k a

sent_named : (net : Net) (n : ℕ) (fs : List Frame) → Named net Never (sent_lines n fs)
unfolding sent_line
sent_named net n [] = tt
sent_named net n (f ∷ fs) = Named-append net Never (sent_line n f ∷ []) (sent_lines (suc n) fs) (one f.body) (sent_named net (suc n) fs)
  where
    one : (y : Body) → Named net Never ((elim y [ body.Knowledge runs js ↦ line.SentKnow n f.head.from f.head.to f.head.publisher runs js | body.Curiosity runs ↦ line.SentWant n f.head.from f.head.to f.head.publisher runs | body.Expect tick ↦ line.SentExpect n f.head.from f.head.to f.head.publisher tick ]) ∷ [])
    one (body.Knowledge runs js) = tt
    one (body.Curiosity runs) = tt
    one (body.Expect tick) = tt

got_named : (net : Net) (s p : ℕ) (xs : List (ℕ × Event)) → Named net Never (map (got_line s p) xs)
got_named net s p [] = tt
got_named net s p (x ∷ xs) = got_named net s p xs

told_named : (net : Net) (p h h' s : ℕ) (items : List (ℕ × Event)) → IsSubscriber net s → p < net.publishers → Named net Never (delivery_lines net p h h' items s)
unfolding delivery_lines
told_named net p h h' s items y j = go (nat_eq h h')
  where
    go : (c : Bool) → Named net Never (if c then [] else map (got_line s p) (filter (λ x. net.wants p s x.0 x.1) items) ++ line.Horizon s p h' ∷ [])
    go true = tt
    go false = Named-append net Never (map (got_line s p) (filter (λ x. net.wants p s x.0 x.1) items)) (line.Horizon s p h' ∷ []) (got_named net s p (filter (λ x. net.wants p s x.0 x.1) items)) ((y, j), tt)

learn_named : (net : Net) (p b : ℕ) (piece : Known) (v : View) (log : Log) → IsNet net → b < net.brokers → p < net.publishers → Named net Never (learn net p b piece v log).lines
unfolding learn
learn_named net p b piece v log n i j = go _ _ (net.subscribers_at b) (λ s m. here s m)
  where
    here : (s : ℕ) → list_any (λ x. nat_eq x s) (net.subscribers_at b) ≡ true → IsSubscriber net s
    here s m = let e : net.at s ≡ b = n.here_at b s i m in record { at_in = subst (λ z. z < net.brokers) (sym e) i; here = subst (λ z. list_any (λ x. nat_eq x s) (net.subscribers_at z) ≡ true) (sym e) m }

    go : (h : ℕ) (items : List (ℕ × Event)) (xs : List ℕ) → ((s : ℕ) → list_any (λ x. nat_eq x s) xs ≡ true → IsSubscriber net s) → Named net Never (flat_map (delivery_lines net p v.horizon h items) xs)
    go h items [] k = tt
    go h items (x ∷ xs) k = Named-append net Never (delivery_lines net p v.horizon h items x) (flat_map (delivery_lines net p v.horizon h items) xs) (told_named net p v.horizon h x items (k x (or_left (nat_eq x x) (list_any (λ y. nat_eq y x) xs) (eq-eqb x x refl))) j) (go h items xs (λ s m. k s (or_right (nat_eq x s) (list_any (λ y. nat_eq y s) xs) m)))

receive_named : (net : Net) (now : ℕ) (f : Frame) (v : View) (log : Log) → IsNet net → f.head.to < net.brokers → f.head.publisher < net.publishers → Named net Never (receive net now f v log).lines
unfolding receive expect curiosity asking
receive_named net now f v log n i j = go f.body
  where
    learned : (runs : Known) (js : Joins) (c : Bool) → Named net Never (let o : Outcome = elim c [ true ↦ record { view = v; log = log; lines = []; frames = [] } | false ↦ learn net f.head.publisher f.head.to runs (with_joins v (longer v.joins js)) log ] in o.lines)
    learned runs js true = tt
    learned runs js false = learn_named net f.head.publisher f.head.to runs (with_joins v (longer v.joins js)) log n i j

    go : (y : Body) → Named net Never (let o : Outcome = elim y [
      | body.Knowledge runs js ↦ elim (drops v runs js) [ true ↦ record { view = v; log = log; lines = []; frames = [] } | false ↦ learn net f.head.publisher f.head.to runs (with_joins v (longer v.joins js)) log ]
      | body.Curiosity runs ↦ curiosity net f.head.publisher f.head.to now f.head.from (place_of f.head.from (net.children f.head.publisher f.head.to)) runs v log
      | body.Expect tick ↦ expect net f.head.publisher f.head.to now tick v log
    ] in o.lines)
    go (body.Knowledge runs js) = learned runs js (drops v runs js)
    go (body.Curiosity runs) = tt
    go (body.Expect tick) = tt

publish_named : (net : Net) (p b now number : ℕ) (e : Event) (v : View) (log : Log) → IsNet net → b < net.brokers → p < net.publishers → Named net Never (publish net p b now number e v log).lines
publish_named net p b now number e v log n i j = publish_cases net p b now number e v log (λ o. Named net Never o.lines) (λ l. tt) (λ l. tt) (λ x l. tt) (λ x l. learn_named net p b _ v _ n i j)

joining_named : (net : Net) (p b now s : ℕ) (v : View) (log : Log) → IsNet net → b < net.brokers → p < net.publishers → Named net Never (joining net p b now s v log).lines
joining_named net p b now s v log n i j = joining_cases net p b now s v log (λ o. Named net Never o.lines) (λ e. tt) (λ e l. tt) (λ e l. learn_named net p b _ _ _ n i j)

marking_named : (net : Net) (p b now : ℕ) (v : View) (log : Log) → IsNet net → b < net.brokers → p < net.publishers → Named net Never (marking net p b now v log).lines
marking_named net p b now v log n i j = marking_cases net p b now v log (λ o. Named net Never o.lines) (λ e. learn_named net p b _ v _ n i j) (λ e. tt)

wake_named : (net : Net) (p b now : ℕ) (v : View) (log : Log) → IsNet net → b < net.brokers → p < net.publishers → Named net Never (wake net p b now v log).lines
unfolding wake wake_host wake_below asking
wake_named net p b now v log n i j = go (is_host net p b)
  where
    o : Outcome
    o = marking net p b now v log

    new : Log
    new = cutting net p b o.view o.log

    front : (c d e : Bool) → Named net Never (host_lines p now new.cut new.generation c d e)
    front true true true = (j, tt)
    front true true false = (j, tt)
    front true false e = tt
    front false true true = (j, tt)
    front false true false = (j, tt)
    front false false e = tt

    go : (q : Bool) → Named net Never (let u : Outcome = elim q [ true ↦ wake_host net p b now v log | false ↦ wake_below net p b now v log ] in u.lines)
    go true =
        let c = nat_lt log.settled o.log.settled in
        let d = nat_lt o.log.cut new.cut in
        let e = nat_lt o.log.generation new.generation in
        Named-append net Never (host_lines p now new.cut new.generation c d e) o.lines (front c d e) (marking_named net p b now v log n i j)
    go false = tt

absorbed_named : (net : Net) (w : World) (b p : ℕ) (o : Outcome) → Named net Never o.lines → Named net Never (absorbed w b p o).lines
unfolding absorbed
absorbed_named net w b p o a = Named-append net Never o.lines (sent_lines (suc (length w.frames)) o.frames) a (sent_named net (suc (length w.frames)) o.frames)

wake_for_named : (net : Net) (w : World) (b p : ℕ) → IsNet net → b < net.brokers → p < net.publishers → Named net Never (wake_for net w b p).lines
unfolding wake_for_by
wake_for_named net w b p n i j = absorbed_named net w b p (wake net p b w.clock (view_of w b p) (log_of w p)) (wake_named net p b w.clock (view_of w b p) (log_of w p) n i j)

-- the lines of a delivery name only what the topology has, and none is a doubt line
pub deliver_named : (net : Net) (w : World) (x : Frame) → IsNet net → x.head.to < net.brokers → x.head.publisher < net.publishers → Named net Never (deliver_frame net w x).lines
unfolding deliver_frame_by
deliver_named net w x n i j = absorbed_named net w x.head.to x.head.publisher (receive net w.clock x (view_of w x.head.to x.head.publisher) (log_of w x.head.publisher)) (receive_named net w.clock x (view_of w x.head.to x.head.publisher) (log_of w x.head.publisher) n i j)

publish_now_named : (net : Net) (w : World) (p number : ℕ) (e : Event) → IsNet net → p < net.publishers → Named net Never (publish_now net w p number e).lines
unfolding publish_now_by
publish_now_named net w p number e n j = absorbed_named net w (net.host p) p (publish net p (net.host p) w.clock number e (view_of w (net.host p) p) (log_of w p)) (publish_named net p (net.host p) w.clock number e (view_of w (net.host p) p) (log_of w p) n (n.host_in p j) j)

join_now_named : (net : Net) (w : World) (s p : ℕ) → IsNet net → p < net.publishers → Named net Never (join_now net w s p).lines
unfolding join_now_by
join_now_named net w s p n j = absorbed_named net w (net.host p) p (joining net p (net.host p) w.clock s (view_of w (net.host p) p) (log_of w p)) (joining_named net p (net.host p) w.clock s (view_of w (net.host p) p) (log_of w p) n (n.host_in p j) j)

named_chain : (net : Net) → IsNet net → Chains net (λ w t. Named net Never t.lines)
named_chain net n = record {
  nil = λ w f. tt;
  seq = λ w t f g k a x b. Named-append net Never t.lines (f t.world).lines a b;
  wake = λ w b p f i j. wake_for_named net w b p n i j;
  deliver = λ w x f t. deliver_named net w x n t.fits.to_in t.publisher_in;
}

opened_named : (net : Net) (logs : List Log) (b : ℕ) → Named net Never (opened_lines net logs b)
unfolding opened_lines
opened_named net logs b = go (numbers net.publishers)
  where
    one : (p : ℕ) (c : Bool) → Named net Never (let log = get_or logs p empty_log in if c then line.Opened p log.last log.settled log.cut ∷ [] else [])
    one p true = tt
    one p false = tt

    here : ℕ → List Report
    here p = let log = get_or logs p empty_log in if nat_eq (net.host p) b && nat_lt 0 log.settled then line.Opened p log.last log.settled log.cut ∷ [] else []

    go : (ps : List ℕ) → Named net Never (flat_map here ps)
    go [] = tt
    go (p ∷ ps) = Named-append net Never (here p) (flat_map here ps) (one p (nat_eq (net.host p) b && nat_lt 0 (get_or logs p empty_log).settled)) (go ps)

crash_named : (net : Net) (w : World) (b : ℕ) → Named net Never (crash net w b).lines
unfolding crash
crash_named net w b = opened_named net w.logs b

stopped_named : (net : Net) (w : World) (k p number : ℕ) (stop : Stop) (e : Event) → IsNet net → p < net.publishers → Named net Never (publish_stopped net w k p number stop e).lines
unfolding publish_stopped_by
stopped_named net w k p number stop e n j = go (not_empty (net.subscribers_at (net.host p))) (nat_eq number (suc log.last) && nat_le tick max_tick) (is_kept (log.size - 1) stop.call stop.pick)
  where
    log : Log
    log = log_of w p

    tick : ℕ
    tick = max (suc log.settled) w.clock

    told_by : Bool → Transition
    told_by q =
        let logs : List Log = if q then set w.logs p (with_event log tick e) else w.logs in
        record {
          world = restarted net (record { clock = w.clock; most = w.most; frames = w.frames; views = w.views; logs = logs }) (net.host p);
          lines = line.Crashed (net.host p) ∷ ((if q then line.Kept p number tick else line.Lost p number tick) ∷ opened_lines net logs (net.host p));
        }

    go : (x y z : Bool) → Named net Never (let t : Transition = elim x [ true ↦ unchanged w (line.RefusedHosts k (net.host p) ∷ []) | false ↦ elim y [ false ↦ publish_now net w p number e | true ↦ told_by z ] ] in t.lines)
    go true y z = tt
    go false false z = publish_now_named net w p number e n j
    go false true true = opened_named net (set w.logs p (with_event log tick e)) (net.host p)
    go false true false = opened_named net w.logs (net.host p)

sweep_named : (net : Net) (w : World) (k : ℕ) → IsNet net → WorldFits net w → Named net Never (sweep net w k).lines
unfolding sweep_by
sweep_named net w k n f = go (nat_lt max_tick m)
  where
    m : ℕ
    m = sweep_moment net w

    u : World
    u = record { clock = m; most = max m w.most; frames = w.frames; views = w.views; logs = w.logs }

    go : (q : Bool) → Named net Never (let t : Transition = elim q [ true ↦ unchanged w (line.RefusedClock k m ∷ []) | false ↦ followed_by (in_turn (sweep_for net) (numbers net.publishers) u) (λ x. unchanged x (line.Swept m ∷ [])) ] in t.lines)
    go true = tt
    go false = Named-append net Never (in_turn (sweep_for net) (numbers net.publishers) u).lines (line.Swept m ∷ []) (sweeps_chain net (λ w t. Named net Never t.lines) u (named_chain net n) n (clocked_fits net w m (max m w.most) f)).holds tt

-- What is shown

-- a doubt line is of a broker that keeps a horizon, and says it
pub record IsShown (net : Net) (w : World) (b p t : ℕ) : Type 0 where
  pub broker : b < net.brokers
  pub publisher : p < net.publishers
  pub keeps : keeps_horizon net p b ≡ true
  pub tick : t ≡ (view_of w b p).horizon

show_named : (net : Net) (w : World) → Named net (IsShown net w) (show net w)
unfolding show
show_named net w = logs (numbers net.publishers)
  where
    log_line : ℕ → Report
    log_line p = let l = log_of w p in line.LogOf p l.last l.settled l.cut (kept_events l)

    here : ℕ → ℕ → List Report
    here b p = if keeps_horizon net p b then line.Doubt b p (view_of w b p).horizon ∷ [] else []

    there : ℕ → List Report
    there b = flat_map (here b) (numbers net.publishers)

    one : (b p : ℕ) → b < net.brokers → p < net.publishers → (c : Bool) → keeps_horizon net p b ≡ c → Named net (IsShown net w) (if c then line.Doubt b p (view_of w b p).horizon ∷ [] else [])
    one b p i j true e = (record { broker = i; publisher = j; keeps = e; tick = refl }, tt)
    one b p i j false e = tt

    row : (b : ℕ) (ps : List ℕ) → b < net.brokers → Each (λ p. p < net.publishers) ps → Named net (IsShown net w) (flat_map (here b) ps)
    row b [] i a = tt
    row b (p ∷ ps) i a = Named-append net (IsShown net w) (here b p) (flat_map (here b) ps) (one b p i a.0 (keeps_horizon net p b) refl) (row b ps i a.1)

    brokers : (bs : List ℕ) → Each (λ b. b < net.brokers) bs → Named net (IsShown net w) (flat_map there bs)
    brokers [] a = tt
    brokers (b ∷ bs) a = Named-append net (IsShown net w) (there b) (flat_map there bs) (row b (numbers net.publishers) a.0 (numbers_below 0 net.publishers net.publishers (omega arith))) (brokers bs a.1)

    logs : (ps : List ℕ) → Named net (IsShown net w) (map log_line ps ++ flat_map there (numbers net.brokers))
    logs [] = brokers (numbers net.brokers) (numbers_below 0 net.brokers net.brokers (omega arith))
    logs (p ∷ ps) = logs ps

-- Every step

never : (net : Net) (w : World) (ls : List Report) → Named net Never ls → Named net (IsShown net w) ls
never net w ls a = Named-map net Never (IsShown net w) ls (λ b p t x. absurd x) a

named_by : (net : Net) (w : World) (k : ℕ) (s : Step) → IsNet net → WorldFits net w → StepIn net s → Named net (IsShown net w) (next net w (record { number = k; step = s })).lines
unfolding next_by
named_by net w k (step.Clock now) n f i = tt
named_by net w k (step.Publish p number None e) n f i = never net w (publish_now net w p number e).lines (publish_now_named net w p number e n i)
named_by net w k (step.Publish p number (Some s) e) n f i = never net w (publish_stopped net w k p number s e).lines (stopped_named net w k p number s e n i)
named_by net w k (step.Wake b) n f i = never net w (wake_all net w b).lines (wake_all_chain net (λ w t. Named net Never t.lines) w b (named_chain net n) n f i).holds
named_by net w k (step.Deliver j) n f i = go (frame_at w j) refl
  where
    go : (o : Option Frame) → frame_at w j ≡ o → Named net (IsShown net w) (let t : Transition = elim o [ None ↦ unchanged w (line.RefusedFrame k j (length w.frames) ∷ []) | Some x ↦ deliver_frame net w x ] in t.lines)
    go None e = tt
    go (Some x) e = let t = frame_at_true net w j x f e in never net w (deliver_frame net w x).lines (deliver_named net w x n t.fits.to_in t.publisher_in)
named_by net w k (step.Crash b) n f i = go (not_empty (net.subscribers_at b))
  where
    go : (q : Bool) → Named net (IsShown net w) (let t : Transition = elim q [ true ↦ unchanged w (line.RefusedHosts k b ∷ []) | false ↦ crash net w b ] in t.lines)
    go true = tt
    go false = never net w (crash net w b).lines (crash_named net w b)
named_by net w k step.Sweep n f i = never net w (sweep net w k).lines (sweep_named net w k n f)
named_by net w k step.Show n f i = show_named net w
named_by net w k (step.Bytes j) n f i = go (frame_at w j)
  where
    go : (o : Option Frame) → Named net (IsShown net w) (let t : Transition = elim o [ None ↦ unchanged w (line.RefusedFrame k j (length w.frames) ∷ []) | Some x ↦ unchanged w (line.BytesOf j (frame_bytes x) ∷ []) ] in t.lines)
    go None = tt
    go (Some x) = tt
named_by net w k (step.Join s p) n f i = never net w (join_now net w s p).lines (join_now_named net w s p n i.1)

-- the lines of each step name only what the topology has, and its doubt lines say the horizons
pub step_named : (net : Net) (w : World) (l : Line) → IsNet net → WorldFits net w → StepIn net l.step → Named net (IsShown net w) (next net w l).lines
step_named net w l n f i = named_by net w l.number l.step n f i
