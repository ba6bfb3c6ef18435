-- No ask has a moment past the greatest that the clock had, and a host has no ask
use Rattle.std.proofs.Common.{◌≡◌, ◌≢◌, inl, inr, ℕ, suc, ◌+◌, ◌-◌, ◌≤◌, ◌<◌, max, Bool, true, false, ◌&&◌, ◌||◌, List, [], ◌∷◌, ◌++◌, map, length, set, get_or, refl, sym, ap, ◌∙◌, subst, Option, Some, None, arith, le_trans, le_refl}
use Rattle.std.specs.Prelude.{nat_eq, nat_le, nat_lt, if◌then◌else◌}
use Rattle.std.specs.List.{list_any}
use Rattle.std.proofs.lemmas.Bool.{cases_eq, false≢true, eq-eqb, or_left, or_right}
use Rattle.std.proofs.lemmas.List.{get_or-set_other, get_or-set_same}
use Rattle.gr_event.specs.declared.event.Event.{Event}
use Rattle.gr_tick.specs.declared.run.Run.{Run}
use Rattle.gr_frame.specs.declared.Body.{Body}
use Rattle.gr_frame.specs.declared.Body.TheVariants as body
use Rattle.gr_frame.specs.declared.Frame.{Frame}
use Rattle.gr_sched.specs.declared.step.Line.{Line}
use Rattle.gr_tick.specs.Runs.{value_at, put_on, put, tabulate_from, tabulate_sorted, tabulate, sorted, points}
use Rattle.gr_know.specs.Values.{Known, known_at, is_Q}
use Rattle.gr_curio.specs.Values.{Wanted, Asked, wanted_at, asked_at, is_C, same_moment}
use Rattle.gr_event.specs.Joins.{Joins, longer}
use Rattle.gr_model.specs.Net.{Net, is_host, keeps_horizon, numbers}
use Rattle.gr_model.specs.Broker.{with_joins, drops, joining, View, Log, Outcome, know_frames, want_frames, expect_frame, all_points, any_C, consolidated, finished, is_F, open_asks, kept_view, kept_view_below, forward, new_ticks, forward_frames, learn, due, noted, up_frames, asking, answers, stored, acknowledged, curiosity, wake_below, wanted_at_wake, expect, expect_frames, covers, place_of, publish, silence, with_mark, marking, cutting, wake_host, wake, receive, empty_log, started, head}
use Rattle.gr_frame.specs.Bytes.{head_size, known_run_size, wanted_run_size, cut_frames}
use Rattle.gr_model.specs.World.{join_now_by, World, blank_view, view_of, log_of, with_view, absorbed, restarted, start, start_by, deliver_frame_by, publish_now_by, wake_for_by}
use Rattle.gr_model_calls.specs.OneNet.{join_now, wake_for, deliver_frame, publish_now, run_all}
use Rattle.gr_model.specs.Tree.{IsNet}
use Rattle.gr_model_calls.specs.Fits.{BodyFits, WorldFits, FrameTrue, StepsIn}
use Rattle.gr_model_calls.proofs.calls.HostCases.{joining_cases, publish_cases, marking_cases}
use Rattle.gr_model_calls.proofs.calls.Calls.{trimmed_host}
use Rattle.gr_model_calls.proofs.runs.Worlds.{Each}
use Rattle.gr_model_calls.proofs.runs.Schedules.{get_numbers}
use Rattle.gr_model_calls.proofs.runs.Closed.{clocked, with_logs, IsClosed, holds_always}
use Rattle.gr_curio.specs.declared.asks.Moment.TheVariants.{Never, At}
use Rattle.gr_curio.specs.declared.asks.Moment.{Moment}

-- Values of runs

-- a property of the value of each run
abbrev pub AllValues : {V : Type 0} → (V → Type 0) → List (Run V) → Type 0
AllValues P [] = Unit {0}
AllValues P (r ∷ rs) = P r.value × AllValues P rs

-- what holds of the value of each run, and of the value between runs, holds of the value at every tick
pub value_at-all : {V : Type 0} (bottom : V) (P : V → Type 0) (rs : List (Run V)) (t : ℕ) → P bottom → AllValues P rs → P (value_at bottom rs t)
value_at-all bottom P [] t b a = b
value_at-all bottom P (r ∷ rs) t b a = go (nat_le r.first t && nat_le t r.last) (value_at-all bottom P rs t b a.1)
  where
    go : (q : Bool) → P (value_at bottom rs t) → P (if q then r.value else value_at bottom rs t)
    go true x = a.0
    go false x = x

put_on-all : {V : Type 0} (same : V → V → Bool) (P : V → Type 0) (first last : ℕ) (v : V) (rs : List (Run V)) → P v → AllValues P rs → AllValues P (put_on same first last v rs)
put_on-all same P first last v [] h a = (h, tt)
put_on-all {V} same P first last v (r ∷ rs) h a = go (nat_eq r.first (suc last) && same r.value v)
  where
    go : (q : Bool) → AllValues P (if q then record { first = first; last = r.last; value = v } ∷ rs else record { first = first; last = last; value = v } ∷ (r ∷ rs))
    go true = (h, a.1)
    go false = (h, a)

put-all : {V : Type 0} (bottom : V) (same : V → V → Bool) (P : V → Type 0) (first last : ℕ) (v : V) (rs : List (Run V)) → P v → AllValues P rs → AllValues P (put bottom same first last v rs)
put-all {V} bottom same P first last v rs h a = go (same v bottom)
  where
    go : (q : Bool) → AllValues P (if q then rs else put_on same first last v rs)
    go true = a
    go false = put_on-all same P first last v rs h a

tabulate_from-all : {V : Type 0} (bottom : V) (same : V → V → Bool) (P : V → Type 0) (g : ℕ → V) (p : ℕ) (qs : List ℕ) → ((t : ℕ) → P (g t)) → AllValues P (tabulate_from bottom same g p qs)
tabulate_from-all bottom same P g p [] h = tt
tabulate_from-all bottom same P g p (q ∷ qs) h = put-all bottom same P p (q - 1) (g p) (tabulate_from bottom same g q qs) (h p) (tabulate_from-all bottom same P g q qs h)

pub tabulate-all : {V : Type 0} (bottom : V) (same : V → V → Bool) (P : V → Type 0) (g : ℕ → V) (ps : List ℕ) → ((t : ℕ) → P (g t)) → AllValues P (tabulate bottom same g ps)
tabulate-all {V} bottom same P g ps h = go (sorted ps)
  where
    go : (qs : List ℕ) → AllValues P (tabulate_sorted bottom same g qs)
    go [] = tt
    go (q ∷ qs) = tabulate_from-all bottom same P g q qs h

-- a weaker property holds of the value of each run too
pub AllValues-on : {V : Type 0} (P R : V → Type 0) (rs : List (Run V)) → ((v : V) → P v → R v) → AllValues P rs → AllValues R rs
AllValues-on P R [] f a = tt
AllValues-on P R (r ∷ rs) f a = (f r.value a.0, AllValues-on P R rs f a.1)

-- Asks up to a moment

-- the moment of an ask is at most m, or it was never asked
abbrev pub IsUpto : ℕ → Moment → Type 0
IsUpto m Never = Unit {0}
IsUpto m (At k) = k ≤ m

-- no tick was asked at a moment past m
abbrev pub AsksUpto : ℕ → Asked → Type 0
AsksUpto m asks = AllValues (IsUpto m) asks

IsUpto-on : (m n : ℕ) (v : Moment) → m ≤ n → IsUpto m v → IsUpto n v
IsUpto-on m n Never h k = tt
IsUpto-on m n (At x) h k = le_trans k h

-- where no ask is past m, a tick that was asked was asked at m or before
pub asked_upto : (m t k : ℕ) (asks : Asked) → AsksUpto m asks → asked_at asks t ≡ At k → k ≤ m
asked_upto m t k asks a e = subst (IsUpto m) e (value_at-all Never (IsUpto m) asks t tt a)

noted_all : (P : Moment → Type 0) (now : ℕ) (asks : Asked) (asked : Wanted) → P Never → P (At now) → AllValues P asks → AllValues P (noted now asks asked)
unfolding noted
noted_all P now asks asked z h a = tabulate-all Never same_moment P (λ t. if is_C (wanted_at asked t) then At now else asked_at asks t) (points asks ++ points asked) (λ t. go (is_C (wanted_at asked t)) (asked_at asks t) (value_at-all Never P asks t z a))
  where
    go : (q : Bool) (v : Moment) → P v → P (if q then At now else v)
    go true v k = h
    go false v k = k

noted_none : (now : ℕ) (asks : Asked) → asks ≡ [] → noted now asks [] ≡ []
unfolding noted
noted_none now asks e = subst (λ a. noted now a [] ≡ []) (sym e) refl

open_all : (P : Moment → Type 0) (know : Known) (asks : Asked) → P Never → AllValues P asks → AllValues P (open_asks know asks)
unfolding open_asks
open_all P know asks z a = tabulate-all Never same_moment P (λ t. if is_F (known_at know t) then Never else asked_at asks t) (points asks ++ points know) (λ t. go (is_F (known_at know t)) (asked_at asks t) (value_at-all Never P asks t z a))
  where
    go : (q : Bool) (v : Moment) → P v → P (if q then Never else v)
    go true v k = z
    go false v k = k

-- what a call leaves of the asks
pub record KeepsAsks (net : Net) (p b now : ℕ) (v : View) (o : Outcome) : Type 1 where
  pub all : (P : Moment → Type 0) → P Never → P (At now) → AllValues P v.asks → AllValues P o.view.asks
  pub host : is_host net p b ≡ true → v.asks ≡ [] → o.view.asks ≡ []

same_asks : (net : Net) (p b now : ℕ) (v : View) (o : Outcome) → o.view.asks ≡ v.asks → KeepsAsks net p b now v o
same_asks net p b now v o e = record { all = λ P z h a. subst (AllValues P) (sym e) a; host = λ h x. e ∙ x }

-- another outcome with the same asks
of_view : (net : Net) (p b now : ℕ) (v : View) (o u : Outcome) → u.view.asks ≡ o.view.asks → KeepsAsks net p b now v o → KeepsAsks net p b now v u
of_view net p b now v o u e k = record { all = λ P z h a. subst (AllValues P) (sym e) (k.all P z h a); host = λ h x. e ∙ k.host h x }

-- forgetting adds no moment
trimmed_all : (net : Net) (p b : ℕ) (v : View) (P : Moment → Type 0) → P Never → AllValues P v.asks → AllValues P (kept_view net p b v).asks
unfolding kept_view
trimmed_all net p b v P z a = go (is_host net p b)
  where
    less : View
    less = kept_view_below net p b v

    go : (q : Bool) → (let u : View = elim q [ true ↦ v | false ↦ less ] in AllValues P u.asks)
    go true = a
    go false = open_all P less.know v.asks z a

trimmed_none : (net : Net) (p b : ℕ) (v : View) → is_host net p b ≡ true → (kept_view net p b v).asks ≡ v.asks
trimmed_none net p b v h = ap (λ u. u.asks) (trimmed_host net p b v h)

-- learning adds no moment
pub learn_asks : (net : Net) (p b now : ℕ) (piece : Known) (v : View) (log : Log) → KeepsAsks net p b now v (learn net p b piece v log)
unfolding learn
learn_asks net p b now piece v log = record { all = λ P z h a. trimmed_all net p b _ P z a; host = λ h e. trimmed_none net p b _ h ∙ e }

asking_all : (net : Net) (p b now : ℕ) (wanted : ℕ → Bool) (ps : List ℕ) (v : View) (log : Log) (P : Moment → Type 0) → P Never → P (At now) → AllValues P v.asks → AllValues P (asking net p b now wanted ps v log).view.asks
unfolding asking
asking_all net p b now wanted ps v log P z h a = trimmed_all net p b _ P z (noted_all P now v.asks (due now net.retry v.know v.asks wanted ps) z h a)

curiosity_asks : (net : Net) (p b now c i : ℕ) (piece : Wanted) (v : View) (log : Log) → KeepsAsks net p b now v (curiosity net p b now c i piece v log)
unfolding curiosity
curiosity_asks net p b now c i piece v log =
    record {
      all = λ P z h a. trimmed_all net p b _ P z (noted_all P now v.asks (asked (is_host net p b)) z h a);
      host = λ h e. trimmed_none net p b _ h ∙ (ap (λ q. noted now v.asks (asked q)) h ∙ noted_none now v.asks e);
    }
  where
    w : Wanted
    w = acknowledged (get_or v.wants i []) piece

    reply : Known
    reply = answers net p c v.know w piece

    know : Known
    know = finished v.know (consolidated (keeps_horizon net p b) v.horizon (set v.wants i (stored v.know w piece)))

    asked : Bool → Wanted
    asked q = elim q [ true ↦ [] | false ↦ due now net.retry know v.asks (λ t. is_C (wanted_at piece t) && is_Q (known_at reply t)) (points piece ++ points reply) ]

marking_asks : (net : Net) (p b now : ℕ) (v : View) (log : Log) → KeepsAsks net p b now v (marking net p b now v log)
marking_asks net p b now v log = record {
  all = λ P z h a. marking_cases net p b now v log (λ o. AllValues P o.view.asks) (λ e. (learn_asks net p b now _ v _).all P z h a) (λ e. a);
  host = λ h x. marking_cases net p b now v log (λ o. o.view.asks ≡ []) (λ e. (learn_asks net p b now _ v _).host h x) (λ e. x);
}

-- a wake leaves each ask, drops it, or makes it of now; and gives a host none
pub wake_asks : (net : Net) (p b now : ℕ) (v : View) (log : Log) → KeepsAsks net p b now v (wake net p b now v log)
unfolding wake wake_host wake_below
wake_asks net p b now v log = go (is_host net p b) refl
  where
    go : (q : Bool) → is_host net p b ≡ q → KeepsAsks net p b now v (elim q [ true ↦ wake_host net p b now v log | false ↦ wake_below net p b now v log ])
    go true e = of_view net p b now v (marking net p b now v log) (wake_host net p b now v log) refl (marking_asks net p b now v log)
    go false e = record {
      all = λ P z h a. asking_all net p b now (wanted_at_wake net (keeps_horizon net p b) now v) _ v log P z h a;
      host = λ h x. absurd (false≢true (sym e ∙ h));
    }

expect_all : (net : Net) (p b now tick : ℕ) (v : View) (log : Log) (P : Moment → Type 0) → P Never → P (At now) → AllValues P v.asks → AllValues P (expect net p b now tick v log).view.asks
unfolding expect
expect_all net p b now tick v log P z h a = asking_all net p b now (λ t. any_C v.wants t || (keeps_horizon net p b && nat_lt v.horizon t && nat_le t tick)) (all_points v.wants ++ (suc v.horizon ∷ (suc tick ∷ []))) v log P z h a

-- knowledge, and what to expect, go to a broker that is not the host
abbrev pub ExpectBody : Net → ℕ → ℕ → Body → Type 0
ExpectBody net p to (body.Curiosity runs) = Unit {0}
ExpectBody net p to _ = is_host net p to ≡ false

-- a frame of knowledge, or of what to expect, goes to a broker that is not the host
abbrev pub ExpectFits : Net → Frame → Type 0
ExpectFits net f = ExpectBody net f.head.publisher f.head.to f.body

-- receiving a frame leaves each ask, drops it, or makes it of now; and gives a host none
pub receive_asks : (net : Net) (now : ℕ) (f : Frame) (v : View) (log : Log) → ExpectFits net f → KeepsAsks net f.head.publisher f.head.to now v (receive net now f v log)
unfolding receive
receive_asks net now f v log = go f.body
  where
    learned : (runs : Known) (js : Joins) (q : Bool) → KeepsAsks net f.head.publisher f.head.to now v (elim q [ true ↦ record { view = v; log = log; lines = []; frames = [] } | false ↦ learn net f.head.publisher f.head.to runs (with_joins v (longer v.joins js)) log ])
    learned runs js true = same_asks net f.head.publisher f.head.to now v (record { view = v; log = log; lines = []; frames = [] }) refl
    learned runs js false = let x = learn_asks net f.head.publisher f.head.to now runs (with_joins v (longer v.joins js)) log in record { all = x.all; host = x.host }

    go : (y : Body) → ExpectBody net f.head.publisher f.head.to y → KeepsAsks net f.head.publisher f.head.to now v (elim y [
      | body.Knowledge runs js ↦ elim (drops v runs js) [ true ↦ record { view = v; log = log; lines = []; frames = [] } | false ↦ learn net f.head.publisher f.head.to runs (with_joins v (longer v.joins js)) log ]
      | body.Curiosity runs ↦ curiosity net f.head.publisher f.head.to now f.head.from (place_of f.head.from (net.children f.head.publisher f.head.to)) runs v log
      | body.Expect tick ↦ expect net f.head.publisher f.head.to now tick v log
    ])
    go (body.Knowledge runs js) h = learned runs js (drops v runs js)
    go (body.Curiosity runs) h = curiosity_asks net f.head.publisher f.head.to now f.head.from (place_of f.head.from (net.children f.head.publisher f.head.to)) runs v log
    go (body.Expect tick) h = record { all = λ P z x a. expect_all net f.head.publisher f.head.to now tick v log P z x a; host = λ e x. absurd (false≢true (sym h ∙ e)) }

publish_asks : (net : Net) (p b now number : ℕ) (e : Event) (v : View) (log : Log) → KeepsAsks net p b now v (publish net p b now number e v log)
publish_asks net p b now number e v log = record {
  all = λ P z h a. publish_cases net p b now number e v log (λ o. AllValues P o.view.asks) (λ l. a) (λ l. a) (λ x l. a) (λ x l. (learn_asks net p b now _ v _).all P z h a);
  host = λ h x. publish_cases net p b now number e v log (λ o. o.view.asks ≡ []) (λ l. x) (λ l. x) (λ y l. x) (λ y l. (learn_asks net p b now _ v _).host h x);
}

joining_asks : (net : Net) (p b now s : ℕ) (v : View) (log : Log) → KeepsAsks net p b now v (joining net p b now s v log)
joining_asks net p b now s v log = record {
  all = λ P z h a. joining_cases net p b now s v log (λ o. AllValues P o.view.asks) (λ e. a) (λ e l. a) (λ e l. (learn_asks net p b now _ _ _).all P z h a);
  host = λ h x. joining_cases net p b now s v log (λ o. o.view.asks ≡ []) (λ e. x) (λ e l. x) (λ e l. (learn_asks net p b now _ _ _).host h x);
}

-- Frames of a call

-- what holds of each of two lists holds of each of the joined list
pub Each-on : {X : Type 0} (P : X → Type 0) (xs ys : List X) → Each P xs → Each P ys → Each P (xs ++ ys)
Each-on P [] ys a b = b
Each-on P (x ∷ xs) ys a b = (a.0, Each-on P xs ys a.1 b)

know_frames_fit : (js : Joins) (net : Net) (from to p : ℕ) (runs : Known) → is_host net p to ≡ false → Each (ExpectFits net) (know_frames js from to p runs)
know_frames_fit js net from to p runs h = go (cut_frames (head_size js) known_run_size runs)
  where
    go : (parts : List Known) → Each (ExpectFits net) (map (λ part. record { head = head from to p; body = body.Knowledge part js }) parts)
    go [] = tt
    go (x ∷ xs) = (h, go xs)

up_frames_fit : (net : Net) (p b : ℕ) (runs : Wanted) → Each (ExpectFits net) (up_frames net p b runs)
up_frames_fit net p b runs = at (net.up p b)
  where
    go : (u : ℕ) (parts : List Wanted) → Each (ExpectFits net) (map (λ part. record { head = head b u p; body = body.Curiosity part }) parts)
    go u [] = tt
    go u (x ∷ xs) = (tt, go u xs)

    at : (u : Option ℕ) → Each (ExpectFits net) (elim u [ Some u ↦ want_frames b u p runs | None ↦ [] ])
    at None = tt
    at (Some u) = go u (cut_frames 12 wanted_run_size runs)

forward_frames_fit : (js : Joins) (net : Net) (p b : ℕ) (new : Known) (cs : List ℕ) (ws : List Wanted) → ((c : ℕ) → list_any (λ x. nat_eq x c) cs ≡ true → is_host net p c ≡ false) → Each (ExpectFits net) (forward_frames js net p b new cs ws)
forward_frames_fit js net p b new [] ws h = tt
forward_frames_fit js net p b new (c ∷ cs) [] h = tt
forward_frames_fit js net p b new (c ∷ cs) (w ∷ ws) h = Each-on (ExpectFits net) (know_frames js b c p (forward net p c w new)) (forward_frames js net p b new cs ws) (know_frames_fit js net b c p (forward net p c w new) (h c (or_left (nat_eq c c) (list_any (λ x. nat_eq x c) cs) (eq-eqb c c refl)))) (forward_frames_fit js net p b new cs ws (λ d m. h d (or_right (nat_eq c d) (list_any (λ x. nat_eq x d) cs) m)))

expect_frames_fit : (net : Net) (p b tick : ℕ) (cs : List ℕ) (ws : List Wanted) → ((c : ℕ) → list_any (λ x. nat_eq x c) cs ≡ true → is_host net p c ≡ false) → Each (ExpectFits net) (expect_frames p b tick cs ws)
expect_frames_fit net p b tick [] ws h = tt
expect_frames_fit net p b tick (c ∷ cs) [] h = tt
expect_frames_fit net p b tick (c ∷ cs) (w ∷ ws) h = Each-on (ExpectFits net) (if covers w tick then [] else expect_frame b c p tick ∷ []) (expect_frames p b tick cs ws) (go (covers w tick)) (expect_frames_fit net p b tick cs ws (λ d m. h d (or_right (nat_eq c d) (list_any (λ x. nat_eq x d) cs) m)))
  where
    go : (q : Bool) → Each (ExpectFits net) (if q then [] else expect_frame b c p tick ∷ [])
    go true = tt
    go false = (h c (or_left (nat_eq c c) (list_any (λ x. nat_eq x c) cs) (eq-eqb c c refl)), tt)

learn_frames_fit : (net : Net) (p b : ℕ) (piece : Known) (v : View) (log : Log) → ((c : ℕ) → list_any (λ x. nat_eq x c) (net.children p b) ≡ true → is_host net p c ≡ false) → Each (ExpectFits net) (learn net p b piece v log).frames
unfolding learn
learn_frames_fit net p b piece v log h = forward_frames_fit v.joins net p b (new_ticks v.know piece) (net.children p b) v.wants h

asking_frames_fit : (net : Net) (p b now : ℕ) (wanted : ℕ → Bool) (ps : List ℕ) (v : View) (log : Log) → Each (ExpectFits net) (asking net p b now wanted ps v log).frames
unfolding asking
asking_frames_fit net p b now wanted ps v log = up_frames_fit net p b _

curiosity_frames_fit : (net : Net) (p b now c i : ℕ) (piece : Wanted) (v : View) (log : Log) → is_host net p c ≡ false → Each (ExpectFits net) (curiosity net p b now c i piece v log).frames
unfolding curiosity
curiosity_frames_fit net p b now c i piece v log h = Each-on (ExpectFits net) _ _ (know_frames_fit v.joins net b c p _ h) (up_frames_fit net p b _)

expect_call_frames_fit : (net : Net) (p b now tick : ℕ) (v : View) (log : Log) → ((c : ℕ) → list_any (λ x. nat_eq x c) (net.children p b) ≡ true → is_host net p c ≡ false) → Each (ExpectFits net) (expect net p b now tick v log).frames
unfolding expect
expect_call_frames_fit net p b now tick v log h = Each-on (ExpectFits net) _ _ (asking_frames_fit net p b now _ _ v log) (expect_frames_fit net p b tick (net.children p b) v.wants h)

marking_frames_fit : (net : Net) (p b now : ℕ) (v : View) (log : Log) → ((c : ℕ) → list_any (λ x. nat_eq x c) (net.children p b) ≡ true → is_host net p c ≡ false) → Each (ExpectFits net) (marking net p b now v log).frames
marking_frames_fit net p b now v log h = marking_cases net p b now v log (λ o. Each (ExpectFits net) o.frames) (λ e. learn_frames_fit net p b (silence (suc log.settled) now []) v (with_mark log now) h) (λ e. tt)

-- a wake sends knowledge, and what to expect, to brokers below the host only
pub wake_frames_fit : (net : Net) (p b now : ℕ) (v : View) (log : Log) → ((c : ℕ) → list_any (λ x. nat_eq x c) (net.children p b) ≡ true → is_host net p c ≡ false) → Each (ExpectFits net) (wake net p b now v log).frames
unfolding wake wake_host wake_below
wake_frames_fit net p b now v log h = go (is_host net p b)
  where
    o : Outcome
    o = marking net p b now v log

    more : (q : Bool) (tick : ℕ) → Each (ExpectFits net) (if q then expect_frames p b tick (net.children p b) o.view.wants else [])
    more true tick = expect_frames_fit net p b tick (net.children p b) o.view.wants h
    more false tick = tt

    go : (q : Bool) → Each (ExpectFits net) (let x : Outcome = elim q [ true ↦ wake_host net p b now v log | false ↦ wake_below net p b now v log ] in x.frames)
    go true = Each-on (ExpectFits net) o.frames _ (marking_frames_fit net p b now v log h) (more (nat_lt 0 (cutting net p b o.view o.log).settled) (cutting net p b o.view o.log).settled)
    go false = asking_frames_fit net p b now _ _ v log

-- receiving a frame sends knowledge, and what to expect, to brokers below the host only
pub receive_frames_fit : (net : Net) (now : ℕ) (f : Frame) (v : View) (log : Log) → ((c : ℕ) → list_any (λ x. nat_eq x c) (net.children f.head.publisher f.head.to) ≡ true → is_host net f.head.publisher c ≡ false) → BodyFits net f.head.publisher f.head.from f.head.to f.body → Each (ExpectFits net) (receive net now f v log).frames
unfolding receive
receive_frames_fit net now f v log h fits = go f.body fits
  where
    learned : (runs : Known) (js : Joins) (q : Bool) → Each (ExpectFits net) (let o : Outcome = elim q [ true ↦ record { view = v; log = log; lines = []; frames = [] } | false ↦ learn net f.head.publisher f.head.to runs (with_joins v (longer v.joins js)) log ] in o.frames)
    learned runs js true = tt
    learned runs js false = learn_frames_fit net f.head.publisher f.head.to runs (with_joins v (longer v.joins js)) log h

    go : (y : Body) → BodyFits net f.head.publisher f.head.from f.head.to y → Each (ExpectFits net) (let o : Outcome = elim y [
      | body.Knowledge runs js ↦ elim (drops v runs js) [ true ↦ record { view = v; log = log; lines = []; frames = [] } | false ↦ learn net f.head.publisher f.head.to runs (with_joins v (longer v.joins js)) log ]
      | body.Curiosity runs ↦ curiosity net f.head.publisher f.head.to now f.head.from (place_of f.head.from (net.children f.head.publisher f.head.to)) runs v log
      | body.Expect tick ↦ expect net f.head.publisher f.head.to now tick v log
    ] in o.frames)
    go (body.Knowledge runs js) m = learned runs js (drops v runs js)
    go (body.Curiosity runs) m = curiosity_frames_fit net f.head.publisher f.head.to now f.head.from (place_of f.head.from (net.children f.head.publisher f.head.to)) runs v log (h f.head.from m)
    go (body.Expect tick) m = expect_call_frames_fit net f.head.publisher f.head.to now tick v log h

publish_frames_fit : (net : Net) (p b now number : ℕ) (e : Event) (v : View) (log : Log) → ((c : ℕ) → list_any (λ x. nat_eq x c) (net.children p b) ≡ true → is_host net p c ≡ false) → Each (ExpectFits net) (publish net p b now number e v log).frames
publish_frames_fit net p b now number e v log h = publish_cases net p b now number e v log (λ o. Each (ExpectFits net) o.frames) (λ l. tt) (λ l. tt) (λ x l. tt) (λ x l. learn_frames_fit net p b _ v _ h)

joining_frames_fit : (net : Net) (p b now s : ℕ) (v : View) (log : Log) → ((c : ℕ) → list_any (λ x. nat_eq x c) (net.children p b) ≡ true → is_host net p c ≡ false) → Each (ExpectFits net) (joining net p b now s v log).frames
joining_frames_fit net p b now s v log h = joining_cases net p b now s v log (λ o. Each (ExpectFits net) o.frames) (λ e. tt) (λ e l. tt) (λ e l. learn_frames_fit net p b _ _ _ h)

-- Worlds

-- no ask is past the greatest moment, nor is the clock; a host has no ask
pub record AsksFit (net : Net) (w : World) : Type 0 where
  pub clock : w.clock ≤ w.most
  pub upto : (p b : ℕ) → p < net.publishers → b < net.brokers → AsksUpto w.most (view_of w b p).asks
  pub host : (p : ℕ) → p < net.publishers → (view_of w (net.host p) p).asks ≡ []
  pub sent : Each (ExpectFits net) w.frames

-- what a call of broker b for publisher p changes of the views
pub record Taken (net : Net) (w u : World) (b p : ℕ) (o : Outcome) : Type 0 where
  pub view : view_of u b p ≡ o.view
  pub log : log_of u p ≡ o.log
  pub other : (c q : ℕ) → (c ≢ b) → view_of u c q ≡ view_of w c q
  pub other_publisher : (c q : ℕ) → (q ≢ p) → view_of u c q ≡ view_of w c q
  pub other_log : (q : ℕ) → (q ≢ p) → log_of u q ≡ log_of w q
  pub frames : u.frames ≡ w.frames ++ o.frames
  pub clock : u.clock ≡ w.clock
  pub most : u.most ≡ w.most

-- putting an outcome in place changes the one view, and the one log, that the call is of
pub absorbed_taken : (net : Net) (w : World) (b p : ℕ) (o : Outcome) → WorldFits net w → b < net.brokers → p < net.publishers → Taken net w (absorbed w b p o).world b p o
unfolding absorbed
absorbed_taken net w b p o f i j =
    let h : b < length w.views = omega (arith, f.views_long) in
    let k : p < length (get_or w.views b []) = omega (arith, f.rows_long b i) in
    let row = set (get_or w.views b []) p o.view in
    let here = get_or-set_same w.views b row [] h in
    record {
      view = ap (λ r. get_or r p blank_view) here ∙ get_or-set_same (get_or w.views b []) p o.view blank_view k;
      log = get_or-set_same w.logs p o.log empty_log (omega (arith, f.logs_long));
      other = λ c q n. ap (λ r. get_or r q blank_view) (get_or-set_other w.views b c row [] n);
      other_publisher = λ c q n. elim (cases_eq c b) [
        | inl e ↦ subst (λ x. get_or (get_or (with_view w.views b p o.view) x []) q blank_view ≡ get_or (get_or w.views x []) q blank_view) (sym e) (ap (λ r. get_or r q blank_view) here ∙ get_or-set_other (get_or w.views b []) p q o.view blank_view n)
        | inr e ↦ ap (λ r. get_or r q blank_view) (get_or-set_other w.views b c row [] e)
      ];
      other_log = λ q n. get_or-set_other w.logs p q o.log empty_log n;
      frames = refl;
      clock = refl;
      most = refl;
    }

taken_asks : (net : Net) (w u : World) (b p : ℕ) (o : Outcome) → b < net.brokers → p < net.publishers → Taken net w u b p o → KeepsAsks net p b w.clock (view_of w b p) o → Each (ExpectFits net) o.frames → AsksFit net w → AsksFit net u
taken_asks net w u b p o i j t k fits a = record {
  clock = subst (λ x. x ≤ u.most) (sym t.clock) (subst (λ x. w.clock ≤ x) (sym t.most) a.clock);
  upto = λ q c x y. subst (λ m. AsksUpto m (view_of u c q).asks) (sym t.most) (elim (cases_eq q p) [
    | inl e ↦ elim (cases_eq c b) [
      | inl g ↦ subst (λ z. AsksUpto w.most (view_of u c z).asks) (sym e) (subst (λ z. AsksUpto w.most (view_of u z p).asks) (sym g) (subst (λ v. AsksUpto w.most v.asks) (sym t.view) (k.all (IsUpto w.most) tt a.clock (a.upto p b j i))))
      | inr g ↦ subst (λ v. AsksUpto w.most v.asks) (sym (t.other c q g)) (a.upto q c x y)
    ]
    | inr e ↦ subst (λ v. AsksUpto w.most v.asks) (sym (t.other_publisher c q e)) (a.upto q c x y)
  ]);
  host = λ q x. elim (cases_eq q p) [
    | inl e ↦ subst (λ z. (view_of u (net.host z) z).asks ≡ []) (sym e) (elim (cases_eq (net.host p) b) [
      | inl g ↦ subst (λ z. (view_of u z p).asks ≡ []) (sym g) (ap (λ v. v.asks) t.view ∙ k.host (eq-eqb (net.host p) b g) (subst (λ z. (view_of w z p).asks ≡ []) g (a.host p j)))
      | inr g ↦ ap (λ v. v.asks) (t.other (net.host p) p g) ∙ a.host p j
    ])
    | inr e ↦ ap (λ v. v.asks) (t.other_publisher (net.host q) q e) ∙ a.host q x
  ];
  sent = subst (Each (ExpectFits net)) (sym t.frames) (Each-on (ExpectFits net) w.frames o.frames a.sent fits);
}

wake_for_asks : (net : Net) → IsNet net → (w : World) (b p : ℕ) → WorldFits net w → b < net.brokers → p < net.publishers → AsksFit net w → AsksFit net (wake_for net w b p).world
unfolding wake_for_by
wake_for_asks net n w b p f i j a =
    let o = wake net p b w.clock (view_of w b p) (log_of w p) in
    taken_asks net w (absorbed w b p o).world b p o i j (absorbed_taken net w b p o f i j) (wake_asks net p b w.clock (view_of w b p) (log_of w p)) (wake_frames_fit net p b w.clock (view_of w b p) (log_of w p) (λ c m. (n.place p b j i).child_not_host c m)) a

deliver_asks : (net : Net) → IsNet net → (w : World) (x : Frame) → WorldFits net w → FrameTrue net w x → ExpectFits net x → AsksFit net w → AsksFit net (deliver_frame net w x).world
unfolding deliver_frame_by
deliver_asks net n w x f t r a =
    let o = receive net w.clock x (view_of w x.head.to x.head.publisher) (log_of w x.head.publisher) in
    taken_asks net w (absorbed w x.head.to x.head.publisher o).world x.head.to x.head.publisher o t.fits.to_in t.publisher_in (absorbed_taken net w x.head.to x.head.publisher o f t.fits.to_in t.publisher_in) (receive_asks net w.clock x (view_of w x.head.to x.head.publisher) (log_of w x.head.publisher) r)
    (receive_frames_fit net w.clock x (view_of w x.head.to x.head.publisher) (log_of w x.head.publisher) (λ c m. (n.place x.head.publisher x.head.to t.publisher_in t.fits.to_in).child_not_host c m) t.fits.body) a

publish_now_asks : (net : Net) → IsNet net → (w : World) (p number : ℕ) (e : Event) → WorldFits net w → p < net.publishers → AsksFit net w → AsksFit net (publish_now net w p number e).world
unfolding publish_now_by
publish_now_asks net n w p number e f j a =
    let b = net.host p in
    let o = publish net p b w.clock number e (view_of w b p) (log_of w p) in
    taken_asks net w (absorbed w b p o).world b p o (n.host_in p j) j (absorbed_taken net w b p o f (n.host_in p j) j) (publish_asks net p b w.clock number e (view_of w b p) (log_of w p)) (publish_frames_fit net p b w.clock number e (view_of w b p) (log_of w p) (λ c m. (n.place p b j (n.host_in p j)).child_not_host c m)) a

join_now_asks : (net : Net) → IsNet net → (w : World) (s p : ℕ) → WorldFits net w → p < net.publishers → AsksFit net w → AsksFit net (join_now net w s p).world
unfolding join_now_by
join_now_asks net n w s p f j a =
    let b = net.host p in
    let o = joining net p b w.clock s (view_of w b p) (log_of w p) in
    taken_asks net w (absorbed w b p o).world b p o (n.host_in p j) j (absorbed_taken net w b p o f (n.host_in p j) j) (joining_asks net p b w.clock s (view_of w b p) (log_of w p)) (joining_frames_fit net p b w.clock s (view_of w b p) (log_of w p) (λ c m. (n.place p b j (n.host_in p j)).child_not_host c m)) a

-- a broker that starts has asked nothing
pub started_asks : (net : Net) (p b : ℕ) (log : Log) → (started net p b log).asks ≡ []
unfolding started
started_asks net p b log = refl

restarted_asks : (net : Net) → IsNet net → (w : World) (logs : List Log) (b : ℕ) → WorldFits net w → b < net.brokers → AsksFit net w → AsksFit net (restarted net (with_logs w logs) b)
unfolding restarted
restarted_asks net n w logs b f i a =
    let g : ℕ → View = λ p. started net p b (get_or logs p empty_log) in
    let u = restarted net (with_logs w logs) b in
    let here : (q : ℕ) → q < net.publishers → (view_of u b q).asks ≡ [] = λ q x. ap (λ v. v.asks) (ap (λ row. get_or row q blank_view) (get_or-set_same w.views b (map g (numbers net.publishers)) [] (omega (arith, f.views_long))) ∙ get_numbers g 0 net.publishers q blank_view x) ∙ started_asks net (0 + q) b (get_or logs (0 + q) empty_log) in
    let other : (c q : ℕ) → (c ≢ b) → view_of u c q ≡ view_of w c q = λ c q n. ap (λ row. get_or row q blank_view) (get_or-set_other w.views b c (map g (numbers net.publishers)) [] n) in
    record {
      clock = a.clock;
      upto = λ q c x y. elim (cases_eq c b) [
        | inl e ↦ subst (λ z. AsksUpto w.most (view_of u z q).asks) (sym e) (subst (λ z. AsksUpto w.most z) (sym (here q x)) tt)
        | inr e ↦ subst (λ v. AsksUpto w.most v.asks) (sym (other c q e)) (a.upto q c x y)
      ];
      host = λ q x. elim (cases_eq (net.host q) b) [
        | inl e ↦ subst (λ z. (view_of u z q).asks ≡ []) (sym e) (here q x)
        | inr e ↦ ap (λ v. v.asks) (other (net.host q) q e) ∙ a.host q x
      ];
      sent = a.sent;
    }

pub clocked_asks : (net : Net) (w : World) (now : ℕ) → AsksFit net w → AsksFit net (clocked w now (max now w.most))
clocked_asks net w now a = record {
  clock = omega arith;
  upto = λ q c x y. AllValues-on (IsUpto w.most) (IsUpto (max now w.most)) (view_of w c q).asks (λ v h. IsUpto-on w.most (max now w.most) v (omega arith) h) (a.upto q c x y);
  host = a.host;
  sent = a.sent;
}

-- each part of a step keeps it
pub asks_closed : (net : Net) → IsNet net → IsClosed net (ExpectFits net) (AsksFit net)
asks_closed net n = record {
  calls = record {
    sent = λ w a. a.sent;
    woken = λ w b p f i j a. wake_for_asks net n w b p f i j a;
    delivered = λ w x f t r a. deliver_asks net n w x f t r a;
  };
  published = λ w p number e f j a. publish_now_asks net n w p number e f j a;
  joined = λ w s p f late j a. join_now_asks net n w s p f j a;
  at_clock = λ w now f a. clocked_asks net w now a;
  restarts = λ w logs b f i a. restarted_asks net n w logs b f i a;
}

-- at the start no ask is past the greatest moment, and no host has one
pub start_asks : (net : Net) → IsNet net → AsksFit net (start net)
unfolding start_by
start_asks net n =
    let g : ℕ → ℕ → View = λ c p. started net p c empty_log in
    let none : (b q : ℕ) → b < net.brokers → q < net.publishers → (view_of (start net) b q).asks ≡ [] = λ b q i j.
    ap (λ v. v.asks) (ap (λ row. get_or row q blank_view) (get_numbers (λ c. map (g c) (numbers net.publishers)) 0 net.brokers b [] i) ∙ get_numbers (g (0 + b)) 0 net.publishers q blank_view j) ∙ started_asks net (0 + q) (0 + b) empty_log in
    record {
      clock = le_refl 0;
      upto = λ q b x y. subst (λ z. AsksUpto 0 z) (sym (none b q y x)) tt;
      host = λ q x. none (net.host q) q (n.host_in q x) x;
      sent = tt;
    }

-- whatever the schedule: no ask is past the greatest moment of the clock, and a host has none
pub asks_always : (net : Net) (ls : List Line) → IsNet net → StepsIn net ls → AsksFit net (run_all net (start net) ls).world
asks_always net ls n i = holds_always net (ExpectFits net) (AsksFit net) ls n (asks_closed net n) (start_asks net n) i
