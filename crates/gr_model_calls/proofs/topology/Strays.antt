-- No frame is a stray: each goes over an edge of the tree, since a broker tells only its children and asks only the next broker up
use Rattle.std.proofs.Common.{◌≡◌, ℕ, suc, max, ◌<◌, Bool, true, false, List, [], ◌∷◌, map, refl, Option, Some, None}
use Rattle.std.specs.Prelude.{nat_eq, nat_lt, if◌then◌else◌}
use Rattle.std.specs.List.{list_any}
use Rattle.std.proofs.lemmas.Bool.{and_from, eq-eqb, or_left, or_right}
use Rattle.gr_event.specs.declared.event.Event.{Event}
use Rattle.gr_frame.specs.declared.Body.{Body}
use Rattle.gr_frame.specs.declared.Body.TheVariants as body
use Rattle.gr_frame.specs.declared.Frame.{Frame}
use Rattle.gr_frame.specs.Bytes.{head_size, known_run_size, wanted_run_size, cut_frames}
use Rattle.gr_know.specs.Values.{Known}
use Rattle.gr_curio.specs.Values.{Wanted}
use Rattle.gr_sched.specs.declared.step.Line.{Line}
use Rattle.gr_event.specs.Joins.{Joins, longer}
use Rattle.gr_model.specs.Net.{Net, is_host, is_late, all_late}
use Rattle.gr_model.specs.Broker.{with_joins, taking, view_joined, drops, joining, View, Log, Outcome, head, know_frames, want_frames, up_frames, expect_frame, forward, forward_frames, expect_frames, new_ticks, covers, learn, asking, curiosity, expect, marking, cutting, wake, wake_host, wake_below, receive, place_of, publish, silence, with_mark}
use Rattle.gr_model.specs.World.{join_now_by, World, view_of, log_of, absorbed, frame_at, restarted, start, start_by, deliver_frame_by, publish_now_by, wake_for_by}
use Rattle.gr_model_calls.specs.OneNet.{join_now, wake_for, deliver_frame, publish_now, run_all}
use Rattle.gr_model_calls.specs.Edges.{GoesOverEdge}
use Rattle.gr_model.specs.Tree.{IsNet}
use Rattle.gr_model_calls.specs.Truth.{HasEvent}
use Rattle.gr_model_calls.proofs.calls.Held.{all_late_on, held_late, longer_late}
use Rattle.gr_model_calls.specs.Fits.{facts_of, BodyTrue, FrameTrue, BodyFits, WorldFits, StepsIn}
use Rattle.gr_model_calls.proofs.calls.HostCases.{publish_cases, marking_cases, joining_cases}
use Rattle.gr_model_calls.proofs.runs.Worlds.{Each}
use Rattle.gr_model_calls.proofs.asks.AskMoments.{Each-on}
use Rattle.gr_model_calls.proofs.runs.Closed.{IsClosed, holds_always, frame_at_ready}

-- c is a child of b
abbrev pub IsChildOf : Net → ℕ → ℕ → ℕ → Type 0
IsChildOf net p b c = list_any (λ x. nat_eq x c) (net.children p b) ≡ true

-- a property of each kind of frame that a broker with these joins may send for a publisher
pub record SentOn (net : Net) (p b : ℕ) (js : Joins) (R : Frame → Type 0) : Type 0 where
  pub know : (c : ℕ) (part : Known) → IsChildOf net p b c → R (record { head = head b c p; body = body.Knowledge part js })
  pub want : (u : ℕ) (part : Wanted) → net.up p b ≡ Some u → R (record { head = head b u p; body = body.Curiosity part })
  pub expect : (c tick : ℕ) → IsChildOf net p b c → R (expect_frame b c p tick)

know_on : (js : Joins) (net : Net) (p b c : ℕ) (R : Frame → Type 0) (runs : Known) → SentOn net p b js R → IsChildOf net p b c → Each R (know_frames js b c p runs)
know_on js net p b c R runs s m = go (cut_frames (head_size js) known_run_size runs)
  where
    go : (parts : List Known) → Each R (map (λ part. record { head = head b c p; body = body.Knowledge part js }) parts)
    go [] = tt
    go (x ∷ xs) = (s.know c x m, go xs)

up_on : (js : Joins) (net : Net) (p b : ℕ) (R : Frame → Type 0) (runs : Wanted) → SentOn net p b js R → Each R (up_frames net p b runs)
up_on js net p b R runs s = at (net.up p b) refl
  where
    go : (u : ℕ) (parts : List Wanted) → net.up p b ≡ Some u → Each R (map (λ part. record { head = head b u p; body = body.Curiosity part }) parts)
    go u [] e = tt
    go u (x ∷ xs) e = (s.want u x e, go u xs e)

    at : (u : Option ℕ) → net.up p b ≡ u → Each R (elim u [ Some u ↦ want_frames b u p runs | None ↦ [] ])
    at None e = tt
    at (Some u) e = go u (cut_frames 12 wanted_run_size runs) e

-- some of the children
abbrev AreAmong : Net → ℕ → ℕ → List ℕ → Type 0
AreAmong net p b cs = (c : ℕ) → list_any (λ x. nat_eq x c) cs ≡ true → IsChildOf net p b c

first_among : (net : Net) (p b c : ℕ) (cs : List ℕ) → AreAmong net p b (c ∷ cs) → IsChildOf net p b c
first_among net p b c cs h = h c (or_left (nat_eq c c) (list_any (λ x. nat_eq x c) cs) (eq-eqb c c refl))

rest_among : (net : Net) (p b c : ℕ) (cs : List ℕ) → AreAmong net p b (c ∷ cs) → AreAmong net p b cs
rest_among net p b c cs h = λ d m. h d (or_right (nat_eq c d) (list_any (λ x. nat_eq x d) cs) m)

forward_on : (js : Joins) (net : Net) (p b : ℕ) (R : Frame → Type 0) (new : Known) (cs : List ℕ) (ws : List Wanted) → SentOn net p b js R → AreAmong net p b cs → Each R (forward_frames js net p b new cs ws)
forward_on js net p b R new [] ws s h = tt
forward_on js net p b R new (c ∷ cs) [] s h = tt
forward_on js net p b R new (c ∷ cs) (w ∷ ws) s h = Each-on R (know_frames js b c p (forward net p c w new)) (forward_frames js net p b new cs ws) (know_on js net p b c R (forward net p c w new) s (first_among net p b c cs h)) (forward_on js net p b R new cs ws s (rest_among net p b c cs h))

expects_on : (js : Joins) (net : Net) (p b tick : ℕ) (R : Frame → Type 0) (cs : List ℕ) (ws : List Wanted) → SentOn net p b js R → AreAmong net p b cs → Each R (expect_frames p b tick cs ws)
expects_on js net p b tick R [] ws s h = tt
expects_on js net p b tick R (c ∷ cs) [] s h = tt
expects_on js net p b tick R (c ∷ cs) (w ∷ ws) s h = Each-on R (if covers w tick then [] else expect_frame b c p tick ∷ []) (expect_frames p b tick cs ws) (go (covers w tick)) (expects_on js net p b tick R cs ws s (rest_among net p b c cs h))
  where
    go : (q : Bool) → Each R (if q then [] else expect_frame b c p tick ∷ [])
    go true = tt
    go false = (s.expect c tick (first_among net p b c cs h), tt)

learn_on : (net : Net) (p b : ℕ) (R : Frame → Type 0) (piece : Known) (v : View) (log : Log) → SentOn net p b v.joins R → Each R (learn net p b piece v log).frames
unfolding learn
learn_on net p b R piece v log s = forward_on v.joins net p b R (new_ticks v.know piece) (net.children p b) v.wants s (λ c m. m)

asking_on : (net : Net) (p b now : ℕ) (R : Frame → Type 0) (wanted : ℕ → Bool) (ps : List ℕ) (v : View) (log : Log) → SentOn net p b v.joins R → Each R (asking net p b now wanted ps v log).frames
unfolding asking
asking_on net p b now R wanted ps v log s = up_on v.joins net p b R _ s

curiosity_on : (net : Net) (p b now c i : ℕ) (R : Frame → Type 0) (piece : Wanted) (v : View) (log : Log) → SentOn net p b v.joins R → IsChildOf net p b c → Each R (curiosity net p b now c i piece v log).frames
unfolding curiosity
curiosity_on net p b now c i R piece v log s m = Each-on R _ _ (know_on v.joins net p b c R _ s m) (up_on v.joins net p b R _ s)

expect_on : (net : Net) (p b now tick : ℕ) (R : Frame → Type 0) (v : View) (log : Log) → SentOn net p b v.joins R → Each R (expect net p b now tick v log).frames
unfolding expect
expect_on net p b now tick R v log s = Each-on R _ _ (asking_on net p b now R _ _ v log s) (expects_on v.joins net p b tick R (net.children p b) v.wants s (λ c m. m))

marking_on : (net : Net) (p b now : ℕ) (R : Frame → Type 0) (v : View) (log : Log) → SentOn net p b v.joins R → Each R (marking net p b now v log).frames
marking_on net p b now R v log s = marking_cases net p b now v log (λ o. Each R o.frames) (λ e. learn_on net p b R (silence (suc log.settled) now []) v (with_mark log now) s) (λ e. tt)

-- each frame of a wake
pub wake_on : (net : Net) (p b now : ℕ) (R : Frame → Type 0) (v : View) (log : Log) → SentOn net p b v.joins R → Each R (wake net p b now v log).frames
unfolding wake wake_host wake_below
wake_on net p b now R v log s = go (is_host net p b)
  where
    o : Outcome
    o = marking net p b now v log

    more : (q : Bool) (tick : ℕ) → Each R (if q then expect_frames p b tick (net.children p b) o.view.wants else [])
    more true tick = expects_on v.joins net p b tick R (net.children p b) o.view.wants s (λ c m. m)
    more false tick = tt

    go : (q : Bool) → Each R (let x : Outcome = elim q [ true ↦ wake_host net p b now v log | false ↦ wake_below net p b now v log ] in x.frames)
    go true = Each-on R o.frames _ (marking_on net p b now R v log s) (more (nat_lt 0 (cutting net p b o.view o.log).settled) (cutting net p b o.view o.log).settled)
    go false = asking_on net p b now R _ _ v log s

-- each frame that a delivery sends
pub receive_on : (net : Net) (now : ℕ) (R : Frame → Type 0) (f : Frame) (v : View) (log : Log) → SentOn net f.head.publisher f.head.to (taking v f).joins R → BodyFits net f.head.publisher f.head.from f.head.to f.body → Each R (receive net now f v log).frames
unfolding receive
receive_on net now R f v log s fits = go f.body s fits
  where
    learned : (runs : Known) (js : Joins) → SentOn net f.head.publisher f.head.to (longer v.joins js) R → (q : Bool) → Each R (let o : Outcome = elim q [ true ↦ record { view = v; log = log; lines = []; frames = [] } | false ↦ learn net f.head.publisher f.head.to runs (with_joins v (longer v.joins js)) log ] in o.frames)
    learned runs js t true = tt
    learned runs js t false = learn_on net f.head.publisher f.head.to R runs (with_joins v (longer v.joins js)) log t

    go : (y : Body) → (let u : View = elim y [ body.Knowledge runs js ↦ with_joins v (longer v.joins js) | _ ↦ v ] in SentOn net f.head.publisher f.head.to u.joins R) → BodyFits net f.head.publisher f.head.from f.head.to y → Each R (let o : Outcome = elim y [
      | body.Knowledge runs js ↦ elim (drops v runs js) [ true ↦ record { view = v; log = log; lines = []; frames = [] } | false ↦ learn net f.head.publisher f.head.to runs (with_joins v (longer v.joins js)) log ]
      | body.Curiosity runs ↦ curiosity net f.head.publisher f.head.to now f.head.from (place_of f.head.from (net.children f.head.publisher f.head.to)) runs v log
      | body.Expect tick ↦ expect net f.head.publisher f.head.to now tick v log
    ] in o.frames)
    go (body.Knowledge runs js) t m = learned runs js t (drops v runs js)
    go (body.Curiosity runs) t m = curiosity_on net f.head.publisher f.head.to now f.head.from (place_of f.head.from (net.children f.head.publisher f.head.to)) R runs v log t m
    go (body.Expect tick) t m = expect_on net f.head.publisher f.head.to now tick R v log t

-- each frame of a publish
pub publish_on : (net : Net) (p b now number : ℕ) (R : Frame → Type 0) (e : Event) (v : View) (log : Log) → SentOn net p b v.joins R → Each R (publish net p b now number e v log).frames
publish_on net p b now number R e v log s = publish_cases net p b now number e v log (λ o. Each R o.frames) (λ l. tt) (λ l. tt) (λ x l. tt) (λ x l. learn_on net p b R _ v _ s)

-- each frame of a join
pub joining_on : (net : Net) (p b now s : ℕ) (R : Frame → Type 0) (v : View) (log : Log) → SentOn net p b (view_joined log s now v).joins R → Each R (joining net p b now s v log).frames
joining_on net p b now s R v log o = joining_cases net p b now s v log (λ o. Each R o.frames) (λ e. tt) (λ e l. tt) (λ e l. learn_on net p b R _ _ _ o)

-- Every frame goes over an edge

pub over_edges : (net : Net) (p b : ℕ) (js : Joins) → IsNet net → p < net.publishers → b < net.brokers → all_late net js ≡ true → SentOn net p b js (GoesOverEdge net)
over_edges net p b js n j i late = record {
  know = λ c part m. record { publisher = j; from = i; to = n.child_in p b c j i m; between = n.child_up p b c j i m; joins = late };
  want = λ u part e. let x = n.up_in p b u j i e in record { publisher = j; from = i; to = x.0; between = x.1; joins = refl };
  expect = λ c tick m. record { publisher = j; from = i; to = n.child_in p b c j i m; between = n.child_up p b c j i m; joins = refl };
}

-- what a broker holds is of late subscribers; so is what a true frame brings
view_late : (net : Net) (w : World) (p b : ℕ) → WorldFits net w → p < net.publishers → b < net.brokers → all_late net (view_of w b p).joins ≡ true
view_late net w p b f j i = held_late net (log_of w p).joins (view_of w b p).joins (HasEvent (view_of w b p).know) (f.views p b j i).held (f.late p j)

taken_late : (net : Net) (w : World) (x : Frame) → WorldFits net w → FrameTrue net w x → all_late net (taking (view_of w x.head.to x.head.publisher) x).joins ≡ true
taken_late net w x f t = go x.body t.told
  where
    v : View
    v = view_of w x.head.to x.head.publisher

    here : all_late net v.joins ≡ true
    here = view_late net w x.head.publisher x.head.to f t.publisher_in t.fits.to_in

    go : (y : Body) → BodyTrue net (facts_of net w x.head.publisher) x.head.publisher x.head.from x.head.to y → (let u : View = elim y [ body.Knowledge runs js ↦ with_joins v (longer v.joins js) | _ ↦ v ] in all_late net u.joins ≡ true)
    go (body.Knowledge runs js) k = longer_late net v.joins js here (held_late net (log_of w x.head.publisher).joins js (HasEvent runs) k.1 (f.late x.head.publisher t.publisher_in))
    go (body.Curiosity runs) k = here
    go (body.Expect tick) k = here

-- each frame sent so far goes over an edge of the tree
abbrev pub AllOver : Net → World → Type 0
AllOver net w = Each (GoesOverEdge net) w.frames

woken_over : (net : Net) (w : World) (b p : ℕ) → IsNet net → WorldFits net w → b < net.brokers → p < net.publishers → AllOver net w → AllOver net (wake_for net w b p).world
unfolding wake_for_by absorbed
woken_over net w b p n f i j a = Each-on (GoesOverEdge net) w.frames _ a (wake_on net p b w.clock (GoesOverEdge net) (view_of w b p) (log_of w p) (over_edges net p b (view_of w b p).joins n j i (view_late net w p b f j i)))

delivered_over : (net : Net) (w : World) (x : Frame) → IsNet net → WorldFits net w → FrameTrue net w x → AllOver net w → AllOver net (deliver_frame net w x).world
unfolding deliver_frame_by absorbed
delivered_over net w x n f t a = Each-on (GoesOverEdge net) w.frames _ a (receive_on net w.clock (GoesOverEdge net) x (view_of w x.head.to x.head.publisher) (log_of w x.head.publisher) (over_edges net x.head.publisher x.head.to (taking (view_of w x.head.to x.head.publisher) x).joins n t.publisher_in t.fits.to_in (taken_late net w x f t)) t.fits.body)

published_over : (net : Net) (w : World) (p number : ℕ) (e : Event) → IsNet net → WorldFits net w → p < net.publishers → AllOver net w → AllOver net (publish_now net w p number e).world
unfolding publish_now_by absorbed
published_over net w p number e n f j a = Each-on (GoesOverEdge net) w.frames _ a (publish_on net p (net.host p) w.clock number (GoesOverEdge net) e (view_of w (net.host p) p) (log_of w p) (over_edges net p (net.host p) (view_of w (net.host p) p).joins n j (n.host_in p j) (view_late net w p (net.host p) f j (n.host_in p j))))

joined_over : (net : Net) (w : World) (s p : ℕ) → IsNet net → WorldFits net w → is_late net s ≡ true → p < net.publishers → AllOver net w → AllOver net (join_now net w s p).world
unfolding join_now_by absorbed
joined_over net w s p n f late j a = Each-on (GoesOverEdge net) w.frames _ a (joining_on net p (net.host p) w.clock s (GoesOverEdge net) (view_of w (net.host p) p) (log_of w p) (over_edges net p (net.host p) (view_joined (log_of w p) s w.clock (view_of w (net.host p) p)).joins n j (n.host_in p j)
    (all_late_on net (log_of w p).joins (record { subscriber = s; tick = max (suc (log_of w p).settled) w.clock } ∷ []) (f.late p j) (and_from (is_late net s) true late refl))))

-- that each frame goes over an edge of the tree is kept by each call, clock and restart
pub over_closed : (net : Net) → IsNet net → IsClosed net (GoesOverEdge net) (AllOver net)
unfolding restarted
over_closed net n = record {
  calls = record {
    sent = λ w a. a;
    woken = λ w b p f i j a. woken_over net w b p n f i j a;
    delivered = λ w x f t r a. delivered_over net w x n f t a;
  };
  published = λ w p number e f j a. published_over net w p number e n f j a;
  joined = λ w s p f late j a. joined_over net w s p n f late j a;
  at_clock = λ w now f a. a;
  restarts = λ w logs b f i a. a;
}

pub start_over : (net : Net) → AllOver net (start net)
unfolding start_by
start_over net = tt

-- no frame of any run is a stray
pub no_strays : (net : Net) (ls : List Line) (k : ℕ) (f : Frame) → IsNet net → StepsIn net ls → frame_at (run_all net (start net) ls).world k ≡ Some f → GoesOverEdge net f
no_strays net ls k f n i e = frame_at_ready (GoesOverEdge net) (run_all net (start net) ls).world k f (holds_always net (GoesOverEdge net) (AllOver net) ls n (over_closed net n) (start_over net) i) e
