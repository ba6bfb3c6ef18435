-- Every tick and event of every world is within the limits of frames, so each frame that is sent has a spelling that fits into one
use Rattle.std.proofs.Common.{◌≡◌, ℕ, suc, ◌-◌, ◌≤◌, ◌<◌, ◌^◌, max, Bool, true, false, ◌&&◌, List, [], ◌∷◌, ◌++◌, map, length, set, get_or, refl, subst, Option, Some, None, Ok, arith, length-append}
use Rattle.std.specs.Prelude.{nat_eq, nat_le, nat_lt, if◌then◌else◌}
use Rattle.std.specs.List.{AllByRecursion}
use Rattle.std.proofs.lemmas.Bool.{and_parts, or_parts, or_from, leb-true, ltb-false}
use Rattle.gr_event.specs.declared.event.Event.{Event}
use Rattle.gr_event.specs.Limits.{IsEvent}
use Rattle.gr_event.specs.declared.limits.TheConstants.{MAX_JOINS}
use Rattle.gr_event.specs.Joins.{Joins, has_joined, JoinsRise, JoinOnce, AreJoins}
use Rattle.gr_publog.proofs.Entering.{held_first}
use Rattle.gr_know.specs.declared.values.K.TheVariants.{Q}
use Rattle.gr_curio.specs.declared.values.Q3.TheVariants.{N}
use Rattle.gr_frame.specs.declared.Body.{Body}
use Rattle.gr_frame.specs.declared.Body.TheVariants as body
use Rattle.gr_frame.specs.declared.Head.{Head}
use Rattle.gr_frame.specs.declared.Frame.{Frame}
use Rattle.gr_frame.specs.Bytes.{frame_bytes, head_bytes, piece_head, runs_bytes, known_bytes, wanted_bytes, known_run_size, wanted_run_size}
use Rattle.gr_frame.specs.Decode.{known_form, wanted_form, frame_decoded}
use Rattle.gr_frame.specs.Limits.{IsKnown, IsWanted, IsBody}
use Rattle.gr_frame.proofs.Cutting.{known_sized, wanted_sized}
use Rattle.gr_frame.proofs.Lists.{head_sized}
use Rattle.gr_frame.proofs.Spelled.{spelled_decodes}
use Rattle.gr_sched.specs.declared.step.Stop.{Stop}
use Rattle.gr_sched.specs.declared.step.Step.{Step}
use Rattle.gr_sched.specs.declared.step.Step.TheVariants as step
use Rattle.gr_sched.specs.declared.step.Line.{Line}
use Rattle.gr_model.specs.declared.report.Report.TheVariants as line
use Rattle.gr_model.specs.Net.{Net, is_late, not_empty, numbers}
use Rattle.gr_model.specs.Broker.{Log, Outcome, max_tick, empty_log, with_event, is_kept, publish, joining, wake, receive, started}
use Rattle.gr_model.specs.World.{World, Transition, blank_view, view_of, log_of, absorbed, unchanged, followed_by, in_turn, sweep_moment, frame_at, join_now_by, restarted, crash, opened_lines, start, start_by, show, deliver_frame_by, next_by, publish_now_by, publish_stopped_by, sweep_by, wake_for_by}
use Rattle.gr_model_calls.specs.OneNet.{wake_for, wake_all, deliver_frame, publish_now, sweep_for, sweep, join_now, publish_stopped, next, run_all}
use Rattle.gr_model_calls.specs.Truth.{Facts}
use Rattle.gr_model.specs.Tree.{IsNet}
use Rattle.gr_model_calls.specs.Fits.{facts_of, BodyTrue, FrameTrue, AllFramesTrue, WorldFits, StepIn, StepsIn}
use Rattle.gr_model_theorems.specs.Spelled.{IsInLimits, NumbersIn, IsSpelled, LateIn, ViewIn, LogIn, WorldIn}
use Rattle.gr_model_calls.proofs.runs.Worlds.{wake_for_kept, deliver_kept, publish_kept, join_kept, numbers_below}
use Rattle.gr_model_calls.proofs.runs.Schedules.{next_kept, start_fits, clocked_fits, frame_at_true}
use Rattle.gr_model_calls.proofs.runs.Closed.{clocked, with_logs, IsCallClosed, in_turn_goes, sweep_for_goes, wake_all_goes, frame_at_ready}
use Rattle.gr_model_theorems.proofs.limits.SpelledRuns.{all_on, all_set, all_get, all_tabulated, ends_in, values_in, runs_in, total, total_is}
use Rattle.gr_model_theorems.proofs.limits.SpelledCalls.{BodyCut, FrameCut, AllCut, CallIn, BodyIn, wake_in, receive_in, publish_in, joining_in, with_event_in, started_in}

-- A frame

-- a front of a list of joins is one
rise_front : (from : ℕ) (js rest : Joins) → JoinsRise from (js ++ rest) → JoinsRise from js
rise_front from [] rest h = tt
rise_front from (j ∷ js) rest h = (h.0, h.1, h.2, rise_front j.tick js rest h.3)

unjoined_front : (js rest : Joins) (s : ℕ) → has_joined (js ++ rest) s ≡ false → has_joined js s ≡ false
unjoined_front [] rest s h = refl
unjoined_front (j ∷ js) rest s h =
    let parts = or_parts (nat_eq j.subscriber s) (has_joined (js ++ rest) s) h in
    or_from (nat_eq j.subscriber s) (has_joined js s) parts.0 (unjoined_front js rest s parts.1)

once_front : (js rest : Joins) → JoinOnce (js ++ rest) → JoinOnce js
once_front [] rest h = tt
once_front (j ∷ js) rest h = (unjoined_front js rest j.subscriber h.0, once_front js rest h.1)

front_are : (js rest : Joins) → AreJoins (js ++ rest) → AreJoins js
front_are js rest h = record { few = omega (arith, h.few, length-append js rest); rise = rise_front 0 js rest h.rise; once = once_front js rest h.once }

-- what is true is canonical, and what was cut is short; its joins are a front of those that were logged
body_spelled : (net : Net) (g : Facts) (p from to : ℕ) (h : Head) (y : Body) → AreJoins g.joined → BodyTrue net g p from to y → BodyCut y → IsBody y × (length (frame_bytes (record { head = h; body = y })) ≤ 16384)
unfolding frame_bytes
body_spelled net g p from to h (body.Knowledge rs js) k t c =
    let size : length (runs_bytes known_bytes rs) ≡ total known_run_size rs = total_is Q known_form 1 rs known_sized.spelled t.0.runs in (
      (record { some = c.some; runs = t.0.runs; upto = ends_in IsKnown rs c.runs; each = values_in IsKnown rs c.runs }, front_are js t.1.rest (subst AreJoins t.1.front k)),
      omega (arith, c.short, size, head_sized 1 (length rs) h js, length-append (piece_head 1 h (length rs) js) (runs_bytes known_bytes rs)),
    )
body_spelled net g p from to h (body.Curiosity rs) k t c =
    let size : length (runs_bytes wanted_bytes rs) ≡ total wanted_run_size rs = total_is N wanted_form 1 rs wanted_sized.spelled t.runs in (
      record { some = c.some; runs = t.runs; upto = ends_in IsWanted rs c.runs; each = values_in IsWanted rs c.runs },
      omega (arith, c.short, size, length-append (head_bytes 1 2 h (length rs)) (runs_bytes wanted_bytes rs)),
    )
body_spelled net g p from to h (body.Expect tick) k t c = (c, omega arith)

-- the topology's numbers have 16 bits
pub record IsSmall (net : Net) : Type 0 where
  pub brokers : net.brokers ≤ 2 ^ 16
  pub publishers : net.publishers ≤ 2 ^ 16
  pub late : LateIn net

frame_spelled : (net : Net) (w : World) (b : ℕ) (f : Frame) → IsSmall net → ((q : ℕ) → AreJoins (log_of w q).joins) → b < net.brokers → FrameTrue net w f → FrameCut b f → IsSpelled f
frame_spelled net w b f z k i t c =
    let x = body_spelled net (facts_of net w f.head.publisher) f.head.publisher f.head.from f.head.to f.head f.body (k f.head.publisher) t.told c.body in
    record {
      whole = record { head = record { from = omega (arith, c.from, i, z.brokers); to = omega (arith, t.fits.to_in, z.brokers); publisher = omega (arith, t.publisher_in, z.publishers) }; body = x.0 };
      spelled = refl;
      short = x.1;
    }

all_spelled : (net : Net) (w : World) (b : ℕ) (fs : List Frame) → IsSmall net → ((q : ℕ) → AreJoins (log_of w q).joins) → b < net.brokers → AllFramesTrue net w fs → AllCut b fs → AllByRecursion IsSpelled fs
all_spelled net w b [] z k i t c = tt
all_spelled net w b (f ∷ fs) z k i t c = (frame_spelled net w b f z k i t.0 c.0, all_spelled net w b fs z k i t.1 c.1)

frames_back : (net : Net) (w : World) (xs ys : List Frame) → AllFramesTrue net w (xs ++ ys) → AllFramesTrue net w ys
frames_back net w [] ys a = a
frames_back net w (x ∷ xs) ys a = frames_back net w xs ys a.1

-- what a spelled frame brings is within the limits
body_in : (y : Body) → IsBody y → BodyIn y
body_in (body.Knowledge rs js) h = (runs_in Q IsKnown 1 rs h.0.runs h.0.upto h.0.each, h.1.few)
body_in (body.Curiosity rs) h = runs_in N IsWanted 1 rs h.runs h.upto h.each
body_in (body.Expect tick) h = h

-- Parts of a world

pub empty_in : {late : List ℕ} → length late ≤ MAX_JOINS → LogIn late empty_log
empty_in {late} few = record { settled = omega arith; cut = omega arith; events = tt; held = held_first late 0 few }

blank_in : ViewIn blank_view
blank_in = record { know = tt; wants = tt; asks = tt; horizon = omega arith; joins = omega arith }

row_in : {late : List ℕ} (w : World) (b : ℕ) → WorldIn late w → AllByRecursion ViewIn (get_or w.views b [])
row_in w b a = all_get (AllByRecursion ViewIn) w.views b [] a.views tt

view_in : {late : List ℕ} (w : World) (b p : ℕ) → WorldIn late w → ViewIn (view_of w b p)
view_in w b p a = all_get ViewIn (get_or w.views b []) p blank_view (row_in w b a) blank_in

log_in : {late : List ℕ} (w : World) (p : ℕ) → length late ≤ MAX_JOINS → WorldIn late w → LogIn late (log_of w p)
log_in {late} w p few a = all_get (LogIn late) w.logs p empty_log a.logs (empty_in few)

-- a call is taken up
absorbed_in : (net : Net) (w : World) (b p : ℕ) (o : Outcome) → IsSmall net → b < net.brokers → WorldFits net (absorbed w b p o).world → CallIn net.late b o → WorldIn net.late w → WorldIn net.late (absorbed w b p o).world
unfolding absorbed
absorbed_in net w b p o z i f c a = record {
  clock = a.clock;
  views = all_set (AllByRecursion ViewIn) w.views b (set (get_or w.views b []) p o.view) a.views (all_set ViewIn (get_or w.views b []) p o.view (row_in w b a) c.view);
  logs = logs_now;
  frames = all_on IsSpelled w.frames o.frames a.frames (all_spelled net (absorbed w b p o).world b o.frames z (λ q. (all_get (LogIn net.late) (set w.logs p o.log) q empty_log logs_now (empty_in z.late.few)).held.joins) i (frames_back net (absorbed w b p o).world w.frames o.frames f.frames) c.frames);
}
  where
    logs_now : AllByRecursion (LogIn net.late) (set w.logs p o.log)
    logs_now = all_set (LogIn net.late) w.logs p o.log a.logs c.log

wake_for_in : (net : Net) (w : World) (b p : ℕ) → IsNet net → IsSmall net → WorldFits net w → b < net.brokers → p < net.publishers → WorldIn net.late w → WorldIn net.late (wake_for net w b p).world
unfolding wake_for_by
wake_for_in net w b p n z f i j a = absorbed_in net w b p (wake net p b w.clock (view_of w b p) (log_of w p)) z i (wake_for_kept net w b p n f i j).fits (wake_in net p b w.clock (view_of w b p) (log_of w p) a.clock (view_in w b p a) (log_in w p z.late.few a)) a

-- the delivery of a frame within the limits keeps the world within them
pub deliver_in : (net : Net) (w : World) (x : Frame) → IsNet net → IsSmall net → WorldFits net w → FrameTrue net w x → BodyIn x.body → WorldIn net.late w → WorldIn net.late (deliver_frame net w x).world
unfolding deliver_frame_by
deliver_in net w x n z f t r a =
    absorbed_in net w x.head.to x.head.publisher (receive net w.clock x (view_of w x.head.to x.head.publisher) (log_of w x.head.publisher)) z t.fits.to_in (deliver_kept net w x n f t).fits
    (receive_in net w.clock x (view_of w x.head.to x.head.publisher) (log_of w x.head.publisher) r (view_in w x.head.to x.head.publisher a) (log_in w x.head.publisher z.late.few a)) a

publish_now_in : (net : Net) (w : World) (p number : ℕ) (e : Event) → IsNet net → IsSmall net → WorldFits net w → p < net.publishers → IsEvent e → WorldIn net.late w → WorldIn net.late (publish_now net w p number e).world
unfolding publish_now_by
publish_now_in net w p number e n z f j k a =
    absorbed_in net w (net.host p) p (publish net p (net.host p) w.clock number e (view_of w (net.host p) p) (log_of w p)) z (n.host_in p j) (publish_kept net w p number e n f j).fits
    (publish_in net p (net.host p) w.clock number e (view_of w (net.host p) p) (log_of w p) k (view_in w (net.host p) p a) (log_in w p z.late.few a)) a

join_now_in : (net : Net) (w : World) (s p : ℕ) → IsNet net → IsSmall net → WorldFits net w → is_late net s ≡ true → p < net.publishers → WorldIn net.late w → WorldIn net.late (join_now net w s p).world
unfolding join_now_by
join_now_in net w s p n z f late j a =
    absorbed_in net w (net.host p) p (joining net p (net.host p) w.clock s (view_of w (net.host p) p) (log_of w p)) z (n.host_in p j) (join_kept net w s p n f late j).fits
    (joining_in net p (net.host p) w.clock s (view_of w (net.host p) p) (log_of w p) late (z.late.numbers s late) (view_in w (net.host p) p a) (log_in w p z.late.few a)) a

-- each wake and each delivery keeps it
pub calls_closed : (net : Net) → IsNet net → IsSmall net → IsCallClosed net IsSpelled (WorldIn net.late)
calls_closed net n z = record {
  sent = λ w a. a.frames;
  woken = λ w b p f i j a. wake_for_in net w b p n z f i j a;
  delivered = λ w x f t r a. deliver_in net w x n z f t (body_in x.body r.whole.body) a;
}

clocked_in : {late : List ℕ} (w : World) (now most : ℕ) → now ≤ max_tick → WorldIn late w → WorldIn late (clocked w now most)
clocked_in w now most h a = record { clock = h; views = a.views; logs = a.logs; frames = a.frames }

logged_in : {late : List ℕ} (w : World) (p : ℕ) (log : Log) → LogIn late log → WorldIn late w → WorldIn late (with_logs w (set w.logs p log))
logged_in {late} w p log l a = record { clock = a.clock; views = a.views; logs = all_set (LogIn late) w.logs p log a.logs l; frames = a.frames }

restarted_in : (net : Net) (w : World) (b : ℕ) → IsSmall net → WorldIn net.late w → WorldIn net.late (restarted net w b)
unfolding restarted
restarted_in net w b z a = record {
  clock = a.clock;
  views = all_set (AllByRecursion ViewIn) w.views b (map (λ p. started net p b (get_or w.logs p empty_log)) (numbers net.publishers)) a.views (all_tabulated ViewIn (λ p. started net p b (get_or w.logs p empty_log)) (numbers net.publishers) (λ p. started_in net p b (get_or w.logs p empty_log) (log_in w p z.late.few a)));
  logs = a.logs;
  frames = a.frames;
}

-- Steps

sweep_in : (net : Net) (w : World) (k : ℕ) → IsNet net → IsSmall net → WorldFits net w → WorldIn net.late w → WorldIn net.late (sweep net w k).world
unfolding sweep_by
sweep_in net w k n z f a = go (nat_lt max_tick m) refl
  where
    m : ℕ
    m = sweep_moment net w

    u : World
    u = clocked w m (max m w.most)

    go : (q : Bool) → nat_lt max_tick m ≡ q → WorldIn net.late (let t : Transition = elim q [ true ↦ unchanged w (line.RefusedClock k m ∷ []) | false ↦ followed_by (in_turn (sweep_for net) (numbers net.publishers) u) (λ x. unchanged x (line.Swept m ∷ [])) ] in t.world)
    go true e = a
    go false e = (in_turn_goes net (WorldIn net.late) (λ x p. p < net.publishers) (sweep_for net) (λ x y p l h. h) (λ x p g k h. sweep_for_goes net IsSpelled (WorldIn net.late) x p n (calls_closed net n z) g k h) (numbers net.publishers) u (clocked_fits net w m (max m w.most) f) (clocked_in w m (max m w.most) (ltb-false max_tick m e) a) (numbers_below 0 net.publishers net.publishers (omega arith))).holds

publish_stopped_in : (net : Net) (w : World) (k p number : ℕ) (stop : Stop) (e : Event) → IsNet net → IsSmall net → WorldFits net w → p < net.publishers → IsEvent e → WorldIn net.late w → WorldIn net.late (publish_stopped net w k p number stop e).world
unfolding publish_stopped_by
publish_stopped_in net w k p number stop e n z f j is a = host_at (not_empty (net.subscribers_at (net.host p)))
  where
    log : Log
    log = log_of w p

    tick : ℕ
    tick = max (suc log.settled) w.clock

    kept : Bool
    kept = is_kept (log.size - 1) stop.call stop.pick

    logs : List Log
    logs = if kept then set w.logs p (with_event log tick e) else w.logs

    logs_in : tick ≤ max_tick → (q : Bool) → WorldIn net.late (with_logs w (if q then set w.logs p (with_event log tick e) else w.logs))
    logs_in h true = logged_in w p (with_event log tick e) (with_event_in log tick e (omega arith) h is (log_in w p z.late.few a)) a
    logs_in h false = a

    stopped : Transition
    stopped = record {
      world = restarted net (with_logs w logs) (net.host p);
      lines = line.Crashed (net.host p) ∷ ((if kept then line.Kept p number tick else line.Lost p number tick) ∷ opened_lines net logs (net.host p));
    }

    number_at : (q : Bool) → (nat_eq number (suc log.last) && nat_le tick max_tick) ≡ q → WorldIn net.late (let t : Transition = elim q [ false ↦ publish_now net w p number e | true ↦ stopped ] in t.world)
    number_at false x = publish_now_in net w p number e n z f j is a
    number_at true x = restarted_in net (with_logs w logs) (net.host p) z (logs_in (leb-true tick max_tick (and_parts (nat_eq number (suc log.last)) (nat_le tick max_tick) x).1) kept)

    host_at : (q : Bool) → WorldIn net.late (let t : Transition = elim q [ true ↦ unchanged w (line.RefusedHosts k (net.host p) ∷ []) | false ↦ elim (nat_eq number (suc log.last) && nat_le tick max_tick) [ false ↦ publish_now net w p number e | true ↦ stopped ] ] in t.world)
    host_at true = a
    host_at false = number_at (nat_eq number (suc log.last) && nat_le tick max_tick) refl

-- each step keeps it
pub next_in : (net : Net) (w : World) (l : Line) → IsNet net → IsSmall net → WorldFits net w → StepIn net l.step → IsInLimits l.step → WorldIn net.late w → WorldIn net.late (next net w l).world
unfolding next_by crash
next_in net w l n z f i k a = go l.step i k
  where
    delivered : (m : ℕ) (o : Option Frame) → frame_at w m ≡ o → WorldIn net.late (let t : Transition = elim o [ None ↦ unchanged w (line.RefusedFrame l.number m (length w.frames) ∷ []) | Some x ↦ deliver_frame net w x ] in t.world)
    delivered m None e = a
    delivered m (Some x) e = deliver_in net w x n z f (frame_at_true net w m x f e) (let s = frame_at_ready IsSpelled w m x a.frames e in body_in x.body s.whole.body) a

    bytes_at : (m : ℕ) (o : Option Frame) → WorldIn net.late (let t : Transition = elim o [ None ↦ unchanged w (line.RefusedFrame l.number m (length w.frames) ∷ []) | Some x ↦ unchanged w (line.BytesOf m (frame_bytes x) ∷ []) ] in t.world)
    bytes_at m None = a
    bytes_at m (Some x) = a

    crashed : (b : ℕ) (q : Bool) → WorldIn net.late (let t : Transition = elim q [ true ↦ unchanged w (line.RefusedHosts l.number b ∷ []) | false ↦ crash net w b ] in t.world)
    crashed b true = a
    crashed b false = restarted_in net w b z a

    published : (p number : ℕ) (stop : Option Stop) (e : Event) → p < net.publishers → IsEvent e → WorldIn net.late (let t : Transition = elim stop [ None ↦ publish_now net w p number e | Some s ↦ publish_stopped net w l.number p number s e ] in t.world)
    published p number None e x is = publish_now_in net w p number e n z f x is a
    published p number (Some s) e x is = publish_stopped_in net w l.number p number s e n z f x is a

    go : (s : Step) → StepIn net s → IsInLimits s → WorldIn net.late (let t : Transition = elim s [
      | step.Clock now ↦ unchanged (record { clock = now; most = max now w.most; frames = w.frames; views = w.views; logs = w.logs }) []
      | step.Publish p number stop e ↦ elim stop [ None ↦ publish_now net w p number e | Some s ↦ publish_stopped net w l.number p number s e ]
      | step.Wake b ↦ wake_all net w b
      | step.Deliver m ↦ elim (frame_at w m) [ None ↦ unchanged w (line.RefusedFrame l.number m (length w.frames) ∷ []) | Some x ↦ deliver_frame net w x ]
      | step.Crash b ↦ elim (not_empty (net.subscribers_at b)) [ true ↦ unchanged w (line.RefusedHosts l.number b ∷ []) | false ↦ crash net w b ]
      | step.Sweep ↦ sweep net w l.number
      | step.Show ↦ unchanged w (show net w)
      | step.Bytes m ↦ elim (frame_at w m) [ None ↦ unchanged w (line.RefusedFrame l.number m (length w.frames) ∷ []) | Some x ↦ unchanged w (line.BytesOf m (frame_bytes x) ∷ []) ]
      | step.Join s p ↦ join_now net w s p
    ] in t.world)
    go (step.Clock now) x y = clocked_in w now (max now w.most) y a
    go (step.Publish p number stop e) x y = published p number stop e x y
    go (step.Wake b) x y = (wake_all_goes net IsSpelled (WorldIn net.late) w b n (calls_closed net n z) f a x).holds
    go (step.Deliver m) x y = delivered m (frame_at w m) refl
    go (step.Crash b) x y = crashed b (not_empty (net.subscribers_at b))
    go step.Sweep x y = sweep_in net w l.number n z f a
    go step.Show x y = a
    go (step.Bytes m) x y = bytes_at m (frame_at w m)
    go (step.Join s p) x y = join_now_in net w s p n z f x.0 x.1 a

-- and so do all, from any world
pub run_in : (net : Net) (w : World) (ls : List Line) → IsNet net → IsSmall net → WorldFits net w → StepsIn net ls → NumbersIn ls → WorldIn net.late w → WorldIn net.late (run_all net w ls).world
run_in net w [] n z f i k a = a
run_in net w (l ∷ ls) n z f i k a = run_in net (next net w l).world ls n z (next_kept net w l n f i.0).fits i.1 k.1 (next_in net w l n z f i.0 k.0 a)

pub start_in : (net : Net) → length net.late ≤ MAX_JOINS → WorldIn net.late (start net)
unfolding start_by
start_in net few = record {
  clock = omega arith;
  views = all_tabulated (AllByRecursion ViewIn) (λ b. map (λ p. started net p b empty_log) (numbers net.publishers)) (numbers net.brokers) (λ b. all_tabulated ViewIn (λ p. started net p b empty_log) (numbers net.publishers) (λ p. started_in net p b empty_log (empty_in few)));
  logs = all_tabulated (LogIn net.late) (λ p. empty_log) (numbers net.publishers) (λ p. empty_in few);
  frames = tt;
}

-- each frame of such a world is spelled by its bytes
pub frame_in : {late : List ℕ} (w : World) (k : ℕ) (f : Frame) → WorldIn late w → frame_at w k ≡ Some f → IsSpelled f
frame_in w k f a e = frame_at_ready IsSpelled w k f a.frames e

-- whatever the schedule
pub always_in : (net : Net) (ls : List Line) → IsNet net → net.brokers ≤ 2 ^ 16 → net.publishers ≤ 2 ^ 16 → LateIn net → StepsIn net ls → NumbersIn ls → WorldIn net.late (run_all net (start net) ls).world
always_in net ls n x y late i k = run_in net (start net) ls n (record { brokers = x; publishers = y; late = late }) (start_fits net n) i k (start_in net late.few)

-- over every schedule within the limits each frame that is sent has a spelling that fits
pub always_spelled : (net : Net) (ls : List Line) (k : ℕ) (f : Frame) → IsNet net → net.brokers ≤ 2 ^ 16 → net.publishers ≤ 2 ^ 16 → LateIn net → StepsIn net ls → NumbersIn ls → frame_at (run_all net (start net) ls).world k ≡ Some f → IsSpelled f
always_spelled net ls k f n x y late i j e = frame_in (run_all net (start net) ls).world k f (always_in net ls n x y late i j) e

-- over every schedule within the limits the bytes of each frame that is sent decode to it
pub always_decodes : (net : Net) (ls : List Line) (k : ℕ) (f : Frame) → IsNet net → net.brokers ≤ 2 ^ 16 → net.publishers ≤ 2 ^ 16 → LateIn net → StepsIn net ls → NumbersIn ls → frame_at (run_all net (start net) ls).world k ≡ Some f → frame_decoded (frame_bytes f) ≡ Ok f
always_decodes net ls k f n x y late i j e = spelled_decodes (frame_bytes f) f (always_spelled net ls k f n x y late i j e)
