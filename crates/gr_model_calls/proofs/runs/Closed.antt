-- What every call, clock and restart keeps holds of every world that a schedule leads to
use Rattle.std.proofs.Common.{◌≡◌, inl, inr, ℕ, suc, zero, ◌-◌, ◌<◌, max, Bool, true, false, ◌&&◌, List, [], ◌∷◌, refl, subst, length, set, Option, Some, None, arith}
use Rattle.std.specs.Prelude.{nat_eq, nat_le, nat_lt, if◌then◌else◌, filter, slice_get}
use Rattle.std.proofs.lemmas.Bool.{cases_Bool}
use Rattle.gr_event.specs.declared.event.Event.{Event}
use Rattle.gr_frame.specs.declared.Frame.{Frame}
use Rattle.gr_sched.specs.declared.step.Stop.{Stop}
use Rattle.gr_sched.specs.declared.step.Step.{Step}
use Rattle.gr_sched.specs.declared.step.Step.TheVariants as step
use Rattle.gr_sched.specs.declared.step.Line.{Line}
use Rattle.gr_model.specs.declared.report.Report.TheVariants as line
use Rattle.gr_model.specs.Net.{Net, is_late, not_empty, numbers}
use Rattle.gr_model.specs.Broker.{Log, with_event, is_kept, max_tick}
use Rattle.gr_model.specs.World.{World, Transition, log_of, unchanged, followed_by, in_turn, sweep_moment, frames_past, sent_since, is_want, is_know_to, outwards, inwards, numbers_down, frame_at, restarted, crash, start, show, opened_lines, deliver_up_by, hand_down_by, next_by, publish_stopped_by, sweep_by, sweep_for_by, wake_all_by, wake_up_by}
use Rattle.gr_model_calls.specs.OneNet.{wake_for, wake_all, deliver_frame, publish_now, join_now, deliver_up, wake_up, hand_down, sweep_for, sweep, publish_stopped, next, run_all}
use Rattle.gr_frame.specs.Bytes.{frame_bytes}
use Rattle.gr_model.specs.Tree.{IsNet}
use Rattle.gr_model_calls.specs.Fits.{WorldFits, FrameTrue, StepIn, StepsIn}
use Rattle.gr_model_calls.proofs.runs.Worlds.{Kept, Kept-after, Kept-refl, Each, IsLaterWorld, FrameTrue-later, wake_for_kept, deliver_kept, numbers_below, depths_in, frames_past_true, filter_frames}
use Rattle.gr_model_calls.proofs.runs.Schedules.{next_kept, start_fits, clocked_fits, frame_at_true}

-- a world with another clock, or with other logs
abbrev pub clocked : World → ℕ → ℕ → World
clocked w now most = record { clock = now; most = most; frames = w.frames; views = w.views; logs = w.logs }

-- the world with other logs
abbrev pub with_logs : World → List Log → World
with_logs w logs = record { clock = w.clock; most = w.most; frames = w.frames; views = w.views; logs = logs }

-- a property of worlds, and one of each frame sent, that each wake and delivery keeps
pub record IsCallClosed (net : Net) (R : Frame → Type 0) (P : World → Type 0) : Type 0 where
  pub sent : (w : World) → P w → Each R w.frames
  pub woken : (w : World) (b p : ℕ) → WorldFits net w → b < net.brokers → p < net.publishers → P w → P (wake_for net w b p).world
  pub delivered : (w : World) (f : Frame) → WorldFits net w → FrameTrue net w f → R f → P w → P (deliver_frame net w f).world

-- and that each part of a step keeps
pub record IsClosed (net : Net) (R : Frame → Type 0) (P : World → Type 0) : Type 0 where
  pub calls : IsCallClosed net R P
  pub published : (w : World) (p number : ℕ) (e : Event) → WorldFits net w → p < net.publishers → P w → P (publish_now net w p number e).world
  pub joined : (w : World) (s p : ℕ) → WorldFits net w → is_late net s ≡ true → p < net.publishers → P w → P (join_now net w s p).world
  pub at_clock : (w : World) (now : ℕ) → WorldFits net w → P w → P (clocked w now (max now w.most))
  pub restarts : (w : World) (logs : List Log) (b : ℕ) → WorldFits net w → b < net.brokers → P w → P (restarted net (with_logs w logs) b)

-- the world fits on, and the property holds after it
pub record Goes (net : Net) (P : World → Type 0) (w : World) (t : Transition) : Type 0 where
  pub kept : Kept net w t
  pub holds : P t.world

-- what goes on fitting through one part of a step and then another does so through both
pub Goes-after : (net : Net) (P : World → Type 0) (w : World) (t : Transition) (f : World → Transition) → Goes net P w t → Goes net P t.world (f t.world) → Goes net P w (followed_by t f)
Goes-after net P w t f a k = record { kept = Kept-after net w t f a.kept k.kept; holds = k.holds }

-- a frame that may be delivered
abbrev pub IsReady : Net → (Frame → Type 0) → World → Frame → Type 0
IsReady net R w f = FrameTrue net w f × R f

-- it does so through all turns, one after another
pub in_turn_goes : {X : Type 0} (net : Net) (P : World → Type 0) (ok : World → X → Type 0) (f : World → X → Transition) → ((w u : World) (x : X) → IsLaterWorld net w u → ok w x → ok u x) → ((w : World) (x : X) → WorldFits net w → P w → ok w x → Goes net P w (f w x)) →
    (xs : List X) (w : World) → WorldFits net w → P w → Each (ok w) xs → Goes net P w (in_turn f xs w)
in_turn_goes {X} net P ok f stays one [] w fit h a = record { kept = Kept-refl net w fit; holds = h }
in_turn_goes {X} net P ok f stays one (x ∷ xs) w fit h a =
    let k = one w x fit h a.0 in
    Goes-after net P w (f w x) (in_turn f xs) k (in_turn_goes net P ok f stays one xs (f w x).world k.kept.fits k.holds (all_stay xs a.1 k.kept.later))
  where
    all_stay : (ys : List X) → Each (ok w) ys → IsLaterWorld net w (f w x).world → Each (ok (f w x).world) ys
    all_stay [] b l = tt
    all_stay (y ∷ ys) b l = (stays w (f w x).world y l b.0, all_stay ys b.1 l)

-- what holds of each frame holds of each past the first few
pub Each-past : (R : Frame → Type 0) (n : ℕ) (fs : List Frame) → Each R fs → Each R (frames_past n fs)
Each-past R zero fs a = a
Each-past R (suc n) [] a = tt
Each-past R (suc n) (f ∷ fs) a = Each-past R n fs a.1

-- what holds of each holds of each that passes a test
pub Each-kept : {X : Type 0} (P : X → Type 0) (test : X → Bool) (xs : List X) → Each P xs → Each P (filter test xs)
Each-kept P test [] a = tt
Each-kept P test (x ∷ xs) a =
    elim (cases_Bool (test x)) [
      | inl e ↦ rw e (a.0, Each-kept P test xs a.1)
      | inr e ↦ rw e (Each-kept P test xs a.1)
    ]

-- two properties of each are one of both
pub Each-both : {X : Type 0} (P R : X → Type 0) (xs : List X) → Each P xs → Each R xs → Each (λ x. P x × R x) xs
Each-both P R [] a b = tt
Each-both P R (x ∷ xs) a b = ((a.0, b.0), Each-both P R xs a.1 b.1)

-- the frames past the first so many that pass a test may be delivered
pub ready : (net : Net) (R : Frame → Type 0) (P : World → Type 0) (w : World) (n : ℕ) (test : Frame → Bool) → IsCallClosed net R P → WorldFits net w → P w → Each (IsReady net R w) (filter test (frames_past n w.frames))
ready net R P w n test c f h = Each-both (FrameTrue net w) R (filter test (frames_past n w.frames)) (filter_frames net w test (frames_past n w.frames) (frames_past_true net w n w.frames f.frames)) (Each-kept R test (frames_past n w.frames) (Each-past R n w.frames (c.sent w h)))

ready_later : (net : Net) (R : Frame → Type 0) (w u : World) (f : Frame) → IsLaterWorld net w u → IsReady net R w f → IsReady net R u f
ready_later net R w u f l a = (FrameTrue-later net w u f l a.0, a.1)

pub wake_for_goes : (net : Net) (R : Frame → Type 0) (P : World → Type 0) (w : World) (b p : ℕ) → IsNet net → IsCallClosed net R P → WorldFits net w → P w → b < net.brokers → p < net.publishers → Goes net P w (wake_for net w b p)
wake_for_goes net R P w b p n c f h i j = record { kept = wake_for_kept net w b p n f i j; holds = c.woken w b p f i j h }

pub deliver_goes : (net : Net) (R : Frame → Type 0) (P : World → Type 0) (w : World) (x : Frame) → IsNet net → IsCallClosed net R P → WorldFits net w → P w → IsReady net R w x → Goes net P w (deliver_frame net w x)
deliver_goes net R P w x n c f h a = record { kept = deliver_kept net w x n f a.0; holds = c.delivered w x f a.0 a.1 h }

pub deliver_up_goes : (net : Net) (R : Frame → Type 0) (P : World → Type 0) (fuel : ℕ) (fs : List Frame) (w : World) → IsNet net → IsCallClosed net R P → WorldFits net w → P w → Each (IsReady net R w) fs → Goes net P w (deliver_up net fuel fs w)
unfolding deliver_up_by
deliver_up_goes net R P zero fs w n c f h a = record { kept = Kept-refl net w f; holds = h }
deliver_up_goes net R P (suc fuel) fs w n c f h a =
    in_turn_goes net P (IsReady net R) (λ u x. followed_by (deliver_frame net u x) (λ y. deliver_up net fuel (filter is_want (sent_since u y)) y)) (ready_later net R)
    (λ u x g k r. let d = deliver_goes net R P u x n c g k r in let y = (deliver_frame net u x).world in
    Goes-after net P u (deliver_frame net u x) (λ y. deliver_up net fuel (filter is_want (sent_since u y)) y) d (deliver_up_goes net R P fuel (filter is_want (sent_since u y)) y n c d.kept.fits d.holds (ready net R P y (length_of u) is_want c d.kept.fits d.holds)))
    fs w f h a
  where
    length_of : World → ℕ
    length_of u = length u.frames

-- what calls keep is kept by a wake with the upward deliveries that follow it
pub wake_up_goes : (net : Net) (R : Frame → Type 0) (P : World → Type 0) (p : ℕ) (w : World) (b : ℕ) → IsNet net → IsCallClosed net R P → WorldFits net w → P w → b < net.brokers → p < net.publishers → Goes net P w (wake_up net p w b)
unfolding wake_up_by
wake_up_goes net R P p w b n c f h i j =
    let k = wake_for_goes net R P w b p n c f h i j in
    let y = (wake_for net w b p).world in
    Goes-after net P w (wake_for net w b p) (λ u. deliver_up net net.brokers (filter is_want (sent_since w u)) u) k (deliver_up_goes net R P net.brokers (filter is_want (sent_since w y)) y n c k.kept.fits k.holds (ready net R P y (length w.frames) is_want c k.kept.fits k.holds))

-- what calls keep is kept by a broker's turn in the second phase
pub hand_down_goes : (net : Net) (R : Frame → Type 0) (P : World → Type 0) (p first : ℕ) (w : World) (b : ℕ) → IsNet net → IsCallClosed net R P → WorldFits net w → P w → Goes net P w (hand_down net p first w b)
unfolding hand_down_by
hand_down_goes net R P p first w b n c f h = in_turn_goes net P (IsReady net R) (deliver_frame net) (ready_later net R) (λ u x g k r. deliver_goes net R P u x n c g k r) (filter (is_know_to p b) (frames_past first w.frames)) w f h (ready net R P w first (is_know_to p b) c f h)

-- what calls keep is kept by the sweep of one publisher
pub sweep_for_goes : (net : Net) (R : Frame → Type 0) (P : World → Type 0) (w : World) (p : ℕ) → IsNet net → IsCallClosed net R P → WorldFits net w → P w → p < net.publishers → Goes net P w (sweep_for net w p)
unfolding sweep_for_by
sweep_for_goes net R P w p n c f h j =
    let up = λ (u : World) (g : WorldFits net u) (k : P u). in_turn_goes net P (λ x b. b < net.brokers) (wake_up net p) (λ x y b l h. h) (λ x b g k h. wake_up_goes net R P p x b n c g k h j) (inwards net p) u g k (depths_in net p (numbers_down net.brokers)) in
    let a = up w f h in
    let w1 = (in_turn (wake_up net p) (inwards net p) w).world in
    let b = in_turn_goes net P (λ x c. c < net.brokers) (hand_down net p (length w.frames)) (λ x y c l h. h) (λ x d g k h. hand_down_goes net R P p (length w.frames) x d n c g k) (outwards net p) w1 a.kept.fits a.holds (depths_in net p (numbers net.brokers)) in
    let w2 = (in_turn (hand_down net p (length w.frames)) (outwards net p) w1).world in
    let d = up w2 b.kept.fits b.holds in
    Goes-after net P w (followed_by (in_turn (wake_up net p) (inwards net p) w) (in_turn (hand_down net p (length w.frames)) (outwards net p))) (in_turn (wake_up net p) (inwards net p)) (Goes-after net P w (in_turn (wake_up net p) (inwards net p) w) (in_turn (hand_down net p (length w.frames)) (outwards net p)) a b) d

-- what calls keep is kept by waking a broker for all publishers
pub wake_all_goes : (net : Net) (R : Frame → Type 0) (P : World → Type 0) (w : World) (b : ℕ) → IsNet net → IsCallClosed net R P → WorldFits net w → P w → b < net.brokers → Goes net P w (wake_all net w b)
unfolding wake_all_by
wake_all_goes net R P w b n c f h i = in_turn_goes net P (λ u p. p < net.publishers) (λ u p. wake_for net u b p) (λ w u p l h. h) (λ u p g k h. wake_for_goes net R P u b p n c g k i h) (numbers net.publishers) w f h (numbers_below 0 net.publishers net.publishers (omega arith))

-- a world at a sweep's moment
pub sweep_holds : (net : Net) (R : Frame → Type 0) (P : World → Type 0) (w : World) (k : ℕ) → IsNet net → IsClosed net R P → WorldFits net w → P w → P (sweep net w k).world
unfolding sweep_by
sweep_holds net R P w k n c f h = go (nat_lt max_tick m)
  where
    m : ℕ
    m = sweep_moment net w

    u : World
    u = clocked w m (max m w.most)

    go : (q : Bool) → P (let t : Transition = elim q [ true ↦ unchanged w (line.RefusedClock k m ∷ []) | false ↦ followed_by (in_turn (sweep_for net) (numbers net.publishers) u) (λ x. unchanged x (line.Swept m ∷ [])) ] in t.world)
    go true = h
    go false = (in_turn_goes net P (λ x p. p < net.publishers) (sweep_for net) (λ x y p l h. h) (λ x p g k h. sweep_for_goes net R P x p n c.calls g k h) (numbers net.publishers) u (clocked_fits net w m (max m w.most) f) (c.at_clock w m f h) (numbers_below 0 net.publishers net.publishers (omega arith))).holds

frame_ready : (R : Frame → Type 0) (fs : List Frame) (k : ℕ) (f : Frame) → Each R fs → slice_get fs k ≡ Some f → R f
frame_ready R [] k f a e = absurd (none_some f e)
  where
    none_some : (f : Frame) → None ≡ Some f → ⊥
    none_some f e = cc
frame_ready R (x ∷ xs) zero f a e = subst R (some_some x f e) a.0
  where
    some_some : (x f : Frame) → Some x ≡ Some f → x ≡ f
    some_some x f e = cc
frame_ready R (x ∷ xs) (suc k) f a e = frame_ready R xs k f a.1 e

-- what holds of each frame sent holds of the one with a number
pub frame_at_ready : (R : Frame → Type 0) (w : World) (k : ℕ) (f : Frame) → Each R w.frames → frame_at w k ≡ Some f → R f
frame_at_ready R w zero f a e = absurd (none_some f e)
  where
    none_some : (f : Frame) → None ≡ Some f → ⊥
    none_some f e = cc
frame_at_ready R w (suc k) f a e = frame_ready R w.frames k f a e

pub publish_stopped_holds : (net : Net) (R : Frame → Type 0) (P : World → Type 0) (w : World) (k p number : ℕ) (stop : Stop) (e : Event) → IsNet net → IsClosed net R P → WorldFits net w → P w → p < net.publishers → P (publish_stopped net w k p number stop e).world
unfolding publish_stopped_by
publish_stopped_holds net R P w k p number stop e n c f h j = host_at (not_empty (net.subscribers_at (net.host p)))
  where
    log : Log
    log = log_of w p

    tick : ℕ
    tick = max (suc log.settled) w.clock

    kept : Bool
    kept = is_kept (log.size - 1) stop.call stop.pick

    logs : List Log
    logs = if kept then set w.logs p (with_event log tick e) else w.logs

    stopped : Transition
    stopped = record {
      world = restarted net (with_logs w logs) (net.host p);
      lines = line.Crashed (net.host p) ∷ ((if kept then line.Kept p number tick else line.Lost p number tick) ∷ opened_lines net logs (net.host p));
    }

    number_at : (q : Bool) → P (let t : Transition = elim q [ false ↦ publish_now net w p number e | true ↦ stopped ] in t.world)
    number_at false = c.published w p number e f j h
    number_at true = c.restarts w logs (net.host p) f (n.host_in p j) h

    host_at : (q : Bool) → P (let t : Transition = elim q [ true ↦ unchanged w (line.RefusedHosts k (net.host p) ∷ []) | false ↦ elim (nat_eq number (suc log.last) && nat_le tick max_tick) [ false ↦ publish_now net w p number e | true ↦ stopped ] ] in t.world)
    host_at true = h
    host_at false = number_at (nat_eq number (suc log.last) && nat_le tick max_tick)

-- what each call, clock and restart keeps is kept by each step
pub next_holds : (net : Net) (R : Frame → Type 0) (P : World → Type 0) (w : World) (l : Line) → IsNet net → IsClosed net R P → WorldFits net w → P w → StepIn net l.step → P (next net w l).world
unfolding next_by crash
next_holds net R P w l n c f h i = go l.step i
  where
    delivered : (k : ℕ) (o : Option Frame) → frame_at w k ≡ o → P (let t : Transition = elim o [ None ↦ unchanged w (line.RefusedFrame l.number k (length w.frames) ∷ []) | Some x ↦ deliver_frame net w x ] in t.world)
    delivered k None e = h
    delivered k (Some x) e = c.calls.delivered w x f (frame_at_true net w k x f e) (frame_at_ready R w k x (c.calls.sent w h) e) h

    bytes_at : (k : ℕ) (o : Option Frame) → P (let t : Transition = elim o [ None ↦ unchanged w (line.RefusedFrame l.number k (length w.frames) ∷ []) | Some x ↦ unchanged w (line.BytesOf k (frame_bytes x) ∷ []) ] in t.world)
    bytes_at k None = h
    bytes_at k (Some x) = h

    crashed : (b : ℕ) (q : Bool) → b < net.brokers → P (let t : Transition = elim q [ true ↦ unchanged w (line.RefusedHosts l.number b ∷ []) | false ↦ crash net w b ] in t.world)
    crashed b true x = h
    crashed b false x = c.restarts w w.logs b f x h

    published : (p number : ℕ) (stop : Option Stop) (e : Event) → p < net.publishers → P (let t : Transition = elim stop [ None ↦ publish_now net w p number e | Some s ↦ publish_stopped net w l.number p number s e ] in t.world)
    published p number None e x = c.published w p number e f x h
    published p number (Some s) e x = publish_stopped_holds net R P w l.number p number s e n c f h x

    go : (s : Step) → StepIn net s → P (let t : Transition = elim s [
      | step.Clock now ↦ unchanged (record { clock = now; most = max now w.most; frames = w.frames; views = w.views; logs = w.logs }) []
      | step.Publish p number stop e ↦ elim stop [ None ↦ publish_now net w p number e | Some s ↦ publish_stopped net w l.number p number s e ]
      | step.Wake b ↦ wake_all net w b
      | step.Deliver k ↦ elim (frame_at w k) [ None ↦ unchanged w (line.RefusedFrame l.number k (length w.frames) ∷ []) | Some f ↦ deliver_frame net w f ]
      | step.Crash b ↦ elim (not_empty (net.subscribers_at b)) [ true ↦ unchanged w (line.RefusedHosts l.number b ∷ []) | false ↦ crash net w b ]
      | step.Sweep ↦ sweep net w l.number
      | step.Join s p ↦ join_now net w s p
      | step.Show ↦ unchanged w (show net w)
      | step.Bytes k ↦ elim (frame_at w k) [ None ↦ unchanged w (line.RefusedFrame l.number k (length w.frames) ∷ []) | Some f ↦ unchanged w (line.BytesOf k (frame_bytes f) ∷ []) ]
    ] in t.world)
    go (step.Clock now) x = c.at_clock w now f h
    go (step.Publish p number stop e) x = published p number stop e x
    go (step.Wake b) x = (wake_all_goes net R P w b n c.calls f h x).holds
    go (step.Deliver k) x = delivered k (frame_at w k) refl
    go (step.Crash b) x = crashed b (not_empty (net.subscribers_at b)) x
    go step.Sweep x = sweep_holds net R P w l.number n c f h
    go (step.Join s p) x = c.joined w s p f x.0 x.1 h
    go step.Show x = h
    go (step.Bytes k) x = bytes_at k (frame_at w k)

-- what each call, clock and restart keeps is kept by every run of steps
pub run_holds : (net : Net) (R : Frame → Type 0) (P : World → Type 0) (w : World) (ls : List Line) → IsNet net → IsClosed net R P → WorldFits net w → P w → StepsIn net ls → P (run_all net w ls).world
run_holds net R P w [] n c f h i = h
run_holds net R P w (l ∷ ls) n c f h i = run_holds net R P (next net w l).world ls n c (next_kept net w l n f i.0).fits (next_holds net R P w l n c f h i.0) i.1

-- over every schedule
pub holds_always : (net : Net) (R : Frame → Type 0) (P : World → Type 0) (ls : List Line) → IsNet net → IsClosed net R P → P (start net) → StepsIn net ls → P (run_all net (start net) ls).world
holds_always net R P ls n c h i = run_holds net R P (start net) ls n c (start_fits net n) h i
