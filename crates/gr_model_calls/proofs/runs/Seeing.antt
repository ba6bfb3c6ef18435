-- A run in which each call sees a net of its own is the run on one net, where each call does the same on both
use Rattle.std.proofs.Common.{◌≡◌, ◌⊎◌, inl, inr, ⊎_elim, ℕ, suc, zero, ◌-◌, ◌<◌, max, Bool, true, false, ◌&&◌, List, [], ◌∷◌, ◌++◌, refl, subst, ap, ◌∙◌, length, set, Option, Some, None, arith}
use Rattle.std.specs.Prelude.{nat_eq, nat_le, nat_lt, if◌then◌else◌, filter}
use Rattle.gr_event.specs.declared.event.Event.{Event}
use Rattle.gr_frame.specs.declared.Frame.{Frame}
use Rattle.gr_frame.specs.Bytes.{frame_bytes}
use Rattle.gr_sched.specs.declared.step.Stop.{Stop}
use Rattle.gr_sched.specs.declared.step.Step.{Step}
use Rattle.gr_sched.specs.declared.step.Step.TheVariants as step
use Rattle.gr_sched.specs.declared.step.Line.{Line}
use Rattle.gr_model.specs.declared.report.Report.{Report}
use Rattle.gr_model.specs.declared.report.Report.TheVariants as line
use Rattle.gr_model.specs.Net.{Net, not_empty, numbers, with_wants}
use Rattle.gr_model.specs.Broker.{View, Log, started, with_event, is_kept, max_tick}
use Rattle.gr_model.specs.World.{World, Transition, log_of, unchanged, followed_by, in_turn, wake_for_by, wake_all_by, deliver_frame_by, publish_now_by, join_now_by, deliver_up_by, wake_up_by, hand_down_by, sweep_for_by, sweep_by, sweep_moment, frames_past, sent_since, is_want, is_know_to, outwards, inwards, numbers_down, frame_at, restarted, crash, publish_stopped_by, next_by, start, start_by, show, run_from_by, run_all_by, report_of_by, opened_lines}
use Rattle.gr_model_calls.specs.OneNet.{wake_for, wake_all, deliver_frame, publish_now, join_now, deliver_up, wake_up, hand_down, sweep_for, sweep, publish_stopped, next, run_from, run_all, report_of}
use Rattle.gr_model.specs.Tree.{IsNet}
use Rattle.gr_model_calls.specs.Fits.{WorldFits, FrameTrue, StepIn, StepsIn}
use Rattle.gr_model_calls.proofs.runs.Worlds.{Kept, Kept-after, Each, IsLaterWorld, FrameTrue-later, numbers_below, depths_in, wake_for_kept, deliver_kept, in_turn_kept, deliver_up_kept, wake_up_kept, hand_down_kept, sweep_for_kept, frames_past_true, filter_frames}
use Rattle.gr_model_calls.proofs.runs.Schedules.{next_kept, clocked_fits, frame_at_true, start_fits}
use Rattle.gr_model_calls.proofs.runs.Closed.{clocked, with_logs}

-- B says of a world that what still comes fits to it; it is carried back
abbrev pub Back : (World → Type 0) → (World → Transition) → Type 0
Back B f = (w : World) → B (f w).world → B w

-- t and u are the same, where what still comes fits at the end of one of them
pub record Runs (B : World → Type 0) (t u : Transition) : Type 0 where
  pub on : (B t.world) ⊎ (B u.world) → t ≡ u

after_same : (s u : Transition) (f g : World → Transition) → s ≡ u → f u.world ≡ g u.world → followed_by s f ≡ followed_by u g
after_same s u f g e h =
    let onward : Transition → Transition = λ r. record { world = r.world; lines = u.lines ++ r.lines } in
    ap (λ (z : Transition). followed_by z f) e ∙ ap onward h

pub Runs-after : (B : World → Type 0) (s u : Transition) (f g : World → Transition) → Back B f → Back B g → Runs B s u → Runs B (f u.world) (g u.world) → Runs B (followed_by s f) (followed_by u g)
Runs-after B s u f g bf bg a k = record {
  on = λ x. ⊎_elim
      (λ b. let e = a.on (inl (bf s.world b)) in after_same s u f g e (k.on (inl (subst (λ (z : Transition). B (f z.world).world) e b))))
      (λ b. let e = a.on (inr (bg u.world b)) in after_same s u f g e (k.on (inr b))) x;
}

pub Runs-same : (B : World → Type 0) (t : Transition) → Runs B t t
Runs-same B t = record { on = λ x. refl }

pub in_turn_back : {X : Type 0} (B : World → Type 0) (f : World → X → Transition) → ((x : X) → Back B (λ w. f w x)) → (xs : List X) → Back B (in_turn f xs)
in_turn_back B f one [] w b = b
in_turn_back B f one (x ∷ xs) w b = one x w (in_turn_back B f one xs (f w x).world b)

all_stay : {X : Type 0} (net : Net) (ok : World → X → Type 0) → ((w u : World) (x : X) → IsLaterWorld net w u → ok w x → ok u x) → (w u : World) → IsLaterWorld net w u → (ys : List X) → Each (ok w) ys → Each (ok u) ys
all_stay net ok stays w u l [] b = tt
all_stay net ok stays w u l (y ∷ ys) b = (stays w u y l b.0, all_stay net ok stays w u l ys b.1)

pub in_turn_runs : {X : Type 0} (net : Net) (B : World → Type 0) (ok : World → X → Type 0) (f g : World → X → Transition) → ((x : X) → Back B (λ w. f w x)) → ((x : X) → Back B (λ w. g w x)) → ((w u : World) (x : X) → IsLaterWorld net w u → ok w x → ok u x) → ((w : World) (x : X) → WorldFits net w → ok w x → Kept net w (g w x)) →
    ((w : World) (x : X) → WorldFits net w → ok w x → Runs B (f w x) (g w x)) → (xs : List X) (w : World) → WorldFits net w → Each (ok w) xs → Runs B (in_turn f xs w) (in_turn g xs w)
in_turn_runs net B ok f g bf bg stays kept one [] w fit a = Runs-same B (unchanged w [])
in_turn_runs net B ok f g bf bg stays kept one (x ∷ xs) w fit a =
    let k = kept w x fit a.0 in
    Runs-after B (f w x) (g w x) (in_turn f xs) (in_turn g xs) (in_turn_back B f bf xs) (in_turn_back B g bg xs) (one w x fit a.0) (in_turn_runs net B ok f g bf bg stays kept one xs (g w x).world k.fits (all_stay net ok stays w (g w x).world k.later xs a.1))

-- what still comes is carried back over each call, clock and restart, whatever world it is
pub record Backs (net : Net) (see : View → Net) (B : World → Type 0) : Type 0 where
  pub woken : (b p : ℕ) → Back B (λ w. wake_for_by see net w b p)
  pub delivered : (f : Frame) → Back B (λ w. deliver_frame_by see net w f)
  pub published : (p number : ℕ) (e : Event) → Back B (λ w. publish_now_by see net w p number e)
  pub joined : (s p : ℕ) → Back B (λ w. join_now_by see net w s p)
  pub at_clock : (w : World) (now most : ℕ) → B (clocked w now most) → B w
  pub kept : (w : World) (p : ℕ) (e : Event) (b : ℕ) → B (restarted net (with_logs w (set w.logs p (with_event (log_of w p) (max (suc (log_of w p).settled) w.clock) e))) b) → B w
  pub again : (w : World) (b : ℕ) → B (restarted net w b) → B w

module _ (net : Net) (see : View → Net) (B : World → Type 0) (k : Backs net see B) where
  deliver_up_back : (fuel : ℕ) (fs : List Frame) → Back B (deliver_up_by see net fuel fs)
  unfolding deliver_up_by
  deliver_up_back zero fs w b = b
  deliver_up_back (suc fuel) fs w b =
      in_turn_back B (λ u x. followed_by (deliver_frame_by see net u x) (λ y. deliver_up_by see net fuel (filter is_want (sent_since u y)) y))
      (λ x u c. k.delivered x u (deliver_up_back fuel (filter is_want (sent_since u (deliver_frame_by see net u x).world)) (deliver_frame_by see net u x).world c)) fs w b

  wake_up_back : (p b : ℕ) → Back B (λ w. wake_up_by see net p w b)
  unfolding wake_up_by
  wake_up_back p b w x = k.woken b p w (deliver_up_back net.brokers (filter is_want (sent_since w (wake_for_by see net w b p).world)) (wake_for_by see net w b p).world x)

  hand_down_back : (p first b : ℕ) → Back B (λ w. hand_down_by see net p first w b)
  unfolding hand_down_by
  hand_down_back p first b w x = in_turn_back B (deliver_frame_by see net) k.delivered (filter (is_know_to p b) (frames_past first w.frames)) w x

  pub wakes_back : (p : ℕ) → Back B (in_turn (wake_up_by see net p) (inwards net p))
  wakes_back p = in_turn_back B (wake_up_by see net p) (wake_up_back p) (inwards net p)

  downs_back : (p first : ℕ) → Back B (in_turn (hand_down_by see net p first) (outwards net p))
  downs_back p first = in_turn_back B (hand_down_by see net p first) (hand_down_back p first) (outwards net p)

  sweep_for_back : (p : ℕ) → Back B (λ w. sweep_for_by see net w p)
  unfolding sweep_for_by
  sweep_for_back p w x =
      let s = in_turn (wake_up_by see net p) (inwards net p) w in
      let t = in_turn (hand_down_by see net p (length w.frames)) (outwards net p) s.world in
      wakes_back p w (downs_back p (length w.frames) s.world (wakes_back p t.world x))

  pub wake_all_back : (b : ℕ) → Back B (λ w. wake_all_by see net w b)
  unfolding wake_all_by
  wake_all_back b w x = in_turn_back B (λ u p. wake_for_by see net u b p) (λ p. k.woken b p) (numbers net.publishers) w x

  sweep_back : (n : ℕ) → Back B (λ w. sweep_by see net w n)
  unfolding sweep_by
  sweep_back n w = go (nat_lt max_tick m)
    where
      m : ℕ
      m = sweep_moment net w

      u : World
      u = clocked w m (max m w.most)

      go : (q : Bool) → (let t : Transition = elim q [ true ↦ unchanged w (line.RefusedClock n m ∷ []) | false ↦ followed_by (in_turn (sweep_for_by see net) (numbers net.publishers) u) (λ x. unchanged x (line.Swept m ∷ [])) ] in B t.world) → B w
      go true b = b
      go false b = k.at_clock w m (max m w.most) (in_turn_back B (sweep_for_by see net) sweep_for_back (numbers net.publishers) u b)

  publish_stopped_back : (i p number : ℕ) (stop : Stop) (e : Event) → Back B (λ w. publish_stopped_by see net w i p number stop e)
  unfolding publish_stopped_by
  publish_stopped_back i p number stop e w = host_at (not_empty (net.subscribers_at (net.host p)))
    where
      log : Log
      log = log_of w p

      tick : ℕ
      tick = max (suc log.settled) w.clock

      stopped : Bool → Transition
      stopped q = let logs : List Log = if q then set w.logs p (with_event log tick e) else w.logs in record {
        world = restarted net (with_logs w logs) (net.host p);
        lines = line.Crashed (net.host p) ∷ ((if q then line.Kept p number tick else line.Lost p number tick) ∷ opened_lines net logs (net.host p));
      }

      again : (q : Bool) → B (stopped q).world → B w
      again true b = k.kept w p e (net.host p) b
      again false b = k.again w (net.host p) b

      number_at : (q : Bool) → (let t : Transition = elim q [ false ↦ publish_now_by see net w p number e | true ↦ stopped (is_kept (log.size - 1) stop.call stop.pick) ] in B t.world) → B w
      number_at false b = k.published p number e w b
      number_at true b = again (is_kept (log.size - 1) stop.call stop.pick) b

      host_at : (q : Bool) → (let t : Transition = elim q [ true ↦ unchanged w (line.RefusedHosts i (net.host p) ∷ []) | false ↦ elim (nat_eq number (suc log.last) && nat_le tick max_tick) [ false ↦ publish_now_by see net w p number e | true ↦ stopped (is_kept (log.size - 1) stop.call stop.pick) ] ] in B t.world) → B w
      host_at true b = b
      host_at false b = number_at (nat_eq number (suc log.last) && nat_le tick max_tick) b

  pub next_back : (l : Line) → Back B (λ w. next_by see net w l)
  unfolding next_by crash
  next_back l w = go l.step
    where
      delivered : (j : ℕ) (o : Option Frame) → (let t : Transition = elim o [ None ↦ unchanged w (line.RefusedFrame l.number j (length w.frames) ∷ []) | Some x ↦ deliver_frame_by see net w x ] in B t.world) → B w
      delivered j None b = b
      delivered j (Some x) b = k.delivered x w b

      bytes_at : (j : ℕ) (o : Option Frame) → (let t : Transition = elim o [ None ↦ unchanged w (line.RefusedFrame l.number j (length w.frames) ∷ []) | Some x ↦ unchanged w (line.BytesOf j (frame_bytes x) ∷ []) ] in B t.world) → B w
      bytes_at j None b = b
      bytes_at j (Some x) b = b

      crashed : (c : ℕ) (q : Bool) → (let t : Transition = elim q [ true ↦ unchanged w (line.RefusedHosts l.number c ∷ []) | false ↦ crash net w c ] in B t.world) → B w
      crashed c true b = b
      crashed c false b = k.again w c b

      published : (p number : ℕ) (stop : Option Stop) (e : Event) → (let t : Transition = elim stop [ None ↦ publish_now_by see net w p number e | Some s ↦ publish_stopped_by see net w l.number p number s e ] in B t.world) → B w
      published p number None e b = k.published p number e w b
      published p number (Some stop) e b = publish_stopped_back l.number p number stop e w b

      told : Step → Transition
      told z = elim z [
        | step.Clock now ↦ unchanged (record { clock = now; most = max now w.most; frames = w.frames; views = w.views; logs = w.logs }) []
        | step.Publish p number stop e ↦ elim stop [ None ↦ publish_now_by see net w p number e | Some s ↦ publish_stopped_by see net w l.number p number s e ]
        | step.Wake b ↦ wake_all_by see net w b
        | step.Deliver j ↦ elim (frame_at w j) [ None ↦ unchanged w (line.RefusedFrame l.number j (length w.frames) ∷ []) | Some f ↦ deliver_frame_by see net w f ]
        | step.Crash b ↦ elim (not_empty (net.subscribers_at b)) [ true ↦ unchanged w (line.RefusedHosts l.number b ∷ []) | false ↦ crash net w b ]
        | step.Sweep ↦ sweep_by see net w l.number
        | step.Join s p ↦ join_now_by see net w s p
        | step.Show ↦ unchanged w (show net w)
        | step.Bytes j ↦ elim (frame_at w j) [ None ↦ unchanged w (line.RefusedFrame l.number j (length w.frames) ∷ []) | Some f ↦ unchanged w (line.BytesOf j (frame_bytes f) ∷ []) ]
      ]

      go : (z : Step) → B (told z).world → B w
      go (step.Clock now) b = k.at_clock w now (max now w.most) b
      go (step.Publish p number stop e) b = published p number stop e b
      go (step.Wake c) b = wake_all_back c w b
      go (step.Deliver j) b = delivered j (frame_at w j) b
      go (step.Crash c) b = crashed c (not_empty (net.subscribers_at c)) b
      go step.Sweep b = sweep_back l.number w b
      go (step.Join s p) b = k.joined s p w b
      go step.Show b = b
      go (step.Bytes j) b = bytes_at j (frame_at w j) b

  pub run_back : (ls : List Line) → Back B (λ w. run_all_by see net w ls)
  run_back [] w b = b
  run_back (l ∷ ls) w b = next_back l w (run_back ls (next_by see net w l).world b)

-- each call does the same in a world that fits on the one net, where what comes fits to the world after it
pub record SameCalls (net : Net) (wants : ℕ → ℕ → ℕ → Event → Bool) (see : View → Net) (B : World → Type 0) : Type 0 where
  pub woken : (w : World) (b p : ℕ) → WorldFits (with_wants net wants) w → b < net.brokers → p < net.publishers → Runs B (wake_for_by see net w b p) (wake_for (with_wants net wants) w b p)
  pub delivered : (w : World) (f : Frame) → WorldFits (with_wants net wants) w → FrameTrue (with_wants net wants) w f → Runs B (deliver_frame_by see net w f) (deliver_frame (with_wants net wants) w f)
  pub published : (w : World) (p number : ℕ) (e : Event) → WorldFits (with_wants net wants) w → p < net.publishers → Runs B (publish_now_by see net w p number e) (publish_now (with_wants net wants) w p number e)
  pub joined : (w : World) (s p : ℕ) → WorldFits (with_wants net wants) w → p < net.publishers → Runs B (join_now_by see net w s p) (join_now (with_wants net wants) w s p)

-- what is read of a net but who wants what is the same
restarted_same : (net : Net) (wants : ℕ → ℕ → ℕ → Event → Bool) (w : World) (b : ℕ) → restarted net w b ≡ restarted (with_wants net wants) w b
unfolding restarted started
restarted_same net wants w b = refl

opened_same : (net : Net) (wants : ℕ → ℕ → ℕ → Event → Bool) (logs : List Log) (b : ℕ) → opened_lines net logs b ≡ opened_lines (with_wants net wants) logs b
unfolding opened_lines
opened_same net wants logs b = refl

show_same : (net : Net) (wants : ℕ → ℕ → ℕ → Event → Bool) (w : World) → show net w ≡ show (with_wants net wants) w
unfolding show
show_same net wants w = refl

moment_same : (net : Net) (wants : ℕ → ℕ → ℕ → Event → Bool) (w : World) → sweep_moment net w ≡ sweep_moment (with_wants net wants) w
unfolding sweep_moment
moment_same net wants w = refl

crash_same : (net : Net) (wants : ℕ → ℕ → ℕ → Event → Bool) (w : World) (b : ℕ) → crash net w b ≡ crash (with_wants net wants) w b
unfolding crash restarted started opened_lines
crash_same net wants w b = refl

module _ (net : Net) (wants : ℕ → ℕ → ℕ → Event → Bool) (see : View → Net) (B : World → Type 0) (n : IsNet (with_wants net wants)) (ks : Backs net see B) (ko : Backs (with_wants net wants) (λ _. with_wants net wants) B) (s : SameCalls net wants see B) where
  abbrev one : Net
  one = with_wants net wants

  abbrev on_one : View → Net
  on_one v = with_wants net wants

  some_true : (w : World) (test : Frame → Bool) (k : ℕ) → WorldFits one w → Each (FrameTrue one w) (filter test (frames_past k w.frames))
  some_true w test k f = filter_frames one w test (frames_past k w.frames) (frames_past_true one w k w.frames f.frames)

  deliver_up_runs : (fuel : ℕ) (fs : List Frame) (w : World) → WorldFits one w → Each (FrameTrue one w) fs → Runs B (deliver_up_by see net fuel fs w) (deliver_up one fuel fs w)
  unfolding deliver_up_by
  deliver_up_runs zero fs w f a = Runs-same B (unchanged w [])
  deliver_up_runs (suc fuel) fs w f a =
      in_turn_runs one B (FrameTrue one) (λ u x. followed_by (deliver_frame_by see net u x) (λ y. deliver_up_by see net fuel (filter is_want (sent_since u y)) y)) (λ u x. followed_by (deliver_frame one u x) (λ y. deliver_up one fuel (filter is_want (sent_since u y)) y))
      (λ x u c. ks.delivered x u (deliver_up_back net see B ks fuel (filter is_want (sent_since u (deliver_frame_by see net u x).world)) (deliver_frame_by see net u x).world c))
      (λ x u c. ko.delivered x u (deliver_up_back one on_one B ko fuel (filter is_want (sent_since u (deliver_frame one u x).world)) (deliver_frame one u x).world c))
      (FrameTrue-later one)
      (λ u x g h. let k = deliver_kept one u x n g h in let y = (deliver_frame one u x).world in
      Kept-after one u (deliver_frame one u x) (λ y. deliver_up one fuel (filter is_want (sent_since u y)) y) k (deliver_up_kept one fuel (filter is_want (sent_since u y)) y n k.fits (some_true y is_want (length u.frames) k.fits)))
      (λ u x g r. let d = deliver_kept one u x n g r in let y = (deliver_frame one u x).world in
      Runs-after B (deliver_frame_by see net u x) (deliver_frame one u x) (λ y. deliver_up_by see net fuel (filter is_want (sent_since u y)) y) (λ y. deliver_up one fuel (filter is_want (sent_since u y)) y)
      (λ z. deliver_up_back net see B ks fuel (filter is_want (sent_since u z)) z) (λ z. deliver_up_back one on_one B ko fuel (filter is_want (sent_since u z)) z) (s.delivered u x g r)
      (deliver_up_runs fuel (filter is_want (sent_since u y)) y d.fits (some_true y is_want (length u.frames) d.fits)))
      fs w f a

  wake_up_runs : (p : ℕ) (w : World) (b : ℕ) → WorldFits one w → b < net.brokers → p < net.publishers → Runs B (wake_up_by see net p w b) (wake_up one p w b)
  unfolding wake_up_by
  wake_up_runs p w b f i j =
      let k = wake_for_kept one w b p n f i j in
      let y = (wake_for one w b p).world in
      Runs-after B (wake_for_by see net w b p) (wake_for one w b p) (λ u. deliver_up_by see net net.brokers (filter is_want (sent_since w u)) u) (λ u. deliver_up one net.brokers (filter is_want (sent_since w u)) u)
      (λ z. deliver_up_back net see B ks net.brokers (filter is_want (sent_since w z)) z) (λ z. deliver_up_back one on_one B ko net.brokers (filter is_want (sent_since w z)) z) (s.woken w b p f i j)
      (deliver_up_runs net.brokers (filter is_want (sent_since w y)) y k.fits (some_true y is_want (length w.frames) k.fits))

  hand_down_runs : (p first : ℕ) (w : World) (b : ℕ) → WorldFits one w → Runs B (hand_down_by see net p first w b) (hand_down one p first w b)
  unfolding hand_down_by
  hand_down_runs p first w b f =
      in_turn_runs one B (FrameTrue one) (deliver_frame_by see net) (deliver_frame one) ks.delivered ko.delivered (FrameTrue-later one) (λ u x g r. deliver_kept one u x n g r) (λ u x g r. s.delivered u x g r) (filter (is_know_to p b) (frames_past first w.frames)) w f (some_true w (is_know_to p b) first f)

  wakes_kept : (p : ℕ) (w : World) → WorldFits one w → p < net.publishers → Kept one w (in_turn (wake_up one p) (inwards one p) w)
  wakes_kept p w f j = in_turn_kept one (λ x b. b < net.brokers) (wake_up one p) (λ x y b l h. h) (λ x b g h. wake_up_kept one p x b n g h j) (inwards one p) w f (depths_in one p (numbers_down net.brokers))

  wakes_runs : (p : ℕ) (w : World) → WorldFits one w → p < net.publishers → Runs B (in_turn (wake_up_by see net p) (inwards net p) w) (in_turn (wake_up one p) (inwards one p) w)
  wakes_runs p w f j =
      in_turn_runs one B (λ x b. b < net.brokers) (wake_up_by see net p) (wake_up one p) (wake_up_back net see B ks p) (wake_up_back one on_one B ko p) (λ x y b l h. h) (λ x b g h. wake_up_kept one p x b n g h j) (λ x b g h. wake_up_runs p x b g h j) (inwards one p) w f (depths_in one p (numbers_down net.brokers))

  sweep_for_runs : (w : World) (p : ℕ) → WorldFits one w → p < net.publishers → Runs B (sweep_for_by see net w p) (sweep_for one w p)
  unfolding sweep_for_by
  sweep_for_runs w p f j =
      let first = length w.frames in
      let a = wakes_kept p w f j in
      let w1 = (in_turn (wake_up one p) (inwards one p) w).world in
      let b = in_turn_kept one (λ x c. c < net.brokers) (hand_down one p first) (λ x y c l h. h) (λ x d g h. hand_down_kept one p first x d n g) (outwards one p) w1 a.fits (depths_in one p (numbers net.brokers)) in
      let w2 = (in_turn (hand_down one p first) (outwards one p) w1).world in
      let down = in_turn_runs one B (λ x c. c < net.brokers) (hand_down_by see net p first) (hand_down one p first) (hand_down_back net see B ks p first) (hand_down_back one on_one B ko p first) (λ x y c l h. h) (λ x d g h. hand_down_kept one p first x d n g) (λ x d g h. hand_down_runs p first x d g) (outwards one p) w1 a.fits (depths_in one p (numbers net.brokers)) in
      Runs-after B (followed_by (in_turn (wake_up_by see net p) (inwards net p) w) (in_turn (hand_down_by see net p first) (outwards net p))) (followed_by (in_turn (wake_up one p) (inwards one p) w) (in_turn (hand_down one p first) (outwards one p))) (in_turn (wake_up_by see net p) (inwards net p)) (in_turn (wake_up one p) (inwards one p))
      (wakes_back net see B ks p) (wakes_back one on_one B ko p)
      (Runs-after B (in_turn (wake_up_by see net p) (inwards net p) w) (in_turn (wake_up one p) (inwards one p) w) (in_turn (hand_down_by see net p first) (outwards net p)) (in_turn (hand_down one p first) (outwards one p)) (downs_back net see B ks p first) (downs_back one on_one B ko p first) (wakes_runs p w f j) down)
      (wakes_runs p w2 b.fits j)

  pub wake_all_runs : (w : World) (b : ℕ) → WorldFits one w → b < net.brokers → Runs B (wake_all_by see net w b) (wake_all one w b)
  unfolding wake_all_by
  wake_all_runs w b f i =
      in_turn_runs one B (λ u p. p < net.publishers) (λ u p. wake_for_by see net u b p) (λ u p. wake_for one u b p) (λ p. ks.woken b p) (λ p. ko.woken b p) (λ w u p l h. h) (λ u p g h. wake_for_kept one u b p n g i h) (λ u p g h. s.woken u b p g i h) (numbers net.publishers) w f (numbers_below 0 net.publishers net.publishers (omega arith))

  sweep_runs : (w : World) (k : ℕ) → WorldFits one w → Runs B (sweep_by see net w k) (sweep one w k)
  unfolding sweep_by sweep_moment
  sweep_runs w k f = go (nat_lt max_tick m)
    where
      m : ℕ
      m = sweep_moment one w

      u : World
      u = clocked w m (max m w.most)

      ps : List ℕ
      ps = numbers net.publishers

      turns : Runs B (in_turn (sweep_for_by see net) ps u) (in_turn (sweep_for one) ps u)
      turns = in_turn_runs one B (λ x p. p < net.publishers) (sweep_for_by see net) (sweep_for one) (sweep_for_back net see B ks) (sweep_for_back one on_one B ko) (λ x y p l h. h) (λ x p g h. sweep_for_kept one x p n g h) (λ x p g h. sweep_for_runs x p g h) ps u (clocked_fits one w m (max m w.most) f) (numbers_below 0 net.publishers net.publishers (omega arith))

      go : (q : Bool) → Runs B (elim q [ true ↦ unchanged w (line.RefusedClock k m ∷ []) | false ↦ followed_by (in_turn (sweep_for_by see net) ps u) (λ x. unchanged x (line.Swept m ∷ [])) ]) (elim q [ true ↦ unchanged w (line.RefusedClock k m ∷ []) | false ↦ followed_by (in_turn (sweep_for one) ps u) (λ x. unchanged x (line.Swept m ∷ [])) ])
      go true = Runs-same B (unchanged w (line.RefusedClock k m ∷ []))
      go false = Runs-after B (in_turn (sweep_for_by see net) ps u) (in_turn (sweep_for one) ps u) (λ x. unchanged x (line.Swept m ∷ [])) (λ x. unchanged x (line.Swept m ∷ [])) (λ x b. b) (λ x b. b) turns (Runs-same B (unchanged (in_turn (sweep_for one) ps u).world (line.Swept m ∷ [])))

  publish_stopped_runs : (w : World) (k p number : ℕ) (stop : Stop) (e : Event) → WorldFits one w → p < net.publishers → Runs B (publish_stopped_by see net w k p number stop e) (publish_stopped one w k p number stop e)
  unfolding publish_stopped_by restarted started opened_lines
  publish_stopped_runs w k p number stop e f j = host_at (not_empty (net.subscribers_at (net.host p)))
    where
      log : Log
      log = log_of w p

      tick : ℕ
      tick = max (suc log.settled) w.clock

      stopped : Net → Bool → Transition
      stopped g q = let logs : List Log = if q then set w.logs p (with_event log tick e) else w.logs in record {
        world = restarted g (with_logs w logs) (net.host p);
        lines = line.Crashed (net.host p) ∷ ((if q then line.Kept p number tick else line.Lost p number tick) ∷ opened_lines g logs (net.host p));
      }

      again : (q : Bool) → Runs B (stopped net q) (stopped one q)
      again q = Runs-same B (stopped net q)

      number_at : (q : Bool) → Runs B (elim q [ false ↦ publish_now_by see net w p number e | true ↦ stopped net (is_kept (log.size - 1) stop.call stop.pick) ]) (elim q [ false ↦ publish_now one w p number e | true ↦ stopped one (is_kept (log.size - 1) stop.call stop.pick) ])
      number_at false = s.published w p number e f j
      number_at true = again (is_kept (log.size - 1) stop.call stop.pick)

      host_at : (q : Bool) → Runs B (elim q [ true ↦ unchanged w (line.RefusedHosts k (net.host p) ∷ []) | false ↦ elim (nat_eq number (suc log.last) && nat_le tick max_tick) [ false ↦ publish_now_by see net w p number e | true ↦ stopped net (is_kept (log.size - 1) stop.call stop.pick) ] ])
          (elim q [ true ↦ unchanged w (line.RefusedHosts k (net.host p) ∷ []) | false ↦ elim (nat_eq number (suc log.last) && nat_le tick max_tick) [ false ↦ publish_now one w p number e | true ↦ stopped one (is_kept (log.size - 1) stop.call stop.pick) ] ])
      host_at true = Runs-same B (unchanged w (line.RefusedHosts k (net.host p) ∷ []))
      host_at false = number_at (nat_eq number (suc log.last) && nat_le tick max_tick)

  pub next_runs : (w : World) (l : Line) → WorldFits one w → StepIn one l.step → Runs B (next_by see net w l) (next one w l)
  unfolding next_by crash restarted started opened_lines show
  next_runs w l f i = go l.step i
    where
      delivered : (k : ℕ) (o : Option Frame) → frame_at w k ≡ o → Runs B (elim o [ None ↦ unchanged w (line.RefusedFrame l.number k (length w.frames) ∷ []) | Some x ↦ deliver_frame_by see net w x ]) (elim o [ None ↦ unchanged w (line.RefusedFrame l.number k (length w.frames) ∷ []) | Some x ↦ deliver_frame one w x ])
      delivered k None e = Runs-same B (unchanged w (line.RefusedFrame l.number k (length w.frames) ∷ []))
      delivered k (Some x) e = s.delivered w x f (frame_at_true one w k x f e)

      crashed : (b : ℕ) (q : Bool) → Runs B (elim q [ true ↦ unchanged w (line.RefusedHosts l.number b ∷ []) | false ↦ crash net w b ]) (elim q [ true ↦ unchanged w (line.RefusedHosts l.number b ∷ []) | false ↦ crash one w b ])
      crashed b q = Runs-same B (elim q [ true ↦ unchanged w (line.RefusedHosts l.number b ∷ []) | false ↦ crash net w b ])

      shown : Runs B (unchanged w (show net w)) (unchanged w (show one w))
      shown = Runs-same B (unchanged w (show net w))

      published : (p number : ℕ) (stop : Option Stop) (e : Event) → p < net.publishers → Runs B (elim stop [ None ↦ publish_now_by see net w p number e | Some s ↦ publish_stopped_by see net w l.number p number s e ]) (elim stop [ None ↦ publish_now one w p number e | Some s ↦ publish_stopped one w l.number p number s e ])
      published p number None e x = s.published w p number e f x
      published p number (Some stop) e x = publish_stopped_runs w l.number p number stop e f x

      told : (View → Net) → Net → Step → Transition
      told v g z = elim z [
        | step.Clock now ↦ unchanged (record { clock = now; most = max now w.most; frames = w.frames; views = w.views; logs = w.logs }) []
        | step.Publish p number stop e ↦ elim stop [ None ↦ publish_now_by v g w p number e | Some s ↦ publish_stopped_by v g w l.number p number s e ]
        | step.Wake b ↦ wake_all_by v g w b
        | step.Deliver k ↦ elim (frame_at w k) [ None ↦ unchanged w (line.RefusedFrame l.number k (length w.frames) ∷ []) | Some f ↦ deliver_frame_by v g w f ]
        | step.Crash b ↦ elim (not_empty (g.subscribers_at b)) [ true ↦ unchanged w (line.RefusedHosts l.number b ∷ []) | false ↦ crash g w b ]
        | step.Sweep ↦ sweep_by v g w l.number
        | step.Join s p ↦ join_now_by v g w s p
        | step.Show ↦ unchanged w (show g w)
        | step.Bytes k ↦ elim (frame_at w k) [ None ↦ unchanged w (line.RefusedFrame l.number k (length w.frames) ∷ []) | Some f ↦ unchanged w (line.BytesOf k (frame_bytes f) ∷ []) ]
      ]

      go : (z : Step) → StepIn one z → Runs B (told see net z) (told on_one one z)
      go (step.Clock now) x = Runs-same B (told see net (step.Clock now))
      go (step.Publish p number stop e) x = published p number stop e x
      go (step.Wake b) x = wake_all_runs w b f x
      go (step.Deliver k) x = delivered k (frame_at w k) refl
      go (step.Crash b) x = crashed b (not_empty (net.subscribers_at b))
      go step.Sweep x = sweep_runs w l.number f
      go (step.Join s' p) x = s.joined w s' p f x.1
      go step.Show x = shown
      go (step.Bytes k) x = Runs-same B (told see net (step.Bytes k))

  -- where what comes fits at the end of either, all the run is the same
  pub run_runs : (w : World) (ls : List Line) → WorldFits one w → StepsIn one ls → Runs B (run_all_by see net w ls) (run_all one w ls)
  run_runs w [] f i = Runs-same B (unchanged w [])
  run_runs w (l ∷ ls) f i =
      Runs-after B (next_by see net w l) (next one w l) (λ u. run_all_by see net u ls) (λ u. run_all one u ls) (run_back net see B ks ls) (run_back one on_one B ko ls) (next_runs w l f i.0) (run_runs (next one w l).world ls (next_kept one w l n f i.0).fits i.1)

  -- and so does the report, step by step
  pub lines_run : (w : World) (ls : List Line) → WorldFits one w → StepsIn one ls → (B (run_all_by see net w ls).world) ⊎ (B (run_all one w ls).world) → run_from_by see net w ls ≡ run_from one w ls
  unfolding run_from_by
  lines_run w [] f i b = refl
  lines_run w (l ∷ ls) f i b =
      let k = next_kept one w l n f i.0 in
      let e = (next_runs w l f i.0).on (⊎_elim (λ c. inl (run_back net see B ks ls (next_by see net w l).world c)) (λ c. inr (run_back one on_one B ko ls (next one w l).world c)) b) in
      let onward : Transition → List (List Report) = λ z. z.lines ∷ run_from_by see net z.world ls in
      let more : List (List Report) → List (List Report) = λ z. (next one w l).lines ∷ z in
      ap onward e ∙ ap more (lines_run (next one w l).world ls k.fits i.1 (⊎_elim (λ c. inl (subst (λ (z : Transition). B (run_all_by see net z.world ls).world) e c)) (λ c. inr c) b))

  pub report_runs : (ls : List Line) → StepsIn one ls → (B (run_all_by see net (start net) ls).world) ⊎ (B (run_all one (start net) ls).world) → report_of_by see net ls ≡ report_of one ls
  unfolding report_of_by start_by started
  report_runs ls i b = let first : List (List Report) → List (List Report) = λ z. [] ∷ z in ap first (lines_run (start net) ls (start_fits one n) i b)
