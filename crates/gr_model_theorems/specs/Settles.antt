-- The calls of a sweep in their order, and what it says that a sweep settles everything
use Rattle.std.specs.Prelude.{◌≡◌, ℕ, zero, suc, ◌+◌, ◌≤◌, ◌<◌, max, Bool, true, false, nat_eq, if◌then◌else◌, List, []}
use Rattle.std.specs.Prelude.{◌∷◌, ◌++◌, length, map, filter, nat_le, Some, None, Contains}
use Rattle.gr_frame.specs.declared.Body.TheVariants as body
use Rattle.gr_frame.specs.declared.Frame.{Frame}
use Rattle.gr_model.specs.declared.report.Report.TheVariants as line
use Rattle.gr_model.specs.Net.{Net, keeps_horizon, numbers}
use Rattle.gr_model.specs.Broker.{max_tick}
use Rattle.gr_model.specs.World.{World, Transition, view_of, log_of, unchanged, followed_by, in_turn}
use Rattle.gr_model_calls.specs.OneNet.{wake_for, deliver_frame, sweep}
use Rattle.gr_model.specs.World.{frame_at, frames_past, is_want, is_know_to, inwards, outwards}
use Rattle.gr_model.specs.World.{sweep_moment}
use Rattle.gr_model.specs.Headline.{History, record_of, last_cut, last_horizon, delivered_events}

-- a call within a sweep: a broker is woken for a publisher, or the frame of a number reaches its receiver
pub data Call : Type 0 where
  wakes : ℕ → ℕ → Call
  delivers : ℕ → Call

-- what the call does
abbrev pub made : Net → World → Call → Transition
made net w (wakes b p) = wake_for net w b p
made net w (delivers k) = elim (frame_at w k) [ None ↦ unchanged w [] | Some f ↦ deliver_frame net w f ]

-- all calls of a list
abbrev pub all_made : Net → List Call → World → Transition
all_made net cs w = in_turn (made net) cs w

-- a frame that is delivered was sent before
abbrev pub WasSent : World → Call → Type 0
WasSent w (wakes b p) = Unit {0}
WasSent w (delivers k) = (f : Frame) × (frame_at w k ≡ Some f)

-- so it is of each call of a list
abbrev pub EachSent : Net → List Call → World → Type 0
EachSent net [] w = Unit {0}
EachSent net (c ∷ cs) w = WasSent w c × EachSent net cs (made net w c).world

-- the numbers of the frames that pass a test, where the first has number n
abbrev pub numbers_of : (Frame → Bool) → ℕ → List Frame → List ℕ
numbers_of test n [] = []
numbers_of test n (f ∷ fs) = (if test f then n ∷ [] else []) ++ numbers_of test (suc n) fs

-- the numbers of the frames past the first so many that pass a test
abbrev pub sent_past : (Frame → Bool) → ℕ → World → List ℕ
sent_past test first w = numbers_of test (suc first) (frames_past first w.frames)

-- the calls for each item, one item after another
abbrev pub calls_in_turn : {X : Type 0} → Net → (World → X → List Call) → List X → World → List Call
calls_in_turn net f [] w = []
calls_in_turn net f (x ∷ xs) w = f w x ++ calls_in_turn net f xs (all_made net (f w x) w).world

-- the frames of these numbers, each followed by the upward frames that its delivery sends, at most so deep
unfoldable pub up_calls : Net → ℕ → List ℕ → World → List Call
up_calls net zero ks w = []
up_calls net (suc depth) ks w = calls_in_turn net (λ u k. let x = (made net u (delivers k)).world in
    delivers k ∷ up_calls net depth (sent_past is_want (length u.frames) x) x) ks w

-- a broker is woken, followed by the upward frames that this sends
unfoldable pub wake_calls : Net → ℕ → World → ℕ → List Call
wake_calls net p w b = let x = (wake_for net w b p).world in
    wakes b p ∷ up_calls net net.brokers (sent_past is_want (length w.frames) x) x

-- the knowledge sent to a broker past the first so many frames
unfoldable pub down_calls : Net → ℕ → ℕ → World → ℕ → List Call
down_calls net p first w b = map delivers (sent_past (is_know_to p b) first w)

-- the calls of one publisher's sweep: wakes from the deepest broker up, knowledge from the host outwards, wakes again
unfoldable pub sweep_calls_for : Net → World → ℕ → List Call
sweep_calls_for net w p =
    let a = calls_in_turn net (wake_calls net p) (inwards net p) w in
    let x = (all_made net a w).world in
    let b = calls_in_turn net (down_calls net p (length w.frames)) (outwards net p) x in
    let y = (all_made net b x).world in
    (a ++ b) ++ calls_in_turn net (wake_calls net p) (inwards net p) y

-- the world at the moment of its sweep
abbrev pub at_sweep : Net → World → World
at_sweep net w = record {
  clock = sweep_moment net w;
  most = max (sweep_moment net w) w.most;
  frames = w.frames;
  views = w.views;
  logs = w.logs;
}

-- the calls of a sweep
unfoldable pub sweep_calls : Net → World → List Call
sweep_calls net w = calls_in_turn net (sweep_calls_for net) (numbers net.publishers) (at_sweep net w)

-- the numbers of the delivered frames
abbrev pub delivered : List Call → List ℕ
delivered [] = []
delivered (wakes b p ∷ cs) = delivered cs
delivered (delivers k ∷ cs) = k ∷ delivered cs

-- how often a number stands in a list
abbrev pub times : ℕ → List ℕ → ℕ
times k [] = 0
times k (x ∷ xs) = (if nat_eq x k then 1 else 0) + times k xs

-- a frame that tells what to expect
abbrev pub is_expect : Frame → Bool
is_expect f = elim f.body [ body.Expect tick ↦ true | _ ↦ false ]

-- a sweep settles everything: with M its moment, which is at least 1
pub record SweepSettles (net : Net) (w : World) (k : ℕ) : Type 0 where
  -- every kept horizon, what is settled of every log, and every cut are M
  pub horizons : (p b : ℕ) → p < net.publishers → b < net.brokers → keeps_horizon net p b ≡ true
      → (view_of (sweep net w k).world b p).horizon ≡ sweep_moment net w
  pub settled : (p : ℕ) → p < net.publishers → (log_of (sweep net w k).world p).settled ≡ sweep_moment net w
  pub cut : (p : ℕ) → p < net.publishers → (log_of (sweep net w k).world p).cut ≡ sweep_moment net w
  -- it is these calls, each frame is there when it is delivered, and each one that the sweep sends but an Expect is
  -- delivered by exactly one of them
  pub calls : sweep net w k ≡ followed_by (all_made net (sweep_calls net w) (at_sweep net w)) (λ x.
      unchanged x (line.Swept (sweep_moment net w) ∷ []))
  pub sent : EachSent net (sweep_calls net w) (at_sweep net w)
  pub once : (n : ℕ) (f : Frame) → length w.frames < n → frame_at (sweep net w k).world n ≡ Some f → is_expect f ≡ false
      → times n (delivered (sweep_calls net w)) ≡ 1
  -- nothing else is delivered in it: no frame of before, and no Expect
  pub none_before : (n : ℕ) → n ≤ length w.frames → times n (delivered (sweep_calls net w)) ≡ 0
  pub no_expect : (n : ℕ) (f : Frame) → frame_at (sweep net w k).world n ≡ Some f → is_expect f ≡ true
      → times n (delivered (sweep_calls net w)) ≡ 0
  -- its lines hold the mark of each publisher at M, the last cut line of each publisher is at M, and the last horizon
  -- line of each subscriber and publisher too
  pub marked : (p : ℕ) → p < net.publishers → Contains (sweep net w k).lines (line.Mark p (sweep_moment net w))
  pub last_cuts : (p : ℕ) → p < net.publishers → last_cut p 0 (sweep net w k).lines ≡ sweep_moment net w
  pub last_horizons : (s p : ℕ) → s < net.subscribers → p < net.publishers → last_horizon s p 0 (sweep net w k).lines
      ≡ sweep_moment net w

-- afterwards each subscriber has got exactly what is recorded that it wants; h is the history before the sweep
abbrev pub AllGot : Net → History → World → ℕ → Type 0
AllGot net h w k = (s p : ℕ) → s < net.subscribers → p < net.publishers →
    delivered_events s p (h.lines ++ (sweep net w k).lines) ≡ filter (λ x. net.wants p s x.0 x.1) (record_of h p).events

-- a sweep that is not refused: its moment is within the ticks
abbrev pub is_accepted : Net → World → Bool
is_accepted net w = nat_le (sweep_moment net w) max_tick
