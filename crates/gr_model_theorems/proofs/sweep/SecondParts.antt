-- What the calls for one publisher keep holds over the phases of its sweep: the wakes, what they lead to upwards, and what is handed down
use Rattle.std.proofs.Common.{◌≡◌, inl, inr, ℕ, suc, zero, ◌<◌, true, List, [], ◌∷◌, length, sym, subst}
use Rattle.std.specs.Prelude.{filter}
use Rattle.std.proofs.lemmas.Bool.{cases_Bool}
use Rattle.gr_frame.specs.declared.Frame.{Frame}
use Rattle.gr_model.specs.Net.{Net, numbers}
use Rattle.gr_model.specs.Broker.{Outcome, wake, receive}
use Rattle.gr_model.specs.World.{World, view_of, log_of, absorbed, followed_by, in_turn, frames_past, sent_since, is_want, is_know_to, outwards, inwards, numbers_down, deliver_frame_by, deliver_up_by, hand_down_by, sweep_for_by, wake_for_by, wake_up_by}
use Rattle.gr_model_calls.specs.OneNet.{wake_for, deliver_frame, deliver_up, wake_up, hand_down, sweep_for}
use Rattle.gr_model.specs.Tree.{IsNet}
use Rattle.gr_model_calls.specs.Fits.{WorldFits, FrameTrue, AllFit, AllFramesTrue, reached_in}
use Rattle.gr_model_calls.proofs.calls.Calls.{wake_call, receive_call}
use Rattle.gr_model_calls.proofs.runs.Worlds.{held_by_host, Kept-refl, Each, IsLaterWorld, FrameTrue-later, wake_for_kept, deliver_kept, depths_in, frames_past_true, filter_frames}
use Rattle.gr_model_calls.proofs.runs.Closed.{Goes, Goes-after, in_turn_goes, Each-both}
use Rattle.gr_model_calls.proofs.rules.Serves.{frames_past_all}
use Rattle.gr_model_theorems.proofs.sweep.SecondTurn.{IsKnowTo, all_know_to}

-- a property that the wakes for a publisher and the deliveries of its Curiosity frames keep
pub record IsUpKept (net : Net) (p : ℕ) (P : World → Type 0) : Type 0 where
  pub woken : (w : World) (b : ℕ) → WorldFits net w → b < net.brokers → P w → P (wake_for net w b p).world
  pub asked : (w : World) (x : Frame) → WorldFits net w → FrameTrue net w x → x.head.publisher ≡ p → is_want x ≡ true → P w → P (deliver_frame net w x).world

-- one that the deliveries of its Knowledge frames keep
abbrev pub IsDownKept : Net → ℕ → (World → Type 0) → Type 0
IsDownKept net p P = (w : World) (x : Frame) (b : ℕ) → WorldFits net w → FrameTrue net w x → IsKnowTo p b x → P w → P (deliver_frame net w x).world

-- a Curiosity frame of the publisher that may be delivered
abbrev pub IsUp : Net → ℕ → World → Frame → Type 0
IsUp net p w x = FrameTrue net w x × (x.head.publisher ≡ p) × (is_want x ≡ true)

ups : (net : Net) (p : ℕ) (w : World) (fs : List Frame) → AllFit net p fs → AllFramesTrue net w fs → Each (IsUp net p w) (filter is_want fs)
ups net p w [] a t = tt
ups net p w (x ∷ xs) a t =
    elim (cases_Bool (is_want x)) [
      | inl e ↦ rw e ((t.0, a.0.publisher, e), ups net p w xs a.1 t.1)
      | inr e ↦ rw e (ups net p w xs a.1 t.1)
    ]

IsUp-later : (net : Net) (p : ℕ) (w u : World) (x : Frame) → IsLaterWorld net w u → IsUp net p w x → IsUp net p u x
IsUp-later net p w u x l a = (FrameTrue-later net w u x l a.0, a.1, a.2)

-- what a call sends is of its publisher
sent_fit : (net : Net) (w : World) (b p : ℕ) (o : Outcome) → AllFit net p o.frames → AllFit net p (sent_since w (absorbed w b p o).world)
unfolding absorbed
sent_fit net w b p o a = subst (AllFit net p) (sym (frames_past_all w.frames o.frames)) a

wake_sends : (net : Net) (w : World) (b p : ℕ) → IsNet net → WorldFits net w → b < net.brokers → p < net.publishers → Each (IsUp net p (wake_for net w b p).world) (filter is_want (sent_since w (wake_for net w b p).world))
unfolding wake_for_by
wake_sends net w b p n f i j =
    let o = wake net p b w.clock (view_of w b p) (log_of w p) in
    let y = (absorbed w b p o).world in
    let c = wake_call net p b w.clock (view_of w b p) (log_of w p) (reached_in net w p) n j i (f.logs p j) (f.views p b j i) (held_by_host net w b p f j) in
    ups net p y (sent_since w y) (sent_fit net w b p o c.fits) (frames_past_true net y (length w.frames) y.frames (wake_for_kept net w b p n f i j).fits.frames)

deliver_sends : (net : Net) (p : ℕ) (w : World) (x : Frame) → IsNet net → WorldFits net w → FrameTrue net w x → x.head.publisher ≡ p → Each (IsUp net p (deliver_frame net w x).world) (filter is_want (sent_since w (deliver_frame net w x).world))
unfolding deliver_frame_by
deliver_sends net p w x n f t e =
    let q = x.head.publisher in
    let o = receive net w.clock x (view_of w x.head.to q) (log_of w q) in
    let y = (absorbed w x.head.to q o).world in
    let c = receive_call net w.clock x (view_of w x.head.to q) (log_of w q) (reached_in net w q) n t.publisher_in t.fits t.told (f.logs q t.publisher_in) (f.views q x.head.to t.publisher_in t.fits.to_in) in
    subst (λ z. Each (IsUp net z y) (filter is_want (sent_since w y))) e (ups net q y (sent_since w y) (sent_fit net w x.head.to q o c.fits) (frames_past_true net y (length w.frames) y.frames (deliver_kept net w x n f t).fits.frames))

-- the nested deliveries
up_goes : (net : Net) (p : ℕ) (P : World → Type 0) (fuel : ℕ) (fs : List Frame) (w : World) → IsNet net → IsUpKept net p P → WorldFits net w → P w → Each (IsUp net p w) fs → Goes net P w (deliver_up net fuel fs w)
unfolding deliver_up_by
up_goes net p P zero fs w n c f h a = record { kept = Kept-refl net w f; holds = h }
up_goes net p P (suc fuel) fs w n c f h a =
    in_turn_goes net P (IsUp net p) (λ u x. followed_by (deliver_frame net u x) (λ y. deliver_up net fuel (filter is_want (sent_since u y)) y)) (IsUp-later net p)
    (λ u x g k r.
    let d : Goes net P u (deliver_frame net u x) = record { kept = deliver_kept net u x n g r.0; holds = c.asked u x g r.0 r.1 r.2 k } in
    let y = (deliver_frame net u x).world in
    Goes-after net P u (deliver_frame net u x) (λ y. deliver_up net fuel (filter is_want (sent_since u y)) y) d (up_goes net p P fuel (filter is_want (sent_since u y)) y n c d.kept.fits d.holds (deliver_sends net p u x n g r.0 r.1)))
    fs w f h a

woken_goes : (net : Net) (p : ℕ) (P : World → Type 0) (w : World) (b : ℕ) → IsNet net → IsUpKept net p P → WorldFits net w → P w → b < net.brokers → p < net.publishers → Goes net P w (wake_up net p w b)
unfolding wake_up_by
woken_goes net p P w b n c f h i j =
    let d : Goes net P w (wake_for net w b p) = record { kept = wake_for_kept net w b p n f i j; holds = c.woken w b f i h } in
    let y = (wake_for net w b p).world in
    Goes-after net P w (wake_for net w b p) (λ u. deliver_up net net.brokers (filter is_want (sent_since w u)) u) d (up_goes net p P net.brokers (filter is_want (sent_since w y)) y n c d.kept.fits d.holds (wake_sends net w b p n f i j))

-- the first phase, and the third
pub inwards_goes : (net : Net) (p : ℕ) (P : World → Type 0) (w : World) → IsNet net → IsUpKept net p P → WorldFits net w → P w → p < net.publishers → Goes net P w (in_turn (wake_up net p) (inwards net p) w)
inwards_goes net p P w n c f h j = in_turn_goes net P (λ x b. b < net.brokers) (wake_up net p) (λ x y b l h. h) (λ x b g k i. woken_goes net p P x b n c g k i j) (inwards net p) w f h (depths_in net p (numbers_down net.brokers))

handed_goes : (net : Net) (p first : ℕ) (P : World → Type 0) (w : World) (b : ℕ) → IsNet net → IsDownKept net p P → WorldFits net w → P w → Goes net P w (hand_down net p first w b)
unfolding hand_down_by
handed_goes net p first P w b n c f h =
    in_turn_goes net P (λ u x. FrameTrue net u x × IsKnowTo p b x) (deliver_frame net) (λ u y x l a. (FrameTrue-later net u y x l a.0, a.1))
    (λ u x g k r. record { kept = deliver_kept net u x n g r.0; holds = c u x b g r.0 r.1 k })
    (filter (is_know_to p b) (frames_past first w.frames)) w f h
    (Each-both (FrameTrue net w) (IsKnowTo p b) (filter (is_know_to p b) (frames_past first w.frames)) (filter_frames net w (is_know_to p b) (frames_past first w.frames) (frames_past_true net w first w.frames f.frames)) (all_know_to p b (frames_past first w.frames)))

-- the second phase
pub outwards_goes : (net : Net) (p first : ℕ) (P : World → Type 0) (w : World) → IsNet net → IsDownKept net p P → WorldFits net w → P w → Goes net P w (in_turn (hand_down net p first) (outwards net p) w)
outwards_goes net p first P w n c f h = in_turn_goes net P (λ x b. b < net.brokers) (hand_down net p first) (λ x y b l h. h) (λ x b g k i. handed_goes net p first P x b n c g k) (outwards net p) w f h (depths_in net p (numbers net.brokers))

-- the sweep of the publisher
pub sweep_goes : (net : Net) (p : ℕ) (P : World → Type 0) (w : World) → IsNet net → IsUpKept net p P → IsDownKept net p P → WorldFits net w → P w → p < net.publishers → Goes net P w (sweep_for net w p)
unfolding sweep_for_by
sweep_goes net p P w n c d f h j =
    let a = inwards_goes net p P w n c f h j in
    let w1 = (in_turn (wake_up net p) (inwards net p) w).world in
    let b = outwards_goes net p (length w.frames) P w1 n d a.kept.fits a.holds in
    let w2 = (in_turn (hand_down net p (length w.frames)) (outwards net p) w1).world in
    let e = inwards_goes net p P w2 n c b.kept.fits b.holds j in
    Goes-after net P w (followed_by (in_turn (wake_up net p) (inwards net p) w) (in_turn (hand_down net p (length w.frames)) (outwards net p))) (in_turn (wake_up net p) (inwards net p)) (Goes-after net P w (in_turn (wake_up net p) (inwards net p) w) (in_turn (hand_down net p (length w.frames)) (outwards net p)) a b) e
