-- What each delivery keeps of a world and its pending frames, the nested
-- deliveries of a sweep keep, since what a delivery sends has less rank
use Rattle.std.proofs.Common.{◌≡◌, ℕ, suc, zero, ◌<◌, List, [], ◌∷◌, ◌++◌, refl, subst, arith, length}
use Rattle.std.specs.Prelude.{filter}
use Rattle.gr_frame.specs.declared.Frame.{Frame}
use Rattle.gr_model.specs.Net.{Net}
use Rattle.gr_model.specs.World.{World, Transition, followed_by, in_turn, sent_since, is_want, deliver_up_by}
use Rattle.gr_model_calls.specs.OneNet.{deliver_frame, deliver_up}
use Rattle.gr_model.specs.Tree.{IsNet}
use Rattle.gr_model_calls.specs.Fits.{WorldFits, FrameTrue}
use Rattle.gr_model_calls.proofs.runs.Worlds.{Each, Kept, Kept-after, FrameTrue-later, deliver_kept, deliver_up_kept, filter_frames, frames_past_true}

-- the upward frames that the delivery of a frame sends
abbrev pub sent_up : Net → World → Frame → List Frame
sent_up net w x = filter is_want (sent_since w (deliver_frame net w x).world)

-- a property of a world and of the upward frames that wait in it, that each delivery keeps; what a delivery sends has less rank
pub record IsPending (net : Net) (rank : Frame → ℕ) (I : World → List Frame → Type 0) : Type 0 where
  pub step : (w : World) (x : Frame) (fs : List Frame) → WorldFits net w → FrameTrue net w x → I w (x ∷ fs) → I (deliver_frame net w x).world (sent_up net w x ++ fs)
  pub less : (w : World) (x : Frame) → WorldFits net w → FrameTrue net w x → Each (λ z. rank z < rank x) (sent_up net w x)

-- a weaker property holds of each too
pub Each-weaker : {X : Type 0} (P R : X → Type 0) (xs : List X) → ((x : X) → P x → R x) → Each P xs → Each R xs
Each-weaker P R [] f a = tt
Each-weaker P R (x ∷ xs) f a = (f x a.0, Each-weaker P R xs f a.1)

pub none_below : (rank : Frame → ℕ) (fs : List Frame) → Each (λ z. rank z < 0) fs → fs ≡ []
none_below rank [] a = refl
none_below rank (x ∷ xs) a = absurd (omega (arith, a.0))

-- the upward frames that a delivery sends are true after it
pub up_true : (net : Net) (w : World) (x : Frame) → IsNet net → WorldFits net w → FrameTrue net w x → Each (FrameTrue net (deliver_frame net w x).world) (sent_up net w x)
up_true net w x n f t =
    let y = (deliver_frame net w x).world in
    let k = deliver_kept net w x n f t in
    filter_frames net y is_want (sent_since w y) (frames_past_true net y (length w.frames) y.frames k.fits.frames)

-- one frame with all that it leads to
abbrev pub delivered_up : Net → ℕ → World → Frame → Transition
delivered_up net fuel u f = followed_by (deliver_frame net u f) (λ x. deliver_up net fuel (filter is_want (sent_since u x)) x)

-- a delivery with the upward deliveries that follow it keeps the world fitting
pub one_kept : (net : Net) (fuel : ℕ) (w : World) (x : Frame) → IsNet net → WorldFits net w → FrameTrue net w x → Kept net w (delivered_up net fuel w x)
one_kept net fuel w x n f t =
    let k = deliver_kept net w x n f t in
    Kept-after net w (deliver_frame net w x) (λ y. deliver_up net fuel (filter is_want (sent_since w y)) y) k (deliver_up_kept net fuel (sent_up net w x) (deliver_frame net w x).world n k.fits (up_true net w x n f t))

-- all frames one after another, where nested deliveries take the frames of a lower rank away
abbrev TakesAway : Net → (Frame → ℕ) → (World → List Frame → Type 0) → ℕ → Type 0
TakesAway net rank I fuel = (fs rest : List Frame) (w : World) → WorldFits net w → Each (FrameTrue net w) fs → Each (λ z. rank z < fuel) fs → I w (fs ++ rest) → I (deliver_up net fuel fs w).world rest

all_in_turn : (net : Net) (rank : Frame → ℕ) (I : World → List Frame → Type 0) (fuel : ℕ) → IsNet net → IsPending net rank I → TakesAway net rank I fuel →
    (fs rest : List Frame) (w : World) → WorldFits net w → Each (FrameTrue net w) fs → Each (λ z. rank z < suc fuel) fs → I w (fs ++ rest) → I (in_turn (delivered_up net fuel) fs w).world rest
all_in_turn net rank I fuel n c up [] rest w f a r h = h
all_in_turn net rank I fuel n c up (x ∷ xs) rest w f a r h =
    let y = (deliver_frame net w x).world in
    let k = deliver_kept net w x n f a.0 in
    let below : Each (λ z. rank z < fuel) (sent_up net w x) = Each-weaker (λ z. rank z < rank x) (λ z. rank z < fuel) (sent_up net w x) (λ z l. omega (arith, l, r.0)) (c.less w x f a.0) in
    let i = up (sent_up net w x) (xs ++ rest) y k.fits (up_true net w x n f a.0) below (c.step w x (xs ++ rest) f a.0 h) in
    let whole = one_kept net fuel w x n f a.0 in
    all_in_turn net rank I fuel n c up xs rest (delivered_up net fuel w x).world whole.fits (Each-weaker (FrameTrue net w) (FrameTrue net (delivered_up net fuel w x).world) xs (λ z t. FrameTrue-later net w (delivered_up net fuel w x).world z whole.later t) a.1) r.1 i

-- with fuel above the rank of each, the nested deliveries leave no frame pending of those given
pub deliver_up_all : (net : Net) (rank : Frame → ℕ) (I : World → List Frame → Type 0) (fuel : ℕ) → IsNet net → IsPending net rank I → TakesAway net rank I fuel
unfolding deliver_up_by
deliver_up_all net rank I zero n c fs rest w f a r h = subst (λ z. I w (z ++ rest)) (none_below rank fs r) h
deliver_up_all net rank I (suc fuel) n c fs rest w f a r h = all_in_turn net rank I fuel n c (deliver_up_all net rank I fuel n c) fs rest w f a r h
