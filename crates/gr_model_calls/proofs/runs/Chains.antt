-- What holds of each call of a broker, and of nothing, and one after another, holds of waking and of a sweep
use Rattle.std.proofs.Common.{◌≡◌, ℕ, suc, zero, ◌<◌, List, [], ◌∷◌, ◌++◌, length, refl, arith}
use Rattle.std.specs.Prelude.{filter}
use Rattle.gr_frame.specs.declared.Frame.{Frame}
use Rattle.gr_model.specs.Net.{Net, numbers}
use Rattle.gr_model.specs.World.{World, Transition, unchanged, followed_by, in_turn, frames_past, sent_since, is_want, is_know_to, outwards, inwards, numbers_down, deliver_up_by, hand_down_by, sweep_for_by, wake_all_by, wake_up_by}
use Rattle.gr_model_calls.specs.OneNet.{wake_for, wake_all, deliver_frame, deliver_up, wake_up, hand_down, sweep_for}
use Rattle.gr_model.specs.Tree.{IsNet}
use Rattle.gr_model_calls.specs.Fits.{WorldFits, FrameTrue}
use Rattle.gr_model_calls.proofs.runs.Worlds.{Kept, Kept-refl, Kept-after, wake_for_kept, deliver_kept, Each, IsLaterWorld, FrameTrue-later, frames_past_true, filter_frames, depths_in, numbers_below}

-- a relation of a world to what is told from it that chains keep
pub record Chains (net : Net) (P : World → Transition → Type 0) : Type 0 where
  pub nil : (w : World) → WorldFits net w → P w (unchanged w [])
  pub seq : (w : World) (t : Transition) (f : World → Transition) → WorldFits net w → Kept net w t → P w t → Kept net t.world (f t.world) → P t.world (f t.world) → P w (followed_by t f)
  pub wake : (w : World) (b p : ℕ) → WorldFits net w → b < net.brokers → p < net.publishers → P w (wake_for net w b p)
  pub deliver : (w : World) (x : Frame) → WorldFits net w → FrameTrue net w x → P w (deliver_frame net w x)

pub record Both (net : Net) (P : World → Transition → Type 0) (w : World) (t : Transition) : Type 0 where
  pub kept : Kept net w t
  pub holds : P w t

both_after : (net : Net) (P : World → Transition → Type 0) (w : World) (t : Transition) (f : World → Transition) → Chains net P → WorldFits net w → Both net P w t → Both net P t.world (f t.world) → Both net P w (followed_by t f)
both_after net P w t f c g a k = record { kept = Kept-after net w t f a.kept k.kept; holds = c.seq w t f g a.kept a.holds k.kept k.holds }

-- what chains keep, and each single turn has, holds of all turns one after another
pub in_turn_both : {X : Type 0} (net : Net) (P : World → Transition → Type 0) (ok : World → X → Type 0) (f : World → X → Transition) → Chains net P → ((w u : World) (x : X) → IsLaterWorld net w u → ok w x → ok u x) → ((w : World) (x : X) → WorldFits net w → ok w x → Both net P w (f w x)) →
    (xs : List X) (w : World) → WorldFits net w → Each (ok w) xs → Both net P w (in_turn f xs w)
in_turn_both {X} net P ok f c stays one [] w fit a = record { kept = Kept-refl net w fit; holds = c.nil w fit }
in_turn_both {X} net P ok f c stays one (x ∷ xs) w fit a =
    let k = one w x fit a.0 in
    both_after net P w (f w x) (in_turn f xs) c fit k (in_turn_both net P ok f c stays one xs (f w x).world k.kept.fits (all_stay xs a.1 k.kept.later))
  where
    all_stay : (ys : List X) → Each (ok w) ys → IsLaterWorld net w (f w x).world → Each (ok (f w x).world) ys
    all_stay [] b l = tt
    all_stay (y ∷ ys) b l = (stays w (f w x).world y l b.0, all_stay ys b.1 l)

wake_for_both : (net : Net) (P : World → Transition → Type 0) (w : World) (b p : ℕ) → Chains net P → IsNet net → WorldFits net w → b < net.brokers → p < net.publishers → Both net P w (wake_for net w b p)
wake_for_both net P w b p c n f i j = record { kept = wake_for_kept net w b p n f i j; holds = c.wake w b p f i j }

deliver_both : (net : Net) (P : World → Transition → Type 0) (w : World) (x : Frame) → Chains net P → IsNet net → WorldFits net w → FrameTrue net w x → Both net P w (deliver_frame net w x)
deliver_both net P w x c n f t = record { kept = deliver_kept net w x n f t; holds = c.deliver w x f t }

-- what chains keep holds of waking a broker for all publishers
pub wake_all_chain : (net : Net) (P : World → Transition → Type 0) (w : World) (b : ℕ) → Chains net P → IsNet net → WorldFits net w → b < net.brokers → Both net P w (wake_all net w b)
unfolding wake_all_by
wake_all_chain net P w b c n f i = in_turn_both net P (λ u p. p < net.publishers) (λ u p. wake_for net u b p) c (λ w u p l h. h) (λ u p g h. wake_for_both net P u b p c n g i h) (numbers net.publishers) w f (numbers_below 0 net.publishers net.publishers (omega arith))

deliver_up_both : (net : Net) (P : World → Transition → Type 0) (fuel : ℕ) (fs : List Frame) (w : World) → Chains net P → IsNet net → WorldFits net w → Each (FrameTrue net w) fs → Both net P w (deliver_up net fuel fs w)
unfolding deliver_up_by
deliver_up_both net P zero fs w c n f a = record { kept = Kept-refl net w f; holds = c.nil w f }
deliver_up_both net P (suc fuel) fs w c n f a =
    in_turn_both net P (FrameTrue net) (λ u x. followed_by (deliver_frame net u x) (λ y. deliver_up net fuel (filter is_want (sent_since u y)) y)) c (FrameTrue-later net)
    (λ u x g t. let k = deliver_both net P u x c n g t in let y = (deliver_frame net u x).world in
    both_after net P u (deliver_frame net u x) (λ y. deliver_up net fuel (filter is_want (sent_since u y)) y) c g k (deliver_up_both net P fuel (filter is_want (sent_since u y)) y c n k.kept.fits (filter_frames net y is_want (sent_since u y) (frames_past_true net y (length u.frames) y.frames k.kept.fits.frames))))
    fs w f a

wake_up_both : (net : Net) (P : World → Transition → Type 0) (p : ℕ) (w : World) (b : ℕ) → Chains net P → IsNet net → WorldFits net w → b < net.brokers → p < net.publishers → Both net P w (wake_up net p w b)
unfolding wake_up_by
wake_up_both net P p w b c n f i j =
    let k = wake_for_both net P w b p c n f i j in
    let y = (wake_for net w b p).world in
    both_after net P w (wake_for net w b p) (λ u. deliver_up net net.brokers (filter is_want (sent_since w u)) u) c f k (deliver_up_both net P net.brokers (filter is_want (sent_since w y)) y c n k.kept.fits (filter_frames net y is_want (sent_since w y) (frames_past_true net y (length w.frames) y.frames k.kept.fits.frames)))

hand_down_both : (net : Net) (P : World → Transition → Type 0) (p first : ℕ) (w : World) (b : ℕ) → Chains net P → IsNet net → WorldFits net w → Both net P w (hand_down net p first w b)
unfolding hand_down_by
hand_down_both net P p first w b c n f = in_turn_both net P (FrameTrue net) (deliver_frame net) c (FrameTrue-later net) (λ u x g t. deliver_both net P u x c n g t) (filter (is_know_to p b) (frames_past first w.frames)) w f (filter_frames net w (is_know_to p b) (frames_past first w.frames) (frames_past_true net w first w.frames f.frames))

-- what chains keep holds of the sweep of one publisher
pub sweep_for_chain : (net : Net) (P : World → Transition → Type 0) (w : World) (p : ℕ) → Chains net P → IsNet net → WorldFits net w → p < net.publishers → Both net P w (sweep_for net w p)
unfolding sweep_for_by
sweep_for_chain net P w p c n f j =
    let up = λ (u : World) (g : WorldFits net u). in_turn_both net P (λ x b. b < net.brokers) (wake_up net p) c (λ x y b l k. k) (λ x b g k. wake_up_both net P p x b c n g k j) (inwards net p) u g (depths_in net p (numbers_down net.brokers)) in
    let a = up w f in
    let w1 = (in_turn (wake_up net p) (inwards net p) w).world in
    let b = in_turn_both net P (λ x c. c < net.brokers) (hand_down net p (length w.frames)) c (λ x y c l k. k) (λ x d g k. hand_down_both net P p (length w.frames) x d c n g) (outwards net p) w1 a.kept.fits (depths_in net p (numbers net.brokers)) in
    let w2 = (in_turn (hand_down net p (length w.frames)) (outwards net p) w1).world in
    let d = up w2 b.kept.fits in
    both_after net P w (followed_by (in_turn (wake_up net p) (inwards net p) w) (in_turn (hand_down net p (length w.frames)) (outwards net p))) (in_turn (wake_up net p) (inwards net p)) c f (both_after net P w (in_turn (wake_up net p) (inwards net p) w) (in_turn (hand_down net p (length w.frames)) (outwards net p)) c f a b) d

-- what chains keep holds of the sweeps of all publishers, one after another
pub sweeps_chain : (net : Net) (P : World → Transition → Type 0) (w : World) → Chains net P → IsNet net → WorldFits net w → Both net P w (in_turn (sweep_for net) (numbers net.publishers) w)
sweeps_chain net P w c n f = in_turn_both net P (λ x p. p < net.publishers) (sweep_for net) c (λ x y p l h. h) (λ x p g h. sweep_for_chain net P x p c n g h) (numbers net.publishers) w f (numbers_below 0 net.publishers net.publishers (omega arith))

-- two lists, one after the other
pub in_turn_append : {X : Type 0} (f : World → X → Transition) (xs ys : List X) (w : World) → (in_turn f (xs ++ ys) w).world ≡ (in_turn f ys (in_turn f xs w).world).world
in_turn_append f [] ys w = refl
in_turn_append f (x ∷ xs) ys w = in_turn_append f xs ys (f w x).world
