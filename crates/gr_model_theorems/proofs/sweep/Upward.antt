-- The upward frames of a delivery go from its broker to the next one up
use Rattle.std.proofs.Common.{◌≡◌, inl, inr, ℕ, suc, ◌<◌, Bool, true, false, List, [], ◌∷◌, map, refl, sym, subst, Option, Some, None, arith}
use Rattle.std.specs.Prelude.{filter, if◌then◌else◌}
use Rattle.std.proofs.lemmas.Bool.{cases_Bool, false≢true}
use Rattle.gr_event.specs.Joins.{Joins, longer}
use Rattle.gr_frame.specs.declared.Body.{Body}
use Rattle.gr_frame.specs.declared.Body.TheVariants as body
use Rattle.gr_frame.specs.declared.Frame.{Frame}
use Rattle.gr_know.specs.Values.{Known}
use Rattle.gr_curio.specs.Values.{Wanted}
use Rattle.gr_model.specs.Net.{Net}
use Rattle.gr_model.specs.Broker.{with_joins, drops, View, Log, Outcome, know_frames, want_frames, expect_frame, forward, new_ticks, forward_frames, learn, up_frames, asking, curiosity, expect, expect_frames, covers, place_of, receive, head}
use Rattle.gr_frame.specs.Bytes.{head_size, known_run_size, wanted_run_size, cut_frames}
use Rattle.gr_model.specs.World.{World, view_of, log_of, absorbed, is_want, deliver_frame_by}
use Rattle.gr_model.specs.Tree.{IsNet}
use Rattle.gr_model_calls.specs.Fits.{WorldFits, FrameTrue}
use Rattle.gr_model_calls.proofs.runs.Worlds.{Each}
use Rattle.gr_model_calls.proofs.asks.AskMoments.{Each-on}
use Rattle.gr_model_calls.proofs.rules.Serves.{frames_past_all}
use Rattle.gr_model_theorems.proofs.sweep.Pending.{sent_up}

-- a property of each kind of frame that a broker sends for a publisher
pub record SentBy (net : Net) (p b : ℕ) (R : Frame → Type 0) : Type 0 where
  pub know : (c : ℕ) (part : Known) (js : Joins) → R (record { head = head b c p; body = body.Knowledge part js })
  pub want : (u : ℕ) (part : Wanted) → net.up p b ≡ Some u → R (record { head = head b u p; body = body.Curiosity part })
  pub expect : (c tick : ℕ) → R (expect_frame b c p tick)

pub know_each : (js : Joins) (net : Net) (p b c : ℕ) (R : Frame → Type 0) (runs : Known) → SentBy net p b R → Each R (know_frames js b c p runs)
know_each js net p b c R runs s = go (cut_frames (head_size js) known_run_size runs)
  where
    go : (parts : List Known) → Each R (map (λ part. record { head = head b c p; body = body.Knowledge part js }) parts)
    go [] = tt
    go (x ∷ xs) = (s.know c x js, go xs)

up_each : (net : Net) (p b : ℕ) (R : Frame → Type 0) (runs : Wanted) → SentBy net p b R → Each R (up_frames net p b runs)
up_each net p b R runs s = at (net.up p b) refl
  where
    go : (u : ℕ) (parts : List Wanted) → net.up p b ≡ Some u → Each R (map (λ part. record { head = head b u p; body = body.Curiosity part }) parts)
    go u [] e = tt
    go u (x ∷ xs) e = (s.want u x e, go u xs e)

    at : (u : Option ℕ) → net.up p b ≡ u → Each R (elim u [ Some u ↦ want_frames b u p runs | None ↦ [] ])
    at None e = tt
    at (Some u) e = go u (cut_frames 12 wanted_run_size runs) e

forward_each : (js : Joins) (net : Net) (p b : ℕ) (R : Frame → Type 0) (new : Known) (cs : List ℕ) (ws : List Wanted) → SentBy net p b R → Each R (forward_frames js net p b new cs ws)
forward_each js net p b R new [] ws s = tt
forward_each js net p b R new (c ∷ cs) [] s = tt
forward_each js net p b R new (c ∷ cs) (w ∷ ws) s = Each-on R (know_frames js b c p (forward net p c w new)) (forward_frames js net p b new cs ws) (know_each js net p b c R (forward net p c w new) s) (forward_each js net p b R new cs ws s)

-- what holds of each frame that a broker may send holds of the expectations that it hands on
pub expects_each : (net : Net) (p b tick : ℕ) (R : Frame → Type 0) (cs : List ℕ) (ws : List Wanted) → SentBy net p b R → Each R (expect_frames p b tick cs ws)
expects_each net p b tick R [] ws s = tt
expects_each net p b tick R (c ∷ cs) [] s = tt
expects_each net p b tick R (c ∷ cs) (w ∷ ws) s = Each-on R (if covers w tick then [] else expect_frame b c p tick ∷ []) (expect_frames p b tick cs ws) (go (covers w tick)) (expects_each net p b tick R cs ws s)
  where
    go : (q : Bool) → Each R (if q then [] else expect_frame b c p tick ∷ [])
    go true = tt
    go false = (s.expect c tick, tt)

-- what holds of each frame that a broker may send holds of all that learning sends
pub learn_each : (net : Net) (p b : ℕ) (R : Frame → Type 0) (piece : Known) (v : View) (log : Log) → SentBy net p b R → Each R (learn net p b piece v log).frames
unfolding learn
learn_each net p b R piece v log s = forward_each v.joins net p b R (new_ticks v.know piece) (net.children p b) v.wants s

-- what holds of each frame that a broker may send holds of all that asking sends
pub asking_each : (net : Net) (p b now : ℕ) (R : Frame → Type 0) (wanted : ℕ → Bool) (ps : List ℕ) (v : View) (log : Log) → SentBy net p b R → Each R (asking net p b now wanted ps v log).frames
unfolding asking
asking_each net p b now R wanted ps v log s = up_each net p b R _ s

curiosity_each : (net : Net) (p b now c i : ℕ) (R : Frame → Type 0) (piece : Wanted) (v : View) (log : Log) → SentBy net p b R → Each R (curiosity net p b now c i piece v log).frames
unfolding curiosity
curiosity_each net p b now c i R piece v log s = Each-on R _ _ (know_each v.joins net p b c R _ s) (up_each net p b R _ s)

expect_each : (net : Net) (p b now tick : ℕ) (R : Frame → Type 0) (v : View) (log : Log) → SentBy net p b R → Each R (expect net p b now tick v log).frames
unfolding expect
expect_each net p b now tick R v log s = Each-on R _ _ (asking_each net p b now R _ _ v log s) (expects_each net p b tick R (net.children p b) v.wants s)

-- each frame that a delivery sends
pub receive_each : (net : Net) (now : ℕ) (R : Frame → Type 0) (f : Frame) (v : View) (log : Log) → SentBy net f.head.publisher f.head.to R → Each R (receive net now f v log).frames
unfolding receive
receive_each net now R f v log s = go f.body
  where
    learned : (runs : Known) (js : Joins) (q : Bool) → Each R (let o : Outcome = elim q [ true ↦ record { view = v; log = log; lines = []; frames = [] } | false ↦ learn net f.head.publisher f.head.to runs (with_joins v (longer v.joins js)) log ] in o.frames)
    learned runs js true = tt
    learned runs js false = learn_each net f.head.publisher f.head.to R runs (with_joins v (longer v.joins js)) log s

    go : (y : Body) → Each R (let o : Outcome = elim y [
      | body.Knowledge runs js ↦ elim (drops v runs js) [ true ↦ record { view = v; log = log; lines = []; frames = [] } | false ↦ learn net f.head.publisher f.head.to runs (with_joins v (longer v.joins js)) log ]
      | body.Curiosity runs ↦ curiosity net f.head.publisher f.head.to now f.head.from (place_of f.head.from (net.children f.head.publisher f.head.to)) runs v log
      | body.Expect tick ↦ expect net f.head.publisher f.head.to now tick v log
    ] in o.frames)
    go (body.Knowledge runs js) = learned runs js (drops v runs js)
    go (body.Curiosity runs) = curiosity_each net f.head.publisher f.head.to now f.head.from (place_of f.head.from (net.children f.head.publisher f.head.to)) R runs v log s
    go (body.Expect tick) = expect_each net f.head.publisher f.head.to now tick R v log s

-- a Curiosity frame goes from the broker to the next one up
pub record GoesUp (net : Net) (p b : ℕ) (f : Frame) : Type 0 where
  pub from_is : f.head.from ≡ b
  pub publisher : f.head.publisher ≡ p
  pub up : is_want f ≡ true → net.up p b ≡ Some f.head.to

pub goes_up : (net : Net) (p b : ℕ) → SentBy net p b (GoesUp net p b)
goes_up net p b = record {
  know = λ c part js. record { from_is = refl; publisher = refl; up = λ e. absurd (false≢true e) };
  want = λ u part h. record { from_is = refl; publisher = refl; up = λ e. h };
  expect = λ c tick. record { from_is = refl; publisher = refl; up = λ e. absurd (false≢true e) };
}

-- one broker further up is one less deep
pub record HasDepths (net : Net) : Type 0 where
  pub depth_up : (p b u : ℕ) → p < net.publishers → b < net.brokers → net.up p b ≡ Some u → net.depth p b ≡ suc (net.depth p u)

-- how deep the receiver of a frame is
abbrev pub rank_of : Net → Frame → ℕ
rank_of net f = net.depth f.head.publisher f.head.to

-- what holds of each upward frame of a list holds of each that is picked from it
pub up_kept : (P R : Frame → Type 0) (fs : List Frame) → ((f : Frame) → is_want f ≡ true → P f → R f) → Each P fs → Each R (filter is_want fs)
up_kept P R [] h a = tt
up_kept P R (f ∷ fs) h a =
    elim (cases_Bool (is_want f)) [
      | inl e ↦ rw e (h f e a.0, up_kept P R fs h a.1)
      | inr e ↦ rw e (up_kept P R fs h a.1)
    ]

-- what a delivery sends up goes less deep
pub sent_up_less : (net : Net) (w : World) (x : Frame) → HasDepths net → WorldFits net w → FrameTrue net w x → Each (λ z. rank_of net z < rank_of net x) (sent_up net w x)
unfolding deliver_frame_by absorbed
sent_up_less net w x d f t =
    let p = x.head.publisher in
    let o = receive net w.clock x (view_of w x.head.to p) (log_of w p) in
    subst (λ fs. Each (λ z. rank_of net z < rank_of net x) (filter is_want fs)) (sym (frames_past_all w.frames o.frames))
    (up_kept (GoesUp net p x.head.to) (λ z. rank_of net z < rank_of net x) o.frames
    (λ z e g. subst (λ q. net.depth q z.head.to < net.depth p x.head.to) (sym g.publisher) (omega (arith, d.depth_up p x.head.to z.head.to t.publisher_in t.fits.to_in (g.up e))))
    (receive_each net w.clock (GoesUp net p x.head.to) x (view_of w x.head.to p) (log_of w p) (goes_up net p x.head.to)))

-- no frame of a tree goes to a broker deeper than there are brokers
pub ranks : (net : Net) (w : World) (fs : List Frame) → IsNet net → Each (FrameTrue net w) fs → Each (λ z. rank_of net z < net.brokers) fs
ranks net w [] n a = tt
ranks net w (x ∷ xs) n a = (n.depth_in x.head.publisher x.head.to a.0.publisher_in a.0.fits.to_in, ranks net w xs n a.1)
