-- A sweep brings each broker below the host each tick up to its moment: those that it does not know come in frames of the sweep, and its horizon passes them
use Rattle.std.proofs.Common.{◌≡◌, ◌≢◌, ◌⊎◌, inl, inr, ⊎_elim, ℕ, suc, zero, ◌+◌, ◌≤◌, ◌<◌, Bool, true, false, ◌&&◌, ◌||◌, List, [], ◌∷◌, ◌++◌, length, refl, sym, ap, ap₂, ◌∙◌, subst, arith, le_trans, le_refl, append-nil, append_assoc}
use Rattle.std.specs.Prelude.{if◌then◌else◌}
use Rattle.std.specs.List.{list_any}
use Rattle.std.proofs.lemmas.Bool.{cases_Bool, cases_lt, cases_eq, false≢true, eq-eqb, or_left, or_right}
use Rattle.gr_know.specs.declared.values.K.{K}
use Rattle.gr_know.specs.declared.values.K.TheVariants.{Q, F}
use Rattle.gr_frame.specs.declared.Body.{Body}
use Rattle.gr_frame.specs.declared.Body.TheVariants as body
use Rattle.gr_frame.specs.declared.Frame.{Frame}
use Rattle.gr_know.specs.Values.{known_at}
use Rattle.gr_curio.specs.Values.{Wanted, asked_at}
use Rattle.gr_model.specs.Net.{Net, is_host, keeps_horizon, numbers_from}
use Rattle.gr_model.specs.Broker.{View, Outcome, wake, receive, is_consolidated_by}
use Rattle.gr_model.specs.World.{World, view_of, log_of, absorbed, in_turn, inwards, numbers_down, frames_past, is_want, deliver_frame_by, sweep_for_by, wake_for_by}
use Rattle.gr_model_calls.specs.OneNet.{wake_for, deliver_frame, wake_up, sweep_for}
use Rattle.gr_model.specs.Tree.{IsNet}
use Rattle.gr_model_calls.specs.Fits.{WorldFits, FrameTrue, reached_in}
use Rattle.gr_model_calls.proofs.calls.Calls.{wake_call, receive_call}
use Rattle.gr_model_theorems.proofs.heard.Heard.{cases_Q, is_Q_at, not_done}
use Rattle.gr_model_calls.proofs.runs.Worlds.{held_by_host, Each, depths_in, numbers_below}
use Rattle.gr_model_calls.proofs.asks.AskMoments.{Taken, absorbed_taken}
use Rattle.gr_model_calls.proofs.rules.SweepAsks.{sweep_for_now}
use Rattle.gr_model_calls.proofs.runs.Closed.{Goes, IsCallClosed, in_turn_goes, wake_up_goes, sweep_for_goes}
use Rattle.gr_model_calls.proofs.rules.Forwarding.{Has, TellsBody}
use Rattle.gr_model_calls.proofs.rules.Serves.{TellsKnown, frames_past_all}
use Rattle.gr_model_theorems.proofs.sweep.Stays.{DeliveredWant, delivered_want, WokenBelow, woken_below}
use Rattle.gr_model_theorems.proofs.sweep.SweepHears.{tells_to, tells_body}
use Rattle.gr_model_theorems.proofs.sweep.SweepStates.{Unknowns, Begins, Asked, first_phase, second_phase}
use Rattle.gr_model_theorems.proofs.sweep.FirstUnknown.{unknown_calls}
use Rattle.gr_model_theorems.proofs.sweep.FirstPhase.{first_phase_asks}
use Rattle.gr_model_theorems.proofs.sweep.SecondParts.{inwards_goes, sweep_goes}
use Rattle.gr_model_theorems.proofs.sweep.SecondOrder.{Had}
use Rattle.gr_model_theorems.proofs.sweep.SecondPhase.{IsDue, Handed, handed_all, comes_down, above_needs}

-- Another publisher

-- the views and the log of p are as they were
pub record SameFor (net : Net) (p : ℕ) (old w : World) : Type 0 where
  pub views : (b : ℕ) → view_of w b p ≡ view_of old b p
  pub log : log_of w p ≡ log_of old p

same_for_taken : (net : Net) (p q b : ℕ) (old w u : World) (o : Outcome) → p ≢ q → Taken net w u b q o → SameFor net p old w → SameFor net p old u
same_for_taken net p q b old w u o k t h = record { views = λ c. t.other_publisher c p k ∙ h.views c; log = t.other_log p k ∙ h.log }

wake_same : (net : Net) (p q : ℕ) (old w : World) (b : ℕ) → p ≢ q → WorldFits net w → b < net.brokers → q < net.publishers → SameFor net p old w → SameFor net p old (wake_for net w b q).world
unfolding wake_for_by
wake_same net p q old w b k f i j h =
    let o = wake net q b w.clock (view_of w b q) (log_of w q) in
    same_for_taken net p q b old w (absorbed w b q o).world o k (absorbed_taken net w b q o f i j) h

deliver_same : (net : Net) (p : ℕ) (old w : World) (x : Frame) → p ≢ x.head.publisher → WorldFits net w → FrameTrue net w x → SameFor net p old w → SameFor net p old (deliver_frame net w x).world
unfolding deliver_frame_by
deliver_same net p old w x k f t h =
    let q = x.head.publisher in
    let o = receive net w.clock x (view_of w x.head.to q) (log_of w q) in
    same_for_taken net p q x.head.to old w (absorbed w x.head.to q o).world o k (absorbed_taken net w x.head.to q o f t.fits.to_in t.publisher_in) h

-- the sweep of one publisher leaves the others
pub sweep_same_for : (net : Net) (p q : ℕ) (w : World) → IsNet net → WorldFits net w → p ≢ q → q < net.publishers → SameFor net p w (sweep_for net w q).world
sweep_same_for net p q w n f k j =
    (sweep_goes net q (SameFor net p w) w n
    (record {
      woken = λ u b g i h. wake_same net p q w u b k g i j h;
      asked = λ u x g t e is h. deliver_same net p w u x (λ z. k (z ∙ e)) g t h;
    })
    (λ u x b g t e h. deliver_same net p w u x (λ z. k (z ∙ e.3)) g t h)
    f (record { views = λ b. refl; log = refl }) j).holds

-- What only grows

-- frames are added, and a horizon rises
pub record Since (net : Net) (b p : ℕ) (old w : World) : Type 0 where
  pub more : List Frame
  pub frames : w.frames ≡ old.frames ++ more
  pub rises : (view_of old b p).horizon ≤ (view_of w b p).horizon

since_taken : (net : Net) (b p c q : ℕ) (old w u : World) (o : Outcome) → (view_of w c q).horizon ≤ o.view.horizon → Taken net w u c q o → Since net b p old w → Since net b p old u
since_taken net b p c q old w u o up t h = record {
  more = h.more ++ o.frames;
  frames = t.frames ∙ (ap (λ (z : List Frame). z ++ o.frames) h.frames ∙ append_assoc old.frames h.more o.frames);
  rises = le_trans h.rises (elim (cases_eq p q) [
    | inr e ↦ subst (λ v. (view_of w b p).horizon ≤ v.horizon) (sym (t.other_publisher b p e)) (le_refl (view_of w b p).horizon)
    | inl e ↦ elim (cases_eq b c) [
      | inr g ↦ subst (λ v. (view_of w b p).horizon ≤ v.horizon) (sym (t.other b p g)) (le_refl (view_of w b p).horizon)
      | inl g ↦ subst (λ z. (view_of w b z).horizon ≤ (view_of u b z).horizon) (sym e) (subst (λ z. (view_of w z q).horizon ≤ (view_of u z q).horizon) (sym g) (subst (λ v. (view_of w c q).horizon ≤ v.horizon) (sym t.view) up))
    ]
  ]);
}

wake_since : (net : Net) (b p : ℕ) (old w : World) (c q : ℕ) → IsNet net → WorldFits net w → c < net.brokers → q < net.publishers → Since net b p old w → Since net b p old (wake_for net w c q).world
unfolding wake_for_by
wake_since net b p old w c q n f i j h =
    let o = wake net q c w.clock (view_of w c q) (log_of w q) in
    let call = wake_call net q c w.clock (view_of w c q) (log_of w q) (reached_in net w q) n j i (f.logs q j) (f.views q c j i) (held_by_host net w c q f j) in
    since_taken net b p c q old w (absorbed w c q o).world o call.horizon (absorbed_taken net w c q o f i j) h

deliver_since : (net : Net) (b p : ℕ) (old w : World) (x : Frame) → IsNet net → WorldFits net w → FrameTrue net w x → Since net b p old w → Since net b p old (deliver_frame net w x).world
unfolding deliver_frame_by
deliver_since net b p old w x n f t h =
    let c = x.head.to in
    let q = x.head.publisher in
    let o = receive net w.clock x (view_of w c q) (log_of w q) in
    let call = receive_call net w.clock x (view_of w c q) (log_of w q) (reached_in net w q) n t.publisher_in t.fits t.told (f.logs q t.publisher_in) (f.views q c t.publisher_in t.fits.to_in) in
    since_taken net b p c q old w (absorbed w c q o).world o call.horizon (absorbed_taken net w c q o f t.fits.to_in t.publisher_in) h

all_unit : (fs : List Frame) → Each (λ x. Unit {0}) fs
all_unit [] = tt
all_unit (x ∷ xs) = (tt, all_unit xs)

since_closed : (net : Net) (b p : ℕ) (old : World) → IsNet net → IsCallClosed net (λ x. Unit {0}) (Since net b p old)
since_closed net b p old n = record {
  sent = λ w h. all_unit w.frames;
  woken = λ w c q f i j h. wake_since net b p old w c q n f i j h;
  delivered = λ w x f t r h. deliver_since net b p old w x n f t h;
}

since_refl : (net : Net) (b p : ℕ) (w : World) → Since net b p w w
since_refl net b p w = record { more = []; frames = sym (append-nil w.frames); rises = le_refl (view_of w b p).horizon }

since_trans : (net : Net) (b p : ℕ) (w u y : World) → Since net b p w u → Since net b p u y → Since net b p w y
since_trans net b p w u y h k = record { more = h.more ++ k.more; frames = k.frames ∙ (ap (λ (z : List Frame). z ++ k.more) h.frames ∙ append_assoc w.frames h.more k.more); rises = le_trans h.rises k.rises }

inwards_since : (net : Net) (b p q : ℕ) (w : World) → IsNet net → WorldFits net w → q < net.publishers → Goes net (Since net b p w) w (in_turn (wake_up net q) (inwards net q) w)
inwards_since net b p q w n f j =
    in_turn_goes net (Since net b p w) (λ x c. c < net.brokers) (wake_up net q) (λ x y c l h. h) (λ x c g k i. wake_up_goes net (λ z. Unit {0}) (Since net b p w) q x c n (since_closed net b p w n) g k i j) (inwards net q) w f (since_refl net b p w) (depths_in net q (numbers_down net.brokers))

sweeps_since : (net : Net) (b p a k : ℕ) (w : World) → IsNet net → WorldFits net w → a + k ≤ net.publishers → Goes net (Since net b p w) w (in_turn (sweep_for net) (numbers_from a k) w)
sweeps_since net b p a k w n f l =
    in_turn_goes net (Since net b p w) (λ x q. q < net.publishers) (sweep_for net) (λ x y q l h. h) (λ x q g h j. sweep_for_goes net (λ z. Unit {0}) (Since net b p w) x q n (since_closed net b p w n) g h j) (numbers_from a k) w f (since_refl net b p w) (numbers_below a k net.publishers l)

-- What the first phase leaves of a broker below the host

-- its horizon, and what it knows above it, are as they were
pub record SameAbove (net : Net) (b p : ℕ) (old : View) (w : World) : Type 0 where
  pub horizon : (view_of w b p).horizon ≡ old.horizon
  pub above : (t : ℕ) → old.horizon < t → known_at (view_of w b p).know t ≡ known_at old.know t

same_above : (net : Net) (b p : ℕ) (old : View) (w u : World) → view_of u b p ≡ view_of w b p → SameAbove net b p old w → SameAbove net b p old u
same_above net b p old w u e h = record { horizon = ap (λ v. v.horizon) e ∙ h.horizon; above = λ t l. ap (λ v. known_at v.know t) e ∙ h.above t l }

wake_taken : (net : Net) (w : World) (b p : ℕ) → WorldFits net w → b < net.brokers → p < net.publishers → Taken net w (wake_for net w b p).world b p (wake net p b w.clock (view_of w b p) (log_of w p))
unfolding wake_for_by
wake_taken net w b p f i j = absorbed_taken net w b p (wake net p b w.clock (view_of w b p) (log_of w p)) f i j

wake_above : (net : Net) (b p : ℕ) (old : View) (w : World) (c : ℕ) → is_host net p b ≡ false → keeps_horizon net p b ≡ true → WorldFits net w → c < net.brokers → p < net.publishers → SameAbove net b p old w → SameAbove net b p old (wake_for net w c p).world
wake_above net b p old w c host keeps f i j h =
    elim (cases_eq b c) [
      | inr e ↦ same_above net b p old w (wake_for net w c p).world ((wake_taken net w c p f i j).other b p e) h
      | inl e ↦
          let k : WokenBelow net w (wake_for net w b p).world b p (wake net p b w.clock (view_of w b p) (log_of w p)) = woken_below net w b p f (subst (λ z. z < net.brokers) (sym e) i) j host in
          subst (λ z. SameAbove net b p old (wake_for net w z p).world) e (record {
            horizon = ap (λ v. v.horizon) k.taken.view ∙ (k.ticks.horizon ∙ h.horizon);
            above = λ t l. ap (λ v. known_at v.know t) k.taken.view ∙ ⊎_elim (λ z. z ∙ h.above t l) (λ z. absurd (omega (arith, l, h.horizon, z.2 keeps))) (k.ticks.know t);
          })
    ]

want_runs : (x : Frame) → is_want x ≡ true → (runs : Wanted) × (x.body ≡ body.Curiosity runs)
want_runs x e = go x.body e
  where
    go : (y : Body) → (elim y as (λ q. Bool) [ body.Curiosity runs ↦ true | _ ↦ false ]) ≡ true → (runs : Wanted) × (y ≡ body.Curiosity runs)
    go (body.Knowledge runs js) e = absurd (false≢true e)
    go (body.Curiosity runs) e = (runs, refl)
    go (body.Expect tick) e = absurd (false≢true e)

want_above : (net : Net) (old : View) (w : World) (x : Frame) (runs : Wanted) → IsNet net → keeps_horizon net x.head.publisher x.head.to ≡ true → WorldFits net w → FrameTrue net w x → x.body ≡ body.Curiosity runs → SameAbove net x.head.to x.head.publisher old w → SameAbove net x.head.to x.head.publisher old (deliver_frame net w x).world
want_above net old w x runs n keeps f t e h =
    let v = view_of w x.head.to x.head.publisher in
    let o = receive net w.clock x v (log_of w x.head.publisher) in
    let d : DeliveredWant net w (deliver_frame net w x).world x runs o = delivered_want net w x runs n f t e in
    record {
      horizon = ap (λ z. z.horizon) d.taken.view ∙ (d.ticks.horizon ∙ h.horizon);
      above = λ k l.
          let no : is_consolidated_by (keeps_horizon net x.head.publisher x.head.to) v.horizon o.view.wants k ≡ false = ap (λ z. is_consolidated_by z v.horizon o.view.wants k) keeps ∙ not_done v.horizon k o.view.wants (omega (arith, l, h.horizon)) in
          ap (λ z. known_at z.know k) d.taken.view ∙ ⊎_elim (λ z. z ∙ (ap (λ q. if q then F else known_at v.know k) no ∙ h.above k l)) (λ z. absurd (omega (arith, l, h.horizon, z.2 keeps))) (d.ticks.know k);
    }

asked_above : (net : Net) (b : ℕ) (old : View) (w : World) (x : Frame) → IsNet net → keeps_horizon net x.head.publisher b ≡ true → WorldFits net w → FrameTrue net w x → is_want x ≡ true → SameAbove net b x.head.publisher old w → SameAbove net b x.head.publisher old (deliver_frame net w x).world
asked_above net b old w x n keeps f t e h =
    let k = want_runs x e in
    elim (cases_eq b x.head.to) [
      | inr g ↦ same_above net b x.head.publisher old w (deliver_frame net w x).world ((delivered_want net w x k.0 n f t k.1).taken.other b x.head.publisher g) h
      | inl g ↦ subst (λ z. SameAbove net z x.head.publisher old (deliver_frame net w x).world) (sym g) (want_above net old w x k.0 n (subst (λ z. keeps_horizon net x.head.publisher z ≡ true) g keeps) f t k.1 (subst (λ z. SameAbove net z x.head.publisher old w) g h))
    ]

pub first_phase_above : (net : Net) (b p : ℕ) (w : World) → IsNet net → WorldFits net w → p < net.publishers → is_host net p b ≡ false → keeps_horizon net p b ≡ true → SameAbove net b p (view_of w b p) (first_phase net w p)
first_phase_above net b p w n f j host keeps =
    (inwards_goes net p (SameAbove net b p (view_of w b p)) w n (record {
      woken = λ u c g i h. wake_above net b p (view_of w b p) u c host keeps g i j h;
      asked = λ u x g t e is h. subst (λ z. SameAbove net b z (view_of w b p) (deliver_frame net u x).world) e (asked_above net b (view_of w b p) u x n (subst (λ z. keeps_horizon net z b ≡ true) (sym e) keeps) g t is (subst (λ z. SameAbove net b z (view_of w b p) u) (sym e) h));
    }) f (record { horizon = refl; above = λ t l. refl }) j).holds

-- What is brought

-- from one world to another a broker's horizon comes to m, and each tick up to m was below its horizon, or known, or is told in a frame sent between
pub record Brings (net : Net) (m b p : ℕ) (w last : World) : Type 0 where
  pub more : List Frame
  pub frames : last.frames ≡ w.frames ++ more
  pub horizon : m ≤ (view_of last b p).horizon
  pub told : (t : ℕ) → 1 ≤ t → t ≤ m → (t ≤ (view_of w b p).horizon) ⊎ ((known_at (view_of w b p).know t ≢ Q) ⊎ (list_any (tells_to b p t) more ≡ true))

any_front : (test : Frame → Bool) (xs ys : List Frame) → list_any test xs ≡ true → list_any test (xs ++ ys) ≡ true
any_front test [] ys e = absurd (false≢true e)
any_front test (x ∷ xs) ys e =
    elim (cases_Bool (test x)) [
      | inl g ↦ or_left (test x) (list_any test (xs ++ ys)) g
      | inr g ↦ or_right (test x) (list_any test (xs ++ ys)) (any_front test xs ys (subst (λ q. (q || list_any test xs) ≡ true) g e))
    ]

any_back : (test : Frame → Bool) (xs ys : List Frame) → list_any test ys ≡ true → list_any test (xs ++ ys) ≡ true
any_back test [] ys e = e
any_back test (x ∷ xs) ys e = or_right (test x) (list_any test (xs ++ ys)) (any_back test xs ys e)

told_any : (p u b t : ℕ) (fs : List Frame) → Has (TellsKnown p u b t) fs → list_any (tells_to b p t) fs ≡ true
told_any p u b t [] h = absurd h
told_any p u b t (f ∷ fs) (inr h) = or_right (tells_to b p t f) (list_any (tells_to b p t) fs) (told_any p u b t fs h)
told_any p u b t (f ∷ fs) (inl h) = or_left (tells_to b p t f) (list_any (tells_to b p t) fs)
    (ap₂ (λ x y. x && y) (ap₂ (λ x y. x && y) (eq-eqb f.head.to b h.tells.to_is) (eq-eqb f.head.publisher p h.tells.publisher)) (go f.body h.value h.known h.tells.body))
  where
    go : (y : Body) (k : K) → k ≢ Q → TellsBody t k y → tells_body t y ≡ true
    go (body.Knowledge runs js) k n e = is_Q_at (known_at runs t) (λ q. n (sym e ∙ q))
    go (body.Curiosity runs) k n e = absurd e
    go (body.Expect tick) k n e = absurd e

-- what follows adds to it
brings_on : (net : Net) (m b p : ℕ) (w u y : World) → Brings net m b p w u → Since net b p u y → Brings net m b p w y
brings_on net m b p w u y h k = record {
  more = h.more ++ k.more;
  frames = k.frames ∙ (ap (λ (z : List Frame). z ++ k.more) h.frames ∙ append_assoc w.frames h.more k.more);
  horizon = le_trans h.horizon k.rises;
  told = λ t x z. ⊎_elim (λ a. inl a) (λ a. inr (⊎_elim (λ c. inl c) (λ c. inr (any_front (tells_to b p t) h.more k.more c)) a)) (h.told t x z);
}

-- what came before does, where the views of p stayed
brings_before : (net : Net) (m b p : ℕ) (w u y : World) → view_of u b p ≡ view_of w b p → Since net b p w u → Brings net m b p u y → Brings net m b p w y
brings_before net m b p w u y e h k = record {
  more = h.more ++ k.more;
  frames = k.frames ∙ (ap (λ (z : List Frame). z ++ k.more) h.frames ∙ append_assoc w.frames h.more k.more);
  horizon = k.horizon;
  told = λ t x z. ⊎_elim (λ a. inl (subst (λ v. t ≤ v.horizon) e a)) (λ a. inr (⊎_elim (λ c. inl (subst (λ v. known_at v.know t ≢ Q) e c)) (λ c. inr (any_back (tells_to b p t) h.more k.more c)) a)) (k.told t x z);
}

-- the first two phases for the publisher
pub phases_bring : (net : Net) (p m b : ℕ) (w : World) → IsNet net → Begins net p m w → Asked net p (log_of w p).settled m (length w.frames) (first_phase net w p) → b < net.brokers → is_host net p b ≡ false → keeps_horizon net p b ≡ true → Brings net m b p w (second_phase net w p)
phases_bring net p m b w n begin a i host keeps = record {
  more = since.more ++ h.more;
  frames = frames_are;
  horizon = h.reached b i (inl (n.depth_in p b begin.publisher i)) keeps;
  told = λ t x z. elim (cases_lt (view_of w b p).horizon t) [
    | inr l ↦ inl l
    | inl l ↦ elim (cases_Q (known_at (view_of w b p).know t)) [
      | inr k ↦ inr (inl k)
      | inl k ↦ inr (inr (comes_to t x z l k))
    ]
  ];
}
  where
    first : ℕ
    first = length w.frames

    s : ℕ
    s = (log_of w p).settled

    old : World
    old = first_phase net w p

    y : World
    y = second_phase net w p

    h : Handed net p m s first old (Had net p net.brokers 0) y
    h = handed_all net p m w n begin a

    since : Since net b p w old
    since = (inwards_since net b p p w n begin.fits begin.publisher).holds

    same : SameAbove net b p (view_of w b p) old
    same = first_phase_above net b p w n begin.fits begin.publisher host keeps

    frames_are : y.frames ≡ w.frames ++ (since.more ++ h.more)
    frames_are = h.frames ∙ (ap (λ (z : List Frame). z ++ h.more) since.frames ∙ append_assoc w.frames since.more h.more)

    comes_to : (t : ℕ) → 1 ≤ t → t ≤ m → (view_of w b p).horizon < t → known_at (view_of w b p).know t ≡ Q → list_any (tells_to b p t) (since.more ++ h.more) ≡ true
    comes_to t x z l k =
        let u = n.up_below p b begin.publisher i host in
        let c = n.up_in p b u.0 begin.publisher i u.1 in
        let due : IsDue net p m s old b t = record { from = x; upto = z; due = inr (above_needs net p b t (view_of old b p) keeps (same.above t l ∙ k) (omega (arith, same.horizon, l))) } in
        let has = comes_down net p m s first old y (Had net p net.brokers 0) b u.0 t n a h c.0 c.1 (inr (inl (n.depth_in p u.0 begin.publisher c.0))) due in
        told_any p u.0 b t (since.more ++ h.more) (subst (Has (TellsKnown p u.0 b t)) (ap (frames_past first) frames_are ∙ frames_past_all w.frames (since.more ++ h.more)) has)

-- Publisher by publisher

-- the sweep of another publisher leaves what stands before
pub begins_on : (net : Net) (p q m : ℕ) (w : World) → IsNet net → p ≢ q → q < net.publishers → Begins net p m w → Begins net p m (sweep_for net w q).world
begins_on net p q m w n k j h =
    let same = sweep_same_for net p q w n h.fits k j in
    let g = sweep_for_now net m w q n h.fits h.now j in
    record {
      publisher = h.publisher;
      fits = g.kept.fits;
      now = g.holds;
      unknown = (sweep_for_goes net (λ z. Unit {0}) (Unknowns net) w q n (unknown_calls net n) h.fits h.unknown j).holds;
      none_asked = λ b t i e. h.none_asked b t i (sym (ap (λ v. asked_at v.asks t) (same.views b)) ∙ e);
      far = subst (λ l. l.settled + net.idle + net.quiet + 1 ≤ m) (sym same.log) h.far;
    }

phases_then : (net : Net) (b p : ℕ) (w : World) → IsNet net → WorldFits net (second_phase net w p) → p < net.publishers → Since net b p (second_phase net w p) (sweep_for net w p).world
unfolding sweep_for_by
phases_then net b p w n f j = (inwards_since net b p p (second_phase net w p) n f j).holds

-- the sweeps of some publishers bring a broker below the host each tick of one of them up to the moment
pub sweeps_bring : (net : Net) (p m b a k : ℕ) (w : World) → IsNet net → 1 ≤ net.retry → 1 ≤ net.quiet → b < net.brokers → is_host net p b ≡ false → keeps_horizon net p b ≡ true → a ≤ p → p < a + k → a + k ≤ net.publishers → Begins net p m w → Brings net m b p w (in_turn (sweep_for net) (numbers_from a k) w).world
sweeps_bring net p m b a zero w n retry quiet i host keeps x y z h = absurd (omega (arith, x, y))
sweeps_bring net p m b a (suc k) w n retry quiet i host keeps x y z h =
    elim (cases_eq p a) [
      | inr e ↦
          let u = (sweep_for net w a).world in
          let next = begins_on net p a m w n e (omega (arith, z)) h in
          brings_before net m b p w u (in_turn (sweep_for net) (numbers_from (suc a) k) u).world ((sweep_same_for net p a w n h.fits e (omega (arith, z))).views b)
          (sweep_for_goes net (λ q. Unit {0}) (Since net b p w) w a n (since_closed net b p w n) h.fits (since_refl net b p w) (omega (arith, z))).holds
          (sweeps_bring net p m b (suc a) k u n retry quiet i host keeps (omega (arith, x, e)) (omega (arith, y)) (omega (arith, z)) next)
      | inl e ↦
          subst (λ q. Brings net m b p w (in_turn (sweep_for net) (numbers_from (suc a) k) (sweep_for net w q).world).world) e
          (let u = (sweep_for net w p).world in
          let two = second_phase net w p in
          let asked = first_phase_asks net p m w n retry quiet h in
          let f = (handed_all net p m w n h asked).fits in
          let g = sweep_for_now net m w p n h.fits h.now h.publisher in
          let rest = sweeps_since net b p (suc a) k u n g.kept.fits (omega (arith, z)) in
          brings_on net m b p w two (in_turn (sweep_for net) (numbers_from (suc a) k) u).world (phases_bring net p m b w n h asked i host keeps)
          (since_trans net b p two u (in_turn (sweep_for net) (numbers_from (suc a) k) u).world (phases_then net b p w n f h.publisher) rest.holds))
    ]
