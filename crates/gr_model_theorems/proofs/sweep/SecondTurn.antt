-- A broker's turn in the second phase: each tick that comes goes on to each child that waits for it, and the horizon passes all that came
use Rattle.std.proofs.Common.{◌≡◌, ◌≢◌, ◌⊎◌, inl, inr, ⊎_elim, ℕ, suc, ◌-◌, ◌≤◌, ◌<◌, Bool, true, false, not, ◌&&◌, List, [], ◌∷◌, ◌++◌, length, refl, sym, ap, ap₂, ◌∙◌, subst, arith, append-nil, append_assoc}
use Rattle.std.specs.Prelude.{nat_eq, filter, if◌then◌else◌}
use Rattle.std.specs.List.{list_any}
use Rattle.std.proofs.lemmas.List.{length-append}
use Rattle.std.proofs.lemmas.Bool.{cases_Bool, cases_lt, false≢true, or_cases, or_left, or_right, and_parts, eqb-true, eq-eqb}
use Rattle.gr_event.specs.Joins.{longer, Joins}
use Rattle.gr_know.specs.declared.values.K.{K}
use Rattle.gr_know.specs.declared.values.K.TheVariants.{Q, F}
use Rattle.gr_curio.specs.declared.values.Q3.{Q3}
use Rattle.gr_curio.specs.declared.values.Q3.TheVariants.{N, C, A}
use Rattle.gr_frame.specs.declared.Body.{Body}
use Rattle.gr_frame.specs.declared.Body.TheVariants as body
use Rattle.gr_frame.specs.declared.Frame.{Frame}
use Rattle.gr_tick.specs.Runs.{AreRuns, first_bottom_from, zip_runs}
use Rattle.gr_know.specs.Values.{Known, known_at, is_Q, join_K, same_K}
use Rattle.gr_curio.specs.Values.{Wanted, wanted_at, asked_at, is_C}
use Rattle.gr_model.specs.Net.{Net, keeps_horizon, pass}
use Rattle.gr_model.specs.Broker.{with_joins, drops, View, Log, Outcome, learn, receive, any_C, is_consolidated_by, forward, forward_wants, new_ticks, still_wanted, consolidated, finished}
use Rattle.gr_model.specs.World.{World, view_of, log_of, absorbed, in_turn, frames_past, is_know_to, deliver_frame_by, hand_down_by}
use Rattle.gr_model_calls.specs.OneNet.{deliver_frame, hand_down}
use Rattle.gr_model_calls.specs.Truth.{HasEvent, Facts, KnowsTruth, AllWantTruth}
use Rattle.gr_model.specs.Tree.{IsNet, IsPlace}
use Rattle.gr_model_calls.specs.Fits.{WorldFits, FrameTrue, BodyTrue, ViewTrue, facts_of, reached_in}
use Rattle.gr_tick.proofs.RunLaws.{first_bottom_from-is}
use Rattle.gr_model_calls.proofs.calls.CallTruth.{ViewTrue-taken, learned_horizon, joined-is, learn_wants, new_ticks-is, forward-is, quenched-is, finished-is, done_runs}
use Rattle.gr_model_calls.proofs.calls.Calls.{CallTrue, receive_call, join_not_Q}
use Rattle.gr_model_calls.proofs.runs.Clash.{nothing_drops}
use Rattle.gr_model_theorems.proofs.heard.Heard.{cases_Q, horizon_keeps, learn_above}
use Rattle.gr_model_calls.proofs.runs.Worlds.{Each, IsLaterWorld, FrameTrue-later, deliver_kept, filter_frames, frames_past_true}
use Rattle.gr_model_calls.proofs.asks.AskMoments.{Taken, absorbed_taken}
use Rattle.gr_model_calls.proofs.asks.CallTicks.{trimmed-is}
use Rattle.gr_model_calls.proofs.rules.Forwarding.{Has, TellsBody, pass_not_Q, is_Q_of, not_A, wants_of, quenched_at, LearnTicks, learn_ticks}
use Rattle.gr_model_calls.proofs.rules.Answering.{not_settled}
use Rattle.gr_model_calls.proofs.rules.Serves.{TellsKnown, known_of}
use Rattle.gr_model_theorems.proofs.sweep.Path.{Has-past, Has-last}
use Rattle.gr_model_theorems.proofs.sweep.SweepStates.{Unknowns}
use Rattle.gr_model_theorems.proofs.sweep.FirstUnknown.{unknown_calls}

-- The delivery of one Knowledge frame

quench_old : (q : Q3) (v : K) → is_C (if is_C q && not (is_Q v) then N else q) ≡ true → is_C q ≡ true
quench_old N v e = e
quench_old A v e = e
quench_old C v e = refl

-- a child's question that stands after the learning stood before
forward_old : (net : Net) (f : Facts) (p t : ℕ) (new : Known) (cs : List ℕ) (ws : List Wanted) → AllWantTruth net f p cs ws → AreRuns Q new → any_C (forward_wants net p new cs ws) t ≡ true → any_C ws t ≡ true
forward_old net f p t new [] ws a r e = absurd (false≢true e)
forward_old net f p t new (c ∷ cs) [] a r e = absurd (false≢true e)
forward_old net f p t new (c ∷ cs) (w ∷ ws) a r e =
    let sent = forward net p c w new in
    let s = forward-is net p c w new a.0.runs r in
    ⊎_elim
    (λ x. or_left (is_C (wanted_at w t)) (any_C ws t) (quench_old (wanted_at w t) (known_at sent t) (sym (ap is_C ((quenched-is w sent a.0.runs s.runs).same_at t)) ∙ x)))
    (λ x. or_right (is_C (wanted_at w t)) (any_C ws t) (forward_old net f p t new cs ws a.1 r x))
    (or_cases (is_C (wanted_at (still_wanted w sent) t)) (any_C (forward_wants net p new cs ws) t) e)

learn_old : (net : Net) (f : Facts) (p b t : ℕ) (piece : Known) (v : View) (log : Log) → IsPlace net p b → ViewTrue net f p b v → KnowsTruth net f p b piece → any_C (learn net p b piece v log).view.wants t ≡ true → any_C v.wants t ≡ true
unfolding learn
learn_old net f p b t piece v log place h k e =
    let new = new_ticks v.know piece in
    let n = new_ticks-is v.know piece h.know.runs k.runs in
    let joined = zip_runs Q Q Q same_K join_K v.know piece in
    let j = joined-is v.know piece h.know.runs k.runs in
    let hz = learned_horizon net p b piece v in
    let ws = forward_wants net p new (net.children p b) v.wants in
    let done = consolidated (keeps_horizon net p b) hz ws in
    let fin = finished-is joined done j.runs (done_runs net f p b hz ws (learn_wants net f p b piece v place h k)) in
    let i = trimmed-is net p b (record { know = finished joined done; wants = ws; asks = v.asks; horizon = hz; joins = v.joins }) fin.runs in
    forward_old net f p t new (net.children p b) v.wants h.wants n.runs (subst (λ z. any_C z t ≡ true) i.wants e)

-- just past a kept horizon nothing is known once something was learned
learn_edge : (net : Net) (f : Facts) (p b : ℕ) (piece : Known) (v : View) (log : Log) → IsPlace net p b → keeps_horizon net p b ≡ true → ViewTrue net f p b v → KnowsTruth net f p b piece → known_at (learn net p b piece v log).view.know (suc (learned_horizon net p b piece v)) ≡ Q
learn_edge net f p b piece v log place keeps h k =
    let know = zip_runs Q Q Q same_K join_K v.know piece in
    let j = joined-is v.know piece h.know.runs k.runs in
    let g : learned_horizon net p b piece v ≡ first_bottom_from know (suc v.horizon) - 1 = horizon_keeps (keeps_horizon net p b) v.horizon know keeps in
    let i = first_bottom_from-is Q 1 know (suc v.horizon) j.runs in
    let u : suc (learned_horizon net p b piece v) ≡ first_bottom_from know (suc v.horizon) = omega (arith, g, i.reached) in
    learn_above net f p b piece v log (suc (learned_horizon net p b piece v)) place keeps h k (omega arith) ∙ (sym (j.same_at (suc (learned_horizon net p b piece v))) ∙ subst (λ z. known_at know z ≡ Q) (sym u) i.stops)

receive_know : (net : Net) (now : ℕ) (f : Frame) (runs : Known) (js : Joins) (v : View) (log : Log) → f.body ≡ body.Knowledge runs js → drops v runs js ≡ false → receive net now f v log ≡ learn net f.head.publisher f.head.to runs (with_joins v (longer v.joins js)) log
unfolding receive
receive_know net now f runs js v log e c = rw (e, receive, c) refl

-- what it does, by ticks
pub record DeliveredKnow (net : Net) (w y : World) (x : Frame) (runs : Known) (o : Outcome) : Type 0 where
  pub ticks : LearnTicks net x.head.publisher x.head.to runs (view_of w x.head.to x.head.publisher) o
  pub taken : Taken net w y x.head.to x.head.publisher o
  pub fits : WorldFits net y
  pub log : o.log ≡ log_of w x.head.publisher
  pub above : (t : ℕ) → keeps_horizon net x.head.publisher x.head.to ≡ true → o.view.horizon < t → known_at o.view.know t ≡ join_K (known_at (view_of w x.head.to x.head.publisher).know t) (known_at runs t)
  pub edge : keeps_horizon net x.head.publisher x.head.to ≡ true → known_at o.view.know (suc o.view.horizon) ≡ Q
  pub rises : (view_of w x.head.to x.head.publisher).horizon ≤ o.view.horizon
  pub old : (t : ℕ) → any_C o.view.wants t ≡ true → any_C (view_of w x.head.to x.head.publisher).wants t ≡ true

-- what the call leaves
abbrev pub learned : Net → World → Frame → Known → Joins → Outcome
learned net w x runs js = let v = view_of w x.head.to x.head.publisher in
    learn net x.head.publisher x.head.to runs (with_joins v (longer v.joins js)) (log_of w x.head.publisher)

learn_log : (net : Net) (p b : ℕ) (piece : Known) (v : View) (log : Log) → (learn net p b piece v log).log ≡ log
unfolding learn
learn_log net p b piece v log = refl

pub delivered_know : (net : Net) (w : World) (x : Frame) (runs : Known) (js : Joins) → IsNet net → WorldFits net w → FrameTrue net w x → x.body ≡ body.Knowledge runs js → DeliveredKnow net w (deliver_frame net w x).world x runs (learned net w x runs js)
unfolding deliver_frame_by
delivered_know net w x runs js n f tr e =
    let p = x.head.publisher in
    let b = x.head.to in
    let v = view_of w b p in
    let u = with_joins v (longer v.joins js) in
    let place = n.place p b tr.publisher_in tr.fits.to_in in
    let h = f.views p b tr.publisher_in tr.fits.to_in in
    let k : BodyTrue net (facts_of net w p) p x.head.from b (body.Knowledge runs js) = subst (BodyTrue net (facts_of net w p) p x.head.from b) e tr.told in
    let h' : ViewTrue net (facts_of net w p) p b u = ViewTrue-taken net (facts_of net w p) p b v js (HasEvent runs) h k.1 in
    let is : receive net w.clock x v (log_of w p) ≡ learned net w x runs js = receive_know net w.clock x runs js v (log_of w p) e (nothing_drops net (facts_of net w p) p b v runs js h.know h.held k.0 k.1) in
    let ticks = learn_ticks net (facts_of net w p) p b runs u (log_of w p) place h' k.0 in
    let call : CallTrue net p b v (log_of w p) (reached_in net w p) (learned net w x runs js) = subst (CallTrue net p b v (log_of w p) (reached_in net w p)) is (receive_call net w.clock x v (log_of w p) (reached_in net w p) n tr.publisher_in tr.fits tr.told (f.logs p tr.publisher_in) h) in
    record {
      ticks = record { forwarded = ticks.forwarded; wants = ticks.wants; horizon = ticks.horizon; asks = ticks.asks; know = ticks.know };
      taken = subst (λ o. Taken net w (absorbed w b p (receive net w.clock x v (log_of w p))).world b p o) is (absorbed_taken net w b p (receive net w.clock x v (log_of w p)) f tr.fits.to_in tr.publisher_in);
      fits = (deliver_kept net w x n f tr).fits;
      log = learn_log net p b runs u (log_of w p);
      above = λ t keeps l. learn_above net (facts_of net w p) p b runs u (log_of w p) t place keeps h' k.0 (subst (λ z. z < t) ticks.horizon l);
      edge = λ keeps. subst (λ z. known_at (learned net w x runs js).view.know (suc z) ≡ Q) (sym ticks.horizon) (learn_edge net (facts_of net w p) p b runs u (log_of w p) place keeps h' k.0);
      rises = call.horizon;
      old = λ t c. learn_old net (facts_of net w p) p b t runs u (log_of w p) place h' k.0 c;
    }

-- A property of a world and of the frames still to come to a broker, kept over its turn

-- a frame that brings knowledge of p to b
abbrev pub IsKnowTo : ℕ → ℕ → Frame → Type 0
IsKnowTo p b f = (runs : Known) × (js : Joins) × (f.body ≡ body.Knowledge runs js) × (f.head.publisher ≡ p) × (f.head.to ≡ b)

pub know_to : (p b : ℕ) (f : Frame) → is_know_to p b f ≡ true → IsKnowTo p b f
know_to p b f e = go f.body e
  where
    go : (y : Body) → (elim y as (λ q. Bool) [ body.Knowledge runs js ↦ nat_eq f.head.publisher p && nat_eq f.head.to b | _ ↦ false ]) ≡ true → (runs : Known) × (js : Joins) × (y ≡ body.Knowledge runs js) × (f.head.publisher ≡ p) × (f.head.to ≡ b)
    go (body.Knowledge runs js) e = let x = and_parts (nat_eq f.head.publisher p) (nat_eq f.head.to b) e in (runs, js, refl, eqb-true f.head.publisher p x.0, eqb-true f.head.to b x.1)
    go (body.Curiosity runs) e = absurd (false≢true e)
    go (body.Expect tick) e = absurd (false≢true e)

-- the frames picked for a broker bring it knowledge of the publisher
pub all_know_to : (p b : ℕ) (fs : List Frame) → Each (IsKnowTo p b) (filter (is_know_to p b) fs)
all_know_to p b [] = tt
all_know_to p b (f ∷ fs) =
    elim (cases_Bool (is_know_to p b f)) [
      | inl e ↦ rw e (know_to p b f e, all_know_to p b fs)
      | inr e ↦ rw e (all_know_to p b fs)
    ]

-- one delivery keeps it, for the frame's own publisher and receiver
abbrev pub TurnKeeps : Net → (ℕ → ℕ → World → List Frame → Type 0) → Type 0
TurnKeeps net I = (w : World) (x : Frame) (runs : Known) (js : Joins) (fs : List Frame) → WorldFits net w → FrameTrue net w x → x.body ≡ body.Knowledge runs js → I x.head.publisher x.head.to w (x ∷ fs) → I x.head.publisher x.head.to (deliver_frame net w x).world fs

pub turn_keeps : (net : Net) (I : ℕ → ℕ → World → List Frame → Type 0) → IsNet net → TurnKeeps net I → (p b : ℕ) (fs : List Frame) (w : World) → WorldFits net w → Each (FrameTrue net w) fs → Each (IsKnowTo p b) fs → I p b w fs → I p b (in_turn (deliver_frame net) fs w).world []
turn_keeps net I n step p b [] w f a k h = h
turn_keeps net I n step p b (x ∷ xs) w f a k h =
    let y = (deliver_frame net w x).world in
    let c = deliver_kept net w x n f a.0 in
    let h1 : I x.head.publisher x.head.to w (x ∷ xs) = subst (λ q. I q x.head.to w (x ∷ xs)) (sym k.0.3) (subst (λ d. I p d w (x ∷ xs)) (sym k.0.4) h) in
    let i : I x.head.publisher x.head.to y xs = step w x k.0.0 k.0.1 xs f a.0 k.0.2 h1 in
    turn_keeps net I n step p b xs y c.fits (all_later xs a.1 c.later) k.1 (subst (λ d. I p d y xs) k.0.4 (subst (λ q. I q x.head.to y xs) k.0.3 i))
  where
    all_later : (ys : List Frame) → Each (FrameTrue net w) ys → IsLaterWorld net w (deliver_frame net w x).world → Each (FrameTrue net (deliver_frame net w x).world) ys
    all_later [] b l = tt
    all_later (y ∷ ys) b l = (FrameTrue-later net w (deliver_frame net w x).world y l b.0, all_later ys b.1 l)

-- What comes goes on

-- a Knowledge frame knows the tick
abbrev pub KnowsBody : ℕ → Body → Type 0
KnowsBody t (body.Knowledge runs js) = known_at runs t ≢ Q
KnowsBody t _ = ⊥

-- a frame that brings knowledge of the tick
abbrev pub BringsTick : ℕ → Frame → Type 0
BringsTick t f = KnowsBody t f.body

-- a tick that waits for knowledge to come, or was told the child
pub record WaitsFor (net : Net) (c t first p b : ℕ) (w : World) (rest : List Frame) : Type 0 where
  pub first_in : first ≤ length w.frames
  pub child : list_any (λ x. nat_eq x c) (net.children p b) ≡ true
  pub state : Has (TellsKnown p b c t) (frames_past first w.frames) ⊎ ((known_at (view_of w b p).know t ≡ Q) × (wanted_at (wants_of net p b (view_of w b p) c) t ≢ A) × Has (BringsTick t) rest)

still_wants : (net : Net) (p c t : ℕ) (q : Q3) → quenched_at net p c t Q q ≡ q
still_wants net p c t N = refl
still_wants net p c t A = refl
still_wants net p c t C = refl

waits_step : (net : Net) (c t first : ℕ) → IsNet net → TurnKeeps net (WaitsFor net c t first)
waits_step net c t first n w x runs js fs f tr e h = record {
  first_in = subst (λ z. first ≤ length z) (sym d.taken.frames) (longer first w.frames o.frames h.first_in);
  child = h.child;
  state = ⊎_elim (λ z. inl (subst (λ q. Has (TellsKnown p b c t) (frames_past first q)) (sym d.taken.frames) (Has-past (TellsKnown p b c t) first w.frames o.frames z))) waiting h.state;
}
  where
    p : ℕ
    p = x.head.publisher

    b : ℕ
    b = x.head.to

    v : View
    v = view_of w b p

    y : World
    y = (deliver_frame net w x).world

    o : Outcome
    o = learned net w x runs js

    d : DeliveredKnow net w y x runs o
    d = delivered_know net w x runs js n f tr e

    longer : (k : ℕ) (xs ys : List Frame) → k ≤ length xs → k ≤ length (xs ++ ys)
    longer k xs ys l = omega (arith, l, length-append xs ys)

    State : Type 0
    State = Has (TellsKnown p b c t) (frames_past first y.frames) ⊎ ((known_at (view_of y b p).know t ≡ Q) × (wanted_at (wants_of net p b (view_of y b p) c) t ≢ A) × Has (BringsTick t) fs)

    comes : known_at v.know t ≡ Q → known_at runs t ≢ Q → wanted_at (wants_of net p b v c) t ≢ A → State
    comes q k a = inl (subst (λ z. Has (TellsKnown p b c t) (frames_past first z)) (sym d.taken.frames) (Has-last (TellsKnown p b c t) first w.frames o.frames h.first_in
        (known_of p b c t (pass net p c t (known_at runs t)) o.frames (pass_not_Q net p c t (known_at runs t) k) (d.ticks.forwarded c t h.child q k a))))

    waits_on : known_at v.know t ≡ Q → known_at runs t ≡ Q → wanted_at (wants_of net p b v c) t ≢ A → Has (BringsTick t) fs → State
    waits_on q k a has =
        let wants : wanted_at (wants_of net p b (view_of y b p) c) t ≡ wanted_at (wants_of net p b v c) t = ap (λ z. wanted_at (wants_of net p b z c) t) d.taken.view ∙ (d.ticks.wants c t h.child
        ∙ (ap (λ z. quenched_at net p c t (if z then known_at runs t else Q) (wanted_at (wants_of net p b v c) t)) (is_Q_of (known_at v.know t) q) ∙ (ap (λ z. quenched_at net p c t z (wanted_at (wants_of net p b v c) t)) k ∙ still_wants net p c t (wanted_at (wants_of net p b v c) t)))) in
        let a1 : wanted_at (wants_of net p b (view_of y b p) c) t ≢ A = λ z. a (sym wants ∙ z) in
        let no = not_settled net (facts_of net y p) p b c t o.view.horizon (view_of y b p).wants (d.fits.views p b tr.publisher_in tr.fits.to_in).wants h.child (not_A (wanted_at (wants_of net p b (view_of y b p) c) t) a1) in
        let no1 : is_consolidated_by (keeps_horizon net p b) o.view.horizon o.view.wants t ≡ false = ap (λ z. is_consolidated_by (keeps_horizon net p b) o.view.horizon z.wants t) (sym d.taken.view) ∙ no in
        let still : known_at o.view.know t ≡ Q = ⊎_elim (λ z. z ∙ (ap (λ g. if g then F else join_K (known_at v.know t) (known_at runs t)) no1 ∙ ap₂ join_K q k)) (λ z. z.0) (d.ticks.know t) in
        inr (ap (λ z. known_at z.know t) d.taken.view ∙ still, a1, has)

    here : KnowsBody t x.body → known_at runs t ≢ Q
    here k = subst (KnowsBody t) e k

    waiting : (known_at v.know t ≡ Q) × (wanted_at (wants_of net p b v c) t ≢ A) × Has (BringsTick t) (x ∷ fs) → State
    waiting z = ⊎_elim
        (λ k. comes z.0 (here k) z.1)
        (λ k. ⊎_elim (λ g. waits_on z.0 g z.1 k) (λ g. comes z.0 g z.1) (cases_Q (known_at runs t)))
        z.2

-- The horizon

-- what a horizon waits for: each tick is below it, or known, or to come, and so is the last one
pub record Rising (net : Net) (m p b : ℕ) (w : World) (rest : List Frame) : Type 0 where
  pub keeps : keeps_horizon net p b ≡ true
  pub each : (t : ℕ) → 1 ≤ t → t ≤ m → (t ≤ (view_of w b p).horizon) ⊎ ((known_at (view_of w b p).know t ≢ Q) ⊎ Has (BringsTick t) rest)
  pub edge : (m ≤ (view_of w b p).horizon) ⊎ ((known_at (view_of w b p).know (suc (view_of w b p).horizon) ≡ Q) ⊎ Has (BringsTick m) rest)

rising_step : (net : Net) (m : ℕ) → IsNet net → TurnKeeps net (Rising net m)
rising_step net m n w x runs js fs f tr e h = record {
  keeps = h.keeps;
  each = λ t a c. ⊎_elim
      (λ z. inl (omega (arith, z, rises)))
      (λ z. elim (cases_lt (view_of y b p).horizon t) [
        | inr l ↦ inl l
        | inl l ↦ ⊎_elim
            (λ k. inr (inl (above t l (inl k))))
            (λ k. ⊎_elim (λ g. inr (inl (above t l (inr (subst (KnowsBody t) e g))))) (λ g. inr (inr g)) k)
            z
      ])
      (h.each t a c);
  edge = inr (inl (subst (λ z. known_at z.know (suc z.horizon) ≡ Q) (sym d.taken.view) (d.edge h.keeps)));
}
  where
    p : ℕ
    p = x.head.publisher

    b : ℕ
    b = x.head.to

    v : View
    v = view_of w b p

    y : World
    y = (deliver_frame net w x).world

    d : DeliveredKnow net w y x runs (learned net w x runs js)
    d = delivered_know net w x runs js n f tr e

    rises : v.horizon ≤ (view_of y b p).horizon
    rises = subst (λ z. v.horizon ≤ z.horizon) (sym d.taken.view) d.rises

    above : (t : ℕ) → (view_of y b p).horizon < t → (known_at v.know t ≢ Q) ⊎ (known_at runs t ≢ Q) → known_at (view_of y b p).know t ≢ Q
    above t l k q = join_not_Q (known_at v.know t) (known_at runs t) k (sym (d.above t h.keeps (subst (λ z. z.horizon < t) d.taken.view l)) ∙ (sym (ap (λ z. known_at z.know t) d.taken.view) ∙ q))

-- at the end of the turn it has passed them all
risen : (net : Net) (m p b : ℕ) (w : World) → Rising net m p b w [] → m ≤ (view_of w b p).horizon
risen net m p b w h =
    elim (cases_lt (view_of w b p).horizon m) [
      | inr l ↦ l
      | inl l ↦ ⊎_elim
          (λ z. z)
          (λ z. ⊎_elim
          (λ q. ⊎_elim (λ a. absurd (omega (arith, a))) (λ a. ⊎_elim (λ k. absurd (k q)) (λ k. absurd k) a) (h.each (suc (view_of w b p).horizon) (omega arith) (omega (arith, l))))
          (λ q. absurd q)
          z)
          h.edge
    ]

-- What else a turn leaves

-- frames are added, the log and the other brokers' views stay, no question is new, and what is asked has the moment that it had
pub record Leaves (net : Net) (old : World) (p b : ℕ) (w : World) (rest : List Frame) : Type 0 where
  pub more : List Frame
  pub frames : w.frames ≡ old.frames ++ more
  pub log : log_of w p ≡ log_of old p
  pub other : (c : ℕ) → c ≢ b → view_of w c p ≡ view_of old c p
  pub unknown : Unknowns net w
  pub asks : (t : ℕ) → any_C (view_of w b p).wants t ≡ true → asked_at (view_of w b p).asks t ≡ asked_at (view_of old b p).asks t
  pub wants : (t : ℕ) → any_C (view_of w b p).wants t ≡ true → any_C (view_of old b p).wants t ≡ true

leaves_step : (net : Net) (old : World) → IsNet net → TurnKeeps net (Leaves net old)
leaves_step net old n w x runs js fs f tr e h =
    let p = x.head.publisher in
    let b = x.head.to in
    let y = (deliver_frame net w x).world in
    let o = learned net w x runs js in
    let d = delivered_know net w x runs js n f tr e in
    let unknown = (unknown_calls net n).delivered w x f tr tt h.unknown in
    let before : (t : ℕ) → any_C (view_of y b p).wants t ≡ true → any_C (view_of w b p).wants t ≡ true = λ t c. d.old t (subst (λ z. any_C z.wants t ≡ true) d.taken.view c) in
    record {
      more = h.more ++ o.frames;
      frames = d.taken.frames ∙ (ap (λ (z : List Frame). z ++ o.frames) h.frames ∙ append_assoc old.frames h.more o.frames);
      log = d.taken.log ∙ (d.log ∙ h.log);
      other = λ c k. d.taken.other c p k ∙ h.other c k;
      unknown = unknown;
      asks = λ t c. ap (λ z. asked_at z.asks t) d.taken.view ∙ (d.ticks.asks t (ap (λ z. known_at z.know t) (sym d.taken.view) ∙ unknown.any p b t tr.publisher_in tr.fits.to_in c) ∙ h.asks t (before t c));
      wants = λ t c. h.wants t (before t c);
    }

-- The whole turn

-- the frames that a broker is handed
abbrev pub handed : ℕ → ℕ → ℕ → World → List Frame
handed p first b w = filter (is_know_to p b) (frames_past first w.frames)

handed_true : (net : Net) (p first b : ℕ) (w : World) → WorldFits net w → Each (FrameTrue net w) (handed p first b w)
handed_true net p first b w f = filter_frames net w (is_know_to p b) (frames_past first w.frames) (frames_past_true net w first w.frames f.frames)

-- a broker's turn adds frames, leaves the log and the other views, and makes no question new
pub turn_leaves : (net : Net) (p first : ℕ) (w : World) (b : ℕ) → IsNet net → WorldFits net w → Unknowns net w → Leaves net w p b (hand_down net p first w b).world []
unfolding hand_down_by
turn_leaves net p first w b n f u =
    turn_keeps net (Leaves net w) n (leaves_step net w n) p b (handed p first b w) w f (handed_true net p first b w f) (all_know_to p b (frames_past first w.frames))
    (record { more = []; frames = sym (append-nil w.frames); log = refl; other = λ c k. refl; unknown = u; asks = λ t c. refl; wants = λ t c. c })

-- a tick that a child waits for, and that is to come, is sent to it as known in the turn
pub turn_tells : (net : Net) (c t first p b : ℕ) (w : World) → IsNet net → WorldFits net w → WaitsFor net c t first p b w (handed p first b w) → Has (TellsKnown p b c t) (frames_past first (hand_down net p first w b).world.frames)
unfolding hand_down_by
turn_tells net c t first p b w n f h =
    ⊎_elim (λ z. z) (λ z. absurd z.2)
    (turn_keeps net (WaitsFor net c t first) n (waits_step net c t first n) p b (handed p first b w) w f (handed_true net p first b w f) (all_know_to p b (frames_past first w.frames)) h).state

-- where each tick up to the moment is known or to come, the turn brings the horizon to the moment
pub turn_rises : (net : Net) (m p first b : ℕ) (w : World) → IsNet net → WorldFits net w → Rising net m p b w (handed p first b w) → m ≤ (view_of (hand_down net p first w b).world b p).horizon
unfolding hand_down_by
turn_rises net m p first b w n f h =
    risen net m p b (in_turn (deliver_frame net) (handed p first b w) w).world
    (turn_keeps net (Rising net m) n (rising_step net m n) p b (handed p first b w) w f (handed_true net p first b w f) (all_know_to p b (frames_past first w.frames)) h)

tells_is_know : (p u b t : ℕ) (f : Frame) → TellsKnown p u b t f → (is_know_to p b f ≡ true) × BringsTick t f
tells_is_know p u b t f h = go f.body h.value h.known h.tells.body
  where
    go : (y : Body) (k : K) → k ≢ Q → TellsBody t k y → ((elim y as (λ q. Bool) [ body.Knowledge runs js ↦ nat_eq f.head.publisher p && nat_eq f.head.to b | _ ↦ false ]) ≡ true) × KnowsBody t y
    go (body.Knowledge runs js) k n e = (ap₂ (λ x y. x && y) (eq-eqb f.head.publisher p h.tells.publisher) (eq-eqb f.head.to b h.tells.to_is), λ q. n (sym e ∙ q))
    go (body.Curiosity runs) k n e = absurd e
    go (body.Expect tick) k n e = absurd e

-- a tick that a frame tells the broker is among those that it is handed
pub told_handed : (p u b t : ℕ) (fs : List Frame) → Has (TellsKnown p u b t) fs → Has (BringsTick t) (filter (is_know_to p b) fs)
told_handed p u b t [] h = absurd h
told_handed p u b t (f ∷ fs) (inl h) = let k = tells_is_know p u b t f h in rw (k.0) (inl k.1)
told_handed p u b t (f ∷ fs) (inr h) =
    elim (cases_Bool (is_know_to p b f)) [
      | inl e ↦ rw e (inr (told_handed p u b t fs h))
      | inr e ↦ rw e (told_handed p u b t fs h)
    ]
