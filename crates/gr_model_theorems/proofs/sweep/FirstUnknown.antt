-- A broker that has stored a child's question does not know the tick: learning a tick forwards it and makes the C an N, consolidation needs an A of each child, and forgetting leaves only Q
use Rattle.std.proofs.Common.{◌≡◌, ◌≢◌, ◌⊎◌, inl, inr, ⊎_elim, ℕ, suc, zero, ◌+◌, ◌≤◌, ◌<◌, max, Bool, true, false, not, ◌&&◌, List, [], ◌∷◌, map, set, get_or, refl, sym, ap, ap₂, ◌∙◌, subst, arith, le_refl}
use Rattle.std.specs.Prelude.{nat_eq, nat_le, if◌then◌else◌}
use Rattle.std.specs.List.{list_any}
use Rattle.std.proofs.lemmas.Bool.{cases_eq, false≢true, or_left, or_right, or_cases, and_right, eq-eqb, leb-true}
use Rattle.std.proofs.lemmas.List.{get_or-set_other, get_or-set_same}
use Rattle.gr_event.specs.Joins.{Joins, longer}
use Rattle.gr_event.specs.declared.event.Event.{Event}
use Rattle.gr_know.specs.declared.values.K.{K}
use Rattle.gr_know.specs.declared.values.K.TheVariants.{Q, S, D, F}
use Rattle.gr_curio.specs.declared.values.Q3.{Q3}
use Rattle.gr_curio.specs.declared.values.Q3.TheVariants.{N, C, A}
use Rattle.gr_tick.specs.Runs.{AreRuns}
use Rattle.gr_frame.specs.declared.Body.{Body}
use Rattle.gr_frame.specs.declared.Body.TheVariants as body
use Rattle.gr_frame.specs.declared.Frame.{Frame}
use Rattle.gr_sched.specs.declared.step.Line.{Line}
use Rattle.gr_know.specs.Values.{Known, known_at, is_Q, join_K}
use Rattle.gr_curio.specs.Values.{Wanted, wanted_at, is_C, is_A}
use Rattle.gr_model.specs.Net.{Net, is_host, keeps_horizon, numbers}
use Rattle.gr_model.specs.Broker.{joining, with_join, with_joins, drops, View, Log, Outcome, empty_log, all_A, any_C, horizon_if, is_reached, is_consolidated_by, new_ticks, forward, still_wanted, forward_wants, learn, asking, expect, curiosity, curious, stored, acknowledged, place_of, publish, silence, with_event, with_mark, marking, wake, wake_host, wake_below, receive, noted, due, started}
use Rattle.gr_model.specs.World.{join_now_by, World, blank_view, view_of, log_of, absorbed, restarted, start, start_by, deliver_frame_by, publish_now_by, wake_for_by}
use Rattle.gr_model_calls.specs.OneNet.{join_now, wake_for, deliver_frame, publish_now, run_all}
use Rattle.gr_model_calls.specs.Truth.{Grows, HasEvent, Facts, KnowsTruth, WantsTruth, AllWantTruth}
use Rattle.gr_model.specs.Tree.{IsNet, IsPlace}
use Rattle.gr_model_calls.specs.Fits.{WorldFits, FrameTrue, ViewTrue, LogFits, BodyTrue, BodyFits, StepsIn, facts, facts_of, reached_in}
use Rattle.gr_model_calls.proofs.calls.HostCases.{joining_cases, publish_cases, marking_cases, news_of}
use Rattle.gr_model_calls.proofs.calls.CallTruth.{ViewTrue-joins, ViewTrue-taken, ViewTrue-later, new_ticks-is, forward-is, quenched-is}
use Rattle.gr_model_calls.proofs.calls.Calls.{later_facts, silence_true, nothing_true, published_piece, said_more, trimmed_wants}
use Rattle.gr_model_calls.proofs.asks.CallTicks.{trimmed-is}
use Rattle.gr_model_calls.proofs.rules.Forwarding.{learn_ticks, quenched_at, quench_not_C, wants_of}
use Rattle.gr_model_calls.proofs.rules.Answering.{curiosity_ticks, acknowledged_at, acknowledged-is, stored-is, wants_true_at}
use Rattle.gr_model_calls.proofs.asks.AskMoments.{Taken, absorbed_taken}
use Rattle.gr_model_calls.proofs.runs.Worlds.{Each}
use Rattle.gr_model_calls.proofs.runs.Schedules.{get_numbers}
use Rattle.gr_model_calls.proofs.runs.Closed.{clocked, with_logs, IsClosed, IsCallClosed, holds_always}
use Rattle.gr_model_calls.proofs.calls.Held.{own, grows_not}
use Rattle.gr_model_theorems.proofs.sweep.SweepStates.{Unknowns}

-- Lists of what children want

C_not_A : (q : Q3) → is_C q ≡ true → is_A q ≡ false
C_not_A N e = absurd (false≢true e)
C_not_A A e = absurd (false≢true e)
C_not_A C e = refl

-- where a child asks, not every child acknowledges
any_C_not_all : (ws : List Wanted) (t : ℕ) → any_C ws t ≡ true → all_A ws t ≡ false
any_C_not_all [] t e = absurd (false≢true e)
any_C_not_all (w ∷ ws) t e =
    ⊎_elim
    (λ x. ap (λ q. q && all_A ws t) (C_not_A (wanted_at w t) x))
    (λ x. ap (λ q. is_A (wanted_at w t) && q) (any_C_not_all ws t x) ∙ and_right (is_A (wanted_at w t)) false refl)
    (or_cases (is_C (wanted_at w t)) (any_C ws t) e)

-- so the tick is not consolidated
pub asked_open : (keeps : Bool) (h : ℕ) (ws : List Wanted) (t : ℕ) → any_C ws t ≡ true → is_consolidated_by keeps h ws t ≡ false
asked_open keeps h ws t e = ap (λ q. nat_le 1 t && is_reached (horizon_if keeps h) t && q) (any_C_not_all ws t e) ∙ and_right (nat_le 1 t && is_reached (horizon_if keeps h) t) false refl

-- a stored C is one of the list
pub stored_any : (ws : List Wanted) (i t : ℕ) → is_C (wanted_at (get_or ws i []) t) ≡ true → any_C ws t ≡ true
stored_any [] i t e = absurd (false≢true e)
stored_any (w ∷ ws) zero t e = or_left (is_C (wanted_at w t)) (any_C ws t) e
stored_any (w ∷ ws) (suc i) t e = or_right (is_C (wanted_at w t)) (any_C ws t) (stored_any ws i t e)

-- what is asked once one child's curiosity is set was asked before, or is asked by what was set
pub any_set : (ws : List Wanted) (i : ℕ) (x : Wanted) (t : ℕ) → any_C (set ws i x) t ≡ true → (is_C (wanted_at x t) ≡ true) ⊎ (any_C ws t ≡ true)
any_set [] i x t e = inr e
any_set (w ∷ ws) zero x t e = ⊎_elim (λ z. inl z) (λ z. inr (or_right (is_C (wanted_at w t)) (any_C ws t) z)) (or_cases (is_C (wanted_at x t)) (any_C ws t) e)
any_set (w ∷ ws) (suc i) x t e =
    ⊎_elim
    (λ z. inr (or_left (is_C (wanted_at w t)) (any_C ws t) z))
    (λ z. ⊎_elim (λ y. inl y) (λ y. inr (or_right (is_C (wanted_at w t)) (any_C ws t) y)) (any_set ws i x t z))
    (or_cases (is_C (wanted_at w t)) (any_C (set ws i x) t) e)

N_not_C : N ≡ C → ⊥
N_not_C e = cc

A_not_C : A ≡ C → ⊥
A_not_C e = cc

-- a C that is left was one, at a tick of which nothing was learned
quenched_C : (net : Net) (p c t : ℕ) (k : K) (q : Q3) → quenched_at net p c t k q ≡ C → (q ≡ C) × (k ≡ Q)
quenched_C net p c t k N e = absurd (N_not_C e)
quenched_C net p c t k A e = absurd (A_not_C e)
quenched_C net p c t Q C e = (refl, refl)
quenched_C net p c t S C e = absurd (quench_not_C net p c t S C (λ h. cc) e)
quenched_C net p c t (D x) C e = absurd (quench_not_C net p c t (D x) C (λ h. cc) e)
quenched_C net p c t F C e = absurd (quench_not_C net p c t F C (λ h. cc) e)

C_of : (q : Q3) → is_C q ≡ true → q ≡ C
C_of N e = absurd (false≢true e)
C_of A e = absurd (false≢true e)
C_of C e = refl

any_forward : (net : Net) (f : Facts) (p t : ℕ) (new : Known) (cs : List ℕ) (ws : List Wanted) → AllWantTruth net f p cs ws → AreRuns Q new → any_C (forward_wants net p new cs ws) t ≡ true → (any_C ws t ≡ true) × (known_at new t ≡ Q)
any_forward net f p t new [] [] a r e = absurd (false≢true e)
any_forward net f p t new [] (w ∷ ws) a r e = absurd a
any_forward net f p t new (c ∷ cs) [] a r e = absurd a
any_forward net f p t new (c ∷ cs) (w ∷ ws) a r e =
    let s = forward-is net p c w new a.0.runs r in
    let v : wanted_at (still_wanted w (forward net p c w new)) t ≡ quenched_at net p c t (known_at new t) (wanted_at w t) = (quenched-is w (forward net p c w new) a.0.runs s.runs).same_at t ∙ ap (λ k. if is_C (wanted_at w t) && not (is_Q k) then N else wanted_at w t) (s.same_at t) in
    ⊎_elim
    (λ x. let z = quenched_C net p c t (known_at new t) (wanted_at w t) (sym v ∙ C_of (wanted_at (still_wanted w (forward net p c w new)) t) x) in (or_left (is_C (wanted_at w t)) (any_C ws t) (ap is_C z.0), z.1))
    (λ x. let z = any_forward net f p t new cs ws a.1 r x in (or_right (is_C (wanted_at w t)) (any_C ws t) z.0, z.1))
    (or_cases (is_C (wanted_at (still_wanted w (forward net p c w new)) t)) (any_C (forward_wants net p new cs ws) t) e)

-- Calls

-- what is asked is unknown
abbrev pub UnknownIn : View → Type 0
UnknownIn v = (t : ℕ) → any_C v.wants t ≡ true → known_at v.know t ≡ Q

learn_wants_are : (net : Net) (p b : ℕ) (piece : Known) (v : View) (log : Log) → (learn net p b piece v log).view.wants ≡ forward_wants net p (new_ticks v.know piece) (net.children p b) v.wants
unfolding learn
learn_wants_are net p b piece v log = trimmed_wants net p b _

learn_unknown : (net : Net) (f : Facts) (p b : ℕ) (piece : Known) (v : View) (log : Log) → IsPlace net p b → ViewTrue net f p b v → KnowsTruth net f p b piece → UnknownIn v → UnknownIn (learn net p b piece v log).view
learn_unknown net f p b piece v log place h k u t e =
    let o = learn net p b piece v log in
    let l = learn_ticks net f p b piece v log place h k in
    let n = new_ticks-is v.know piece h.know.runs k.runs in
    let a = any_forward net f p t (new_ticks v.know piece) (net.children p b) v.wants h.wants n.runs (sym (ap (λ z. any_C z t) (learn_wants_are net p b piece v log)) ∙ e) in
    let q : known_at v.know t ≡ Q = u t a.0 in
    let x : known_at piece t ≡ Q = sym (n.same_at t ∙ ap (λ z. if is_Q z then known_at piece t else Q) q) ∙ a.1 in
    ⊎_elim
    (λ z. z ∙ (ap (λ s. if s then F else join_K (known_at v.know t) (known_at piece t)) (asked_open (keeps_horizon net p b) o.view.horizon o.view.wants t e) ∙ ap₂ join_K q x))
    (λ z. z.0)
    (l.know t)

asking_unknown : (net : Net) (p b now : ℕ) (wanted : ℕ → Bool) (ps : List ℕ) (v : View) (log : Log) → AreRuns Q v.know → UnknownIn v → UnknownIn (asking net p b now wanted ps v log).view
unfolding asking
asking_unknown net p b now wanted ps v log r u t e =
    let i = trimmed-is net p b (record { know = v.know; wants = v.wants; asks = noted now v.asks (due now net.retry v.know v.asks wanted ps); horizon = v.horizon; joins = v.joins }) r in
    ⊎_elim (λ z. z ∙ u t (sym (ap (λ ws. any_C ws t) i.wants) ∙ e)) (λ z. z.0) (i.each t)

expect_unknown : (net : Net) (p b now tick : ℕ) (v : View) (log : Log) → AreRuns Q v.know → UnknownIn v → UnknownIn (expect net p b now tick v log).view
unfolding expect
expect_unknown net p b now tick v log r u = asking_unknown net p b now _ _ v log r u

-- a stored C is of a C that came, where nothing is known, or was stored before
pub stored_C : (k : K) (a x : Q3) → curious k (acknowledged_at a x) x ≡ C → ((x ≡ C) × (k ≡ Q) × (a ≢ A)) ⊎ (a ≡ C)
stored_C k a N e = inr e
stored_C k a A e = absurd (A_not_C e)
stored_C k A C e = absurd (A_not_C e)
stored_C Q N C e = inl (refl, refl, λ h. cc)
stored_C Q C C e = inl (refl, refl, λ h. cc)
stored_C S N C e = absurd (N_not_C e)
stored_C S C C e = absurd (N_not_C e)
stored_C (D x) N C e = absurd (N_not_C e)
stored_C (D x) C C e = absurd (N_not_C e)
stored_C F N C e = absurd (N_not_C e)
stored_C F C C e = absurd (N_not_C e)

curiosity_wants_are : (net : Net) (p b now c i : ℕ) (piece : Wanted) (v : View) (log : Log) → (curiosity net p b now c i piece v log).view.wants ≡ set v.wants i (stored v.know (acknowledged (get_or v.wants i []) piece) piece)
unfolding curiosity
curiosity_wants_are net p b now c i piece v log = trimmed_wants net p b _

-- what is asked once curiosity was taken: a C of the piece that was stored where nothing is known, or what was asked before
pub curiosity_any : (net : Net) (f : Facts) (p b now c : ℕ) (piece : Wanted) (v : View) (log : Log) (t : ℕ) → ViewTrue net f p b v → list_any (λ y. nat_eq y c) (net.children p b) ≡ true → WantsTruth net f p c piece → any_C (curiosity net p b now c (place_of c (net.children p b)) piece v log).view.wants t ≡ true →
    ((wanted_at piece t ≡ C) × (known_at v.know t ≡ Q) × (wanted_at (wants_of net p b v c) t ≢ A)) ⊎ (any_C v.wants t ≡ true)
curiosity_any net f p b now c piece v log t h child wt e =
    let at = place_of c (net.children p b) in
    let w0 = wants_of net p b v c in
    let w0_true = wants_true_at net f p (net.children p b) v.wants c h.wants child in
    let ai = acknowledged-is w0 piece w0_true.runs wt.runs in
    let si = stored-is v.know (acknowledged w0 piece) piece ai.runs wt.runs in
    let is : wanted_at (stored v.know (acknowledged w0 piece) piece) t ≡ curious (known_at v.know t) (acknowledged_at (wanted_at w0 t) (wanted_at piece t)) (wanted_at piece t) = si.same_at t ∙ ap (λ z. curious (known_at v.know t) z (wanted_at piece t)) (ai.same_at t) in
    ⊎_elim
    (λ x. ⊎_elim (λ z. inl z) (λ z. inr (stored_any v.wants at t (ap is_C z))) (stored_C (known_at v.know t) (wanted_at w0 t) (wanted_at piece t) (sym is ∙ C_of (wanted_at (stored v.know (acknowledged w0 piece) piece) t) x)))
    (λ x. inr x)
    (any_set v.wants at (stored v.know (acknowledged w0 piece) piece) t (sym (ap (λ z. any_C z t) (curiosity_wants_are net p b now c at piece v log)) ∙ e))

curiosity_unknown : (net : Net) (f : Facts) (p b now c : ℕ) (piece : Wanted) (v : View) (log : Log) → ViewTrue net f p b v → list_any (λ y. nat_eq y c) (net.children p b) ≡ true → WantsTruth net f p c piece → UnknownIn v → UnknownIn (curiosity net p b now c (place_of c (net.children p b)) piece v log).view
curiosity_unknown net f p b now c piece v log h child wt u t e =
    let o = curiosity net p b now c (place_of c (net.children p b)) piece v log in
    let k = curiosity_ticks net f p b now c piece v log h child wt in
    let q : known_at v.know t ≡ Q = ⊎_elim (λ z. z.1) (λ z. u t z) (curiosity_any net f p b now c piece v log t h child wt e) in
    ⊎_elim (λ z. z ∙ (ap (λ s. if s then F else known_at v.know t) (asked_open (keeps_horizon net p b) v.horizon o.view.wants t e) ∙ q)) (λ z. z.0) (k.know t)

marking_unknown : (net : Net) (p b now : ℕ) (v : View) (log : Log) (reached : ℕ → ℕ) → IsPlace net p b → LogFits log → ViewTrue net (facts log reached) p b v → UnknownIn v → UnknownIn (marking net p b now v log).view
marking_unknown net p b now v log reached place fit h u = marking_cases net p b now v log (λ o. UnknownIn o.view) marked (λ e. u)
  where
    new : Log
    new = with_mark log now

    piece : Known
    piece = silence (suc log.settled) now []

    o : Outcome
    o = learn net p b piece v new

    marked : nat_le (log.settled + net.quiet) now ≡ true → UnknownIn o.view
    marked e =
        let l : log.settled ≤ now = omega (arith, leb-true (log.settled + net.quiet) now e) in
        learn_unknown net (facts new reached) p b piece v new place
        (ViewTrue-later net (facts log reached) (facts new reached) p b v (later_facts log new reached reached l (λ t x. refl) (λ s. le_refl (reached s)) (grows_not log.joins log.settled)) h)
        (silence_true net (facts new reached) p b (suc log.settled) now [] (omega arith) (le_refl now) (λ t x y. fit.past t x) (nothing_true net (facts new reached) p b) tt tt) u

wake_unknown : (net : Net) (p b now : ℕ) (v : View) (log : Log) (reached : ℕ → ℕ) → IsPlace net p b → LogFits log → ViewTrue net (facts log reached) p b v → UnknownIn v → UnknownIn (wake net p b now v log).view
unfolding wake wake_host wake_below
wake_unknown net p b now v log reached place fit h u = go (is_host net p b)
  where
    go : (q : Bool) → (let x : Outcome = elim q [ true ↦ wake_host net p b now v log | false ↦ wake_below net p b now v log ] in UnknownIn x.view)
    go true = marking_unknown net p b now v log reached place fit h u
    go false = asking_unknown net p b now _ _ v log h.know.runs u

publish_unknown : (net : Net) (p b now number : ℕ) (e : Event) (v : View) (log : Log) (reached : ℕ → ℕ) → IsPlace net p b → is_host net p b ≡ true → LogFits log → ViewTrue net (facts log reached) p b v → UnknownIn v → UnknownIn (publish net p b now number e v log).view
publish_unknown net p b now number e v log reached place host fit h u =
    publish_cases net p b now number e v log (λ o. UnknownIn o.view) (λ l. u) (λ l. u) (λ x l. u)
    (λ x l.
    learn_unknown net (facts new reached) p b (news_of log tick e) v new place
    (ViewTrue-later net (facts log reached) (facts new reached) p b v (later_facts log new reached reached (omega arith) (λ t x. said_more log.events tick t e (λ q. omega (arith, q))) (λ s. le_refl (reached s)) (grows_not log.joins log.settled)) h)
    (published_piece net p b tick e log reached host fit (omega arith)) u)
  where
    tick : ℕ
    tick = max (suc log.settled) now

    new : Log
    new = with_event log tick e

receive_unknown : (net : Net) (f : Facts) (now : ℕ) (x : Frame) (v : View) (log : Log) → IsPlace net x.head.publisher x.head.to → ViewTrue net f x.head.publisher x.head.to v → BodyTrue net f x.head.publisher x.head.from x.head.to x.body → BodyFits net x.head.publisher x.head.from x.head.to x.body → UnknownIn v → UnknownIn (receive net now x v log).view
unfolding receive
receive_unknown net f now x v log place h told fits u = go x.body told fits
  where
    p : ℕ
    p = x.head.publisher

    b : ℕ
    b = x.head.to

    learned : (runs : Known) (js : Joins) (q : Bool) → BodyTrue net f p x.head.from b (body.Knowledge runs js) → (let o : Outcome = elim q [ true ↦ record { view = v; log = log; lines = []; frames = [] } | false ↦ learn net p b runs (with_joins v (longer v.joins js)) log ] in UnknownIn o.view)
    learned runs js true k = u
    learned runs js false k = learn_unknown net f p b runs (with_joins v (longer v.joins js)) log place (ViewTrue-taken net f p b v js (HasEvent runs) h k.1) k.0 u

    go : (y : Body) → BodyTrue net f p x.head.from b y → BodyFits net p x.head.from b y → (let o : Outcome = elim y [
      | body.Knowledge runs js ↦ elim (drops v runs js) [ true ↦ record { view = v; log = log; lines = []; frames = [] } | false ↦ learn net p b runs (with_joins v (longer v.joins js)) log ]
      | body.Curiosity runs ↦ curiosity net p b now x.head.from (place_of x.head.from (net.children p b)) runs v log
      | body.Expect tick ↦ expect net p b now tick v log
    ] in UnknownIn o.view)
    go (body.Knowledge runs js) t m = learned runs js (drops v runs js) t
    go (body.Curiosity runs) t m = curiosity_unknown net f p b now x.head.from runs v log h m t u
    go (body.Expect tick) t m = expect_unknown net p b now tick v log h.know.runs u

nothing_asked : (cs : List ℕ) (t : ℕ) → any_C (map (λ _. []) cs) t ≡ false
nothing_asked [] t = refl
nothing_asked (c ∷ cs) t = nothing_asked cs t

-- a broker that starts has stored no question at a known tick
pub started_unknown : (net : Net) (p b : ℕ) (log : Log) → UnknownIn (started net p b log)
unfolding started
started_unknown net p b log t e = absurd (false≢true (sym (nothing_asked (net.children p b) t) ∙ e))

-- Worlds

-- where no view has stored a question at a known tick, the world has none
pub by_any : (net : Net) (w : World) → ((p b : ℕ) → p < net.publishers → b < net.brokers → UnknownIn (view_of w b p)) → Unknowns net w
by_any net w a = record {
  each = λ p b c t j i m e. a p b j i t (stored_any (view_of w b p).wants (place_of c (net.children p b)) t (ap is_C e));
  any = λ p b t j i e. a p b j i t e;
}

-- what a call of one broker keeps
taken_unknown : (net : Net) (w u : World) (b p : ℕ) (o : Outcome) → b < net.brokers → p < net.publishers → Taken net w u b p o → (UnknownIn (view_of w b p) → UnknownIn o.view) → Unknowns net w → Unknowns net u
taken_unknown net w u b p o i j t k a =
    by_any net u (λ q c y x. elim (cases_eq q p) [
      | inl e ↦ elim (cases_eq c b) [
        | inl g ↦ subst (λ z. UnknownIn (view_of u c z)) (sym e) (subst (λ z. UnknownIn (view_of u z p)) (sym g) (subst UnknownIn (sym t.view) (k (λ s h. a.any p b s j i h))))
        | inr g ↦ subst UnknownIn (sym (t.other c q g)) (λ s h. a.any q c s y x h)
      ]
      | inr e ↦ subst UnknownIn (sym (t.other_publisher c q e)) (λ s h. a.any q c s y x h)
    ])

wake_for_unknown : (net : Net) → IsNet net → (w : World) (b p : ℕ) → WorldFits net w → b < net.brokers → p < net.publishers → Unknowns net w → Unknowns net (wake_for net w b p).world
unfolding wake_for_by
wake_for_unknown net n w b p f i j a =
    let o = wake net p b w.clock (view_of w b p) (log_of w p) in
    taken_unknown net w (absorbed w b p o).world b p o i j (absorbed_taken net w b p o f i j) (λ u. wake_unknown net p b w.clock (view_of w b p) (log_of w p) (reached_in net w p) (n.place p b j i) (f.logs p j) (f.views p b j i) u) a

deliver_unknown : (net : Net) → IsNet net → (w : World) (x : Frame) → WorldFits net w → FrameTrue net w x → Unknowns net w → Unknowns net (deliver_frame net w x).world
unfolding deliver_frame_by
deliver_unknown net n w x f t a =
    let p = x.head.publisher in
    let b = x.head.to in
    let o = receive net w.clock x (view_of w b p) (log_of w p) in
    taken_unknown net w (absorbed w b p o).world b p o t.fits.to_in t.publisher_in (absorbed_taken net w b p o f t.fits.to_in t.publisher_in)
    (λ u. receive_unknown net (facts_of net w p) w.clock x (view_of w b p) (log_of w p) (n.place p b t.publisher_in t.fits.to_in) (f.views p b t.publisher_in t.fits.to_in) t.told t.fits.body u) a

publish_now_unknown : (net : Net) → IsNet net → (w : World) (p number : ℕ) (e : Event) → WorldFits net w → p < net.publishers → Unknowns net w → Unknowns net (publish_now net w p number e).world
unfolding publish_now_by
publish_now_unknown net n w p number e f j a =
    let b = net.host p in
    let i = n.host_in p j in
    let o = publish net p b w.clock number e (view_of w b p) (log_of w p) in
    taken_unknown net w (absorbed w b p o).world b p o i j (absorbed_taken net w b p o f i j) (λ u. publish_unknown net p b w.clock number e (view_of w b p) (log_of w p) (reached_in net w p) (n.place p b j i) (eq-eqb b b refl) (f.logs p j) (f.views p b j i) u) a

joining_unknown : (net : Net) (p b now s : ℕ) (v : View) (log : Log) (reached : ℕ → ℕ) → IsPlace net p b → LogFits log → ViewTrue net (facts log reached) p b v → UnknownIn v → UnknownIn (joining net p b now s v log).view
joining_unknown net p b now s v log reached place fit h u =
    joining_cases net p b now s v log (λ o. UnknownIn o.view) (λ e. u) (λ e l. u)
    (λ e l.
    learn_unknown net (facts new reached) p b (silence (suc log.settled) tick []) (with_joins v new.joins) new place
    (ViewTrue-joins net (facts new reached) p b v new.joins (ViewTrue-later net (facts log reached) (facts new reached) p b v (later_facts log new reached reached (omega arith) (λ t x. refl) (λ s. le_refl (reached s)) grows) h) (own new.joins (HasEvent v.know)))
    (silence_true net (facts new reached) p b (suc log.settled) tick [] (omega arith) (le_refl tick) (λ t x y. fit.past t x) (nothing_true net (facts new reached) p b) tt tt) u)
  where
    tick : ℕ
    tick = max (suc log.settled) now

    new : Log
    new = with_join log tick s

    grows : Grows log.joins new.joins log.settled
    grows = (record { subscriber = s; tick = tick } ∷ [], refl, (omega arith, tt))

join_now_unknown : (net : Net) → IsNet net → (w : World) (s p : ℕ) → WorldFits net w → p < net.publishers → Unknowns net w → Unknowns net (join_now net w s p).world
unfolding join_now_by
join_now_unknown net n w s p f j a =
    let b = net.host p in
    let i = n.host_in p j in
    let o = joining net p b w.clock s (view_of w b p) (log_of w p) in
    taken_unknown net w (absorbed w b p o).world b p o i j (absorbed_taken net w b p o f i j) (λ u. joining_unknown net p b w.clock s (view_of w b p) (log_of w p) (reached_in net w p) (n.place p b j i) (f.logs p j) (f.views p b j i) u) a

restarted_unknown : (net : Net) (w : World) (logs : List Log) (b : ℕ) → WorldFits net w → b < net.brokers → Unknowns net w → Unknowns net (restarted net (with_logs w logs) b)
unfolding restarted
restarted_unknown net w logs b f i a =
    let g : ℕ → View = λ p. started net p b (get_or logs p empty_log) in
    let u = restarted net (with_logs w logs) b in
    by_any net u (λ q c y x. elim (cases_eq c b) [
      | inl e ↦ subst (λ z. UnknownIn (view_of u z q)) (sym e) (subst UnknownIn (sym (ap (λ row. get_or row q blank_view) (get_or-set_same w.views b (map g (numbers net.publishers)) [] (omega (arith, f.views_long, i))) ∙ get_numbers g 0 net.publishers q blank_view y)) (started_unknown net (0 + q) b (get_or logs (0 + q) empty_log)))
      | inr e ↦ subst UnknownIn (sym (ap (λ row. get_or row q blank_view) (get_or-set_other w.views b c (map g (numbers net.publishers)) [] e))) (λ s h. a.any q c s y x h)
    ])

start_unknown : (net : Net) → Unknowns net (start net)
unfolding start_by
start_unknown net =
    let g : ℕ → ℕ → View = λ c p. started net p c empty_log in
    by_any net (start net) (λ q c y x.
    subst UnknownIn (sym (ap (λ row. get_or row q blank_view) (get_numbers (λ d. map (g d) (numbers net.publishers)) 0 net.brokers c [] x) ∙ get_numbers (g (0 + c)) 0 net.publishers q blank_view y)) (started_unknown net (0 + q) (0 + c) empty_log))

-- each wake and delivery keeps it
pub unknown_calls : (net : Net) → IsNet net → IsCallClosed net (λ x. Unit {0}) (Unknowns net)
unknown_calls net n = record {
  sent = λ w a. all w.frames;
  woken = λ w b p f i j a. wake_for_unknown net n w b p f i j a;
  delivered = λ w x f t r a. deliver_unknown net n w x f t a;
}
  where
    all : (fs : List Frame) → Each (λ x. Unit {0}) fs
    all [] = tt
    all (x ∷ xs) = (tt, all xs)

-- and each part of a step
pub unknown_closed : (net : Net) → IsNet net → IsClosed net (λ x. Unit {0}) (Unknowns net)
unknown_closed net n = record {
  calls = unknown_calls net n;
  published = λ w p number e f j a. publish_now_unknown net n w p number e f j a;
  joined = λ w s p f late j a. join_now_unknown net n w s p f j a;
  at_clock = λ w now f a. by_any net (clocked w now (max now w.most)) (λ p b j i t e. a.any p b t j i e);
  restarts = λ w logs b f i a. restarted_unknown net w logs b f i a;
}

-- whatever the schedule: a broker that has stored a child's question does not know the tick
pub unknowns_always : (net : Net) (ls : List Line) → IsNet net → StepsIn net ls → Unknowns net (run_all net (start net) ls).world
unknowns_always net ls n i = holds_always net (λ x. Unit {0}) (Unknowns net) ls n (unknown_closed net n) (start_unknown net) i
