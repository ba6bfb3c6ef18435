-- Each call keeps the log in order, the horizon rising and all that is known
-- and sent true, since only the host logs, and only past what is settled
use Rattle.std.proofs.Common.{◌≡◌, ◌≢◌, ◌⊎◌, inl, inr, ⊎_elim, ℕ, suc, ◌+◌, ◌-◌, ◌≤◌, ◌<◌, max, Bool, true, false, List, [], ◌∷◌, ◌++◌, map, refl, sym, ap, ◌∙◌, subst, Option, Some, None, arith, le_trans, le_refl}
use Rattle.std.specs.Prelude.{nat_eq, nat_le, nat_lt, if◌then◌else◌}
use Rattle.std.specs.List.{list_any}
use Rattle.std.proofs.lemmas.Bool.{and_from, cases_Bool, cases_lt, cases_eq, false≢true, eq-eqb, or_left, or_right, both_ways, leb-true, le-leb}
use Rattle.gr_event.specs.declared.event.Event.{Event}
use Rattle.gr_know.specs.declared.values.K.{K}
use Rattle.gr_know.specs.declared.values.K.TheVariants.{Q, S, D, F}
use Rattle.gr_curio.specs.declared.values.Q3.TheVariants.{N, A}
use Rattle.gr_tick.specs.declared.run.Run.{Run}
use Rattle.gr_frame.specs.declared.Body.{Body}
use Rattle.gr_frame.specs.declared.Body.TheVariants as body
use Rattle.gr_frame.specs.declared.Frame.{Frame}
use Rattle.gr_model.specs.declared.report.Report.{Report}
use Rattle.gr_tick.specs.Runs.{AreRuns, AreRunsFrom, StartsApart, zip_runs}
use Rattle.gr_know.specs.Values.{Known, known_at, join_K, same_K}
use Rattle.gr_curio.specs.Values.{Wanted, wanted_at, is_A}
use Rattle.gr_event.specs.Event.{same_event}
use Rattle.gr_model.specs.Net.{Net, is_late, all_late, is_host, keeps_horizon}
use Rattle.gr_model.specs.Broker.{with_joins, with_join, drops, joining, joining_by, View, Log, Outcome, know_frames, want_frames, expect_frame, is_consolidated_by, consolidated, finished, kept_view, kept_view_below, new_ticks, forward, forward_frames, learn, up_frames, asking, curiosity, wake_below, expect, expect_frames, covers, max_tick, place_of, publish, silence, with_event, with_mark, marking, cutting, done_upto, wake_host, wake, receive, head}
use Rattle.gr_frame.specs.Bytes.{known_run_size, wanted_run_size, head_size, cut_frames}
use Rattle.gr_event.specs.Joins.{Joins, longer}
use Rattle.gr_pubend.specs.declared.answers.Joined.TheVariants as joins
use Rattle.gr_model_calls.proofs.calls.Held.{all_late_on, own, own_by, both, fewer, grows_not, grows_on, longer_own}
use Rattle.gr_model_calls.specs.Truth.{Holds, HasEvent, Grows, Facts, TrueS, TrueF, IsTrueAt, KnowsTruth, WantsTruth, AllWantTruth, IsLater}
use Rattle.gr_model.specs.Tree.{IsPlace, IsNet}
use Rattle.gr_model_calls.specs.Said.{said_at, TicksRise}
use Rattle.gr_model_calls.specs.Fits.{facts, LogFits, IsHorizon, ViewTrue, HostKnows, CutTrue, BodyTrue, BodyFits, FrameFits, AllFit}
use Rattle.gr_model_calls.proofs.calls.HostCases.{publish_cases, marking_cases, joining_cases}
use Rattle.gr_model_calls.proofs.calls.Cutting.{SameBut, cutting_same, cutting_cut}
use Rattle.gr_tick.proofs.RunLaws.{first_bottom_from-is, value_at-in, value_at-below, value_at-above}
use Rattle.gr_model_calls.proofs.calls.TruthTicks.{TrueF-later, concerns_none}
use Rattle.gr_model_calls.proofs.calls.Told.{said_at-here, said_at-past, said_append, rises_append, TicksUpto}
use Rattle.gr_model_calls.proofs.calls.CallTruth.{AllTrue, AllTrue-append, OutcomeTrue, learned_horizon, learn_true, horizon_after-is, joined_true, wake_below_true, expect_true, curiosity_true, expect_frames_true, done_true, finished-is, OutcomeTrue-later, ViewTrue-later, curiosity_wants, joined-is, learn_wants, done_runs, done_values, ViewTrue-joins}

-- the subscribers have come on, those at the broker at least to its horizon
pub record ComeOn (net : Net) (b h : ℕ) (reached later : ℕ → ℕ) : Type 0 where
  pub on : (s : ℕ) → reached s ≤ later s
  pub here : (s : ℕ) → list_any (λ x. nat_eq x s) (net.subscribers_at b) ≡ true → h ≤ later s

-- what each call keeps: a log in order that only grows, a horizon that only rises, and true views and frames
pub record CallTrue (net : Net) (p b : ℕ) (v : View) (log : Log) (reached : ℕ → ℕ) (o : Outcome) : Type 0 where
  pub log_fits : LogFits o.log
  pub settled : log.settled ≤ o.log.settled
  pub said : (t : ℕ) → t ≤ log.settled → said_at o.log.events t ≡ said_at log.events t
  pub same_log : is_host net p b ≡ false → o.log ≡ log
  pub joined : Grows log.joins o.log.joins log.settled
  pub late : all_late net log.joins ≡ true → all_late net o.log.joins ≡ true
  pub host_joins : is_host net p b ≡ true → v.joins ≡ log.joins → o.view.joins ≡ o.log.joins
  pub horizon : v.horizon ≤ o.view.horizon
  pub told : (later : ℕ → ℕ) → ComeOn net b o.view.horizon reached later → OutcomeTrue net (facts o.log later) p b o
  pub known : is_host net p b ≡ true → HostKnows v log.settled → HostKnows o.view o.log.settled
  pub cut : (later : ℕ → ℕ) → ComeOn net b o.view.horizon reached later → is_host net p b ≡ true → CutTrue net (facts log reached) p b log.cut → CutTrue net (facts o.log later) p b o.log.cut
  pub fits : AllFit net p o.frames

-- later facts from later logs and horizons
pub later_facts : (log new : Log) (reached later : ℕ → ℕ) → log.settled ≤ new.settled → ((t : ℕ) → t ≤ log.settled → said_at new.events t ≡ said_at log.events t) → ((s : ℕ) → reached s ≤ later s) → Grows log.joins new.joins log.settled → IsLater (facts log reached) (facts new later)
later_facts log new reached later a b c g = record { settled = a; said = b; reached = c; joined = g }

AllFit-append : (net : Net) (p : ℕ) (xs ys : List Frame) → AllFit net p xs → AllFit net p ys → AllFit net p (xs ++ ys)
AllFit-append net p [] ys a b = b
AllFit-append net p (x ∷ xs) ys a b = (a.0, AllFit-append net p xs ys a.1 b)

know_frames_fit : (net : Net) (js : Joins) (p from to : ℕ) (runs : Known) → to < net.brokers → AllFit net p (know_frames js from to p runs)
know_frames_fit net js p from to runs h = go (cut_frames (head_size js) known_run_size runs)
  where
    go : (parts : List Known) → AllFit net p (map (λ part. record { head = head from to p; body = body.Knowledge part js }) parts)
    go [] = tt
    go (x ∷ xs) = (record { publisher = refl; to_in = h; body = tt }, go xs)

want_frames_fit : (net : Net) (p from to : ℕ) (runs : Wanted) → to < net.brokers → list_any (λ x. nat_eq x from) (net.children p to) ≡ true → AllFit net p (want_frames from to p runs)
want_frames_fit net p from to runs h m = go (cut_frames 12 wanted_run_size runs)
  where
    go : (parts : List Wanted) → AllFit net p (map (λ part. record { head = head from to p; body = body.Curiosity part }) parts)
    go [] = tt
    go (x ∷ xs) = (record { publisher = refl; to_in = h; body = m }, go xs)

up_frames_fit : (net : Net) (p b : ℕ) (runs : Wanted) → IsNet net → p < net.publishers → b < net.brokers → AllFit net p (up_frames net p b runs)
up_frames_fit net p b runs n i j = go (net.up p b) refl
  where
    go : (u : Option ℕ) → net.up p b ≡ u → AllFit net p (elim u [ Some u ↦ want_frames b u p runs | None ↦ [] ])
    go None e = tt
    go (Some u) e = want_frames_fit net p b u runs (n.up_in p b u i j e).0 (n.up_in p b u i j e).1

-- all of a list of children are brokers
abbrev AllIn : Net → List ℕ → Type 0
AllIn net [] = Unit {0}
AllIn net (c ∷ cs) = (c < net.brokers) × AllIn net cs

all_in : (net : Net) (cs : List ℕ) → ((c : ℕ) → list_any (λ x. nat_eq x c) cs ≡ true → c < net.brokers) → AllIn net cs
all_in net [] h = tt
all_in net (c ∷ cs) h = (h c (or_left (nat_eq c c) (list_any (λ x. nat_eq x c) cs) (eq-eqb c c refl)), all_in net cs (λ d m. h d (or_right (nat_eq c d) (list_any (λ x. nat_eq x d) cs) m)))

forward_frames_fit : (net : Net) (js : Joins) (p b : ℕ) (new : Known) (cs : List ℕ) (ws : List Wanted) → AllIn net cs → AllFit net p (forward_frames js net p b new cs ws)
forward_frames_fit net js p b new [] ws a = tt
forward_frames_fit net js p b new (c ∷ cs) [] a = tt
forward_frames_fit net js p b new (c ∷ cs) (w ∷ ws) a = AllFit-append net p (know_frames js b c p (forward net p c w new)) (forward_frames js net p b new cs ws) (know_frames_fit net js p b c (forward net p c w new) a.0) (forward_frames_fit net js p b new cs ws a.1)

expect_frames_fit : (net : Net) (p b tick : ℕ) (cs : List ℕ) (ws : List Wanted) → AllIn net cs → AllFit net p (expect_frames p b tick cs ws)
expect_frames_fit net p b tick [] ws a = tt
expect_frames_fit net p b tick (c ∷ cs) [] a = tt
expect_frames_fit net p b tick (c ∷ cs) (w ∷ ws) a = AllFit-append net p (if covers w tick then [] else expect_frame b c p tick ∷ []) (expect_frames p b tick cs ws) (go (covers w tick)) (expect_frames_fit net p b tick cs ws a.1)
  where
    go : (q : Bool) → AllFit net p (if q then [] else expect_frame b c p tick ∷ [])
    go true = tt
    go false = (record { publisher = refl; to_in = a.0; body = tt }, tt)

-- Trimming

-- forgetting leaves the horizon
pub trimmed_horizon : (net : Net) (p b : ℕ) (v : View) → (kept_view net p b v).horizon ≡ v.horizon
unfolding kept_view
trimmed_horizon net p b v = go (is_host net p b)
  where
    less : View
    less = kept_view_below net p b v

    go : (q : Bool) → (let u : View = elim q [ true ↦ v | false ↦ less ] in u.horizon) ≡ v.horizon
    go true = refl
    go false = refl

-- forgetting leaves the joins
pub trimmed_joins : (net : Net) (p b : ℕ) (v : View) → (kept_view net p b v).joins ≡ v.joins
unfolding kept_view
trimmed_joins net p b v = go (is_host net p b)
  where
    less : View
    less = kept_view_below net p b v

    go : (q : Bool) → (let u : View = elim q [ true ↦ v | false ↦ less ] in u.joins) ≡ v.joins
    go true = refl
    go false = refl

-- forgetting leaves what children want
pub trimmed_wants : (net : Net) (p b : ℕ) (v : View) → (kept_view net p b v).wants ≡ v.wants
unfolding kept_view
trimmed_wants net p b v = go (is_host net p b)
  where
    less : View
    less = kept_view_below net p b v

    go : (q : Bool) → (let u : View = elim q [ true ↦ v | false ↦ less ] in u.wants) ≡ v.wants
    go true = refl
    go false = refl

-- at the host nothing is forgotten
pub trimmed_host : (net : Net) (p b : ℕ) (v : View) → is_host net p b ≡ true → kept_view net p b v ≡ v
unfolding kept_view
trimmed_host net p b v h = go (is_host net p b) h
  where
    less : View
    less = kept_view_below net p b v

    go : (q : Bool) → q ≡ true → (let u : View = elim q [ true ↦ v | false ↦ less ] in u) ≡ v
    go true e = refl
    go false e = absurd (false≢true e)

trimmed_known : (net : Net) (p b settled : ℕ) (v : View) → is_host net p b ≡ true → HostKnows v settled → HostKnows (kept_view net p b v) settled
trimmed_known net p b settled v h k = subst (λ u. HostKnows u settled) (sym (trimmed_host net p b v h)) k

not_Q : (b : Bool) (k : K) → k ≢ Q → (if b then F else k) ≢ Q
not_Q true k h = λ e. F_not_Q e
  where
    F_not_Q : F ≡ Q → ⊥
    F_not_Q e = cc
not_Q false k h = h

finished_known : (know : Known) (done : Wanted) (t : ℕ) → AreRuns Q know → AreRuns N done → known_at know t ≢ Q → known_at (finished know done) t ≢ Q
finished_known know done t a d h = λ e. not_Q (is_A (wanted_at done t)) (known_at know t) h (sym ((finished-is know done a d).same_at t) ∙ e)

-- A call that leaves the log and the horizon

quiet_call : (net : Net) (p b : ℕ) (v : View) (log : Log) (reached : ℕ → ℕ) (o : Outcome) → LogFits log → o.log ≡ log → o.view.horizon ≡ v.horizon → o.view.joins ≡ v.joins → OutcomeTrue net (facts log reached) p b o → (is_host net p b ≡ true → HostKnows v log.settled → HostKnows o.view log.settled) → AllFit net p o.frames → CallTrue net p b v log reached o
quiet_call net p b v log reached o fit same_log same_horizon same_joins true_now known fits =
    record {
      log_fits = subst LogFits (sym same_log) fit;
      settled = subst (λ l. log.settled ≤ l.settled) (sym same_log) (le_refl log.settled);
      said = λ t h. ap (λ l. said_at l.events t) same_log;
      same_log = λ e. same_log;
      joined = subst (λ l. Grows log.joins l.joins log.settled) (sym same_log) (grows_not log.joins log.settled);
      late = λ a. ap (λ l. all_late net l.joins) same_log ∙ a;
      host_joins = λ h e. same_joins ∙ (e ∙ sym (ap (λ l. l.joins) same_log));
      horizon = omega (arith, same_horizon);
      told = λ later c. subst (λ l. OutcomeTrue net (facts l later) p b o) (sym same_log) (on later c.on);
      known = λ h k. subst (λ l. HostKnows o.view l.settled) (sym same_log) (known h k);
      cut = λ later c h k. subst (λ l. CutTrue net (facts l later) p b l.cut) (sym same_log) (λ t i j. TrueF-later net (facts log reached) (facts log later) p b t (later_facts log log reached later (le_refl log.settled) (λ t i. refl) c.on (grows_not log.joins log.settled)) (k t i j));
      fits = fits;
    }
  where
    on : (later : ℕ → ℕ) → ((s : ℕ) → reached s ≤ later s) → OutcomeTrue net (facts log later) p b o
    on later c = OutcomeTrue-later net (facts log reached) (facts log later) p b o (later_facts log log reached later (le_refl log.settled) (λ t i. refl) c (grows_not log.joins log.settled)) true_now

wake_below_call : (net : Net) (p b now : ℕ) (v : View) (log : Log) (reached : ℕ → ℕ) → IsNet net → p < net.publishers → b < net.brokers → LogFits log → ViewTrue net (facts log reached) p b v → CallTrue net p b v log reached (wake_below net p b now v log)
unfolding wake_below asking
wake_below_call net p b now v log reached n i j fit h =
    let o = wake_below net p b now v log in
    quiet_call net p b v log reached o fit refl (trimmed_horizon net p b _) (trimmed_joins net p b _) (wake_below_true net (facts log reached) p b now v log (n.place p b i j) h)
    (λ q k. trimmed_known net p b log.settled _ q k) (up_frames_fit net p b _ n i j)

expect_call : (net : Net) (p b now tick : ℕ) (v : View) (log : Log) (reached : ℕ → ℕ) → IsNet net → p < net.publishers → b < net.brokers → LogFits log → ViewTrue net (facts log reached) p b v → tick ≤ log.settled → CallTrue net p b v log reached (expect net p b now tick v log)
unfolding expect asking
expect_call net p b now tick v log reached n i j fit h s =
    quiet_call net p b v log reached (expect net p b now tick v log) fit refl (trimmed_horizon net p b _) (trimmed_joins net p b _) (expect_true net (facts log reached) p b now tick v log (n.place p b i j) h s)
    (λ q k. trimmed_known net p b log.settled _ q k)
    (AllFit-append net p _ (expect_frames p b tick (net.children p b) v.wants) (up_frames_fit net p b _ n i j) (expect_frames_fit net p b tick (net.children p b) v.wants (all_in net (net.children p b) (λ c m. n.child_in p b c i j m))))

curiosity_call : (net : Net) (p b now c : ℕ) (piece : Wanted) (v : View) (log : Log) (reached : ℕ → ℕ) → IsNet net → p < net.publishers → b < net.brokers → list_any (λ x. nat_eq x c) (net.children p b) ≡ true → LogFits log → ViewTrue net (facts log reached) p b v → WantsTruth net (facts log reached) p c piece → CallTrue net p b v log reached (curiosity net p b now c (place_of c (net.children p b)) piece v log)
unfolding curiosity
curiosity_call net p b now c piece v log reached n i j child fit h w =
    let t = curiosity_true net (facts log reached) p b now c piece v log (n.place p b i j) child h w in
    quiet_call net p b v log reached (curiosity net p b now c (place_of c (net.children p b)) piece v log) fit refl (trimmed_horizon net p b _) (trimmed_joins net p b _) t
    (λ q k. trimmed_known net p b log.settled _ q (λ u x y. finished_known v.know _ u h.know.runs (done_runs net (facts log reached) p b v.horizon _ (curiosity_wants net (facts log reached) p b c piece v h child w)) (k u x y)))
    (AllFit-append net p (know_frames v.joins b c p _) (up_frames net p b _) (know_frames_fit net v.joins p b c _ (n.child_in p b c i j child)) (up_frames_fit net p b _ n i j))

-- Learning

-- what is known on either side is known in the join
pub join_not_Q : (k x : K) → (k ≢ Q) ⊎ (x ≢ Q) → join_K k x ≢ Q
join_not_Q Q x h = ⊎_elim (λ n. absurd (n refl)) (λ n. n) h
join_not_Q F x h = λ e. cc
join_not_Q S Q h = λ e. cc
join_not_Q S S h = λ e. cc
join_not_Q S (D e) h = λ e. cc
join_not_Q S F h = λ e. cc
join_not_Q (D a) Q h = λ e. cc
join_not_Q (D a) S h = λ e. cc
join_not_Q (D a) (D c) h = go (same_event a c)
  where
    go : (b : Bool) → (if b then D a else F) ≢ Q
    go true = λ e. cc
    go false = λ e. cc
join_not_Q (D a) F h = λ e. cc

-- after learning, a tick that was known or came is known, at the host
learn_known : (net : Net) (f : Facts) (p b settled : ℕ) (piece : Known) (v : View) (log : Log) → IsPlace net p b → ViewTrue net f p b v → KnowsTruth net f p b piece → is_host net p b ≡ true → ((t : ℕ) → 1 ≤ t → t ≤ settled → (known_at v.know t ≢ Q) ⊎ (known_at piece t ≢ Q)) → HostKnows (learn net p b piece v log).view settled
unfolding learn
learn_known net f p b settled piece v log place h i host known =
    let j = joined-is v.know piece h.know.runs i.runs in
    trimmed_known net p b settled _ host (λ t x y. finished_known (zip_runs Q Q Q same_K join_K v.know piece) _ t j.runs (done_runs net f p b (learned_horizon net p b piece v) _ (learn_wants net f p b piece v place h i))
    (λ e. join_not_Q (known_at v.know t) (known_at piece t) (known t x y) (sym (j.same_at t) ∙ e)))

-- learning moves the horizon to where the piece lets it come, whatever is forgotten then
pub learn_horizon : (net : Net) (p b : ℕ) (piece : Known) (v : View) (log : Log) → (learn net p b piece v log).view.horizon ≡ learned_horizon net p b piece v
unfolding learn
learn_horizon net p b piece v log = trimmed_horizon net p b _

-- learning leaves the log
pub learn_log : (net : Net) (p b : ℕ) (piece : Known) (v : View) (log : Log) → (learn net p b piece v log).log ≡ log
unfolding learn
learn_log net p b piece v log = refl

-- and the joins
pub learn_joins : (net : Net) (p b : ℕ) (piece : Known) (v : View) (log : Log) → (learn net p b piece v log).view.joins ≡ v.joins
unfolding learn
learn_joins net p b piece v log = trimmed_joins net p b _

learn_fits : (net : Net) (p b : ℕ) (piece : Known) (v : View) (log : Log) → IsNet net → p < net.publishers → b < net.brokers → AllFit net p (learn net p b piece v log).frames
unfolding learn
learn_fits net p b piece v log n i j = forward_frames_fit net v.joins p b (new_ticks v.know piece) (net.children p b) v.wants (all_in net (net.children p b) (λ c m. n.child_in p b c i j m))

-- facts of one log at later horizons
later_horizons : (log : Log) (reached later : ℕ → ℕ) → ((s : ℕ) → reached s ≤ later s) → IsLater (facts log reached) (facts log later)
later_horizons log reached later c = later_facts log log reached later (le_refl log.settled) (λ t i. refl) c (grows_not log.joins log.settled)

pub learn_call : (net : Net) (p b : ℕ) (piece : Known) (v : View) (log : Log) (reached : ℕ → ℕ) → IsNet net → p < net.publishers → b < net.brokers → LogFits log → ViewTrue net (facts log reached) p b v → KnowsTruth net (facts log reached) p b piece → Holds log.joins v.joins (HasEvent piece) → CallTrue net p b v log reached (learn net p b piece v log)
learn_call net p b piece v log reached n i j fit h k held =
    let place = n.place p b i j in
    let moves = horizon_after-is net (facts log reached) p b (keeps_horizon net p b) v.horizon (zip_runs Q Q Q same_K join_K v.know piece) (joined_true net (facts log reached) p b v.know piece h.know k) h.horizon.settled in
    let e = learn_log net p b piece v log in
    let g = learn_horizon net p b piece v log in
    record {
      log_fits = subst LogFits (sym e) fit;
      settled = subst (λ l. log.settled ≤ l.settled) (sym e) (le_refl log.settled);
      said = λ t x. ap (λ l. said_at l.events t) e;
      same_log = λ q. e;
      joined = subst (λ l. Grows log.joins l.joins log.settled) (sym e) (grows_not log.joins log.settled);
      late = λ a. ap (λ l. all_late net l.joins) e ∙ a;
      host_joins = λ q x. learn_joins net p b piece v log ∙ (x ∙ sym (ap (λ l. l.joins) e));
      horizon = subst (λ x. v.horizon ≤ x) (sym g) moves.on;
      told = λ later c. subst (λ l. OutcomeTrue net (facts l later) p b (learn net p b piece v log)) (sym e)
          (learn_true net (facts log reached) (facts log later) p b piece v log place h k held (later_horizons log reached later c.on) (record { settled = moves.settled; here = λ s m. subst (λ x. x ≤ later s) g (c.here s m) }));
      known = λ q x. subst (λ l. HostKnows (learn net p b piece v log).view l.settled) (sym e) (learn_known net (facts log reached) p b log.settled piece v log place h k q (λ t y z. inl (x t y z)));
      cut = λ later c q x. subst (λ l. CutTrue net (facts l later) p b l.cut) (sym e) (λ t y z. TrueF-later net (facts log reached) (facts log later) p b t (later_horizons log reached later c.on) (x t y z));
      fits = learn_fits net p b piece v log n i j;
    }

-- Logging at the host

-- a record was logged before the call
logged_first : (net : Net) (p b : ℕ) (v u : View) (log new : Log) (reached : ℕ → ℕ) (o : Outcome) (ls : List Report) → is_host net p b ≡ true → log.settled ≤ new.settled → ((t : ℕ) → t ≤ log.settled → said_at new.events t ≡ said_at log.events t) → new.cut ≡ log.cut → Grows log.joins new.joins log.settled → (all_late net log.joins ≡ true → all_late net new.joins ≡ true) → v.horizon ≤ u.horizon → (v.joins ≡ log.joins → u.joins ≡ new.joins) → CallTrue net p b u new reached o → (HostKnows v log.settled → HostKnows o.view o.log.settled) → CallTrue net p b v log reached (record { view = o.view; log = o.log; lines = ls; frames = o.frames })
logged_first net p b v u log new reached o ls host more same same_cut grows late on joins c known =
    record {
      log_fits = c.log_fits;
      settled = le_trans more c.settled;
      said = λ t x. c.said t (le_trans x more) ∙ same t x;
      same_log = λ q. absurd (both_ways (is_host net p b) q host);
      joined = grows_on log.joins new.joins o.log.joins log.settled new.settled more grows c.joined;
      late = λ a. c.late (late a);
      host_joins = λ q x. c.host_joins q (joins x);
      horizon = le_trans on c.horizon;
      told = λ later d. let x = c.told later d in record { view = x.view; frames = x.frames };
      known = λ q x. known x;
      cut = λ later d q x. c.cut later d q (λ t y z. TrueF-later net (facts log reached) (facts new reached) p b t (later_facts log new reached reached more same (λ s. le_refl (reached s)) grows) (x t y (subst (λ n. t ≤ n) same_cut z)));
      fits = c.fits;
    }

-- the events of a log are up to what is settled
pub rise_upto : (from m : ℕ) (xs : List (ℕ × Event)) → TicksRise from xs → ((t : ℕ) → m < t → said_at xs t ≡ None) → TicksUpto m xs
rise_upto from m [] r h = tt
rise_upto from m (x ∷ xs) r h = (first, rise_upto x.0 m xs r.1 (λ t k. sym (said_at-past x xs t (λ e. omega (arith, e, first))) ∙ h t k))
  where
    some_none : (e : Event) → Some e ≡ None → ⊥
    some_none e q = cc

    first : x.0 ≤ m
    first =
        elim (cases_lt m x.0) [
          | inl k ↦ absurd (some_none x.1 (sym (said_at-here x xs x.0 refl) ∙ h x.0 k))
          | inr k ↦ k
        ]

-- one more event past what was settled
pub said_more : (xs : List (ℕ × Event)) (tick t : ℕ) (e : Event) → t ≢ tick → said_at (xs ++ (tick, e) ∷ []) t ≡ said_at xs t
said_more [] tick t e n = said_at-past (tick, e) [] t (λ q. n (sym q))
said_more (x ∷ xs) tick t e n =
    elim (cases_eq x.0 t) [
      | inl q ↦ said_at-here x (xs ++ (tick, e) ∷ []) t q ∙ sym (said_at-here x xs t q)
      | inr q ↦ said_at-past x (xs ++ (tick, e) ∷ []) t q ∙ (said_more xs tick t e n ∙ sym (said_at-past x xs t q))
    ]

-- an event past what is settled keeps a log in order
pub with_event_fits : (log : Log) (tick : ℕ) (e : Event) → LogFits log → log.settled < tick → LogFits (with_event log tick e)
with_event_fits log tick e f h = record {
  rise = rises_append 0 log.settled log.events ((tick, e) ∷ []) (omega arith) f.rise (rise_upto 0 log.settled log.events f.rise f.past) (h, tt);
  past = λ t k. said_more log.events tick t e (λ q. omega (arith, q)) ∙ f.past t (omega arith);
  cut = omega (arith, f.cut);
  keeps = f.keeps;
}

-- a mark at or past what is settled keeps a log in order
pub with_mark_fits : (log : Log) (tick : ℕ) → LogFits log → log.settled ≤ tick → LogFits (with_mark log tick)
with_mark_fits log tick f h = record { rise = f.rise; past = λ t k. f.past t (omega arith); cut = omega (arith, f.cut); keeps = f.keeps }

-- silence at the host, where nothing was logged
pub silent_true : (net : Net) (f : Facts) (p b t : ℕ) → t ≤ f.settled → f.said t ≡ None → TrueS net f p b t
silent_true net f p b t h n = record { settled = h; none = λ s m. concerns_none net f p s t n; silent = λ q. n }

S_not_Q : S ≡ Q → ⊥
S_not_Q e = cc

pub D_not_Q : (e : Event) → D e ≡ Q → ⊥
D_not_Q e h = cc

pub D_not_S : (e : Event) → D e ≡ S → ⊥
D_not_S e h = cc

-- the runs of one value from one tick to another
abbrev pub run_at : ℕ → ℕ → K → Run K
run_at first last v = record { first = first; last = last; value = v }

-- a run of silence, and then what stands past it
pub silence_true : (net : Net) (f : Facts) (p b first last : ℕ) (rest : Known) → 1 ≤ first → last ≤ f.settled → ((t : ℕ) → first ≤ t → t ≤ last → f.said t ≡ None) → KnowsTruth net f p b rest → AreRunsFrom Q (suc last) rest → StartsApart (run_at first last S) rest → KnowsTruth net f p b (silence first last rest)
unfolding silence
silence_true net f p b first last rest one upto none k a s =
    elim (cases_Bool (nat_le first last)) [
      | inl e ↦
          let l : first ≤ last = leb-true first last e in
          rw e (record {
            runs = (one, l, S_not_Q, s, a);
            each = λ t. elim (cases_lt t first) [
              | inl h ↦ subst (λ x. IsTrueAt net f p b t x) (sym (value_at-below Q (run_at first last S) rest t h)) (k.each t)
              | inr h ↦ elim (cases_lt last t) [
                | inl g ↦ subst (λ x. IsTrueAt net f p b t x) (sym (value_at-above Q (run_at first last S) rest t g)) (k.each t)
                | inr g ↦ subst (λ x. IsTrueAt net f p b t x) (sym (value_at-in Q (run_at first last S) rest t h g)) (silent_true net f p b t (le_trans g upto) (none t h g))
              ]
            ];
          })
      | inr e ↦ rw e k
    ]

-- a stretch of silence has silence at each of its ticks
pub silence_in : (first last : ℕ) (rest : Known) (t : ℕ) → first ≤ t → t ≤ last → known_at (silence first last rest) t ≡ S
unfolding silence
silence_in first last rest t h k = rw (le-leb first last (le_trans h k)) (value_at-in Q (run_at first last S) rest t h k)

-- past a stretch of silence stands what comes after it
pub silence_above : (first last : ℕ) (rest : Known) (t : ℕ) → last < t → known_at (silence first last rest) t ≡ known_at rest t
unfolding silence
silence_above first last rest t h =
    elim (cases_Bool (nat_le first last)) [
      | inl e ↦ rw e (value_at-above Q (run_at first last S) rest t h)
      | inr e ↦ rw e refl
    ]

-- a piece without runs is true
pub nothing_true : (net : Net) (f : Facts) (p b : ℕ) → KnowsTruth net f p b []
nothing_true net f p b = record { runs = tt; each = λ t. tt }

-- the one tick of an event
pub event_true : (net : Net) (f : Facts) (p b tick : ℕ) (e : Event) → is_host net p b ≡ true → 1 ≤ tick → tick ≤ f.settled → f.said tick ≡ Some e → KnowsTruth net f p b (run_at tick tick (D e) ∷ [])
event_true net f p b tick e host one upto said = record {
  runs = (one, le_refl tick, D_not_Q e, tt, tt);
  each = λ t. elim (cases_lt t tick) [
    | inl h ↦ subst (λ x. IsTrueAt net f p b t x) (sym (value_at-below Q (run_at tick tick (D e)) [] t h)) tt
    | inr h ↦ elim (cases_lt tick t) [
      | inl g ↦ subst (λ x. IsTrueAt net f p b t x) (sym (value_at-above Q (run_at tick tick (D e)) [] t g)) tt
      | inr g ↦ subst (λ x. IsTrueAt net f p b t x) (sym (value_at-in Q (run_at tick tick (D e)) [] t h g)) (let q : tick ≡ t = omega arith in record {
        settled = le_trans g upto;
        logged = subst (λ x. f.said x ≡ Some e) q said;
        wanted = λ n. absurd (both_ways (is_host net p b) n host);
      })
    ]
  ];
}

-- the piece of a publish is true once the event is logged
pub published_piece : (net : Net) (p b tick : ℕ) (e : Event) (log : Log) (reached : ℕ → ℕ) → is_host net p b ≡ true → LogFits log → log.settled < tick → KnowsTruth net (facts (with_event log tick e) reached) p b (silence (suc log.settled) (tick - 1) (run_at tick tick (D e) ∷ []))
published_piece net p b tick e log reached host fit l =
    let here : said_at (with_event log tick e).events tick ≡ Some e = said_append log.events ((tick, e) ∷ []) tick (fit.past tick l) ∙ said_at-here (tick, e) [] tick refl in
    silence_true net (facts (with_event log tick e) reached) p b (suc log.settled) (tick - 1) (run_at tick tick (D e) ∷ []) (omega arith) (omega arith)
    (λ t x y. said_more log.events tick t e (λ q. omega (arith, q)) ∙ fit.past t x)
    (event_true net (facts (with_event log tick e) reached) p b tick e host (omega arith) (le_refl tick) here) (omega arith, le_refl tick, D_not_Q e, tt, tt) (λ x. D_not_S e)

publishing_call : (net : Net) (p b tick : ℕ) (e : Event) (v : View) (log : Log) (reached : ℕ → ℕ) (ls : List Report) → IsNet net → p < net.publishers → b < net.brokers → is_host net p b ≡ true → LogFits log → ViewTrue net (facts log reached) p b v → v.joins ≡ log.joins → log.settled < tick →
    (let o = learn net p b (silence (suc log.settled) (tick - 1) (run_at tick tick (D e) ∷ [])) v (with_event log tick e) in CallTrue net p b v log reached (record { view = o.view; log = o.log; lines = ls; frames = o.frames }))
publishing_call net p b tick e v log reached ls n i j host fit h js l =
    let new = with_event log tick e in
    let f : Facts = facts new reached in
    let piece = silence (suc log.settled) (tick - 1) (run_at tick tick (D e) ∷ []) in
    let same : (t : ℕ) → t ≤ log.settled → said_at new.events t ≡ said_at log.events t = λ t x. said_more log.events tick t e (λ q. omega (arith, q)) in
    let v' = ViewTrue-later net (facts log reached) f p b v (later_facts log new reached reached (omega arith) same (λ s. le_refl (reached s)) (grows_not log.joins log.settled)) h in
    let here : said_at new.events tick ≡ Some e = said_append log.events ((tick, e) ∷ []) tick (fit.past tick l) ∙ said_at-here (tick, e) [] tick refl in
    let k : KnowsTruth net f p b piece = silence_true net f p b (suc log.settled) (tick - 1) (run_at tick tick (D e) ∷ []) (omega arith) (omega arith)
    (λ t x y. said_more log.events tick t e (λ q. omega (arith, q)) ∙ fit.past t x)
    (event_true net f p b tick e host (omega arith) (le_refl tick) here) (omega arith, le_refl tick, D_not_Q e, tt, tt) (λ x. D_not_S e) in
    let known : HostKnows v log.settled → HostKnows (learn net p b piece v new).view tick = λ old. learn_known net f p b tick piece v new (n.place p b i j) v' k host
    (λ t x y. elim (cases_lt log.settled t) [
      | inl z ↦ inr (elim (cases_lt t tick) [
        | inl w ↦ λ q. S_not_Q (sym (silence_in (suc log.settled) (tick - 1) (run_at tick tick (D e) ∷ []) t z (omega arith)) ∙ q)
        | inr w ↦ λ q. D_not_Q e (sym (silence_above (suc log.settled) (tick - 1) (run_at tick tick (D e) ∷ []) t (omega arith) ∙ value_at-in Q (run_at tick tick (D e)) [] t w y) ∙ q)
      ])
      | inr z ↦ inl (old t x z)
    ]) in
    logged_first net p b v v log new reached (learn net p b piece v new) ls host (omega arith) same refl (grows_not log.joins log.settled) (λ a. a) (le_refl v.horizon) (λ x. x) (learn_call net p b piece v new reached n i j (with_event_fits log tick e fit l) v' k (own_by log.joins v.joins (HasEvent piece) js))
    (λ old. subst (λ x. HostKnows (learn net p b piece v new).view x.settled) (sym (learn_log net p b piece v new)) (known old))

-- nothing happens
still_call : (net : Net) (p b : ℕ) (v : View) (log : Log) (reached : ℕ → ℕ) (ls : List Report) → LogFits log → ViewTrue net (facts log reached) p b v → CallTrue net p b v log reached (record { view = v; log = log; lines = ls; frames = [] })
still_call net p b v log reached ls fit h = quiet_call net p b v log reached (record { view = v; log = log; lines = ls; frames = [] }) fit refl refl refl (record { view = h; frames = tt }) (λ q k. k) tt

-- a publish at its host keeps all that each call has to keep
pub publish_call : (net : Net) (p b now number : ℕ) (e : Event) (v : View) (log : Log) (reached : ℕ → ℕ) → IsNet net → p < net.publishers → b < net.brokers → is_host net p b ≡ true → LogFits log → ViewTrue net (facts log reached) p b v → v.joins ≡ log.joins → CallTrue net p b v log reached (publish net p b now number e v log)
publish_call net p b now number e v log reached n i j host fit h js =
    publish_cases net p b now number e v log (CallTrue net p b v log reached)
    (λ l. still_call net p b v log reached _ fit h) (λ l. still_call net p b v log reached _ fit h) (λ x l. still_call net p b v log reached _ fit h)
    (λ x l. publishing_call net p b (max (suc log.settled) now) e v log reached _ n i j host fit h js (omega arith))

-- a mark at a host keeps all that each call has to keep
pub marking_call : (net : Net) (p b now : ℕ) (v : View) (log : Log) (reached : ℕ → ℕ) → IsNet net → p < net.publishers → b < net.brokers → is_host net p b ≡ true → LogFits log → ViewTrue net (facts log reached) p b v → v.joins ≡ log.joins → CallTrue net p b v log reached (marking net p b now v log)
marking_call net p b now v log reached n i j host fit h js = marking_cases net p b now v log (CallTrue net p b v log reached) marked (λ e. still_call net p b v log reached [] fit h)
  where
    new : Log
    new = with_mark log now

    piece : Known
    piece = silence (suc log.settled) now []

    o : Outcome
    o = learn net p b piece v new

    marked : nat_le (log.settled + net.quiet) now ≡ true → CallTrue net p b v log reached o
    marked e =
        let l : log.settled ≤ now = omega (arith, leb-true (log.settled + net.quiet) now e) in
        let f : Facts = facts new reached in
        let v' = ViewTrue-later net (facts log reached) f p b v (later_facts log new reached reached l (λ t x. refl) (λ s. le_refl (reached s)) (grows_not log.joins log.settled)) h in
        let k : KnowsTruth net f p b piece = silence_true net f p b (suc log.settled) now [] (omega arith) (le_refl now) (λ t x y. fit.past t x) (nothing_true net f p b) tt tt in
        let known : HostKnows v log.settled → HostKnows o.view now = λ old. learn_known net f p b now piece v new (n.place p b i j) v' k host
        (λ t x y. elim (cases_lt log.settled t) [
          | inl z ↦ inr (λ q. S_not_Q (sym (silence_in (suc log.settled) now [] t z y) ∙ q))
          | inr z ↦ inl (old t x z)
        ]) in
        logged_first net p b v v log new reached o o.lines host l (λ t x. refl) refl (grows_not log.joins log.settled) (λ a. a) (le_refl v.horizon) (λ x. x) (learn_call net p b piece v new reached n i j (with_mark_fits log now fit l) v' k (own_by log.joins v.joins (HasEvent piece) js))
        (λ old. subst (λ x. HostKnows o.view x.settled) (sym (learn_log net p b piece v new)) (known old))

-- Cutting

-- up to the cut all is consolidated
done_upto_A : (net : Net) (f : Facts) (p b h : ℕ) (ws : List Wanted) (settled t : ℕ) → IsPlace net p b → AllWantTruth net f p (net.children p b) ws → IsHorizon net f b h → 1 ≤ t → t ≤ done_upto (consolidated (keeps_horizon net p b) h ws) settled → TrueF net f p b t
unfolding done_upto
done_upto_A net f p b h ws settled t place a hor x y =
    let done = consolidated (keeps_horizon net p b) h ws in
    let d = done_true net f p b h ws place a hor in
    let i = first_bottom_from-is N 1 done 1 d.runs in
    d.each t (A_of t d (i.known t x (omega arith)))
  where
    A_or_N : (q : Bool) → (if q then A else N) ≢ N → (if q then A else N) ≡ A
    A_or_N true n = refl
    A_or_N false n = absurd (n refl)

    A_of : (t : ℕ) → WantsTruth net f p b (consolidated (keeps_horizon net p b) h ws) → wanted_at (consolidated (keeps_horizon net p b) h ws) t ≢ N → wanted_at (consolidated (keeps_horizon net p b) h ws) t ≡ A
    A_of t d n =
        let e = done_values net f p b h ws a t in
        e ∙ A_or_N (is_consolidated_by (keeps_horizon net p b) h ws t) (λ q. n (e ∙ q))

done_upto_le : (done : Wanted) (settled : ℕ) → done_upto done settled ≤ settled
unfolding done_upto
done_upto_le done settled = omega arith

-- a mark does not change whether the log forgets
pub marking_forgets : (net : Net) (p b now : ℕ) (v : View) (log : Log) → (marking net p b now v log).log.forgets ≡ log.forgets
marking_forgets net p b now v log =
    marking_cases net p b now v log (λ o. o.log.forgets ≡ log.forgets)
    (λ e. ap (λ (l : Log). l.forgets) (learn_log net p b (silence (suc log.settled) now []) v (with_mark log now))) (λ e. refl)

facts_same : (log new : Log) (reached : ℕ → ℕ) → SameBut log new → facts new reached ≡ facts log reached
facts_same log new reached s = λ i. record { settled = s.settled i; said = said_at (s.events i); reached = reached; joined = s.joins i }

-- after a call at the host, a cut and frames of Expect
cut_call : (net : Net) (p b : ℕ) (v : View) (log : Log) (reached : ℕ → ℕ) (o : Outcome) (ls : List Report) (fs : List Frame) → IsNet net → p < net.publishers → b < net.brokers → is_host net p b ≡ true → CallTrue net p b v log reached o → AllFit net p fs → ((f : Facts) → f.settled ≡ (cutting net p b o.view o.log).settled → AllTrue net f p fs) →
    CallTrue net p b v log reached (record { view = o.view; log = cutting net p b o.view o.log; lines = ls; frames = o.frames ++ fs })
cut_call net p b v log reached o ls fs n i j host c fits told =
    let new = cutting net p b o.view o.log in
    let s = cutting_same net p b o.view o.log c.log_fits.keeps in
    record {
      log_fits = record {
        rise = subst (λ x. TicksRise 0 x) (sym s.events) c.log_fits.rise;
        past = λ t x. ap (λ y. said_at y t) s.events ∙ c.log_fits.past t (subst (λ y. y < t) s.settled x);
        cut = subst (λ y. new.cut ≤ y) (sym s.settled) (cutting_cut net p b o.view o.log (λ y. y ≤ o.log.settled) c.log_fits.cut (done_upto_le (consolidated (keeps_horizon net p b) o.view.horizon o.view.wants) o.log.settled));
        keeps = s.forgets ∙ c.log_fits.keeps;
      };
      settled = subst (λ y. log.settled ≤ y) (sym s.settled) c.settled;
      said = λ t x. ap (λ y. said_at y t) s.events ∙ c.said t x;
      same_log = λ q. absurd (both_ways (is_host net p b) q host);
      joined = subst (λ x. Grows log.joins x log.settled) (sym s.joins) c.joined;
      late = λ a. ap (all_late net) s.joins ∙ c.late a;
      host_joins = λ q x. c.host_joins q x ∙ sym s.joins;
      horizon = c.horizon;
      told = λ later d.
          let x = c.told later d in
          let f = facts new later in
          let e = facts_same o.log new later s in
          record { view = subst (λ g. ViewTrue net g p b o.view) (sym e) x.view; frames = AllTrue-append net f p o.frames fs (subst (λ g. AllTrue net g p o.frames) (sym e) x.frames) (told f refl) };
      known = λ q x. subst (λ y. HostKnows o.view y) (sym s.settled) (c.known q x);
      cut = λ later d q x.
          let y = c.told later d in
          let e = facts_same o.log new later s in
          subst (λ g. CutTrue net g p b new.cut) (sym e) (cutting_cut net p b o.view o.log (λ m. CutTrue net (facts o.log later) p b m) (c.cut later d q x)
          (λ t a z. done_upto_A net (facts o.log later) p b o.view.horizon o.view.wants o.log.settled t (n.place p b i j) y.view.wants y.view.horizon a z));
      fits = AllFit-append net p o.frames fs c.fits fits;
    }

pub wake_host_call : (net : Net) (p b now : ℕ) (v : View) (log : Log) (reached : ℕ → ℕ) → IsNet net → p < net.publishers → b < net.brokers → is_host net p b ≡ true → LogFits log → ViewTrue net (facts log reached) p b v → v.joins ≡ log.joins → CallTrue net p b v log reached (wake_host net p b now v log)
unfolding wake_host
wake_host_call net p b now v log reached n i j host fit h js =
    let o = marking net p b now v log in
    let new = cutting net p b o.view o.log in
    cut_call net p b v log reached o _ (if nat_lt 0 new.settled then expect_frames p b new.settled (net.children p b) o.view.wants else []) n i j host (marking_call net p b now v log reached n i j host fit h js)
    (fit_if (expect_frames p b new.settled (net.children p b) o.view.wants) (nat_lt 0 new.settled) (expect_frames_fit net p b new.settled (net.children p b) o.view.wants (all_in net (net.children p b) (λ c m. n.child_in p b c i j m))))
    (λ f e. true_if f (expect_frames p b new.settled (net.children p b) o.view.wants) (nat_lt 0 new.settled) (expect_frames_true net f p b new.settled (net.children p b) o.view.wants (omega (arith, e))))
  where
    fit_if : (fs : List Frame) (q : Bool) → AllFit net p fs → AllFit net p (if q then fs else [])
    fit_if fs true a = a
    fit_if fs false a = tt

    true_if : (f : Facts) (fs : List Frame) (q : Bool) → AllTrue net f p fs → AllTrue net f p (if q then fs else [])
    true_if f fs true a = a
    true_if f fs false a = tt

-- a wake keeps all that each call has to keep
pub wake_call : (net : Net) (p b now : ℕ) (v : View) (log : Log) (reached : ℕ → ℕ) → IsNet net → p < net.publishers → b < net.brokers → LogFits log → ViewTrue net (facts log reached) p b v → (is_host net p b ≡ true → v.joins ≡ log.joins) → CallTrue net p b v log reached (wake net p b now v log)
unfolding wake
wake_call net p b now v log reached n i j fit h js = go (is_host net p b) refl
  where
    go : (q : Bool) → is_host net p b ≡ q → CallTrue net p b v log reached (elim q [ true ↦ wake_host net p b now v log | false ↦ wake_below net p b now v log ])
    go true e = wake_host_call net p b now v log reached n i j e fit h (js e)
    go false e = wake_below_call net p b now v log reached n i j fit h

-- a view that takes up joins of a frame that are held keeps all that a call has to keep
taken_call : (net : Net) (p b : ℕ) (v : View) (log : Log) (reached : ℕ → ℕ) (js : Joins) (Event : ℕ → Type 0) (o : Outcome) → Holds log.joins js Event → CallTrue net p b (with_joins v (longer v.joins js)) log reached o → CallTrue net p b v log reached o
taken_call net p b v log reached js Event o held c = record {
  log_fits = c.log_fits;
  settled = c.settled;
  said = c.said;
  same_log = c.same_log;
  joined = c.joined;
  late = c.late;
  host_joins = λ q x. c.host_joins q (ap (λ z. longer z js) x ∙ longer_own log.joins js Event held);
  horizon = c.horizon;
  told = c.told;
  known = λ q x. c.known q x;
  cut = c.cut;
  fits = c.fits;
}

-- receiving a true frame keeps all that each call has to keep
pub receive_call : (net : Net) (now : ℕ) (f : Frame) (v : View) (log : Log) (reached : ℕ → ℕ) → IsNet net → f.head.publisher < net.publishers → FrameFits net f.head.publisher f → BodyTrue net (facts log reached) f.head.publisher f.head.from f.head.to f.body → LogFits log → ViewTrue net (facts log reached) f.head.publisher f.head.to v → CallTrue net f.head.publisher f.head.to v log reached (receive net now f v log)
unfolding receive
receive_call net now f v log reached n i fits told fit h = go f.body told fits.body
  where
    learned : (runs : Known) (js : Joins) → KnowsTruth net (facts log reached) f.head.publisher f.head.to runs × Holds log.joins js (HasEvent runs) → (q : Bool) → CallTrue net f.head.publisher f.head.to v log reached (elim q [ true ↦ record { view = v; log = log; lines = []; frames = [] } | false ↦ learn net f.head.publisher f.head.to runs (with_joins v (longer v.joins js)) log ])
    learned runs js k true = still_call net f.head.publisher f.head.to v log reached [] fit h
    learned runs js k false =
        let held = both log.joins v.joins js (HasEvent v.know) (HasEvent runs) h.held k.1 in
        taken_call net f.head.publisher f.head.to v log reached js (HasEvent runs) (learn net f.head.publisher f.head.to runs (with_joins v (longer v.joins js)) log) k.1
        (learn_call net f.head.publisher f.head.to runs (with_joins v (longer v.joins js)) log reached n i fits.to_in fit
        (ViewTrue-joins net (facts log reached) f.head.publisher f.head.to v (longer v.joins js) h (fewer log.joins (longer v.joins js) (λ t. HasEvent v.know t ⊎ HasEvent runs t) (HasEvent v.know) (λ t x. inl x) held)) k.0
        (fewer log.joins (longer v.joins js) (λ t. HasEvent v.know t ⊎ HasEvent runs t) (HasEvent runs) (λ t x. inr x) held))

    go : (y : Body) → BodyTrue net (facts log reached) f.head.publisher f.head.from f.head.to y → BodyFits net f.head.publisher f.head.from f.head.to y → CallTrue net f.head.publisher f.head.to v log reached
        (elim y [
          | body.Knowledge runs js ↦ elim (drops v runs js) [ true ↦ record { view = v; log = log; lines = []; frames = [] } | false ↦ learn net f.head.publisher f.head.to runs (with_joins v (longer v.joins js)) log ]
          | body.Curiosity runs ↦ curiosity net f.head.publisher f.head.to now f.head.from (place_of f.head.from (net.children f.head.publisher f.head.to)) runs v log
          | body.Expect tick ↦ expect net f.head.publisher f.head.to now tick v log
        ])
    go (body.Knowledge runs js) t b = learned runs js t (drops v runs js)
    go (body.Curiosity runs) t b = curiosity_call net f.head.publisher f.head.to now f.head.from runs v log reached n i fits.to_in b fit h t
    go (body.Expect tick) t b = expect_call net f.head.publisher f.head.to now tick v log reached n i fits.to_in fit h t

-- Joining

-- a join at its host keeps all that each call has to keep
pub joining_call : (net : Net) (p b now s : ℕ) (v : View) (log : Log) (reached : ℕ → ℕ) → IsNet net → is_late net s ≡ true → p < net.publishers → b < net.brokers → is_host net p b ≡ true → LogFits log → ViewTrue net (facts log reached) p b v → CallTrue net p b v log reached (joining net p b now s v log)
joining_call net p b now s v log reached n late i j host fit h =
    joining_cases net p b now s v log (CallTrue net p b v log reached) (λ e. still_call net p b v log reached _ fit h) (λ e l. still_call net p b v log reached _ fit h) (λ e l. logged l)
  where
    tick : ℕ
    tick = max (suc log.settled) now

    new : Log
    new = with_join log tick s

    piece : Known
    piece = silence (suc log.settled) tick []

    f : Facts
    f = facts new reached

    u : View
    u = with_joins v new.joins

    logged : tick ≤ max_tick → CallTrue net p b v log reached (joining_by net p b s v log (joins.Logged tick piece))
    logged l =
        let grows : Grows log.joins new.joins log.settled = (record { subscriber = s; tick = tick } ∷ [], refl, (omega arith, tt)) in
        let v' = ViewTrue-later net (facts log reached) f p b v (later_facts log new reached reached (omega arith) (λ t x. refl) (λ s. le_refl (reached s)) grows) h in
        let u' = ViewTrue-joins net f p b v new.joins v' (own new.joins (HasEvent v.know)) in
        let k : KnowsTruth net f p b piece = silence_true net f p b (suc log.settled) tick [] (omega arith) (le_refl tick) (λ t x y. fit.past t x) (nothing_true net f p b) tt tt in
        let known : HostKnows v log.settled → HostKnows (learn net p b piece u new).view tick = λ old. learn_known net f p b tick piece u new (n.place p b i j) u' k host
        (λ t x y. elim (cases_lt log.settled t) [
          | inl z ↦ inr (λ q. S_not_Q (sym (silence_in (suc log.settled) tick [] t z y) ∙ q))
          | inr z ↦ inl (old t x z)
        ]) in
        logged_first net p b v u log new reached (learn net p b piece u new) _ host (omega arith) (λ t x. refl) refl grows (λ a. all_late_on net log.joins (record { subscriber = s; tick = tick } ∷ []) a (and_from (is_late net s) true late refl)) (le_refl v.horizon) (λ x. refl) (learn_call net p b piece u new reached n i j (record { rise = fit.rise; past = λ t x. fit.past t (omega arith); cut = omega (arith, fit.cut); keeps = fit.keeps }) u' k (own new.joins (HasEvent piece)))
        (λ old. subst (λ x. HostKnows (learn net p b piece u new).view x.settled) (sym (learn_log net p b piece u new)) (known old))
