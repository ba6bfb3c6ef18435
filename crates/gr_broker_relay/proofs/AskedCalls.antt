-- A wake below the host and an expectation, whole: what they leave, tell and send, once it is known what is asked; and the children
-- of an expectation, one after another
use Rattle.std.proofs.Common.{◌≡◌, ◌⊎◌, inl, inr, ℕ, suc, ◌+◌, ◌-◌, ◌≤◌, ◌<◌, min, max, Bool, true, false, ◌&&◌, ◌||◌, List, [], ◌∷◌, ◌++◌, map, length, get_or, drop, refl, sym, ap, ap₂, ◌∙◌, subst, arith, add-one}
use Rattle.std.specs.Prelude.{Result, Ok, Err, OnOk, if◌then◌else◌}
use Rattle.std.proofs.Math.Seq.{drop-cons}
use Rattle.std.proofs.lemmas.Bool.{cases_lt}
use Rattle.std.proofs.lemmas.List.{drop_all}
use Rattle.gr_frame.specs.Bytes.{frame_bytes}
use Rattle.gr_frame.specs.Cut.{AreFrames, parts_of}
use Rattle.gr_frame.specs.Frames.{FrameList}
use Rattle.gr_tick.specs.Runs.{AreRuns, top_of}
use Rattle.gr_tick.specs.Stored.{within, RunsGive}
use Rattle.gr_know.specs.Values.{known_at, is_Q}
use Rattle.gr_curio.specs.declared.values.Q3.TheVariants.{N, C, A}
use Rattle.gr_curio.specs.Values.{Wanted, wanted_at, asked_at, is_C, is_A}
use Rattle.gr_curio.specs.Due.{due_of}
use Rattle.gr_model.specs.Net.{Net, keeps_horizon, not_empty, is_empty}
use Rattle.gr_model.specs.Broker.{View, Log, Outcome as MachineOutcome, all_points, any_C, horizon_if, is_consolidated, consolidated, upward, up_frames, noted, kept_view, asking, wake_below, wanted_at_wake, expect, expect_frame, expect_frames, covers}
use Rattle.gr_model_calls.proofs.asks.CallTicks.{wake_points}
use Rattle.gr_broker_relay.specs.declared.outcome.Outcome.{Outcome}
use Rattle.gr_broker_relay.specs.Told.{Tells, AddsFrames}
use Rattle.gr_broker_relay.proofs.Sent.{adds_none}
use Rattle.gr_broker_relay.proofs.Asked.{wanted_at_expect, wake_wants, wake_steady, expect_wants, expect_steady, due_is, done_is, upward_is}

-- what is kept once it was asked, before anything is forgotten
abbrev pub noted_view : ℕ → View → Wanted → View
noted_view now v asked = record { know = v.know; wants = v.wants; asks = noted now v.asks asked; horizon = v.horizon; joins = v.joins }

-- a call of asking, by what is asked
abbrev pub asked_outcome : Net → ℕ → ℕ → ℕ → View → Log → Wanted → MachineOutcome
asked_outcome net p b now v log asked = record {
  view = kept_view net p b (noted_view now v asked);
  log = log;
  lines = [];
  frames = up_frames net p b (upward (consolidated (keeps_horizon net p b) v.horizon v.wants) asked);
}

-- what is asked is due among what a piece asks and is unknown
abbrev pub IsAsked : ℕ → ℕ → View → Wanted → Wanted → Type 0
IsAsked now retry v piece asked = RunsGive N asked (λ t. due_of (asked_at v.asks t) (if is_C (wanted_at piece t) && is_Q (known_at v.know t) then C else N) now retry)

-- and a call that hands on an expectation
abbrev pub expected_outcome : Net → ℕ → ℕ → ℕ → ℕ → View → Log → Wanted → MachineOutcome
expected_outcome net p b now tick v log asked =
    let o : MachineOutcome = asked_outcome net p b now v log asked in
    record { view = o.view; log = o.log; lines = o.lines; frames = o.frames ++ expect_frames p b tick (net.children p b) v.wants }

-- a wake below the host asks what is due of what children ask and of the range up to its end
pub wake_is : (net : Net) (p b now last : ℕ) (v : View) (log : Log) (piece asked : Wanted) → last ≡ (if keeps_horizon net p b then max (now - net.idle) (min (now - net.gap) (top_of v.know - 1)) else 0) →
    RunsGive N piece (λ t. if any_C v.wants t || within (v.horizon + 1) last t then C else N) → IsAsked now net.retry v piece asked → wake_below net p b now v log ≡ asked_outcome net p b now v log asked
unfolding wake_below asking
wake_is net p b now last v log piece asked e g a =
    let keeps = keeps_horizon net p b in
    let wants = wake_wants net keeps now last v piece e g in
    ap (asked_outcome net p b now v log) (sym (due_is now net.retry v.know v.asks (wanted_at_wake net keeps now v) (wake_points net now v) piece asked (wake_steady net keeps now v piece wants) wants a))

-- and so does an expectation, which is handed on to the children
pub expect_is : (net : Net) (p b now tick last : ℕ) (v : View) (log : Log) (piece asked : Wanted) → last ≡ (if keeps_horizon net p b then tick else 0) →
    RunsGive N piece (λ t. if any_C v.wants t || within (v.horizon + 1) last t then C else N) → IsAsked now net.retry v piece asked →
    expect net p b now tick v log ≡ expected_outcome net p b now tick v log asked
unfolding expect asking
expect_is net p b now tick last v log piece asked e g a =
    let keeps = keeps_horizon net p b in
    let wants = expect_wants keeps tick last v piece e g in
    ap (expected_outcome net p b now tick v log) (sym (due_is now net.retry v.know v.asks (wanted_at_expect keeps tick v) (all_points v.wants ++ (suc v.horizon ∷ (suc tick ∷ []))) piece asked (expect_steady keeps tick v piece wants) wants a))

-- What is told

-- a broker without a child keeps a horizon
some_wants : (here : Bool) (cs : List ℕ) (ws : List Wanted) → length ws ≡ length cs → ((here || is_empty cs) || not_empty ws) ≡ true
some_wants true cs ws e = refl
some_wants false [] ws e = refl
some_wants false (c ∷ cs) (w ∷ ws) e = refl
some_wants false (c ∷ cs) [] e = absurd (omega (arith, e))

-- what is sent up, of what is consolidated and what is asked
pub sent_is : (net : Net) (p b h : ℕ) (ws : List Wanted) (done asked sent : Wanted) → length ws ≡ length (net.children p b) →
    (let keeps = keeps_horizon net p b in RunsGive N done (λ t. if is_consolidated (horizon_if keeps h) ws t then A else N)) → AreRuns N asked →
    RunsGive N sent (λ t. if is_A (wanted_at done t) then A else wanted_at asked t) → sent ≡ upward (consolidated (keeps_horizon net p b) h ws) asked
sent_is net p b h ws done asked sent many d a g =
    upward_is done asked sent d.canonical a g
    ∙ ap (λ x. upward x asked) (done_is (keeps_horizon net p b) h ws done (some_wants (not_empty (net.subscribers_at b)) (net.children p b) ws many) d)

-- what is told where nothing was told before
pub told_first : (o : MachineOutcome) (told : Outcome) (before : FrameList) → told.reports ≡ o.lines → before.frames ≡ [] → AddsFrames o.frames before told.frames → Tells o told
told_first o told before lines none a =
    let same : told.frames.frames ≡ map frame_bytes o.frames = a.added ∙ ap (λ bs. bs ++ map frame_bytes o.frames) none in
    record { lines = lines; frames = same; spelled = subst (λ bs. AreFrames bs o.frames) (sym same) a.spelled }

-- Children one after another

-- a child that has acknowledged all is told nothing, and any other is told
pub tells_none : (p b tick c : ℕ) (w : Wanted) (list : FrameList) → covers w tick ≡ true → AddsFrames (if covers w tick then [] else expect_frame b c p tick ∷ []) list list
tells_none p b tick c w list e = subst (λ q. AddsFrames (if q then [] else expect_frame b c p tick ∷ []) list list) (sym e) (adds_none list list refl)

pub tells_one : {E : Type 0} (r : Result (Unit {0}) E) (p b tick c : ℕ) (w : Wanted) (before after : FrameList) → covers w tick ≡ false →
    OnOk r (after.frames ≡ before.frames ++ map frame_bytes (parts_of (expect_frame b c p tick))) → OnOk r (AreFrames (map frame_bytes (parts_of (expect_frame b c p tick))) (parts_of (expect_frame b c p tick))) →
    OnOk r (AddsFrames (if covers w tick then [] else expect_frame b c p tick ∷ []) before after)
unfolding parts_of
tells_one (Err x) p b tick c w before after e a s = tt
tells_one (Ok x) p b tick c w before after e a s = subst (λ q. AddsFrames (if q then [] else expect_frame b c p tick ∷ []) before after) (sym e) (record { added = a; spelled = s })

-- the children from a place on: the child there, and those after it
pub expect_step : (p b tick i : ℕ) (cs : List ℕ) (ws : List Wanted) → i < length cs → i < length ws →
    expect_frames p b tick (drop i cs) (drop i ws) ≡ (if covers (get_or ws i []) tick then [] else expect_frame b (get_or cs i 0) p tick ∷ []) ++ expect_frames p b tick (drop (i + 1) cs) (drop (i + 1) ws)
expect_step p b tick i cs ws lc lw = ap₂ (expect_frames p b tick) (drop_at i cs 0 lc) (drop_at i ws [] lw)
  where
    drop_at : {X : Type 0} (i : ℕ) (xs : List X) (d : X) → i < length xs → drop i xs ≡ get_or xs i d ∷ drop (i + 1) xs
    drop_at i xs d h = drop-cons xs i d h ∙ ap (λ n. get_or xs i d ∷ drop n xs) (sym (add-one i))

-- past the last child none is left
pub expect_end : (p b tick i : ℕ) (cs : List ℕ) (ws : List Wanted) → min (length cs) (length ws) ≤ i → expect_frames p b tick (drop i cs) (drop i ws) ≡ []
expect_end p b tick i cs ws le = by_place (cases_lt i (length cs)) (cases_lt i (length ws))
  where
    no_wants : (ds : List ℕ) → expect_frames p b tick ds [] ≡ []
    no_wants [] = refl
    no_wants (d ∷ ds) = refl

    by_place : (i < length cs) ⊎ (length cs ≤ i) → (i < length ws) ⊎ (length ws ≤ i) → expect_frames p b tick (drop i cs) (drop i ws) ≡ []
    by_place (inr c) w = ap (λ ds. expect_frames p b tick ds (drop i ws)) (drop_all i cs c)
    by_place (inl c) (inr w) = ap (expect_frames p b tick (drop i cs)) (drop_all i ws w) ∙ no_wants (drop i cs)
    by_place (inl c) (inl w) = absurd (omega (arith, le, c, w))
