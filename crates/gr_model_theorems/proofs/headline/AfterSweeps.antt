-- The headline holds whole over every schedule, on a topology where every sweep reaches each broker below the host
use Rattle.std.proofs.Common.{◌≡◌, ◌≢◌, inl, inr, ⊎_elim, ℕ, suc, ◌≤◌, ◌<◌, max, Bool, true, false, ◌&&◌, ◌||◌, List, [], ◌∷◌, ◌++◌, refl, sym, ap, ◌∙◌, subst, arith}
use Rattle.std.specs.Prelude.{nat_eq, nat_le, nat_lt, if◌then◌else◌}
use Rattle.std.specs.List.{list_any}
use Rattle.std.proofs.lemmas.Bool.{cases_Bool, cases_lt, false≢true, true≢false, false_from_ne_true, or_cases, and_parts, eqb-true, le-leb, lt-leb, ltb-true, ltb-false}
use Rattle.gr_frame.specs.declared.Body.{Body}
use Rattle.gr_frame.specs.declared.Body.TheVariants as body
use Rattle.gr_frame.specs.declared.Frame.{Frame}
use Rattle.gr_sched.specs.declared.step.Line.{Line}
use Rattle.gr_sched.specs.declared.step.Step.{Step}
use Rattle.gr_sched.specs.declared.step.Step.TheVariants as step
use Rattle.gr_know.specs.declared.values.K.{K}
use Rattle.gr_know.specs.declared.values.K.TheVariants.{Q, S, D, F}
use Rattle.gr_know.specs.Values.{known_at}
use Rattle.gr_model.specs.declared.report.Report.TheVariants as line
use Rattle.gr_model.specs.Net.{Net, is_host, keeps_horizon, numbers}
use Rattle.gr_model.specs.Broker.{max_tick}
use Rattle.gr_model.specs.World.{World, Transition, view_of, log_of, unchanged, followed_by, in_turn, sweep_moment, start, next_by, report_of_by, sweep_by}
use Rattle.gr_model_calls.specs.OneNet.{sweep, sweep_for, next, report_of, run_from, run_all, Headline, Holds_from}
use Rattle.gr_model.specs.Headline.{begin, history, History, heard_after, hearing, hearing_all, is_swept, sweep_at}
use Rattle.gr_model.specs.Tree.{IsNet}
use Rattle.gr_model_calls.specs.Truth.{Facts, IsTrueAt}
use Rattle.gr_model_calls.specs.Fits.{StepIn, StepsIn, WorldFits, FrameTrue, AllFramesTrue, BodyTrue, facts_of}
use Rattle.gr_model_theorems.proofs.records.Records.{core_of}
use Rattle.gr_model_theorems.proofs.records.Recorded.{Sweeps, sweeps_from, marked_now, settled_below, sweep_same}
use Rattle.gr_model_theorems.proofs.heard.Heard.{not_Q_at}
use Rattle.gr_model_theorems.proofs.heard.HeardSteps.{hears_by, Pieces, Hears, HeardLong, heard_in, AddsHeard, body_adds, know_of_body}
use Rattle.gr_model_theorems.proofs.sweep.SweepHears.{SweepAdds, sweep_adds, hear_frames, heard_of_frames, tells_to, tells_body}
use Rattle.gr_model_calls.proofs.asks.AskMoments.{AsksFit}
use Rattle.gr_model_theorems.proofs.headline.WithoutSweeps.{Whole, holds_from, whole_run, start_whole}
use Rattle.gr_model_calls.proofs.runs.Worlds.{Each}
use Rattle.gr_model_calls.proofs.runs.Closed.{next_holds, run_holds}
use Rattle.gr_model_theorems.proofs.sweep.SweepStates.{Unknowns}
use Rattle.gr_model_theorems.proofs.sweep.FirstUnknown.{unknown_closed, unknowns_always}
use Rattle.gr_model_calls.proofs.runs.Schedules.{clocked_fits, sweep_kept}

-- what is known is settled
at_settled : (net : Net) (f : Facts) (p b t : ℕ) (k : K) → k ≢ Q → IsTrueAt net f p b t k → t ≤ f.settled
at_settled net f p b t Q n h = absurd (n refl)
at_settled net f p b t S n h = h.settled
at_settled net f p b t (D e) n h = h.settled
at_settled net f p b t F n h = h.settled

-- what a broker below the host has heard is settled
heard_settled : (net : Net) (w : World) (heard : Pieces) (b p t : ℕ) → WorldFits net w → Hears net w heard → b < net.brokers → p < net.publishers → is_host net p b ≡ false → keeps_horizon net p b ≡ true → heard_in heard b p t ≡ true → t ≤ (log_of w p).settled
heard_settled net w heard b p t f h i j host keeps e =
    let v = f.views p b j i in
    elim (cases_lt (view_of w b p).horizon t) [
      | inl l ↦ at_settled net (facts_of net w p) p b t (known_at (view_of w b p).know t) ((h.fits b p i j host keeps).kept t l e) (v.know.each t)
      | inr l ↦ omega (arith, l, v.horizon.settled)
    ]

-- what a true frame brings is settled
brought_settled : (net : Net) (w : World) (fs : List Frame) (b p t : ℕ) → Each (FrameTrue net w) fs → list_any (tells_to b p t) fs ≡ true → t ≤ (log_of w p).settled
brought_settled net w [] b p t a e = absurd (false≢true e)
brought_settled net w (f ∷ fs) b p t a e =
    ⊎_elim
    (λ x.
    let y = and_parts (nat_eq f.head.to b && nat_eq f.head.publisher p) (tells_body t f.body) x in
    let z = and_parts (nat_eq f.head.to b) (nat_eq f.head.publisher p) y.0 in
    subst (λ q. t ≤ (log_of w q).settled) (eqb-true f.head.publisher p z.1) (told f.body y.1 a.0.told))
    (λ x. brought_settled net w fs b p t a.1 x)
    (or_cases (tells_to b p t f) (list_any (tells_to b p t) fs) e)
  where
    told : (y : Body) → tells_body t y ≡ true → BodyTrue net (facts_of net w f.head.publisher) f.head.publisher f.head.from f.head.to y → t ≤ (log_of w f.head.publisher).settled
    told (body.Knowledge runs js) g h = at_settled net (facts_of net w f.head.publisher) f.head.publisher f.head.to t (known_at runs t) (not_Q_at (known_at runs t) g) (h.0.each t)
    told (body.Curiosity runs) g h = absurd (false≢true g)
    told (body.Expect tick) g h = absurd (false≢true g)

-- a sweep reaches a broker: its horizon is the sweep's moment, and each tick up to it was heard before or is brought by a frame of the sweep
pub record Reaches (net : Net) (w : World) (k : ℕ) (before : Pieces) (more : List Frame) (b p : ℕ) : Type 0 where
  pub horizon : (view_of (sweep net w k).world b p).horizon ≡ sweep_moment net w
  pub heard : (t : ℕ) → 1 ≤ t → t ≤ sweep_moment net w → (heard_in before b p t || list_any (tells_to b p t) more) ≡ true

-- the logs after a sweep that is not refused
pub swept_settled : (net : Net) (w : World) (k p : ℕ) → IsNet net → 1 ≤ net.quiet → WorldFits net w → p < net.publishers → nat_lt max_tick (sweep_moment net w) ≡ false → (log_of (sweep net w k).world p).settled ≡ sweep_moment net w
unfolding sweep_by
swept_settled net w k p n z f j ok = go (nat_lt max_tick m) ok
  where
    m : ℕ
    m = sweep_moment net w

    u : World
    u = record { clock = m; most = max m w.most; frames = w.frames; views = w.views; logs = w.logs }

    s : Sweeps net u (in_turn (sweep_for net) (numbers net.publishers) u).world 0 net.publishers
    s = sweeps_from net u 0 net.publishers n z (clocked_fits net w m (max m w.most) f) (omega arith)

    go : (q : Bool) → q ≡ false → (let t : Transition = elim q [ true ↦ unchanged w (line.RefusedClock k m ∷ []) | false ↦ followed_by (in_turn (sweep_for net) (numbers net.publishers) u) (λ x. unchanged x (line.Swept m ∷ [])) ] in (log_of t.world p).settled) ≡ m
    go true e = absurd (true≢false e)
    go false e = ap (λ r. r.settled) (s.inside p (omega arith) (omega (arith, j)) ∙ marked_now net m (core_of w p) (settled_below net w p f j))

back_true : (net : Net) (w : World) (xs ys : List Frame) → AllFramesTrue net w (xs ++ ys) → Each (FrameTrue net w) ys
back_true net w [] [] a = tt
back_true net w [] (y ∷ ys) a = (a.0, back_true net w [] ys a.1)
back_true net w (x ∷ xs) ys a = back_true net w xs ys a.1

hear_long : (net : Net) (w : World) (heard : Pieces) (fs : List Frame) → HeardLong net heard → Each (FrameTrue net w) fs → HeardLong net (hear_frames heard fs)
hear_long net w heard [] l a = l
hear_long net w heard (f ∷ fs) l a =
    let d : AddsHeard net heard (hearing heard (know_of_body f.head f.body)) f.head f.body = body_adds net w heard f.head f.body l a.0.fits.to_in a.0.publisher_in a.0.told in
    hear_long net w (hearing heard (know_of_body f.head f.body)) fs d.long a.1

swept_hears : (net : Net) (w : World) (k : ℕ) (heard : Pieces) (more : List Frame) → IsNet net → 1 ≤ net.quiet → WorldFits net w → nat_lt max_tick (sweep_moment net w) ≡ false → (sweep net w k).world.frames ≡ w.frames ++ more → Hears net w heard →
    ((b p : ℕ) → b < net.brokers → p < net.publishers → is_host net p b ≡ false → keeps_horizon net p b ≡ true → Reaches net w k heard more b p) → Hears net (sweep net w k).world (hear_frames heard more)
swept_hears net w k heard more n z f ok fr h r = record {
  long = hear_long net y heard more h.long true_ones;
  fits = λ b p i j host keeps.
      let x = r b p i j host keeps in
      let s : (log_of y p).settled ≡ m = swept_settled net w k p n z f j ok in
      let is : (t : ℕ) → heard_in (hear_frames heard more) b p t ≡ (heard_in heard b p t || list_any (tells_to b p t) more) = λ t. heard_of_frames net y heard more b p t h.long true_ones in
      let none : (t : ℕ) → m < t → heard_in (hear_frames heard more) b p t ≡ true → ⊥ = λ t l e. ⊎_elim
      (λ q. omega (arith, l, heard_settled net w heard b p t f h i j host keeps q, settled_below net w p f j))
      (λ q. omega (arith, l, s, brought_settled net y more b p t true_ones q))
      (or_cases (heard_in heard b p t) (list_any (tells_to b p t) more) (sym (is t) ∙ e)) in
      record {
        below = λ t a c. is t ∙ x.heard t a (omega (arith, c, x.horizon));
        stops = false_from_ne_true (heard_in (hear_frames heard more) b p (suc (view_of y b p).horizon)) (none (suc (view_of y b p).horizon) (omega (arith, x.horizon)));
        known = λ t a c. absurd (omega (arith, a, x.horizon, s, at_settled net (facts_of net y p) p b t (known_at (view_of y b p).know t) c ((g.views p b j i).know.each t)));
        kept = λ t a c. absurd (none t (omega (arith, a, x.horizon)) c);
      };
}
  where
    y : World
    y = (sweep net w k).world

    m : ℕ
    m = sweep_moment net w

    g : WorldFits net y
    g = (sweep_kept net w k n f).fits

    true_ones : Each (FrameTrue net y) more
    true_ones = back_true net y w.frames more (subst (AllFramesTrue net y) fr g.frames)

-- every sweep that is not refused reaches each broker below the host that keeps a horizon
abbrev pub SweepsReach : (net : Net) → IsNet net → Type 0
SweepsReach net n = (w : World) (k : ℕ) (heard : Pieces) → (f : WorldFits net w) → AsksFit net w → Unknowns net w → Hears net w heard → nat_lt max_tick (sweep_moment net w) ≡ false → (b p : ℕ) → b < net.brokers → p < net.publishers → is_host net p b ≡ false → keeps_horizon net p b ≡ true →
    (let a : SweepAdds net w k = sweep_adds net w k n f in Reaches net w k heard a.more b p)

refused_world : (net : Net) (w : World) (k : ℕ) → nat_lt max_tick (sweep_moment net w) ≡ true → (sweep net w k).world ≡ w
unfolding sweep_by
refused_world net w k e = go (nat_lt max_tick m) e
  where
    m : ℕ
    m = sweep_moment net w

    u : World
    u = record { clock = m; most = max m w.most; frames = w.frames; views = w.views; logs = w.logs }

    go : (q : Bool) → q ≡ true → (let t : Transition = elim q [ true ↦ unchanged w (line.RefusedClock k m ∷ []) | false ↦ followed_by (in_turn (sweep_for net) (numbers net.publishers) u) (λ x. unchanged x (line.Swept m ∷ [])) ] in t.world) ≡ w
    go true e = refl
    go false e = absurd (false≢true e)

-- what a sweep leaves of what was heard
sweep_hears : (net : Net) (n : IsNet net) (w : World) (h : History) (k : ℕ) → SweepsReach net n → 1 ≤ net.quiet → Whole net w h → Unknowns net w → Hears net (sweep net w k).world (if is_swept net h then hearing_all h.heard (sweep net w k).lines else h.heard)
sweep_hears net n w h k reach z x o =
    let f = x.stands.fits in
    let same : sweep_at net h ≡ sweep_moment net w = sweep_same net w h x.stands.records in
    let a : SweepAdds net w k = sweep_adds net w k n f in
    elim (cases_Bool (nat_lt max_tick (sweep_moment net w))) [
      | inl e ↦
          let no : is_swept net h ≡ false = ap (λ c. nat_le c max_tick) same ∙ lt-leb (sweep_moment net w) max_tick (ltb-true max_tick (sweep_moment net w) e) in
          subst (λ c. Hears net (sweep net w k).world (if c then hearing_all h.heard (sweep net w k).lines else h.heard)) (sym no) (subst (λ u. Hears net u h.heard) (sym (refused_world net w k e)) x.hears)
      | inr e ↦
          let yes : is_swept net h ≡ true = ap (λ c. nat_le c max_tick) same ∙ le-leb (sweep_moment net w) max_tick (ltb-false max_tick (sweep_moment net w) e) in
          subst (λ c. Hears net (sweep net w k).world (if c then hearing_all h.heard (sweep net w k).lines else h.heard)) (sym yes) (subst (λ p. Hears net (sweep net w k).world p) (sym (a.lines h.heard))
          (swept_hears net w k h.heard a.more n z f e a.frames x.hears (λ b p i j host keeps. reach w k h.heard f x.stands.asks o x.hears e b p i j host keeps)))
    ]

hears_at : (net : Net) (n : IsNet net) (w : World) (h : History) (k : ℕ) (s : Step) → SweepsReach net n → 1 ≤ net.quiet → StepIn net s → Whole net w h → Unknowns net w → Hears net (next net w (record { number = k; step = s })).world (heard_after net h (record { number = k; step = s }) (next net w (record { number = k; step = s })).lines)
unfolding next_by heard_after
hears_at net n w h k step.Sweep reach z i x o = sweep_hears net n w h k reach z x o
hears_at net n w h k s reach z i x o = hears_by net w h k s (next net w (record { number = k; step = s })).lines n x.stands.fits x.stands.records x.stands.sent i refl x.hears

-- where every sweep reaches each broker below the host, the headline holds whole of all that follows a world that stands with its history
pub holds_where_sweeps_reach : (net : Net) (w : World) (h : History) (ls : List Line) (n : IsNet net) → SweepsReach net n → 1 ≤ net.quiet → StepsIn net ls → Whole net w h → Unknowns net w → Holds_from net h ls (run_from net w ls)
holds_where_sweeps_reach net w h ls n reach z i k x = holds_from net (Unknowns net) w h ls n z (λ u l j f y. next_holds net (λ y. Unit {0}) (Unknowns net) u l n (unknown_closed net n) f y j) (λ u g l j k x. hears_at net n u g l.number l.step reach z j k x) i k x

-- and what stands after it
pub stands_where_sweeps_reach : (net : Net) (w : World) (h : History) (ls : List Line) (n : IsNet net) → SweepsReach net n → 1 ≤ net.quiet → StepsIn net ls → Whole net w h → Unknowns net w → Whole net (run_all net w ls).world (history net h ls (run_from net w ls)) × Unknowns net (run_all net w ls).world
stands_where_sweeps_reach net w h ls n reach z i k x = (
  whole_run net (Unknowns net) w h ls n z (λ u l j f y. next_holds net (λ y. Unit {0}) (Unknowns net) u l n (unknown_closed net n) f y j) (λ u g l j k x. hears_at net n u g l.number l.step reach z j k x) i k x,
  run_holds net (λ y. Unit {0}) (Unknowns net) w ls n (unknown_closed net n) k.stands.fits x i,
)

-- where every sweep reaches each broker below the host, the headline holds whole over every schedule
pub headline_where_sweeps_reach : (net : Net) (ls : List Line) (n : IsNet net) → SweepsReach net n → 1 ≤ net.quiet → StepsIn net ls → Headline net ls (report_of net ls)
unfolding report_of_by
headline_where_sweeps_reach net ls n reach z i = (refl, holds_where_sweeps_reach net (start net) (begin net) ls n reach z i (start_whole net n) (unknowns_always net [] n tt))
