-- The host's calls and the receipt of a frame obey their rules
use Rattle.std.proofs.Common.{◌≡◌, ◌≢◌, inl, inr, ℕ, suc, ◌+◌, ◌-◌, ◌≤◌, ◌<◌, min, max, Bool, true, false, [], ◌∷◌, ◌++◌, refl, sym, ap, ap₂, ◌∙◌, subst, arith, le_refl}
use Rattle.std.specs.Prelude.{nat_le, nat_lt, if◌then◌else◌}
use Rattle.std.proofs.lemmas.Bool.{cases_Bool, cases_lt, cases_eq, true≢false, eq-eqb, ne_eqb, leb-true, le-leb, lt-leb, lt-ltb, le-ltb, both_ways}
use Rattle.gr_event.specs.declared.event.Event.{Event}
use Rattle.gr_know.specs.declared.values.K.TheVariants.{Q, S, D}
use Rattle.gr_curio.specs.declared.values.Q3.TheVariants.{N, A}
use Rattle.gr_frame.specs.declared.Body.{Body}
use Rattle.gr_frame.specs.declared.Body.TheVariants as body
use Rattle.gr_frame.specs.declared.Frame.{Frame}
use Rattle.gr_event.specs.Joins.{Joins, longer}
use Rattle.gr_model.specs.declared.report.Report.TheVariants as line
use Rattle.gr_tick.specs.Runs.{AreRuns, first_bottom_from}
use Rattle.gr_know.specs.Values.{Known, known_at}
use Rattle.gr_model.specs.Net.{Net, keeps_horizon}
use Rattle.gr_model.specs.Broker.{joined_at, with_joins, with_join, joining, drops, View, Log, Outcome, is_consolidated_by, consolidated, learn, max_tick, expect_frames, place_of, publish, silence, with_event, with_mark, marking, cut_log_at, cutting, done_upto, wake_host, wake_below, wake, receive, curiosity, expect, published}
use Rattle.gr_model.specs.Tree.{IsNet, IsDistinct}
use Rattle.gr_model_calls.specs.Fits.{facts, ViewTrue, BodyTrue, BodyFits, FrameFits}
use Rattle.gr_model_calls.specs.Rules.{IsView, MayCome, is_dropped, TakesJoin, HasKnown, NewTicks, Asks, wanted_by_age, SendsExpect, unmoved, silence_upto, IsConsolidatedUpto, reclaimed_lines, HostWakes, Wakes, event_upto, Publishes, Comes}
use Rattle.gr_model_calls.proofs.calls.HostCases.{marking_cases}
use Rattle.gr_tick.proofs.RunLaws.{first_bottom_from-is, value_at-in, value_at-below, value_at-above}
use Rattle.gr_model_calls.proofs.calls.CallTruth.{AllWantRuns, done-is}
use Rattle.gr_model_calls.proofs.calls.Calls.{run_at, silence_in, silence_above}
use Rattle.gr_model_calls.proofs.runs.Clash.{nothing_drops}
use Rattle.gr_model_calls.proofs.calls.Cutting.{cut_at, cutting_told}
use Rattle.gr_model_calls.proofs.rules.CallRules.{new_ticks_rule, wake_below_rule, expects_on, expects_rule, child_asks_rule}
use Rattle.gr_model_calls.proofs.rules.Views.{wants_runs, true_view, joined_view, new_ticks_view}

-- Pieces of the host

silence_below : (first last : ℕ) (rest : Known) (t : ℕ) → t < first → known_at (silence first last rest) t ≡ known_at rest t
unfolding silence
silence_below first last rest t h =
    elim (cases_Bool (nat_le first last)) [
      | inl e ↦ rw e (value_at-below Q (run_at first last S) rest t h)
      | inr e ↦ rw e refl
    ]

silent_runs : (settled now : ℕ) → AreRuns Q (silence (suc settled) now [])
unfolding silence
silent_runs settled now =
    elim (cases_Bool (nat_le (suc settled) now)) [
      | inl e ↦ rw e (omega arith, leb-true (suc settled) now e, λ x. cc, tt, tt)
      | inr e ↦ rw e tt
    ]

D_not_Q : (e : Event) → D e ≢ Q
D_not_Q e = λ x. cc

D_not_S : (e : Event) → D e ≢ S
D_not_S e = λ x. cc

S_not_Q : S ≢ Q
S_not_Q = λ x. cc

event_runs : (settled tick : ℕ) (e : Event) → settled < tick → AreRuns Q (silence (suc settled) (tick - 1) (run_at tick tick (D e) ∷ []))
unfolding silence
event_runs settled tick e l =
    elim (cases_Bool (nat_le (suc settled) (tick - 1))) [
      | inl x ↦ rw x (omega arith, leb-true (suc settled) (tick - 1) x, S_not_Q, λ y. D_not_S e, (omega (arith, l), le_refl tick, D_not_Q e, tt, tt))
      | inr x ↦ rw x (omega (arith, l), le_refl tick, D_not_Q e, tt, tt)
    ]

-- silence past what was settled
silent_is : (settled now : ℕ) → HasKnown (silence_upto settled now) (silence (suc settled) now [])
silent_is settled now = record {
  runs = silent_runs settled now;
  each = λ t. elim (cases_lt settled t) [
    | inl h ↦ elim (cases_lt now t) [
      | inl g ↦ silence_above (suc settled) now [] t g ∙ rw (lt-ltb settled t h, lt-leb t now g) refl
      | inr g ↦ silence_in (suc settled) now [] t h g ∙ rw (lt-ltb settled t h, le-leb t now g) refl
    ]
    | inr h ↦ silence_below (suc settled) now [] t (omega (arith, h)) ∙ rw (le-ltb settled t h) refl
  ];
}

-- an event past what was settled, and the silence before it
event_is : (settled tick : ℕ) (e : Event) → settled < tick → AreRuns Q (silence (suc settled) (tick - 1) (run_at tick tick (D e) ∷ [])) → HasKnown (event_upto settled tick e) (silence (suc settled) (tick - 1) (run_at tick tick (D e) ∷ []))
event_is settled tick e l r = record {
  runs = r;
  each = λ t. elim (cases_eq t tick) [
    | inl x ↦ silence_above (suc settled) (tick - 1) (run_at tick tick (D e) ∷ []) t (omega (arith, x, l)) ∙ (value_at-in Q (run_at tick tick (D e)) [] t (omega (arith, x)) (omega (arith, x)) ∙ rw (eq-eqb t tick x) refl)
    | inr x ↦ elim (cases_lt settled t) [
      | inl h ↦ elim (cases_lt t tick) [
        | inl g ↦ silence_in (suc settled) (tick - 1) (run_at tick tick (D e) ∷ []) t h (omega (arith, g)) ∙ rw (ne_eqb t tick x, lt-ltb settled t h, lt-ltb t tick g) refl
        | inr g ↦ silence_above (suc settled) (tick - 1) (run_at tick tick (D e) ∷ []) t (omega (arith, g, l)) ∙ (value_at-above Q (run_at tick tick (D e)) [] t (omega (arith, g, x)) ∙ rw (ne_eqb t tick x, lt-ltb settled t h, le-ltb t tick g) refl)
      ]
      | inr h ↦ silence_below (suc settled) (tick - 1) (run_at tick tick (D e) ∷ []) t (omega (arith, h)) ∙ (value_at-below Q (run_at tick tick (D e)) [] t (omega (arith, h, l)) ∙ rw (ne_eqb t tick x, le-ltb settled t h) refl)
    ]
  ];
}

-- The mark

marked_rule : (net : Net) (p b now : ℕ) (v : View) (log : Log) → IsDistinct (net.children p b) → IsView net p b v → log.settled + net.quiet ≤ now → NewTicks net p b (silence (suc log.settled) now []) v (with_mark log now) (marking net p b now v log)
marked_rule net p b now v log distinct h l =
    marking_cases net p b now v log (NewTicks net p b (silence (suc log.settled) now []) v (with_mark log now)) (λ e. new_ticks_rule net p b (silence (suc log.settled) now []) v (with_mark log now) distinct h (silent_runs log.settled now))
    (λ e. absurd (both_ways (nat_le (log.settled + net.quiet) now) e (le-leb (log.settled + net.quiet) now l)))

marked_still : (net : Net) (p b now : ℕ) (v : View) (log : Log) → now < log.settled + net.quiet → marking net p b now v log ≡ unmoved v log
marked_still net p b now v log l = marking_cases net p b now v log (λ o. o ≡ unmoved v log) (λ e. absurd (omega (arith, l, leb-true (log.settled + net.quiet) now e))) (λ e. refl)

marked_cut : (net : Net) (p b now : ℕ) (v : View) (log : Log) → (marking net p b now v log).log.cut ≡ log.cut
unfolding learn
marked_cut net p b now v log = marking_cases net p b now v log (λ o. o.log.cut ≡ log.cut) (λ e. refl) (λ e. refl)

-- the log is settled further exactly where it is marked
marked_test : (net : Net) (p b now : ℕ) (v : View) (log : Log) → 1 ≤ net.quiet → nat_lt log.settled (marking net p b now v log).log.settled ≡ nat_le (log.settled + net.quiet) now
unfolding learn
marked_test net p b now v log quiet =
    marking_cases net p b now v log (λ o. nat_lt log.settled o.log.settled ≡ nat_le (log.settled + net.quiet) now)
    (λ e. lt-ltb log.settled now (omega (arith, quiet, leb-true (log.settled + net.quiet) now e)) ∙ sym e)
    (λ e. le-ltb log.settled log.settled (le_refl log.settled) ∙ sym e)

-- The cut

A_not_N : (q : Bool) → (if q then A else N) ≢ N → q ≡ true
A_not_N true n = refl
A_not_N false n = absurd (n refl)

N_of : (q : Bool) → (if q then A else N) ≡ N → q ≡ false
N_of false e = refl
N_of true e = absurd (A_N e)
  where
    A_N : A ≡ N → ⊥
    A_N e = cc

consolidated_upto : (net : Net) (p b settled : ℕ) (v : View) → AllWantRuns (net.children p b) v.wants → IsConsolidatedUpto net p b settled (done_upto (consolidated (keeps_horizon net p b) v.horizon v.wants) settled) v
unfolding done_upto
consolidated_upto net p b settled v a =
    let done = consolidated (keeps_horizon net p b) v.horizon v.wants in
    let u = first_bottom_from done 1 in
    let d = done-is net p b v.horizon v.wants a in
    let i = first_bottom_from-is N 1 done 1 d.runs in
    record {
      within = omega arith;
      each = λ t x y. A_not_N (is_consolidated_by (keeps_horizon net p b) v.horizon v.wants t) (λ e. i.known t x (omega (arith, y, i.reached)) (d.same_at t ∙ e));
      stops = λ x.
          let s : suc (min settled (u - 1)) ≡ u = omega (arith, x, i.reached) in
          subst (λ t. is_consolidated_by (keeps_horizon net p b) v.horizon v.wants t ≡ false) (sym s) (N_of (is_consolidated_by (keeps_horizon net p b) v.horizon v.wants u) (sym (d.same_at u) ∙ i.stops));
    }

cut_yes : (net : Net) (p b : ℕ) (v : View) (log : Log) → log.cut < cut_at net p b v log → cutting net p b v log ≡ cut_log_at net.reclaim log (cut_at net p b v log)
unfolding cutting
cut_yes net p b v log l = rw (lt-ltb log.cut (cut_at net p b v log) l) refl

cut_no : (net : Net) (p b : ℕ) (v : View) (log : Log) → cut_at net p b v log ≤ log.cut → cutting net p b v log ≡ log
unfolding cutting
cut_no net p b v log l = rw (le-ltb log.cut (cut_at net p b v log) l) refl

-- what is stored of the children is canonical after the mark too
marked_wants : (net : Net) (p b now : ℕ) (v : View) (log : Log) → IsDistinct (net.children p b) → IsView net p b v → AllWantRuns (net.children p b) (marking net p b now v log).view.wants
marked_wants net p b now v log distinct h =
    marking_cases net p b now v log (λ o. AllWantRuns (net.children p b) o.view.wants)
    (λ e. left (learn net p b (silence (suc log.settled) now []) v (with_mark log now)).view (new_ticks_view net p b (silence (suc log.settled) now []) v (with_mark log now) _ (new_ticks_rule net p b (silence (suc log.settled) now []) v (with_mark log now) distinct h (silent_runs log.settled now))))
    (λ e. left v h)
  where
    left : (u : View) → IsView net p b u → AllWantRuns (net.children p b) u.wants
    left u k = wants_runs net p b u distinct k

host_wakes_rule : (net : Net) (p b now : ℕ) (v : View) (log : Log) → 1 ≤ net.quiet → IsDistinct (net.children p b) → IsView net p b v → HostWakes net p b now v log (wake_host net p b now v log)
unfolding wake_host
host_wakes_rule net p b now v log quiet distinct h =
    let m = marking net p b now v log in
    let a = cut_at net p b m.view m.log in
    let new = cutting net p b m.view m.log in
    let same = marked_cut net p b now v log in
    let w = marked_wants net p b now v log distinct h in
    let fs = expect_frames p b new.settled (net.children p b) m.view.wants in
    record {
      silent = silence (suc log.settled) now [];
      silent_is = silent_is log.settled now;
      marked = m;
      marks = λ l. marked_rule net p b now v log distinct h l;
      stays = λ l. marked_still net p b now v log l;
      upto = a;
      upto_is = consolidated_upto net p b m.log.settled m.view w;
      cut = λ l. cut_yes net p b m.view m.log (subst (λ x. x < a) (sym same) l);
      no_cut = λ l. cut_no net p b m.view m.log (subst (λ x. a ≤ x) (sym same) l);
      expected = if nat_lt 0 new.settled then fs else [];
      expected_is = λ l. subst (λ q. SendsExpect net p b new.settled m.view (if q then fs else [])) (sym (lt-ltb 0 new.settled l)) (expects_on net p b new.settled m.view distinct w);
      none_expected = λ e. ap (λ x. if nat_lt 0 x then fs else []) e;
      frames = refl;
      lines = ap₂ (λ x y. (if x then line.Mark p now ∷ [] else []) ++ y ++ m.lines) (marked_test net p b now v log quiet)
          (cutting_told net p b m.view m.log ∙ ap (λ x. if nat_lt x a then line.Cut p a ∷ reclaimed_lines net p m.log else []) same);
      view_same = refl;
    }

-- each wake obeys its rule
pub wakes_rule : (net : Net) (p b now : ℕ) (v : View) (log : Log) → IsNet net → 1 ≤ net.quiet → p < net.publishers → b < net.brokers → IsView net p b v → Wakes net p b now v log (wake net p b now v log)
unfolding wake
wakes_rule net p b now v log n quiet i j h = record {
  host = λ e. subst (λ q. HostWakes net p b now v log (elim q [ true ↦ wake_host net p b now v log | false ↦ wake_below net p b now v log ])) (sym e) (host_wakes_rule net p b now v log quiet (n.children_once p b i j) h);
  below = λ e. subst (λ q. Asks net p b now (wanted_by_age net p b now v) [] v log (elim q [ true ↦ wake_host net p b now v log | false ↦ wake_below net p b now v log ])) (sym e) (wake_below_rule net p b now v log (n.children_once p b i j) h);
}

-- A publish

-- each publish at its host obeys its rule
pub publishes_rule : (net : Net) (p b now number : ℕ) (e : Event) (v : View) (log : Log) → IsNet net → p < net.publishers → b < net.brokers → IsView net p b v → Publishes net p b now number e v log (publish net p b now number e v log)
unfolding publish published
publishes_rule net p b now number e v log n i j h =
    let tick = max (suc log.settled) now in
    let new = with_event log tick e in
    let piece = silence (suc log.settled) (tick - 1) (run_at tick tick (D e) ∷ []) in
    let r = event_runs log.settled tick e (omega arith) in
    record {
      already = λ l. rw (publish, published, le-leb number log.last l) refl;
      gap = λ l. rw (publish, published, lt-leb number log.last (omega (arith, l)), lt-ltb (suc log.last) number l) refl;
      exhausted = λ x l. rw (publish, published, lt-leb number log.last (omega (arith, x)), le-ltb (suc log.last) number (omega (arith, x)), lt-ltb max_tick tick l) refl;
      piece = piece;
      piece_is = event_is log.settled tick e (omega arith) r;
      learned = learn net p b piece v new;
      learns = λ x l. new_ticks_rule net p b piece v new (n.children_once p b i j) h r;
      logged = λ x l. rw (publish, published, lt-leb number log.last (omega (arith, x)), le-ltb (suc log.last) number (omega (arith, x)), le-ltb max_tick tick l) refl;
    }

-- A join

-- each join at its host obeys its rule
pub joins_rule : (net : Net) (p b now s : ℕ) (v : View) (log : Log) → IsNet net → p < net.publishers → b < net.brokers → IsView net p b v → TakesJoin net p b now s v log (joining net p b now s v log)
unfolding joining joined_at
joins_rule net p b now s v log n i j h =
    let tick = max (suc log.settled) now in
    let new = with_join log tick s in
    let piece = silence (suc log.settled) tick [] in
    record {
      already = λ e. rw (joining, joined_at, e) refl;
      exhausted = λ e l. rw (joining, joined_at, e, lt-ltb max_tick tick l) refl;
      silent = piece;
      silent_is = silent_is log.settled tick;
      learned = learn net p b piece (with_joins v new.joins) new;
      learns = λ e l. new_ticks_rule net p b piece (with_joins v new.joins) new (n.children_once p b i j) (joined_view net p b v new.joins h) (silent_runs log.settled tick);
      logged = λ e l. rw (joining, joined_at, e, le-ltb max_tick tick l) refl;
    }

-- A frame

-- the receipt of each frame that is not dropped obeys its rule
pub frame_rule : (net : Net) (now : ℕ) (f : Frame) (v : View) (log : Log) → IsNet net → f.head.publisher < net.publishers → f.head.to < net.brokers → MayCome net f.head.publisher f.head.from f.head.to f.body → is_dropped v f.body ≡ false → IsView net f.head.publisher f.head.to v →
    Comes net f.head.publisher f.head.from f.head.to now f.body v log (receive net now f v log)
unfolding receive
frame_rule net now f v log n i j may kept h = go f.body may kept
  where
    p : ℕ
    p = f.head.publisher

    b : ℕ
    b = f.head.to

    distinct : IsDistinct (net.children p b)
    distinct = n.children_once p b i j

    learned : (runs : Known) (js : Joins) → AreRuns Q runs → (q : Bool) → q ≡ false → NewTicks net p b runs (with_joins v (longer v.joins js)) log (elim q [ true ↦ record { view = v; log = log; lines = []; frames = [] } | false ↦ learn net p b runs (with_joins v (longer v.joins js)) log ])
    learned runs js k true e = absurd (true≢false e)
    learned runs js k false e = new_ticks_rule net p b runs (with_joins v (longer v.joins js)) log distinct (joined_view net p b v (longer v.joins js) h) k

    go : (y : Body) → MayCome net p f.head.from b y → is_dropped v y ≡ false → Comes net p f.head.from b now y v log
        (let o : Outcome = elim y [
          | body.Knowledge runs js ↦ elim (drops v runs js) [ true ↦ record { view = v; log = log; lines = []; frames = [] } | false ↦ learn net f.head.publisher f.head.to runs (with_joins v (longer v.joins js)) log ]
          | body.Curiosity runs ↦ curiosity net f.head.publisher f.head.to now f.head.from (place_of f.head.from (net.children f.head.publisher f.head.to)) runs v log
          | body.Expect tick ↦ expect net f.head.publisher f.head.to now tick v log
        ] in o)
    go (body.Knowledge runs js) m e = learned runs js m (drops v runs js) e
    go (body.Curiosity runs) m e = child_asks_rule net p b now f.head.from runs v log distinct h m.1 m.0
    go (body.Expect tick) m e = expects_rule net p b now tick v log distinct h

-- no true frame is dropped, so its receipt obeys its rule
pub comes_rule : (net : Net) (now : ℕ) (f : Frame) (v : View) (log : Log) (reached : ℕ → ℕ) → IsNet net → f.head.publisher < net.publishers → FrameFits net f.head.publisher f → BodyTrue net (facts log reached) f.head.publisher f.head.from f.head.to f.body → ViewTrue net (facts log reached) f.head.publisher f.head.to v →
    Comes net f.head.publisher f.head.from f.head.to now f.body v log (receive net now f v log)
comes_rule net now f v log reached n i fits told h = frame_rule net now f v log n i fits.to_in (may f.body told fits.body) (kept f.body told) (true_view net (facts log reached) f.head.publisher f.head.to v h)
  where
    may : (y : Body) → BodyTrue net (facts log reached) f.head.publisher f.head.from f.head.to y → BodyFits net f.head.publisher f.head.from f.head.to y → MayCome net f.head.publisher f.head.from f.head.to y
    may (body.Knowledge runs js) t c = t.0.runs
    may (body.Curiosity runs) t c = (t.runs, c)
    may (body.Expect tick) t c = tt

    kept : (y : Body) → BodyTrue net (facts log reached) f.head.publisher f.head.from f.head.to y → is_dropped v y ≡ false
    kept (body.Knowledge runs js) t = nothing_drops net (facts log reached) f.head.publisher f.head.to v runs js h.know h.held t.0 t.1
    kept (body.Curiosity runs) t = refl
    kept (body.Expect tick) t = refl
