-- Every world that a schedule leads to fits
use Rattle.std.proofs.Common.{◌≡◌, ◌≢◌, inl, inr, ℕ, suc, zero, ◌+◌, ◌-◌, ◌≤◌, ◌<◌, max, Bool, true, false, ◌&&◌, List, [], ◌∷◌, ◌++◌, map, length, set, get_or, refl, sym, ap, ap₂, ◌∙◌, subst, Option, Some, None, arith, le_trans, le_refl}
use Rattle.std.specs.Prelude.{nat_eq, nat_le, nat_lt, if◌then◌else◌, slice_get, flat_map}
use Rattle.std.specs.List.{list_any}
use Rattle.std.proofs.lemmas.Bool.{and_parts, cases_Bool, cases_eq, true≢false, eqb-true, eq-eqb, ne_eqb, both_ways, le-leb, lt-leb, leb-true, and_right}
use Rattle.std.proofs.lemmas.List.{get_or-set_other, get_or-set_same, length-set}
use Rattle.gr_event.specs.declared.event.Event.{Event}
use Rattle.gr_know.specs.declared.values.K.{K}
use Rattle.gr_know.specs.declared.values.K.TheVariants.{Q, S, D, F}
use Rattle.gr_curio.specs.declared.values.Q3.TheVariants.{N, A}
use Rattle.gr_frame.specs.declared.Frame.{Frame}
use Rattle.gr_sched.specs.declared.step.Stop.{Stop}
use Rattle.gr_sched.specs.declared.step.Step.{Step}
use Rattle.gr_sched.specs.declared.step.Step.TheVariants as step
use Rattle.gr_sched.specs.declared.step.Line.{Line}
use Rattle.gr_model.specs.declared.report.Report.{Report}
use Rattle.gr_model.specs.declared.report.Report.TheVariants as line
use Rattle.gr_tick.specs.Runs.{IsNone}
use Rattle.gr_know.specs.Values.{same_K}
use Rattle.gr_model.specs.Net.{Net, all_late, is_host, not_empty, numbers, numbers_from, keeps_horizon}
use Rattle.gr_model.specs.Broker.{View, Log, empty_log, with_event, event_at, log_at, event_points, log_know, started, is_kept, max_tick}
use Rattle.gr_model.specs.World.{World, Transition, blank_view, view_of, log_of, unchanged, followed_by, in_turn, frame_at, restarted, crash, sweep_moment, start, start_by, show, opened_lines, kept_events, next_by, publish_stopped_by, run_from_by, sweep_by}
use Rattle.gr_model_calls.specs.OneNet.{deliver_frame, publish_now, join_now, publish_stopped, wake_all, sweep_for, sweep, next, run_from, run_all}
use Rattle.gr_frame.specs.Bytes.{frame_bytes}
use Rattle.gr_model_calls.specs.Truth.{Holds, HasEvent, Grows, Facts, IsTrueAt, KnowsTruth, AllWantTruth, IsLater}
use Rattle.gr_model_calls.specs.Said.{said_at, due_upto}
use Rattle.gr_model_calls.proofs.calls.Telling.{Neutral, Neutral-append, Neutral-nil, Silent, due_upto_same}
use Rattle.gr_model_calls.specs.Fits.{facts, reached_in, facts_of, LogFits, ViewTrue, HostKnows, CutTrue, FrameTrue, AllFramesTrue, WorldFits, LinesFit, StepIn, StepsIn}
use Rattle.gr_model.specs.Tree.{IsNet, IsSubscriber}
use Rattle.gr_tick.proofs.RunLaws.{AreRunsOf, tabulate-is}
use Rattle.gr_know.proofs.ValueLaws.{K_decides}
use Rattle.gr_model_calls.proofs.calls.Pieces.{one_step, le_step}
use Rattle.gr_model_calls.proofs.calls.TruthTicks.{TrueF-later}
use Rattle.gr_model_calls.proofs.calls.CallTruth.{KnowsTruth-by, ViewTrue-later}
use Rattle.gr_model_calls.proofs.calls.Calls.{silent_true, with_event_fits, said_more}
use Rattle.gr_model_calls.proofs.calls.Held.{own, grows_not}
use Rattle.gr_model_calls.proofs.runs.Worlds.{join_kept, Kept, Kept-after, Kept-still, Kept-refl, if_le, frames_later, reached_here, silent_lines, in_turn_kept, numbers_below, wake_all_kept, deliver_kept, publish_kept, sweep_for_kept}

-- What a log says

-- a logged event as knowledge: data, and else silence
abbrev pub said_value : Option Event → K
said_value None = S
said_value (Some e) = D e

-- what a log says of a tick by the event that was logged there
pub event_said : (events : List (ℕ × Event)) (t : ℕ) → event_at events t ≡ said_value (said_at events t)
event_said [] t = refl
event_said (x ∷ xs) t =
    elim (cases_eq x.0 t) [
      | inl e ↦ rw (eq-eqb x.0 t e) refl
      | inr e ↦ rw (ne_eqb x.0 t e) (event_said xs t)
    ]

event_at-step : (events : List (ℕ × Event)) (t : ℕ) → IsNone (suc t) (event_points events) → event_at events (suc t) ≡ event_at events t
event_at-step [] t n = refl
event_at-step (x ∷ xs) t n = rw (ne_eqb x.0 (suc t) (λ e. n.0 (sym e)), ne_eqb x.0 t (λ e. n.1.0 (ap suc (sym e)))) (event_at-step xs t n.1.1)

-- what is known by a log has at each tick what the log says there
pub log_know-is : (log : Log) → AreRunsOf Q (log_at log) (log_know log)
unfolding log_know
log_know-is log =
    tabulate-is Q same_K K_decides (log_at log) (1 ∷ (suc log.cut ∷ (suc log.settled ∷ event_points log.events))) (record {
      start = refl;
      step = λ t n.
          ap₂ (λ c v. if c then v else Q) (ap₂ (λ a b. a && b) (one_step t n.0) (le_step t log.settled n.1.1.0))
          (ap₂ (λ c v. if c then F else v) (le_step t log.cut n.1.0) (event_at-step log.events t n.1.1.1));
      past = λ t n. ap (λ c. if c then (if nat_le t log.cut then F else event_at log.events t) else Q) (ap (λ c. nat_le 1 t && c) (lt-leb t log.settled n.1.1.0) ∙ and_right (nat_le 1 t) false refl);
    })

value_true : (net : Net) (f : Facts) (p b t : ℕ) (o : Option Event) → is_host net p b ≡ true → t ≤ f.settled → f.said t ≡ o → IsTrueAt net f p b t (said_value o)
value_true net f p b t None host h e = silent_true net f p b t h e
value_true net f p b t (Some v) host h e = record { settled = h; logged = e; wanted = λ n. absurd (both_ways (is_host net p b) n host) }

log_true : (net : Net) (log : Log) (reached : ℕ → ℕ) (p b t : ℕ) → is_host net p b ≡ true → CutTrue net (facts log reached) p b log.cut → IsTrueAt net (facts log reached) p b t (log_at log t)
log_true net log reached p b t host c =
    elim (cases_Bool (nat_le 1 t && nat_le t log.settled)) [
      | inr e ↦ rw e tt
      | inl e ↦
          let k = and_parts (nat_le 1 t) (nat_le t log.settled) e in
          rw e (elim (cases_Bool (nat_le t log.cut)) [
            | inl g ↦ rw g (c t (leb-true 1 t k.0) (leb-true t log.cut g))
            | inr g ↦ rw g (subst (λ v. IsTrueAt net (facts log reached) p b t v) (sym (event_said log.events t)) (value_true net (facts log reached) p b t (said_at log.events t) host (leb-true t log.settled k.1) refl))
          ])
    ]

said_not_Q : (o : Option Event) → said_value o ≢ Q
said_not_Q None = λ e. cc
said_not_Q (Some v) = λ e. cc

cut_not_Q : (b : Bool) (k : K) → k ≢ Q → (if b then F else k) ≢ Q
cut_not_Q true k n = λ e. cc
cut_not_Q false k n = n

log_knows : (log : Log) (t : ℕ) → 1 ≤ t → t ≤ log.settled → log_at log t ≢ Q
log_knows log t x y = rw (le-leb 1 t x, le-leb t log.settled y) (cut_not_Q (nat_le t log.cut) (event_at log.events t) (λ e. said_not_Q (said_at log.events t) (sym (event_said log.events t) ∙ e)))

-- A broker that starts

no_wants : (net : Net) (f : Facts) (p : ℕ) (cs : List ℕ) → AllWantTruth net f p cs (map (λ _. []) cs)
no_wants net f p [] = tt
no_wants net f p (c ∷ cs) = (record { runs = tt; each = λ t e. absurd (N_not_A e) }, no_wants net f p cs)
  where
    N_not_A : N ≡ A → ⊥
    N_not_A e = cc

-- a broker that starts from its log has a true view
pub started_true : (net : Net) (log : Log) (reached : ℕ → ℕ) (p b : ℕ) → (is_host net p b ≡ true → CutTrue net (facts log reached) p b log.cut) → ViewTrue net (facts log reached) p b (started net p b log)
unfolding started
started_true net log reached p b c = record {
  know = know_at (is_host net p b) refl;
  wants = no_wants net (facts log reached) p (net.children p b);
  asks = tt;
  horizon = record { settled = omega arith; here = λ s m. omega arith };
  held = held_at (is_host net p b);
}
  where
    know_at : (q : Bool) → is_host net p b ≡ q → KnowsTruth net (facts log reached) p b (if q then log_know log else [])
    know_at true e = KnowsTruth-by net (facts log reached) p b (log_at log) (log_know log) (log_know-is log) (λ t. log_true net log reached p b t e (c e))
    know_at false e = record { runs = tt; each = λ t. tt }

    Q_not_D : (e : Event) → Q ≡ D e → ⊥
    Q_not_D e q = cc

    held_at : (q : Bool) → Holds log.joins (if q then log.joins else []) (HasEvent (if q then log_know log else []))
    held_at true = own log.joins (HasEvent (log_know log))
    held_at false = record { rest = log.joins; front = refl; above = λ t x. absurd (Q_not_D x.0 x.1) }

-- a host that starts from its log knows each tick that is settled
pub started_known : (net : Net) (log : Log) (p b : ℕ) → is_host net p b ≡ true → HostKnows (started net p b log) log.settled
unfolding started
started_known net log p b host = λ t x y. rw host (λ e. log_knows log t x y (sym ((log_know-is log).same_at t) ∙ e))

-- and holds what its log does
pub started_holds : (net : Net) (log : Log) (p b : ℕ) → is_host net p b ≡ true → (started net p b log).joins ≡ log.joins
unfolding started
started_holds net log p b host = rw host refl

-- Brokers start again

no_one_here : (xs : List ℕ) (s : ℕ) → not_empty xs ≡ false → list_any (λ x. nat_eq x s) xs ≡ false
no_one_here [] s e = refl
no_one_here (x ∷ xs) s e = absurd (true≢false e)

pub record Restarts (net : Net) (w u : World) (b : ℕ) : Type 0 where
  pub no_one : not_empty (net.subscribers_at b) ≡ false
  pub here : (q : ℕ) → q < net.publishers → view_of u b q ≡ started net q b (log_of u q)
  pub other : (c q : ℕ) → c ≢ b → view_of u c q ≡ view_of w c q
  pub log_fits : (q : ℕ) → q < net.publishers → LogFits (log_of u q)
  pub settled : (q : ℕ) → q < net.publishers → (log_of w q).settled ≤ (log_of u q).settled
  pub said : (q t : ℕ) → q < net.publishers → t ≤ (log_of w q).settled → said_at (log_of u q).events t ≡ said_at (log_of w q).events t
  pub cut : (q : ℕ) → q < net.publishers → (log_of u q).cut ≡ (log_of w q).cut
  pub joined : (q : ℕ) → q < net.publishers → Grows (log_of w q).joins (log_of u q).joins (log_of w q).settled
  pub late : (q : ℕ) → q < net.publishers → all_late net (log_of u q).joins ≡ true
  pub elsewhere : (q : ℕ) → q < net.publishers → net.host q ≢ b → log_of u q ≡ log_of w q
  pub views_long : length u.views ≡ net.brokers
  pub rows_long : (c : ℕ) → c < net.brokers → length (get_or u.views c []) ≡ net.publishers
  pub logs_long : length u.logs ≡ net.publishers
  pub frames : u.frames ≡ w.frames

-- no subscriber is at a broker that starts again
restarts_lines : (net : Net) (w u : World) (b : ℕ) (ls : List Report) → IsNet net → WorldFits net w → Restarts net w u b → LinesFit net w ls → LinesFit net u ls
restarts_lines net w u b ls n f r m = record {
  got = λ q s x y. m.got q s x y ∙ (due_upto_same net q s (reached_in net w q s) (log_of w q).events (log_of u q).events (f.logs q x).rise (r.log_fits q x).rise
      (λ z h. sym (r.said q z x (le_trans (subst (λ k. z ≤ k) (reached_here net w q s y) h) (f.views q (net.at s) x y.at_in).horizon.settled)))
      ∙ ap (λ h. due_upto net q s h (log_of u q).events) (same q s y));
  horizon = λ q s x y. m.horizon q s x y ∙ same q s y;
  steady = m.steady;
  nothing = m.nothing;
}
  where
    not_there : (s : ℕ) → IsSubscriber net s → net.at s ≢ b
    not_there s y e = both_ways (list_any (λ x. nat_eq x s) (net.subscribers_at b)) (no_one_here (net.subscribers_at b) s r.no_one) (subst (λ z. list_any (λ x. nat_eq x s) (net.subscribers_at z) ≡ true) e y.here)

    same : (q s : ℕ) → IsSubscriber net s → reached_in net w q s ≡ reached_in net u q s
    same q s y = reached_here net w q s y ∙ (ap (λ v. v.horizon) (sym (r.other (net.at s) q (not_there s y))) ∙ sym (reached_here net u q s y))

restarts_kept : (net : Net) (w u : World) (b : ℕ) (more : List Report) → IsNet net → WorldFits net w → b < net.brokers → Restarts net w u b → Silent more → Kept net w (record { world = u; lines = more })
restarts_kept net w u b more n f i r silent =
    let l : (q : ℕ) → q < net.publishers → IsLater (facts_of net w q) (facts_of net u q) = λ q x. record {
      settled = r.settled q x;
      said = λ t y. r.said q t x y;
      reached = λ s. elim (cases_eq (net.at s) b) [
        | inl e ↦ subst (λ z. (if list_any (λ y. nat_eq y s) (net.subscribers_at z) then (view_of w z q).horizon else 0) ≤ (if list_any (λ y. nat_eq y s) (net.subscribers_at z) then (view_of u z q).horizon else 0)) (sym e) (rw (no_one_here (net.subscribers_at b) s r.no_one) (le_refl 0))
        | inr e ↦ if_le (list_any (λ y. nat_eq y s) (net.subscribers_at (net.at s))) (view_of w (net.at s) q).horizon (view_of u (net.at s) q).horizon (subst (λ v. (view_of w (net.at s) q).horizon ≤ v.horizon) (sym (r.other (net.at s) q e)) (le_refl (view_of w (net.at s) q).horizon))
      ];
      joined = r.joined q x;
    } in
    let cuts : (q : ℕ) → q < net.publishers → CutTrue net (facts_of net u q) q (net.host q) (log_of u q).cut = λ q x a y z. TrueF-later net (facts_of net w q) (facts_of net u q) q (net.host q) a (l q x) (f.cuts q x a y (subst (λ m. a ≤ m) (r.cut q x) z)) in
    record {
      fits = record {
        views_long = r.views_long;
        rows_long = r.rows_long;
        logs_long = r.logs_long;
        views = λ q c x y. elim (cases_eq c b) [
          | inl e ↦ subst (λ z. ViewTrue net (facts_of net u q) q z (view_of u z q)) (sym e) (subst (λ v. ViewTrue net (facts_of net u q) q b v) (sym (r.here q x)) (started_true net (log_of u q) (reached_in net u q) q b (λ h. subst (λ z. CutTrue net (facts_of net u q) q z (log_of u q).cut) (eqb-true (net.host q) b h) (cuts q x))))
          | inr e ↦ subst (λ v. ViewTrue net (facts_of net u q) q c v) (sym (r.other c q e)) (ViewTrue-later net (facts_of net w q) (facts_of net u q) q c (view_of w c q) (l q x) (f.views q c x y))
        ];
        logs = r.log_fits;
        late = r.late;
        hosts = λ q x. elim (cases_eq (net.host q) b) [
          | inl e ↦ subst (λ z. (view_of u z q).joins ≡ (log_of u q).joins) (sym e) (ap (λ v. v.joins) (r.here q x) ∙ started_holds net (log_of u q) q b (eq-eqb (net.host q) b e))
          | inr e ↦ ap (λ v. v.joins) (r.other (net.host q) q e) ∙ (f.hosts q x ∙ sym (ap (λ l. l.joins) (r.elsewhere q x e)))
        ];
        known = λ q x. elim (cases_eq (net.host q) b) [
          | inl e ↦ subst (λ z. HostKnows (view_of u z q) (log_of u q).settled) (sym e) (subst (λ v. HostKnows v (log_of u q).settled) (sym (r.here q x)) (started_known net (log_of u q) q b (eq-eqb (net.host q) b e)))
          | inr e ↦ subst (λ v. HostKnows v (log_of u q).settled) (sym (r.other (net.host q) q e)) (subst (λ m. HostKnows (view_of w (net.host q) q) m.settled) (sym (r.elsewhere q x e)) (f.known q x))
        ];
        cuts = cuts;
        frames = subst (λ z. AllFramesTrue net u z) (sym r.frames) (frames_later net w u w.frames l f.frames);
      };
      later = l;
      lines = λ ls m. silent_lines net u ls more silent (restarts_lines net w u b ls n f r m);
    }

-- the one at a place of what is made of a range of numbers is what is made of the number there
pub get_numbers : {X : Type 0} (g : ℕ → X) (a n i : ℕ) (d : X) → i < n → get_or (map g (numbers_from a n)) i d ≡ g (a + i)
get_numbers g a zero i d h = absurd (omega arith)
get_numbers g a (suc n) zero d h = ap g (omega arith)
get_numbers g a (suc n) (suc i) d h = get_numbers g (suc a) n i d (omega arith) ∙ ap g (omega arith)

-- as many are made of a range of numbers as it has
pub length_numbers : {X : Type 0} (g : ℕ → X) (a n : ℕ) → length (map g (numbers_from a n)) ≡ n
length_numbers g a zero = refl
length_numbers g a (suc n) = ap suc (length_numbers g (suc a) n)

-- a broker starts again over logs
pub restarted_is : (net : Net) (w : World) (logs : List Log) (b : ℕ) → WorldFits net w → b < net.brokers → not_empty (net.subscribers_at b) ≡ false →
    ((q : ℕ) → q < net.publishers → LogFits (get_or logs q empty_log)) →
    ((q : ℕ) → q < net.publishers → (log_of w q).settled ≤ (get_or logs q empty_log).settled) →
    ((q t : ℕ) → q < net.publishers → t ≤ (log_of w q).settled → said_at (get_or logs q empty_log).events t ≡ said_at (log_of w q).events t) →
    ((q : ℕ) → q < net.publishers → (get_or logs q empty_log).cut ≡ (log_of w q).cut) →
    ((q : ℕ) → q < net.publishers → (get_or logs q empty_log).joins ≡ (log_of w q).joins) →
    ((q : ℕ) → q < net.publishers → net.host q ≢ b → get_or logs q empty_log ≡ log_of w q) →
    length logs ≡ net.publishers →
    Restarts net w (restarted net (record { clock = w.clock; most = w.most; frames = w.frames; views = w.views; logs = logs }) b) b
unfolding restarted
restarted_is net w logs b f i no_one fits settled said cut joined elsewhere long =
    let h : b < length w.views = omega (arith, f.views_long) in
    let g : ℕ → View = λ p. started net p b (get_or logs p empty_log) in
    record {
      no_one = no_one;
      here = λ q x. ap (λ row. get_or row q blank_view) (get_or-set_same w.views b (map g (numbers net.publishers)) [] h) ∙ (get_numbers g 0 net.publishers q blank_view x ∙ ap g (omega arith));
      other = λ c q n. ap (λ row. get_or row q blank_view) (get_or-set_other w.views b c (map g (numbers net.publishers)) [] n);
      log_fits = fits;
      settled = settled;
      said = said;
      cut = cut;
      joined = λ q x. subst (λ z. Grows (log_of w q).joins z (log_of w q).settled) (sym (joined q x)) (grows_not (log_of w q).joins (log_of w q).settled);
      late = λ q x. ap (all_late net) (joined q x) ∙ f.late q x;
      elsewhere = elsewhere;
      views_long = length-set w.views b (map g (numbers net.publishers)) ∙ f.views_long;
      rows_long = λ c x. elim (cases_eq c b) [
        | inl e ↦ subst (λ z. length (get_or (set w.views b (map g (numbers net.publishers))) z []) ≡ net.publishers) (sym e) (ap length (get_or-set_same w.views b (map g (numbers net.publishers)) [] h) ∙ length_numbers g 0 net.publishers)
        | inr e ↦ ap length (get_or-set_other w.views b c (map g (numbers net.publishers)) [] e) ∙ f.rows_long c x
      ];
      logs_long = long;
      frames = refl;
    }

opened_silent : (net : Net) (logs : List Log) (b : ℕ) → Silent (opened_lines net logs b)
unfolding opened_lines
opened_silent net logs b s q = go (numbers net.publishers)
  where
    one : (p : ℕ) (c : Bool) → Neutral s q (let log = get_or logs p empty_log in if c then line.Opened p log.last log.settled log.cut ∷ [] else [])
    one p true = record { got = refl; horizon = λ n. refl; steady = λ n. refl }
    one p false = Neutral-nil s q

    go : (ps : List ℕ) → Neutral s q (flat_map (λ p. let log = get_or logs p empty_log in if nat_eq (net.host p) b && nat_lt 0 log.settled then line.Opened p log.last log.settled log.cut ∷ [] else []) ps)
    go [] = Neutral-nil s q
    go (p ∷ ps) = Neutral-append s q _ _ (one p (nat_eq (net.host p) b && nat_lt 0 (get_or logs p empty_log).settled)) (go ps)

-- a silent line on top
silent_on : (l : Report) (ls : List Report) → Silent (l ∷ []) → Silent ls → Silent (l ∷ ls)
silent_on l ls a b s q = Neutral-append s q (l ∷ []) ls (a s q) (b s q)

-- the crash of a broker without subscribers keeps the world fitting
pub crash_kept : (net : Net) (w : World) (b : ℕ) → IsNet net → WorldFits net w → b < net.brokers → not_empty (net.subscribers_at b) ≡ false → Kept net w (crash net w b)
unfolding crash
crash_kept net w b n f i no_one = restarts_kept net w (restarted net w b) b (line.Crashed b ∷ opened_lines net w.logs b) n f i (restarted_is net w w.logs b f i no_one f.logs (λ q x. le_refl (log_of w q).settled) (λ q t x y. refl) (λ q x. refl) (λ q x. refl) (λ q x e. refl) f.logs_long) (silent_on (line.Crashed b) (opened_lines net w.logs b) (λ s q. record { got = refl; horizon = λ n. refl; steady = λ n. refl }) (opened_silent net w.logs b))

-- the record of a stopped publish stands, and the host starts again
kept_restart : (net : Net) (w : World) (p tick : ℕ) (e : Event) (more : List Report) → Silent more → IsNet net → WorldFits net w → p < net.publishers → not_empty (net.subscribers_at (net.host p)) ≡ false → (log_of w p).settled < tick →
    Kept net w (record { world = restarted net (record { clock = w.clock; most = w.most; frames = w.frames; views = w.views; logs = set w.logs p (with_event (log_of w p) tick e) }) (net.host p); lines = more })
kept_restart net w p tick e more silent n f j no_one l =
    let new = with_event (log_of w p) tick e in
    let here : get_or (set w.logs p new) p empty_log ≡ new = get_or-set_same w.logs p new empty_log (omega (arith, f.logs_long)) in
    let there : (q : ℕ) → q ≢ p → get_or (set w.logs p new) q empty_log ≡ log_of w q = λ q x. get_or-set_other w.logs p q new empty_log x in
    restarts_kept net w (restarted net (record { clock = w.clock; most = w.most; frames = w.frames; views = w.views; logs = set w.logs p new }) (net.host p)) (net.host p) more n f (n.host_in p j)
    (restarted_is net w (set w.logs p new) (net.host p) f (n.host_in p j) no_one
    (λ q x. elim (cases_eq q p) [
      | inl g ↦ subst (λ z. LogFits (get_or (set w.logs p new) z empty_log)) (sym g) (subst LogFits (sym here) (with_event_fits (log_of w p) tick e (f.logs p j) l))
      | inr g ↦ subst LogFits (sym (there q g)) (f.logs q x)
    ])
    (λ q x. elim (cases_eq q p) [
      | inl g ↦ subst (λ z. (log_of w z).settled ≤ (get_or (set w.logs p new) z empty_log).settled) (sym g) (subst (λ m. (log_of w p).settled ≤ m.settled) (sym here) (omega arith))
      | inr g ↦ subst (λ m. (log_of w q).settled ≤ m.settled) (sym (there q g)) (le_refl (log_of w q).settled)
    ])
    (λ q t x y. elim (cases_eq q p) [
      | inl g ↦ subst (λ z. said_at (get_or (set w.logs p new) z empty_log).events t ≡ said_at (log_of w z).events t) (sym g) (ap (λ m. said_at m.events t) here ∙ said_more (log_of w p).events tick t e (λ h. absurd (later_tick q t g y h)))
      | inr g ↦ ap (λ m. said_at m.events t) (there q g)
    ])
    (λ q x. elim (cases_eq q p) [
      | inl g ↦ subst (λ z. (get_or (set w.logs p new) z empty_log).cut ≡ (log_of w z).cut) (sym g) (ap (λ m. m.cut) here)
      | inr g ↦ ap (λ m. m.cut) (there q g)
    ])
    (λ q x. elim (cases_eq q p) [
      | inl g ↦ subst (λ z. (get_or (set w.logs p new) z empty_log).joins ≡ (log_of w z).joins) (sym g) (ap (λ m. m.joins) here)
      | inr g ↦ ap (λ m. m.joins) (there q g)
    ])
    (λ q x g. there q (λ h. g (ap net.host h)))
    (length-set w.logs p new ∙ f.logs_long)) silent
  where
    later_tick : (q t : ℕ) → q ≡ p → t ≤ (log_of w q).settled → t ≡ tick → ⊥
    later_tick q t g y h = omega (arith, subst (λ z. t ≤ (log_of w z).settled) g y)

-- a stopped publish keeps the world fitting
pub publish_stopped_kept : (net : Net) (w : World) (k p number : ℕ) (stop : Stop) (e : Event) → IsNet net → WorldFits net w → p < net.publishers → Kept net w (publish_stopped net w k p number stop e)
unfolding publish_stopped_by
publish_stopped_kept net w k p number stop e n f j = host_at (not_empty (net.subscribers_at (net.host p))) refl
  where
    log : Log
    log = log_of w p

    tick : ℕ
    tick = max (suc log.settled) w.clock

    kept : Bool
    kept = is_kept (log.size - 1) stop.call stop.pick

    logs : List Log
    logs = if kept then set w.logs p (with_event log tick e) else w.logs

    u : World
    u = record { clock = w.clock; most = w.most; frames = w.frames; views = w.views; logs = logs }

    stopped : Transition
    stopped = record {
      world = restarted net u (net.host p);
      lines = line.Crashed (net.host p) ∷ ((if kept then line.Kept p number tick else line.Lost p number tick) ∷ opened_lines net logs (net.host p));
    }

    told : Bool → List Log → List Report
    told q l = line.Crashed (net.host p) ∷ ((if q then line.Kept p number tick else line.Lost p number tick) ∷ opened_lines net l (net.host p))

    word_silent : (q : Bool) (l : List Log) → Silent (told q l)
    word_silent true l = silent_on (line.Crashed (net.host p)) _ (λ s q. record { got = refl; horizon = λ n. refl; steady = λ n. refl }) (silent_on (line.Kept p number tick) _ (λ s q. record { got = refl; horizon = λ n. refl; steady = λ n. refl }) (opened_silent net l (net.host p)))
    word_silent false l = silent_on (line.Crashed (net.host p)) _ (λ s q. record { got = refl; horizon = λ n. refl; steady = λ n. refl }) (silent_on (line.Lost p number tick) _ (λ s q. record { got = refl; horizon = λ n. refl; steady = λ n. refl }) (opened_silent net l (net.host p)))

    restart_at : (q : Bool) → not_empty (net.subscribers_at (net.host p)) ≡ false → (let l : List Log = if q then set w.logs p (with_event log tick e) else w.logs in Kept net w (record { world = restarted net (record { clock = w.clock; most = w.most; frames = w.frames; views = w.views; logs = l }) (net.host p); lines = told q l }))
    restart_at true no_one = kept_restart net w p tick e (told true (set w.logs p (with_event log tick e))) (word_silent true (set w.logs p (with_event log tick e))) n f j no_one (omega arith)
    restart_at false no_one = restarts_kept net w (restarted net w (net.host p)) (net.host p) (told false w.logs) n f (n.host_in p j) (restarted_is net w w.logs (net.host p) f (n.host_in p j) no_one f.logs (λ q x. le_refl (log_of w q).settled) (λ q t x y. refl) (λ q x. refl) (λ q x. refl) (λ q x g. refl) f.logs_long) (word_silent false w.logs)

    number_at : (q : Bool) → not_empty (net.subscribers_at (net.host p)) ≡ false → Kept net w (elim q [ false ↦ publish_now net w p number e | true ↦ stopped ])
    number_at false no_one = publish_kept net w p number e n f j
    number_at true no_one = restart_at kept no_one

    host_at : (q : Bool) → not_empty (net.subscribers_at (net.host p)) ≡ q → Kept net w (elim q [ true ↦ unchanged w (line.RefusedHosts k (net.host p) ∷ []) | false ↦ elim (nat_eq number (suc log.last) && nat_le tick max_tick) [ false ↦ publish_now net w p number e | true ↦ stopped ] ])
    host_at true h = Kept-still net w _ f (λ s q. record { got = refl; horizon = λ n. refl; steady = λ n. refl })
    host_at false h = number_at (nat_eq number (suc log.last) && nat_le tick max_tick) h

-- a world with another clock
pub clocked_fits : (net : Net) (w : World) (clock most : ℕ) → WorldFits net w → WorldFits net (record { clock = clock; most = most; frames = w.frames; views = w.views; logs = w.logs })
clocked_fits net w clock most f = record { views_long = f.views_long; rows_long = f.rows_long; logs_long = f.logs_long; views = f.views; logs = f.logs; late = f.late; hosts = f.hosts; known = f.known; cuts = f.cuts; frames = frames_later net w (record { clock = clock; most = most; frames = w.frames; views = w.views; logs = w.logs }) w.frames (λ q x. same q) f.frames }
  where
    same : (q : ℕ) → IsLater (facts_of net w q) (facts_of net (record { clock = clock; most = most; frames = w.frames; views = w.views; logs = w.logs }) q)
    same q = record { settled = le_refl (log_of w q).settled; said = λ t y. refl; reached = λ s. le_refl (reached_in net w q s); joined = grows_not (log_of w q).joins (log_of w q).settled }

from_clock : (net : Net) (w : World) (clock most : ℕ) (t : Transition) → Kept net (record { clock = clock; most = most; frames = w.frames; views = w.views; logs = w.logs }) t → Kept net w t
from_clock net w clock most t k = record { fits = k.fits; later = k.later; lines = λ ls l. k.lines ls (record { got = l.got; horizon = l.horizon; steady = l.steady; nothing = l.nothing }) }

-- a sweep keeps the world fitting
pub sweep_kept : (net : Net) (w : World) (k : ℕ) → IsNet net → WorldFits net w → Kept net w (sweep net w k)
unfolding sweep_by
sweep_kept net w k n f = go (nat_lt max_tick m)
  where
    m : ℕ
    m = sweep_moment net w

    u : World
    u = record { clock = m; most = max m w.most; frames = w.frames; views = w.views; logs = w.logs }

    go : (q : Bool) → Kept net w (elim q [ true ↦ unchanged w (line.RefusedClock k m ∷ []) | false ↦ followed_by (in_turn (sweep_for net) (numbers net.publishers) u) (λ x. unchanged x (line.Swept m ∷ [])) ])
    go true = Kept-still net w (line.RefusedClock k m ∷ []) f (λ s q. record { got = refl; horizon = λ n. refl; steady = λ n. refl })
    go false =
        let swept = in_turn_kept net (λ x p. p < net.publishers) (sweep_for net) (λ x y p l h. h) (λ x p g h. sweep_for_kept net x p n g h) (numbers net.publishers) u (clocked_fits net w m (max m w.most) f) (numbers_below 0 net.publishers net.publishers (omega arith)) in
        from_clock net w m (max m w.most) (followed_by (in_turn (sweep_for net) (numbers net.publishers) u) (λ x. unchanged x (line.Swept m ∷ [])))
        (Kept-after net u (in_turn (sweep_for net) (numbers net.publishers) u) (λ x. unchanged x (line.Swept m ∷ [])) swept (Kept-still net (in_turn (sweep_for net) (numbers net.publishers) u).world (line.Swept m ∷ []) swept.fits (λ s q. record { got = refl; horizon = λ n. refl; steady = λ n. refl })))

show_silent : (net : Net) (w : World) → Silent (show net w)
unfolding show
show_silent net w s q = Neutral-append s q (line.Frames (length w.frames) ∷ []) _ (record { got = refl; horizon = λ n. refl; steady = λ n. refl }) (Neutral-append s q _ _ (logs (numbers net.publishers)) (brokers (numbers net.brokers)))
  where
    logs : (ps : List ℕ) → Neutral s q (map (λ p. let l = log_of w p in line.LogOf p l.last l.settled l.cut (kept_events l)) ps)
    logs [] = Neutral-nil s q
    logs (p ∷ ps) = Neutral-append s q (line.LogOf p (log_of w p).last (log_of w p).settled (log_of w p).cut (kept_events (log_of w p)) ∷ []) _ (record { got = refl; horizon = λ n. refl; steady = λ n. refl }) (logs ps)

    one : (b p : ℕ) (c : Bool) → Neutral s q (if c then line.Doubt b p (view_of w b p).horizon ∷ [] else [])
    one b p true = record { got = refl; horizon = λ n. refl; steady = λ n. refl }
    one b p false = Neutral-nil s q

    row : (b : ℕ) (ps : List ℕ) → Neutral s q (flat_map (λ p. if keeps_horizon net p b then line.Doubt b p (view_of w b p).horizon ∷ [] else []) ps)
    row b [] = Neutral-nil s q
    row b (p ∷ ps) = Neutral-append s q _ _ (one b p (keeps_horizon net p b)) (row b ps)

    brokers : (bs : List ℕ) → Neutral s q (flat_map (λ b. flat_map (λ p. if keeps_horizon net p b then line.Doubt b p (view_of w b p).horizon ∷ [] else []) (numbers net.publishers)) bs)
    brokers [] = Neutral-nil s q
    brokers (b ∷ bs) = Neutral-append s q _ _ (row b (numbers net.publishers)) (brokers bs)

-- Steps and schedules

frame_of : (net : Net) (w : World) (fs : List Frame) (k : ℕ) (f : Frame) → AllFramesTrue net w fs → slice_get fs k ≡ Some f → FrameTrue net w f
frame_of net w [] k f a e = absurd (none_some f e)
  where
    none_some : (f : Frame) → None ≡ Some f → ⊥
    none_some f e = cc
frame_of net w (x ∷ xs) zero f a e = subst (λ y. FrameTrue net w y) (some_some x f e) a.0
  where
    some_some : (x f : Frame) → Some x ≡ Some f → x ≡ f
    some_some x f e = cc
frame_of net w (x ∷ xs) (suc k) f a e = frame_of net w xs k f a.1 e

-- the frame with a number is one that was sent, so what it says is true
pub frame_at_true : (net : Net) (w : World) (k : ℕ) (f : Frame) → WorldFits net w → frame_at w k ≡ Some f → FrameTrue net w f
frame_at_true net w zero f g e = absurd (none_some f e)
  where
    none_some : (f : Frame) → None ≡ Some f → ⊥
    none_some f e = cc
frame_at_true net w (suc k) f g e = frame_of net w w.frames k f g.frames e

-- each step keeps the world fitting, and only goes on from its facts
pub next_kept : (net : Net) (w : World) (l : Line) → IsNet net → WorldFits net w → StepIn net l.step → Kept net w (next net w l)
unfolding next_by
next_kept net w l n f i = go l.step i
  where
    delivered : (k : ℕ) (o : Option Frame) → frame_at w k ≡ o → Kept net w (elim o [ None ↦ unchanged w (line.RefusedFrame l.number k (length w.frames) ∷ []) | Some x ↦ deliver_frame net w x ])
    delivered k None e = Kept-still net w _ f (λ s q. record { got = refl; horizon = λ n. refl; steady = λ n. refl })
    delivered k (Some x) e = deliver_kept net w x n f (frame_at_true net w k x f e)

    bytes_at : (k : ℕ) (o : Option Frame) → Kept net w (elim o [ None ↦ unchanged w (line.RefusedFrame l.number k (length w.frames) ∷ []) | Some x ↦ unchanged w (line.BytesOf k (frame_bytes x) ∷ []) ])
    bytes_at k None = Kept-still net w _ f (λ s q. record { got = refl; horizon = λ n. refl; steady = λ n. refl })
    bytes_at k (Some x) = Kept-still net w _ f (λ s q. record { got = refl; horizon = λ n. refl; steady = λ n. refl })

    crashed : (b : ℕ) (q : Bool) → b < net.brokers → not_empty (net.subscribers_at b) ≡ q → Kept net w (elim q [ true ↦ unchanged w (line.RefusedHosts l.number b ∷ []) | false ↦ crash net w b ])
    crashed b true h e = Kept-still net w _ f (λ s q. record { got = refl; horizon = λ n. refl; steady = λ n. refl })
    crashed b false h e = crash_kept net w b n f h e

    published : (p number : ℕ) (stop : Option Stop) (e : Event) → p < net.publishers → Kept net w (elim stop [ None ↦ publish_now net w p number e | Some s ↦ publish_stopped net w l.number p number s e ])
    published p number None e h = publish_kept net w p number e n f h
    published p number (Some s) e h = publish_stopped_kept net w l.number p number s e n f h

    go : (s : Step) → StepIn net s → Kept net w (elim s [
      | step.Clock now ↦ unchanged (record { clock = now; most = max now w.most; frames = w.frames; views = w.views; logs = w.logs }) []
      | step.Publish p number stop e ↦ elim stop [ None ↦ publish_now net w p number e | Some s ↦ publish_stopped net w l.number p number s e ]
      | step.Wake b ↦ wake_all net w b
      | step.Deliver k ↦ elim (frame_at w k) [ None ↦ unchanged w (line.RefusedFrame l.number k (length w.frames) ∷ []) | Some f ↦ deliver_frame net w f ]
      | step.Crash b ↦ elim (not_empty (net.subscribers_at b)) [ true ↦ unchanged w (line.RefusedHosts l.number b ∷ []) | false ↦ crash net w b ]
      | step.Sweep ↦ sweep net w l.number
      | step.Join s p ↦ join_now net w s p
      | step.Show ↦ unchanged w (show net w)
      | step.Bytes k ↦ elim (frame_at w k) [ None ↦ unchanged w (line.RefusedFrame l.number k (length w.frames) ∷ []) | Some f ↦ unchanged w (line.BytesOf k (frame_bytes f) ∷ []) ]
    ])
    go (step.Clock now) h = from_clock net w now (max now w.most) (unchanged (record { clock = now; most = max now w.most; frames = w.frames; views = w.views; logs = w.logs }) []) (Kept-refl net (record { clock = now; most = max now w.most; frames = w.frames; views = w.views; logs = w.logs }) (clocked_fits net w now (max now w.most) f))
    go (step.Publish p number stop e) h = published p number stop e h
    go (step.Wake b) h = wake_all_kept net w b n f h
    go (step.Deliver k) h = delivered k (frame_at w k) refl
    go (step.Crash b) h = crashed b (not_empty (net.subscribers_at b)) h refl
    go step.Sweep h = sweep_kept net w l.number n f
    go (step.Join s p) h = join_kept net w s p n f h.0 h.1
    go step.Show h = Kept-still net w (show net w) f (show_silent net w)
    go (step.Bytes k) h = bytes_at k (frame_at w k)

-- The start, and every schedule

empty_fits : LogFits empty_log
empty_fits = record { rise = tt; past = λ t x. refl; cut = le_refl 0; keeps = refl }

-- at the start each view is that of a broker that starts from an empty log
pub start_is : (net : Net) (b q : ℕ) → b < net.brokers → q < net.publishers → view_of (start net) b q ≡ started net q b empty_log
unfolding start_by
start_is net b q i j =
    let g : ℕ → ℕ → View = λ c p. started net p c empty_log in
    ap (λ row. get_or row q blank_view) (get_numbers (λ c. map (g c) (numbers net.publishers)) 0 net.brokers b [] i)
    ∙ (get_numbers (g (0 + b)) 0 net.publishers q blank_view j ∙ ap₂ (λ c p. started net p c empty_log) (omega arith) (omega arith))

-- at the start each log is empty
pub start_log : (net : Net) (q : ℕ) → q < net.publishers → log_of (start net) q ≡ empty_log
unfolding start_by
start_log net q j = get_numbers (λ p. empty_log) 0 net.publishers q empty_log j

record StartShape (net : Net) : Type 0 where
  views_long : length (start net).views ≡ net.brokers
  rows_long : (b : ℕ) → b < net.brokers → length (get_or (start net).views b []) ≡ net.publishers
  logs_long : length (start net).logs ≡ net.publishers
  frames : (start net).frames ≡ []

start_shape : (net : Net) → StartShape net
unfolding start_by
start_shape net =
    let g : ℕ → ℕ → View = λ c p. started net p c empty_log in
    record {
      views_long = length_numbers (λ c. map (g c) (numbers net.publishers)) 0 net.brokers;
      rows_long = λ b i. ap length (get_numbers (λ c. map (g c) (numbers net.publishers)) 0 net.brokers b [] i) ∙ length_numbers (g (0 + b)) 0 net.publishers;
      logs_long = length_numbers (λ p. empty_log) 0 net.publishers;
      frames = refl;
    }

-- the world at the start fits
pub start_fits : (net : Net) → IsNet net → WorldFits net (start net)
start_fits net n =
    let s = start_shape net in
    let cut_at : (q b : ℕ) → q < net.publishers → CutTrue net (facts_of net (start net) q) q b (log_of (start net) q).cut = λ q b x t y z. absurd (omega (arith, y, subst (λ m. t ≤ m.cut) (start_log net q x) z)) in
    record {
      views_long = s.views_long;
      rows_long = s.rows_long;
      logs_long = s.logs_long;
      views = λ q b x y. subst (λ v. ViewTrue net (facts_of net (start net) q) q b v) (sym (start_is net b q y x ∙ ap (started net q b) (sym (start_log net q x)))) (started_true net (log_of (start net) q) (reached_in net (start net) q) q b (λ h. cut_at q b x));
      logs = λ q x. subst LogFits (sym (start_log net q x)) empty_fits;
      late = λ q x. ap (λ m. all_late net m.joins) (start_log net q x);
      hosts = λ q x. ap (λ v. v.joins) (start_is net (net.host q) q (n.host_in q x) x) ∙ (started_holds net empty_log q (net.host q) (eq-eqb (net.host q) (net.host q) refl) ∙ sym (ap (λ m. m.joins) (start_log net q x)));
      known = λ q x. subst (λ m. HostKnows (view_of (start net) (net.host q) q) m.settled) (sym (start_log net q x)) (λ t y z. absurd (omega (arith, y, z)));
      cuts = λ q x. cut_at q (net.host q) x;
      frames = subst (λ z. AllFramesTrue net (start net) z) (sym s.frames) tt;
    }

pub run_kept : (net : Net) (w : World) (ls : List Line) → IsNet net → WorldFits net w → StepsIn net ls → Kept net w (run_all net w ls)
run_kept net w [] n f i = Kept-refl net w f
run_kept net w (l ∷ ls) n f i =
    let k = next_kept net w l n f i.0 in
    Kept-after net w (next net w l) (λ u. run_all net u ls) k (run_kept net (next net w l).world ls n k.fits i.1)

-- whatever the schedule: all that is known, sent and acknowledged is true
pub always_true : (net : Net) (ls : List Line) → IsNet net → StepsIn net ls → WorldFits net (run_all net (start net) ls).world
always_true net ls n i = (run_kept net (start net) ls n (start_fits net n) i).fits

-- the lines of the report are those of the run
pub report_lines : (net : Net) (w : World) (ls : List Line) → flat_map (λ x. x) (run_from net w ls) ≡ (run_all net w ls).lines
unfolding run_from_by
report_lines net w [] = refl
report_lines net w (l ∷ ls) = ap (λ z. (next net w l).lines ++ z) (report_lines net (next net w l).world ls)

nothing_due : (net : Net) (p s : ℕ) (events : List (ℕ × Event)) → events ≡ [] → due_upto net p s 0 events ≡ []
nothing_due net p s events e = ap (due_upto net p s 0) e

start_reached : (net : Net) (p s : ℕ) → p < net.publishers → IsSubscriber net s → reached_in net (start net) p s ≡ 0
unfolding started
start_reached net p s j y = reached_here net (start net) p s y ∙ ap (λ v. v.horizon) (start_is net (net.at s) p y.at_in j)

-- at the start no line has told anything, and nothing is reached
pub start_lines : (net : Net) → LinesFit net (start net) []
start_lines net = record {
  got = λ p s j y. sym (ap₂ (λ h l. due_upto net p s h l.events) (start_reached net p s j y) (start_log net p j));
  horizon = λ p s j y. sym (start_reached net p s j y);
  steady = λ p s j y. refl;
  nothing = λ p s n j. refl;
}

-- over every schedule each subscriber got what is due up to its horizon
pub lines_always : (net : Net) (ls : List Line) → IsNet net → StepsIn net ls → LinesFit net (run_all net (start net) ls).world (run_all net (start net) ls).lines
lines_always net ls n i = (run_kept net (start net) ls n (start_fits net n) i).lines [] (start_lines net)
