-- Each call of a broker obeys its rule
use Rattle.std.proofs.Common.{◌≡◌, ◌≢◌, ◌⊎◌, inl, inr, ⊎_elim, ℕ, suc, ◌-◌, ◌≤◌, Bool, true, false, not, ◌&&◌, ◌||◌, List, [], ◌∷◌, ◌++◌, length, set, get_or, refl, sym, ap, ap₂, ◌∙◌, subst, arith, append-nil, le_refl}
use Rattle.std.specs.Prelude.{zero, nat_eq, nat_le, nat_lt, if◌then◌else◌, filter, flat_map}
use Rattle.std.specs.List.{list_any, list_all}
use Rattle.std.proofs.lemmas.List.{get_or-set_other}
use Rattle.std.proofs.lemmas.Bool.{and_parts, cases_Bool, cases_lt, cases_eq, false≢true, both_ways, or_left, or_right, eq-eqb, eqb-true, leb-true, le-leb, lt-leb, lt-ltb, le-ltb}
use Rattle.gr_know.specs.declared.values.K.{K}
use Rattle.gr_know.specs.declared.values.K.TheVariants.{Q, S, D, F}
use Rattle.gr_curio.specs.declared.values.Q3.{Q3}
use Rattle.gr_curio.specs.declared.values.Q3.TheVariants.{N, C, A}
use Rattle.gr_curio.specs.declared.asks.Moment.TheVariants.{Never, At}
use Rattle.gr_frame.specs.declared.Frame.{Frame}
use Rattle.gr_tick.specs.Runs.{AreRuns, IsNone, first_bottom_from, zip_runs, points}
use Rattle.gr_know.specs.Values.{Known, known_at, is_Q, join_K, same_K}
use Rattle.gr_curio.specs.Values.{Wanted, wanted_at, asked_at, is_C, is_A, is_outstanding}
use Rattle.gr_event.specs.Joins.{Joins}
use Rattle.gr_model.specs.Net.{Net, is_host, keeps_horizon, pass, wanted_below}
use Rattle.gr_model.specs.Broker.{View, Log, know_frames, expect_frame, is_consolidated_by, any_C, all_points, consolidated, finished, is_F, kept_view, horizon_after, data_ticks, delivery_lines, new_ticks, forward, still_wanted, forward_frames, forward_wants, learn, due, noted, upward, acknowledged, answer, answers, curious, stored, curiosity, asking, covers, expect_frames, expect, wake_below, wanted_at_wake, place_of}
use Rattle.gr_model.specs.Tree.{IsDistinct}
use Rattle.gr_model_calls.specs.Rules.{IsView, IsChild, wants_from, want_at, Moves, Forgets, Knows, event_of, DeliversOn, NewTicks, ChildAsks, Asks, wanted_by_age, SendsExpect, Expects}
use Rattle.gr_tick.proofs.RunLaws.{AreRunsOf, first_bottom_from-is, value_at-step}
use Rattle.gr_model_calls.proofs.calls.Told.{data_ticks_rise, data_ticks_in, data_ticks_out}
use Rattle.gr_model_calls.proofs.calls.CallTruth.{AllWantRuns, set_runs, forward_runs, done-is, IsWanted, A_is, expect_wanted, new_ticks-is, forward-is, quenched-is, finished-is, joined-is, learned_horizon}
use Rattle.gr_model_calls.proofs.asks.CallTicks.{IsTrimmed, trimmed-is, due-at, noted-at, upward-at, wake_wanted, wake_points}
use Rattle.gr_model_calls.proofs.rules.Answering.{SameLength, long_of, set_here, place_apart, acknowledged-is, answers-is, stored-is, curiosity_wanted, not_consolidated}
use Rattle.gr_model_calls.proofs.rules.Views.{apart, wants_runs, long_as}
use Rattle.gr_model_calls.proofs.rules.Forgetting.{forgets_by}

-- One child after another

-- what is made of each child and what is stored of it
abbrev by_turn : (ℕ → Wanted → List Frame) → List ℕ → List Wanted → List Frame
by_turn g [] ws = []
by_turn g (c ∷ cs) [] = []
by_turn g (c ∷ cs) (w ∷ ws) = g c w ++ by_turn g cs ws

-- frames made child by child are the same where they are the same for each child
pub flat_map_same : (f g : ℕ → List Frame) (cs : List ℕ) → ((d : ℕ) → list_any (λ x. nat_eq x d) cs ≡ true → f d ≡ g d) → flat_map f cs ≡ flat_map g cs
flat_map_same f g [] h = refl
flat_map_same f g (c ∷ cs) h = ap₂ (λ x y. x ++ y) (h c (or_left (nat_eq c c) (list_any (λ x. nat_eq x c) cs) (eq-eqb c c refl))) (flat_map_same f g cs (λ d m. h d (or_right (nat_eq c d) (list_any (λ x. nat_eq x d) cs) m)))

turns_by_child : (g : ℕ → Wanted → List Frame) (cs : List ℕ) (ws : List Wanted) → SameLength cs ws → IsDistinct cs → by_turn g cs ws ≡ flat_map (λ c. g c (get_or ws (place_of c cs) [])) cs
turns_by_child g [] ws l d = refl
turns_by_child g (c ∷ cs) [] l d = absurd l
turns_by_child g (c ∷ cs) (w ∷ ws) l d =
    ap₂ (λ x y. x ++ y) (ap (λ q. g c (get_or (w ∷ ws) (if q then 0 else suc (place_of c cs)) [])) (sym (eq-eqb c c refl)))
    (turns_by_child g cs ws l d.1 ∙ flat_map_same (λ x. g x (get_or ws (place_of x cs) [])) (λ x. g x (get_or (w ∷ ws) (place_of x (c ∷ cs)) [])) cs
    (λ x m. ap (λ q. g x (get_or (w ∷ ws) (if q then 0 else suc (place_of x cs)) [])) (sym (apart c x cs d.0 m))))

forwarded_by_turn : (js : Joins) (net : Net) (p b : ℕ) (new : Known) (cs : List ℕ) (ws : List Wanted) → forward_frames js net p b new cs ws ≡ by_turn (λ c w. know_frames js b c p (forward net p c w new)) cs ws
forwarded_by_turn js net p b new [] ws = refl
forwarded_by_turn js net p b new (c ∷ cs) [] = refl
forwarded_by_turn js net p b new (c ∷ cs) (w ∷ ws) = ap (λ x. know_frames js b c p (forward net p c w new) ++ x) (forwarded_by_turn js net p b new cs ws)

expected_by_turn : (p b tick : ℕ) (cs : List ℕ) (ws : List Wanted) → expect_frames p b tick cs ws ≡ by_turn (λ c w. if covers w tick then [] else expect_frame b c p tick ∷ []) cs ws
expected_by_turn p b tick [] ws = refl
expected_by_turn p b tick (c ∷ cs) [] = refl
expected_by_turn p b tick (c ∷ cs) (w ∷ ws) = ap (λ x. (if covers w tick then [] else expect_frame b c p tick ∷ []) ++ x) (expected_by_turn p b tick cs ws)

quenched_by_child : (net : Net) (p c : ℕ) (new : Known) (cs : List ℕ) (ws : List Wanted) → SameLength cs ws → list_any (λ x. nat_eq x c) cs ≡ true →
    get_or (forward_wants net p new cs ws) (place_of c cs) [] ≡ still_wanted (get_or ws (place_of c cs) []) (forward net p c (get_or ws (place_of c cs) []) new)
quenched_by_child net p c new [] ws l m = absurd (false≢true m)
quenched_by_child net p c new (d ∷ cs) [] l m = absurd l
quenched_by_child net p c new (d ∷ cs) (w ∷ ws) l m =
    elim (cases_Bool (nat_eq d c)) [
      | inl e ↦ rw e (ap (λ x. still_wanted w (forward net p x w new)) (eqb-true d c e))
      | inr e ↦ rw e (quenched_by_child net p c new cs ws l (subst (λ q. (q || list_any (λ x. nat_eq x c) cs) ≡ true) e m))
    ]

-- The horizon and the lines

moved : (keeps : Bool) (h : ℕ) (know : Known) (at : ℕ → K) → AreRunsOf Q at know → Moves keeps h (horizon_after keeps h know) at
unfolding horizon_after
moved false h know at r = record { on = le_refl h; known = λ t a c. absurd (omega (arith, a, c)); stops = λ e. absurd (false≢true e); stays = λ e. refl }
moved true h know at r =
    let u = first_bottom_from know (suc h) in
    let i = first_bottom_from-is Q 1 know (suc h) r.runs in
    let s : suc (u - 1) ≡ u = omega (arith, i.reached) in
    record {
      on = omega (arith, i.reached);
      known = λ t a c. λ e. i.known t a (omega (arith, c, i.reached)) (r.same_at t ∙ e);
      stops = λ e. ap at s ∙ (sym (r.same_at u) ∙ i.stops);
      stays = λ e. absurd (false≢true (sym e));
    }

told_on : (net : Net) (p b h k : ℕ) (know : Known) (at : ℕ → K) → AreRunsOf Q at know → DeliversOn net p b h k at (flat_map (delivery_lines net p h k (data_ticks h k know)) (net.subscribers_at b))
told_on net p b h k know at r = record {
  passed = data_ticks h k know;
  rise = data_ticks_rise h k know r.runs;
  each = λ t. elim (cases_lt h t) [
    | inl x ↦ elim (cases_lt k t) [
      | inl y ↦ data_ticks_out h k t know r.runs (inr y) ∙ rw (lt-ltb h t x, lt-leb t k y) refl
      | inr y ↦ data_ticks_in h k t know r.runs x y ∙ (ap event_of (r.same_at t) ∙ rw (lt-ltb h t x, le-leb t k y) refl)
    ]
    | inr x ↦ data_ticks_out h k t know r.runs (inl x) ∙ rw (le-ltb h t x) refl
  ];
  lines = refl;
}

-- What is then known

F_if : (c : Bool) (x : K) → (if is_A (if c then A else N) then F else x) ≡ (if c then F else x)
F_if true x = refl
F_if false x = refl

-- a view whose knowledge is made final at the consolidated ticks and trimmed
knows_by : (net : Net) (p b : ℕ) (at : ℕ → K) (know : Known) (u : View) → AreRunsOf Q at know → AllWantRuns (net.children p b) u.wants → u.know ≡ finished know (consolidated (keeps_horizon net p b) u.horizon u.wants) → Knows net p b at (kept_view net p b u)
knows_by net p b at know u r a e =
    let done = consolidated (keeps_horizon net p b) u.horizon u.wants in
    let d = done-is net p b u.horizon u.wants a in
    let fin = finished-is know done r.runs d.runs in
    let fin_runs : AreRuns Q u.know = subst (λ x. AreRuns Q x) (sym e) fin.runs in
    let i = trimmed-is net p b u fin_runs in
    record {
      full = u.know;
      full_is = record {
        runs = fin_runs;
        each = λ t. ap (λ x. known_at x t) e ∙ (fin.same_at t ∙ (ap₂ (λ x y. if is_A x then F else y) (d.same_at t) (r.same_at t) ∙ (F_if (is_consolidated_by (keeps_horizon net p b) u.horizon u.wants t) (at t)
            ∙ ap₂ (λ x y. if is_consolidated_by (keeps_horizon net p b) x y t then F else at t) (sym i.horizon) (sym i.wants))));
      };
      forgets = subst (λ x. Forgets net p b x u.know (kept_view net p b u).know) (sym i.horizon) (forgets_by net p b u fin_runs);
    }

-- New ticks

-- learning a piece obeys the rule of new ticks
pub new_ticks_rule : (net : Net) (p b : ℕ) (piece : Known) (v : View) (log : Log) → IsDistinct (net.children p b) → IsView net p b v → AreRuns Q piece → NewTicks net p b piece v log (learn net p b piece v log)
unfolding learn
new_ticks_rule net p b piece v log distinct h k =
    let keeps = keeps_horizon net p b in
    let new = new_ticks v.know piece in
    let n = new_ticks-is v.know piece h.know k in
    let joined = zip_runs Q Q Q same_K join_K v.know piece in
    let j = joined-is v.know piece h.know k in
    let hz = learned_horizon net p b piece v in
    let ws = forward_wants net p new (net.children p b) v.wants in
    let stored = wants_runs net p b v distinct h in
    let all = forward_runs net p new (net.children p b) v.wants n.runs stored in
    let fin = finished-is joined (consolidated keeps hz ws) j.runs (done-is net p b hz ws all).runs in
    let u : View = record { know = finished joined (consolidated keeps hz ws); wants = ws; asks = v.asks; horizon = hz; joins = v.joins } in
    let i = trimmed-is net p b u fin.runs in
    let long = long_of (net.children p b) v.wants stored in
    let sends : (c : ℕ) → IsChild net p b c → AreRunsOf Q (λ t. if is_A (want_at net p b v c t) then Q else pass net p c t (known_at new t)) (forward net p c (wants_from net p b v c) new) =
    λ c m. forward-is net p c (wants_from net p b v c) new (h.wants c m) n.runs in
    record {
      sent = λ c. forward net p c (wants_from net p b v c) new;
      sent_is = λ c m. record { runs = (sends c m).runs; each = λ t. (sends c m).same_at t ∙ ap (λ x. if is_A (want_at net p b v c t) then Q else pass net p c t x) (n.same_at t) };
      frames = forwarded_by_turn v.joins net p b new (net.children p b) v.wants ∙ turns_by_child (λ c w. know_frames v.joins b c p (forward net p c w new)) (net.children p b) v.wants long distinct;
      wants = λ c m.
          let q = quenched-is (wants_from net p b v c) (forward net p c (wants_from net p b v c) new) (h.wants c m) (sends c m).runs in
          let e : get_or (kept_view net p b u).wants (place_of c (net.children p b)) [] ≡ still_wanted (wants_from net p b v c) (forward net p c (wants_from net p b v c) new) = ap (λ z. get_or z (place_of c (net.children p b)) []) i.wants ∙ quenched_by_child net p c new (net.children p b) v.wants long m in
          record { runs = subst (λ z. AreRuns N z) (sym e) q.runs; each = λ t. ap (λ z. wanted_at z t) e ∙ q.same_at t };
      all_wants = ap length i.wants ∙ long_as (net.children p b) ws all;
      asks = let z = i.asks h.asks in record { runs = z.runs; each = z.same_at };
      horizon = subst (λ x. Moves keeps v.horizon x (λ t. join_K (known_at v.know t) (known_at piece t))) (sym i.horizon) (moved keeps v.horizon joined (λ t. join_K (known_at v.know t) (known_at piece t)) j);
      lines = subst (λ x. DeliversOn net p b v.horizon x (λ t. join_K (known_at v.know t) (known_at piece t)) (flat_map (delivery_lines net p v.horizon hz (data_ticks v.horizon hz joined)) (net.subscribers_at b))) (sym i.horizon)
          (told_on net p b v.horizon hz joined (λ t. join_K (known_at v.know t) (known_at piece t)) j);
      know = knows_by net p b (λ t. join_K (known_at v.know t) (known_at piece t)) joined u j all refl;
      log_same = refl;
      joins_same = i.joins;
    }

-- Asking

asks_rule : (net : Net) (p b now : ℕ) (wanted : ℕ → Bool) (ps : List ℕ) (more fs : List Frame) (v : View) (log : Log) → IsDistinct (net.children p b) → IsView net p b v → IsWanted wanted ps → (let a = asking net p b now wanted ps v log in fs ≡ a.frames ++ more → Asks net p b now wanted more v log (record { view = a.view; log = a.log; lines = a.lines; frames = fs }))
unfolding asking
asks_rule net p b now wanted ps more fs v log distinct h w same =
    let asked = due now net.retry v.know v.asks wanted ps in
    let d = due-at now net.retry v.know v.asks wanted ps w in
    let done = consolidated (keeps_horizon net p b) v.horizon v.wants in
    let fin = done-is net p b v.horizon v.wants (wants_runs net p b v distinct h) in
    let up = upward-at done asked fin.runs d.runs in
    let u : View = record { know = v.know; wants = v.wants; asks = noted now v.asks asked; horizon = v.horizon; joins = v.joins } in
    let i = trimmed-is net p b u h.know in
    let n = noted-at now v.asks asked h.asks d.runs in
    record {
      asked = asked;
      asked_is = record { runs = d.runs; each = d.same_at };
      sent = upward done asked;
      sent_is = record { runs = up.runs; each = λ t. up.same_at t ∙ (ap (λ x. if is_A x then A else wanted_at asked t) (fin.same_at t) ∙ A_if (is_consolidated_by (keeps_horizon net p b) v.horizon v.wants t) (wanted_at asked t)) };
      frames = same;
      asks = let z = i.asks n.runs in record { runs = z.runs; each = λ t. z.same_at t ∙ ap (λ x. if is_F (known_at (kept_view net p b u).know t) && not (is_host net p b) then Never else x) (n.same_at t) };
      wants = i.wants;
      horizon = i.horizon;
      know = forgets_by net p b u h.know;
      lines = refl;
      log_same = refl;
      joins_same = i.joins;
    }
  where
    A_if : (c : Bool) (x : Q3) → (if is_A (if c then A else N) then A else x) ≡ (if c then A else x)
    A_if true x = refl
    A_if false x = refl

-- the wake of a broker below the host obeys the rule of asking
pub wake_below_rule : (net : Net) (p b now : ℕ) (v : View) (log : Log) → IsDistinct (net.children p b) → IsView net p b v → Asks net p b now (wanted_by_age net p b now v) [] v log (wake_below net p b now v log)
unfolding wake_below asking
wake_below_rule net p b now v log distinct h = asks_rule net p b now (wanted_at_wake net (keeps_horizon net p b) now v) (wake_points net now v) [] (wake_below net p b now v log).frames v log distinct h (wake_wanted net p b now v (wants_runs net p b v distinct h) (keeps_horizon net p b)) (sym (append-nil (wake_below net p b now v log).frames))

-- Expect

filter_yes : (test : ℕ → Bool) (x : ℕ) (xs : List ℕ) → test x ≡ true → filter test (x ∷ xs) ≡ x ∷ filter test xs
filter_yes test x xs e = rw e refl

filter_no : (test : ℕ → Bool) (x : ℕ) (xs : List ℕ) → test x ≡ false → filter test (x ∷ xs) ≡ filter test xs
filter_no test x xs e = rw e refl

-- the tick is among 1 to the expected one
abbrev within : ℕ → ℕ → Bool
within tick t = nat_le 1 t && nat_le t tick

-- each of the points that is within has an A
abbrev all_within : Wanted → ℕ → List ℕ → Bool
all_within w tick ps = list_all (λ t. is_A (wanted_at w t)) (filter (within tick) ps)

in_yes : (w : Wanted) (tick p : ℕ) (ps : List ℕ) → within tick p ≡ true → all_within w tick (p ∷ ps) ≡ (is_A (wanted_at w p) && all_within w tick ps)
in_yes w tick p ps e = ap (list_all (λ t. is_A (wanted_at w t))) (filter_yes (within tick) p ps e)

in_no : (w : Wanted) (tick p : ℕ) (ps : List ℕ) → within tick p ≡ false → all_within w tick (p ∷ ps) ≡ all_within w tick ps
in_no w tick p ps e = ap (list_all (λ t. is_A (wanted_at w t))) (filter_no (within tick) p ps e)

one_of : (w : Wanted) (tick t : ℕ) (ps : List ℕ) → all_within w tick ps ≡ true → within tick t ≡ true → IsNone t ps ⊎ (wanted_at w t ≡ A)
one_of w tick t [] e i = inl tt
one_of w tick t (p ∷ ps) e i =
    elim (cases_Bool (within tick p)) [
      | inl x ↦
          let y = and_parts (is_A (wanted_at w p)) (all_within w tick ps) (sym (in_yes w tick p ps x) ∙ e) in
          elim (cases_eq t p) [
            | inl g ↦ inr (ap (wanted_at w) g ∙ A_is (wanted_at w p) y.0)
            | inr g ↦ ⊎_elim (λ z. inl (g, z)) (λ z. inr z) (one_of w tick t ps y.1 i)
          ]
      | inr x ↦
          let g : t ≢ p = λ z. both_ways (within tick p) x (subst (λ q. within tick q ≡ true) z i) in
          ⊎_elim (λ z. inl (g, z)) (λ z. inr z) (one_of w tick t ps (sym (in_no w tick p ps x) ∙ e) i)
    ]

-- a child that is covered has an A at each tick of the range; one that is not has a tick without
covered_A : (w : Wanted) (tick : ℕ) → covers w tick ≡ true → (t : ℕ) → 1 ≤ t → t ≤ tick → wanted_at w t ≡ A
covered_A w tick e zero a c = absurd (omega (arith, a))
covered_A w tick e (suc zero) a c = ⊎_elim (λ x. absurd (x.0 refl)) (λ x. x) (one_of w tick 1 (1 ∷ points w) e (rw (le-leb 1 tick c) refl))
covered_A w tick e (suc (suc t)) a c = ⊎_elim (λ x. value_at-step N w (suc t) x.1 ∙ covered_A w tick e (suc t) (omega arith) (omega (arith, c))) (λ x. x) (one_of w tick (suc (suc t)) (1 ∷ points w) e (ap₂ (λ x y. x && y) (le-leb 1 (suc (suc t)) a) (le-leb (suc (suc t)) tick c)))

not_A_at : (q : Q3) → is_A q ≡ false → q ≢ A
not_A_at q n = λ x. false≢true (sym n ∙ ap is_A x)

bare_among : (w : Wanted) (tick : ℕ) (ps : List ℕ) → all_within w tick ps ≡ false → (t : ℕ) × (1 ≤ t) × (t ≤ tick) × (wanted_at w t ≢ A)
bare_among w tick [] n = absurd (false≢true (sym n))
bare_among w tick (p ∷ ps) n =
    elim (cases_Bool (within tick p)) [
      | inl x ↦ elim (cases_Bool (is_A (wanted_at w p))) [
        | inl z ↦ bare_among w tick ps (sym (ap (λ q. q && all_within w tick ps) z) ∙ (sym (in_yes w tick p ps x) ∙ n))
        | inr z ↦ let y = and_parts (nat_le 1 p) (nat_le p tick) x in (p, leb-true 1 p y.0, leb-true p tick y.1, not_A_at (wanted_at w p) z)
      ]
      | inr x ↦ bare_among w tick ps (sym (in_no w tick p ps x) ∙ n)
    ]

-- an expectation is handed on to exactly those children that have not acknowledged all of it
pub expects_on : (net : Net) (p b tick : ℕ) (v : View) → IsDistinct (net.children p b) → AllWantRuns (net.children p b) v.wants → SendsExpect net p b tick v (expect_frames p b tick (net.children p b) v.wants)
expects_on net p b tick v distinct a = record {
  done = λ c. covers (wants_from net p b v c) tick;
  is_done = λ c m e. covered_A (wants_from net p b v c) tick e;
  not_done = λ c m e. bare_among (wants_from net p b v c) tick (1 ∷ points (wants_from net p b v c)) e;
  frames_are = expected_by_turn p b tick (net.children p b) v.wants ∙ turns_by_child (λ c w. if covers w tick then [] else expect_frame b c p tick ∷ []) (net.children p b) v.wants (long_of (net.children p b) v.wants a) distinct;
}

-- receiving an expectation obeys its rule
pub expects_rule : (net : Net) (p b now tick : ℕ) (v : View) (log : Log) → IsDistinct (net.children p b) → IsView net p b v → Expects net p b now tick v log (expect net p b now tick v log)
unfolding expect asking
expects_rule net p b now tick v log distinct h = record {
  on = expect_frames p b tick (net.children p b) v.wants;
  on_is = expects_on net p b tick v distinct (wants_runs net p b v distinct h);
  asks = asks_rule net p b now (λ t. any_C v.wants t || (keeps_horizon net p b && nat_lt v.horizon t && nat_le t tick)) (all_points v.wants ++ (suc v.horizon ∷ (suc tick ∷ []))) (expect_frames p b tick (net.children p b) v.wants) (expect net p b now tick v log).frames v log distinct h (expect_wanted net p b tick v (wants_runs net p b v distinct h) (keeps_horizon net p b)) refl;
}

-- Curiosity

-- what is stored of a child, case by case
stored_is : (k : K) (a x : Q3) → curious k (if is_A x then A else a) x ≡ (if is_A x || is_A a then A else (if is_C x then (if is_Q k then C else N) else a))
stored_is k N N = refl
stored_is k C N = refl
stored_is k A N = refl
stored_is k N C = refl
stored_is k C C = refl
stored_is k A C = refl
stored_is k N A = refl
stored_is k C A = refl
stored_is k A A = refl

answered_is : (k : K) (a x : Q3) → answer k (if is_A x then A else a) x ≡ (if is_C x then (if is_A a then F else k) else Q)
answered_is k a N = refl
answered_is k a C = refl
answered_is k a A = refl

pass_is_Q : (net : Net) (p c t : ℕ) (k : K) → is_Q (pass net p c t k) ≡ is_Q k
pass_is_Q net p c t Q = refl
pass_is_Q net p c t S = refl
pass_is_Q net p c t F = refl
pass_is_Q net p c t (D e) = go (wanted_below net p c t e)
  where
    go : (q : Bool) → is_Q (elim q as (λ x. K) [ true ↦ D e | false ↦ S ]) ≡ false
    go true = refl
    go false = refl

asked_open : (r q kn out : Bool) → r ≡ q → (q ≡ true → kn ≡ true) → (if (true && r) && kn && not out then C else N) ≡ (if true && true && q && not out then C else N)
asked_open r true kn out e h = rw (e, h refl) refl
asked_open r false kn out e h = rw e refl

-- a tick is asked upward where it is asked, was not acknowledged, is unknown and is not outstanding; then it is not final either
asked_is : (net : Net) (p c t : ℕ) (k kn r : K) (a x : Q3) (out : Bool) → r ≡ (if is_C x then (if is_A a then F else pass net p c t k) else Q) → (x ≡ C → is_A a ≡ false → is_Q k ≡ true → is_Q kn ≡ true) →
    (if (is_C x && is_Q r) && is_Q kn && not out then C else N) ≡ (if not false && is_C x && not (is_A a) && is_Q k && not out then C else N)
asked_is net p c t k kn r a N out e h = refl
asked_is net p c t k kn r a A out e h = refl
asked_is net p c t k kn r A C out e h = rw e refl
asked_is net p c t k kn r N C out e h = asked_open (is_Q r) (is_Q k) (is_Q kn) out (ap is_Q e ∙ pass_is_Q net p c t k) (h refl refl)
asked_is net p c t k kn r C C out e h = asked_open (is_Q r) (is_Q k) (is_Q kn) out (ap is_Q e ∙ pass_is_Q net p c t k) (h refl refl)

no_A_stored : (k : K) (a : Q3) → is_A a ≡ false → is_A (curious k a C) ≡ false
no_A_stored k a n =
    elim (cases_Bool (is_Q k)) [
      | inl e ↦ rw (n, e) refl
      | inr e ↦ rw (n, e) refl
    ]

set_long : (ws : List Wanted) (i : ℕ) (x : Wanted) → length (set ws i x) ≡ length ws
set_long [] i x = refl
set_long (w ∷ ws) zero x = refl
set_long (w ∷ ws) (suc i) x = ap suc (set_long ws i x)

-- receiving a child's curiosity obeys its rule
pub child_asks_rule : (net : Net) (p b now c : ℕ) (piece : Wanted) (v : View) (log : Log) → IsDistinct (net.children p b) → IsView net p b v → IsChild net p b c → AreRuns N piece → ChildAsks net p b now c piece v log (curiosity net p b now c (place_of c (net.children p b)) piece v log)
unfolding curiosity
child_asks_rule net p b now c piece v log distinct h child wt = record {
  reply = reply;
  reply_is = record { runs = ri.runs; each = reply_at };
  asked = asked (is_host net p b);
  asked_is = record { runs = asked_runs (is_host net p b); each = λ t. asked_at_tick (is_host net p b) t };
  frames = refl;
  wants = record { runs = subst (λ z. AreRuns N z) (sym here) si.runs; each = λ t. ap (λ z. wanted_at z t) here ∙ stored_at t };
  other_wants = λ d m n. ap (λ z. get_or z (place_of d (net.children p b)) []) i.wants ∙ get_or-set_other v.wants at (place_of d (net.children p b)) (stored v.know w piece) [] (place_apart (net.children p b) c d child m n);
  all_wants = ap length i.wants ∙ (set_long v.wants at (stored v.know w piece) ∙ h.all_wants);
  asks = let z = i.asks ni.runs in record { runs = z.runs; each = λ t. z.same_at t ∙ ap (λ x. if is_F (known_at (curiosity net p b now c at piece v log).view.know t) && not (is_host net p b) then Never else x) (ni.same_at t) };
  horizon = i.horizon;
  know = knows_by net p b (λ t. known_at v.know t) v.know u (record { runs = h.know; same_at = λ t. refl }) all refl;
  lines = refl;
  log_same = refl;
  joins_same = i.joins;
}
  where
    keeps : Bool
    keeps = keeps_horizon net p b

    at : ℕ
    at = place_of c (net.children p b)

    w0 : Wanted
    w0 = wants_from net p b v c

    w : Wanted
    w = acknowledged w0 piece

    ai : AreRunsOf N (λ t. if is_A (wanted_at piece t) then A else wanted_at w0 t) w
    ai = acknowledged-is w0 piece (h.wants c child) wt

    reply : Known
    reply = answers net p c v.know w piece

    ri : AreRunsOf Q (λ t. answer (pass net p c t (known_at v.know t)) (wanted_at w t) (wanted_at piece t)) reply
    ri = answers-is net p c v.know w piece h.know wt

    reply_at : (t : ℕ) → known_at reply t ≡ (if is_C (wanted_at piece t) then (if is_A (wanted_at w0 t) then F else pass net p c t (known_at v.know t)) else Q)
    reply_at t = ri.same_at t ∙ (ap (λ a. answer (pass net p c t (known_at v.know t)) a (wanted_at piece t)) (ai.same_at t) ∙ answered_is (pass net p c t (known_at v.know t)) (wanted_at w0 t) (wanted_at piece t))

    si : AreRunsOf N (λ t. curious (known_at v.know t) (wanted_at w t) (wanted_at piece t)) (stored v.know w piece)
    si = stored-is v.know w piece ai.runs wt

    ws : List Wanted
    ws = set v.wants at (stored v.know w piece)

    before : AllWantRuns (net.children p b) v.wants
    before = wants_runs net p b v distinct h

    all : AllWantRuns (net.children p b) ws
    all = set_runs (net.children p b) v.wants at (stored v.know w piece) before si.runs

    done_is : AreRunsOf N (λ t. if is_consolidated_by keeps v.horizon ws t then A else N) (consolidated keeps v.horizon ws)
    done_is = done-is net p b v.horizon ws all

    put_here : get_or ws at [] ≡ stored v.know w piece
    put_here = set_here (net.children p b) v.wants c (stored v.know w piece) (long_of (net.children p b) v.wants before) child

    stored_at : (t : ℕ) → wanted_at (stored v.know w piece) t ≡ (if is_A (wanted_at piece t) || is_A (wanted_at w0 t) then A else (if is_C (wanted_at piece t) then (if is_Q (known_at v.know t) then C else N) else wanted_at w0 t))
    stored_at t = si.same_at t ∙ (ap (λ a. curious (known_at v.know t) a (wanted_at piece t)) (ai.same_at t) ∙ stored_is (known_at v.know t) (wanted_at w0 t) (wanted_at piece t))

    know : Known
    know = finished v.know (consolidated keeps v.horizon ws)

    fi : AreRunsOf Q (λ t. if is_A (wanted_at (consolidated keeps v.horizon ws) t) then F else known_at v.know t) know
    fi = finished-is v.know (consolidated keeps v.horizon ws) h.know done_is.runs

    fin : (t : ℕ) → known_at know t ≡ (if is_consolidated_by keeps v.horizon ws t then F else known_at v.know t)
    fin t = fi.same_at t ∙ (ap (λ x. if is_A x then F else known_at v.know t) (done_is.same_at t) ∙ F_if (is_consolidated_by keeps v.horizon ws t) (known_at v.know t))

    -- an unknown tick that the child asks is not final after that
    still_Q : (t : ℕ) → wanted_at piece t ≡ C → is_A (wanted_at w0 t) ≡ false → is_Q (known_at v.know t) ≡ true → is_Q (known_at know t) ≡ true
    still_Q t e n k =
        let x : wanted_at w t ≡ wanted_at w0 t = ai.same_at t ∙ ap (λ q. if is_A q then A else wanted_at w0 t) e in
        let y : is_A (wanted_at (get_or ws at []) t) ≡ false = ap (λ z. is_A (wanted_at z t)) put_here ∙ (ap is_A (si.same_at t ∙ ap₂ (curious (known_at v.know t)) x e) ∙ no_A_stored (known_at v.know t) (wanted_at w0 t) n) in
        ap is_Q (fin t ∙ ap (λ q. if q then F else known_at v.know t) (not_consolidated net p b c t v.horizon ws (long_of (net.children p b) ws all) child y)) ∙ k

    asking : Wanted
    asking = due now net.retry know v.asks (λ t. is_C (wanted_at piece t) && is_Q (known_at reply t)) (points piece ++ points reply)

    di : AreRunsOf N (λ t. if (is_C (wanted_at piece t) && is_Q (known_at reply t)) && is_Q (known_at know t) && not (is_outstanding (asked_at v.asks t) now net.retry) then C else N) asking
    di = due-at now net.retry know v.asks (λ t. is_C (wanted_at piece t) && is_Q (known_at reply t)) (points piece ++ points reply) (curiosity_wanted reply piece wt)

    asked : Bool → Wanted
    asked q = elim q [ true ↦ [] | false ↦ asking ]

    asked_runs : (q : Bool) → AreRuns N (asked q)
    asked_runs true = tt
    asked_runs false = di.runs

    asked_at_tick : (q : Bool) (t : ℕ) → wanted_at (asked q) t ≡ (if not q && is_C (wanted_at piece t) && not (is_A (wanted_at w0 t)) && is_Q (known_at v.know t) && not (is_outstanding (asked_at v.asks t) now net.retry) then C else N)
    asked_at_tick true t = refl
    asked_at_tick false t = di.same_at t ∙ asked_is net p c t (known_at v.know t) (known_at know t) (known_at reply t) (wanted_at w0 t) (wanted_at piece t) (is_outstanding (asked_at v.asks t) now net.retry) (reply_at t) (still_Q t)

    ni : AreRunsOf Never (λ t. if is_C (wanted_at (asked (is_host net p b)) t) then At now else asked_at v.asks t) (noted now v.asks (asked (is_host net p b)))
    ni = noted-at now v.asks (asked (is_host net p b)) h.asks (asked_runs (is_host net p b))

    u : View
    u = record { know = know; wants = ws; asks = noted now v.asks (asked (is_host net p b)); horizon = v.horizon; joins = v.joins }

    i : IsTrimmed net p b u (curiosity net p b now c at piece v log).view
    i = trimmed-is net p b u fi.runs

    here : wants_from net p b (curiosity net p b now c at piece v log).view c ≡ stored v.know w piece
    here = ap (λ z. get_or z at []) i.wants ∙ put_here
