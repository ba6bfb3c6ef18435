-- The edits that new ticks bring to what a broker keeps leave the machine's `learn`: each part has at every tick the value that the
-- machine's has, and canonical runs with the same values are the same.
use Rattle.std.proofs.Common.{◌≡◌, ◌≢◌, ℕ, zero, suc, ◌+◌, ◌^◌, ◌≤◌, ◌<◌, Bool, true, false, not, ◌&&◌, ◌||◌, List, [], ◌∷◌, ◌++◌, length, get_or, drop, refl, sym, ap, ap₂, ◌∙◌, arith, add-one}
use Rattle.std.specs.Prelude.{nat_le, nat_lt, if◌then◌else◌}
use Rattle.std.proofs.lemmas.Bool.{false≢true, true≢false, cond-true}
use Rattle.std.proofs.lemmas.List.{drop_all}
use Rattle.gr_tick.specs.Runs.{AreRuns, zip_runs}
use Rattle.gr_tick.specs.Stored.{is_told, EndBefore, RunsGive}
use Rattle.gr_tick.proofs.Canonical.{given_runs, given_zip}
use Rattle.gr_tick.proofs.RunLaws.{zip_runs-is}
use Rattle.gr_tick.proofs.RunsLemmas.{value_at_past}
use Rattle.gr_event.specs.declared.event.Event.{Event}
use Rattle.gr_event.specs.Event.{same_event}
use Rattle.gr_event.specs.Joins.{Joins}
use Rattle.gr_know.specs.declared.values.K.{K}
use Rattle.gr_know.specs.declared.values.K.TheVariants.{Q, S, D, F}
use Rattle.gr_know.specs.Values.{Known, known_at, same_K, is_Q, is_D, join_K, new_K, clash_K}
use Rattle.gr_know.specs.Forget.{Forgets}
use Rattle.gr_know.proofs.ValueLaws.{K_decides}
use Rattle.gr_curio.specs.declared.values.Q3.{Q3}
use Rattle.gr_curio.specs.declared.values.Q3.TheVariants.{N, C, A}
use Rattle.gr_curio.specs.declared.asks.Moment.{Moment}
use Rattle.gr_curio.specs.declared.asks.Moment.TheVariants.{Never}
use Rattle.gr_curio.specs.Values.{Wanted, Asked, wanted_at, asked_at, same_Q3, same_moment, is_C, is_A}
use Rattle.gr_curio.specs.Wants.{wants_of, all_A, answered_of}
use Rattle.gr_curio.proofs.ValueLaws.{Q3_decides, moment_decides}
use Rattle.gr_edge.specs.Pass as edge
use Rattle.gr_topo.specs.Topology.{TopologyView}
use Rattle.gr_model.specs.Net.{Net, keeps_horizon, is_host, not_empty}
use Rattle.gr_model.specs.NetOf.{net_of}
use Rattle.gr_model.specs.Broker.{View, Log, seen, is_F, is_consolidated_by, consolidated, finished, forgotten, open_asks, max_tick, horizon_after, new_ticks, passed, forward, still_wanted, know_frames, forward_frames, forward_wants, kept_view, kept_view_below, learn}
use Rattle.gr_model_calls.proofs.calls.Passed.{passed-is}
use Rattle.gr_model_calls.proofs.calls.Pieces.{consolidated-is}
use Rattle.gr_model_calls.proofs.calls.Calls.{trimmed_host}
use Rattle.gr_broker_relay.specs.Branch.{wantings_below}
use Rattle.gr_broker_relay.proofs.Shown.{pass_shown}
use Rattle.gr_broker_relay.proofs.LearnedTicks.{told_by_value, EndBefore-values, quench_value, consolidates_more, consolidates_same, finish_value}

-- What is known

-- what is new of a piece
pub new_is : (know piece fresh : Known) → AreRuns Q know → AreRuns Q piece → RunsGive Q fresh (λ t. new_K (known_at know t) (known_at piece t)) → fresh ≡ new_ticks know piece
unfolding new_ticks
new_is know piece fresh a b g = given_zip Q Q Q same_K K_decides new_K know piece fresh refl a b g

-- what is known once it is joined
pub joined_is : (know piece joined : Known) → AreRuns Q know → AreRuns Q piece → RunsGive Q joined (λ t. join_K (known_at know t) (known_at piece t)) → joined ≡ zip_runs Q Q Q same_K join_K know piece
joined_is know piece joined a b g = given_zip Q Q Q same_K K_decides join_K know piece joined refl a b g

-- the machine's runs of both end by the last tick too
pub joined_gives : (know piece : Known) → AreRuns Q know → EndBefore know (2 ^ 62 + 1) → AreRuns Q piece → EndBefore piece (2 ^ 62 + 1) → RunsGive Q (zip_runs Q Q Q same_K join_K know piece) (λ t. join_K (known_at know t) (known_at piece t))
joined_gives know piece a u b v =
    let z = zip_runs-is Q Q Q same_K K_decides join_K know piece refl a b in
    record {
      canonical = z.runs;
      in_range = EndBefore-values Q (2 ^ 62 + 1) (zip_runs Q Q Q same_K join_K know piece) z.runs
          (λ t le. z.same_at t ∙ ap₂ join_K (value_at_past Q know (2 ^ 62 + 1) t u le) (value_at_past Q piece (2 ^ 62 + 1) t v le));
      values = z.same_at;
    }

-- What a child is sent

-- what its edge passes
pub passed_is_of : (t : TopologyView) (v : View) (p c : ℕ) (ws : List edge.Wanting) (new let_by : Known) → ws ≡ wantings_below t p c → AreRuns Q new → RunsGive Q let_by (λ u. edge.pass ws v.joins u (known_at new u)) → let_by ≡ passed (seen (net_of t) v) p c new
passed_is_of t v p c ws new let_by e a g =
    let k = passed-is (seen (net_of t) v) p c new a in
    given_runs Q let_by (passed (seen (net_of t) v) p c new) (λ u. edge.pass ws v.joins u (known_at new u)) g k.runs
    (λ u. k.same_at u ∙ pass_shown t v p c u (known_at new u) ∙ ap (λ x. edge.pass x v.joins u (known_at new u)) (sym e))

-- and what it has not acknowledged of that
pub sent_is : (t : TopologyView) (v : View) (p c : ℕ) (ws : List edge.Wanting) (w : Wanted) (new let_by sent : Known) → ws ≡ wantings_below t p c → AreRuns Q new → AreRuns N w → RunsGive Q let_by (λ u. edge.pass ws v.joins u (known_at new u)) → RunsGive Q sent (λ u. if is_A (wanted_at w u) then Q else known_at let_by u) → sent ≡ forward (seen (net_of t) v) p c w new
unfolding forward
sent_is t v p c ws w new let_by sent e a b g h =
    given_zip Q N Q same_K K_decides (λ v x. if is_A x then Q else v) let_by w sent refl g.canonical b h
    ∙ ap (λ z. zip_runs Q N Q same_K (λ v x. if is_A x then Q else v) z w) (passed_is_of t v p c ws new let_by e a g)

-- What the children want then

-- what a child is sent it asks no more
pub quenched_is : (w : Wanted) (sent : Known) (quenched left : Wanted) → AreRuns N w → AreRuns Q sent → RunsGive N quenched (λ t. if not (is_Q (known_at sent t)) && is_C (wanted_at w t) then C else N) → RunsGive N left (λ t. if is_told quenched t then N else wanted_at w t) → left ≡ still_wanted w sent
unfolding still_wanted
quenched_is w sent quenched left a b q g =
    given_zip N Q N same_Q3 Q3_decides (λ x v. answered_of (not (is_Q v)) x) w sent left refl a b (record {
      canonical = g.canonical;
      in_range = g.in_range;
      values = λ t.
          let told = told_by_value N quenched t q.canonical in
          g.values t ∙ quench_value (is_told quenched t) (known_at sent t) (wanted_at w t) (wanted_at quenched t) told.0 told.1 (q.values t);
    })

-- and what it has acknowledged stays
pub quenched_stays : (w quenched left : Wanted) (sent : Known) (t : ℕ) → RunsGive N quenched (λ t. if not (is_Q (known_at sent t)) && is_C (wanted_at w t) then C else N) → RunsGive N left (λ t. if is_told quenched t then N else wanted_at w t) → is_A (wanted_at left t) ≡ is_A (wanted_at w t)
quenched_stays w quenched left sent t q g =
    let told = told_by_value N quenched t q.canonical in
    ap is_A (g.values t) ∙ by_cases (is_told quenched t) (not (is_Q (known_at sent t))) (wanted_at w t) told.0 (q.values t)
  where
    by_cases : (b x : Bool) (a : Q3) → (b ≡ true → wanted_at quenched t ≢ N) → wanted_at quenched t ≡ (if x && is_C a then C else N) → is_A (if b then N else a) ≡ is_A a
    by_cases false x a y e = refl
    by_cases true x N y e = refl
    by_cases true x C y e = refl
    by_cases true true A y e = absurd (y refl e)
    by_cases true false A y e = absurd (y refl e)

-- so many children there are
pub forward_wants-length : (net : Net) (p : ℕ) (new : Known) (cs : List ℕ) (ws : List Wanted) → length ws ≡ length cs → length (forward_wants net p new cs ws) ≡ length ws
forward_wants-length net p new [] [] e = refl
forward_wants-length net p new [] (w ∷ ws) e = absurd (omega (arith, e))
forward_wants-length net p new (c ∷ cs) [] e = refl
forward_wants-length net p new (c ∷ cs) (w ∷ ws) e = ap suc (forward_wants-length net p new cs ws (omega (arith, e)))

-- and each wants what is left of its own
pub forward_wants-at : (net : Net) (p : ℕ) (new : Known) (cs : List ℕ) (ws : List Wanted) (i : ℕ) → length ws ≡ length cs → i < length ws → wants_of (forward_wants net p new cs ws) i ≡ still_wanted (wants_of ws i) (forward net p (get_or cs i 0) (wants_of ws i) new)
forward_wants-at net p new [] [] i e lt = absurd (omega (arith, lt))
forward_wants-at net p new [] (w ∷ ws) i e lt = absurd (omega (arith, e))
forward_wants-at net p new (c ∷ cs) [] i e lt = absurd (omega (arith, lt))
forward_wants-at net p new (c ∷ cs) (w ∷ ws) zero e lt = refl
forward_wants-at net p new (c ∷ cs) (w ∷ ws) (suc i) e lt = forward_wants-at net p new cs ws i (omega (arith, e)) (omega (arith, lt))

-- What each child is sent, in turn

forward_from : (js : Joins) (net : Net) (p b : ℕ) (new : Known) (cs : List ℕ) (ws : List Wanted) (i : ℕ) → length ws ≡ length cs → i < length ws → forward_frames js net p b new (drop i cs) (drop i ws) ≡ know_frames js b (get_or cs i 0) p (forward net p (get_or cs i 0) (wants_of ws i) new) ++ forward_frames js net p b new (drop (suc i) cs) (drop (suc i) ws)
forward_from js net p b new [] [] i e lt = absurd (omega (arith, lt))
forward_from js net p b new [] (w ∷ ws) i e lt = absurd (omega (arith, e))
forward_from js net p b new (c ∷ cs) [] i e lt = absurd (omega (arith, lt))
forward_from js net p b new (c ∷ cs) (w ∷ ws) zero e lt = refl
forward_from js net p b new (c ∷ cs) (w ∷ ws) (suc i) e lt = forward_from js net p b new cs ws i (omega (arith, e)) (omega (arith, lt))

-- the frames to the children from one on
pub forward_step : (js : Joins) (net : Net) (p b : ℕ) (new : Known) (cs : List ℕ) (ws : List Wanted) (i : ℕ) → length ws ≡ length cs → i < length ws → forward_frames js net p b new (drop i cs) (drop i ws) ≡ know_frames js b (get_or cs i 0) p (forward net p (get_or cs i 0) (wants_of ws i) new) ++ forward_frames js net p b new (drop (i + 1) cs) (drop (i + 1) ws)
forward_step js net p b new cs ws i e lt =
    forward_from js net p b new cs ws i e lt
    ∙ ap (λ n. know_frames js b (get_or cs i 0) p (forward net p (get_or cs i 0) (wants_of ws i) new) ++ forward_frames js net p b new (drop n cs) (drop n ws)) (sym (add-one i))

-- and none past the last child
pub forward_done : (js : Joins) (net : Net) (p b : ℕ) (new : Known) (cs : List ℕ) (ws : List Wanted) (i : ℕ) → length cs ≤ i → forward_frames js net p b new (drop i cs) (drop i ws) ≡ []
forward_done js net p b new cs ws i le = ap (λ ds. forward_frames js net p b new ds (drop i ws)) (drop_all i cs le)

-- What is final then

-- consolidated then is what was, and what the horizon passed and all have acknowledged
pub consolidates_on : (keeps : Bool) (h reached : ℕ) (ws wants : List Wanted) (t : ℕ) → h ≤ reached → (keeps ≡ false → reached ≡ h) → all_A wants t ≡ all_A ws t → is_consolidated_by keeps reached wants t ≡ (is_consolidated_by keeps h ws t || (nat_lt h t && nat_le t reached && all_A ws t))
consolidates_on true h reached ws wants t le s e = ap (λ a. nat_le 1 t && nat_le t reached && a) e ∙ consolidates_more h reached t (all_A ws t) le
consolidates_on false h reached ws wants t le s e = ap (λ a. nat_le 1 t && true && a) e ∙ consolidates_same h reached t (all_A ws t) (nat_le 1 t && true && all_A ws t) (s refl)

-- only final is final
pub is_F-only : (k : K) → is_F k ≡ true → k ≡ F
is_F-only Q h = absurd (false≢true h)
is_F-only S h = absurd (false≢true h)
is_F-only (D e) h = absurd (false≢true h)
is_F-only F h = refl

events_final : (a : Event) (q : Bool) → not q ≡ false → is_F (if q then D a else F) ≡ false
events_final a true h = refl
events_final a false h = absurd (true≢false h)

-- where nothing clashes a tick is final that was, or that came so
pub final_after : (k x : K) → clash_K k x ≡ false → is_F (join_K k x) ≡ (is_F k || is_F x)
final_after Q x h = refl
final_after S Q h = refl
final_after S S h = refl
final_after S (D e) h = absurd (true≢false h)
final_after S F h = refl
final_after (D e) Q h = refl
final_after (D e) S h = absurd (true≢false h)
final_after (D a) (D b) h = events_final a (same_event a b) h
final_after (D e) F h = refl
final_after F x h = refl

-- forgetting leaves what is final
pub final_kept : (limit upto : ℕ) (know kept : Known) (t : ℕ) → Forgets limit upto know kept → is_F (known_at kept t) ≡ is_F (known_at know t)
final_kept limit upto know kept t g = ap is_F (g.each t) ∙ by_cases (known_at know t) (nat_le t g.last)
  where
    by_cases : (k : K) (x : Bool) → is_F (if is_D k && x then Q else k) ≡ is_F k
    by_cases Q x = refl
    by_cases S x = refl
    by_cases (D e) true = refl
    by_cases (D e) false = refl
    by_cases F x = refl

-- What a horizon finishes that moves on: it moved forward, and only where one is kept; the children's acknowledgements stayed; all was
-- final that was consolidated; the piece was joined; and what it passed and all have acknowledged is completed.
pub record Completes (keeps : Bool) (h reached : ℕ) (ws wants : List Wanted) (know piece joined : Known) (completed : Wanted) : Type 0 where
  pub forward : h ≤ reached
  pub stays : keeps ≡ false → reached ≡ h
  pub acknowledged : (t : ℕ) → all_A wants t ≡ all_A ws t
  pub final : (t : ℕ) → is_consolidated_by keeps h ws t ≡ true → known_at know t ≡ F
  pub joins : (t : ℕ) → known_at joined t ≡ join_K (known_at know t) (known_at piece t)
  pub completes : (t : ℕ) → wanted_at completed t ≡ (if nat_lt h t && nat_le t reached && all_A ws t then A else N)

-- what is completed is finished
abbrev pub Finishes : Wanted → Known → Known → Type 0
Finishes completed joined left = (t : ℕ) → known_at left t ≡ (if is_A (wanted_at completed t) then F else known_at joined t)

is_A_if : (b : Bool) → is_A (if b then A else N) ≡ b
is_A_if true = refl
is_A_if false = refl

module _ (keeps : Bool) (h reached : ℕ) (ws wants : List Wanted) (know piece joined : Known) (completed : Wanted) (left : Known) (c : Completes keeps h reached ws wants know piece joined completed) where
  -- the ticks that are consolidated then are finished
  pub finished_each : (t : ℕ) → Finishes completed joined left → known_at left t ≡ (if is_consolidated_by keeps reached wants t then F else known_at joined t)
  finished_each t f =
      f t
      ∙ ap (λ z. if is_A z then F else known_at joined t) (c.completes t)
      ∙ ap (λ z. if z then F else known_at joined t) (is_A_if (nat_lt h t && nat_le t reached && all_A ws t))
      ∙ ap (λ z. if nat_lt h t && nat_le t reached && all_A ws t then F else z) (c.joins t)
      ∙ finish_value (known_at know t) (known_at piece t) (is_consolidated_by keeps h ws t) (nat_lt h t && nat_le t reached && all_A ws t) (c.final t)
      ∙ ap₂ (λ z k. if z then F else k) (sym (consolidates_on keeps h reached ws wants t c.forward c.stays (c.acknowledged t))) (sym (c.joins t))

  -- so all is final that is consolidated
  pub final_on : (t : ℕ) → Finishes completed joined left → is_consolidated_by keeps reached wants t ≡ true → known_at left t ≡ F
  final_on t f e = finished_each t f ∙ cond-true (is_consolidated_by keeps reached wants t) F (known_at joined t) e

  -- and what is known is finished as the machine's is
  pub finished_on : (keeps || not_empty wants) ≡ true → AreRuns Q joined → RunsGive Q left (λ t. if is_A (wanted_at completed t) then F else known_at joined t) → left ≡ finished joined (consolidated keeps reached wants)
  unfolding finished
  finished_on k a g =
      let z = consolidated-is keeps reached wants k in
      given_zip Q N Q same_K K_decides (λ v x. if is_A x then F else v) joined (consolidated keeps reached wants) left refl a z.runs (record {
        canonical = g.canonical;
        in_range = g.in_range;
        values = λ t. finished_each t g.values ∙ ap (λ b. if b then F else known_at joined t) (sym (is_A_if (is_consolidated_by keeps reached wants t))) ∙ ap (λ x. if is_A x then F else known_at joined t) (sym (z.same_at t));
      })

  -- a tick is final then that is completed, or that was final or came so
  pub final_in : (t : ℕ) → Finishes completed joined left → clash_K (known_at know t) (known_at piece t) ≡ false → is_F (known_at left t) ≡ (is_A (wanted_at completed t) || (is_F (known_at know t) || is_F (known_at piece t)))
  final_in t f e =
      ap is_F (f t) ∙ by_test (is_A (wanted_at completed t))
    where
      by_test : (b : Bool) → is_F (if b then F else known_at joined t) ≡ (b || (is_F (known_at know t) || is_F (known_at piece t)))
      by_test true = refl
      by_test false = ap is_F (c.joins t) ∙ final_after (known_at know t) (known_at piece t) e

-- The moments of asks

asks_value : (c f g r : Bool) (m : Moment) → r ≡ (c || (f || g)) → (f ≡ true → m ≡ Never) → (if c then Never else (if g then Never else m)) ≡ (if r then Never else m)
asks_value true f g r m e d = sym (ap (λ b. if b then Never else m) e)
asks_value false true true r m e d = sym (ap (λ b. if b then Never else m) e)
asks_value false true false r m e d = d refl ∙ sym (ap (λ b. if b then Never else m) e)
asks_value false false true r m e d = sym (ap (λ b. if b then Never else m) e)
asks_value false false false r m e d = sym (ap (λ b. if b then Never else m) e)

module _ (know piece kept : Known) (completed : Wanted) (asks left : Asked) (final : (t : ℕ) → is_F (known_at kept t) ≡ (is_A (wanted_at completed t) || (is_F (known_at know t) || is_F (known_at piece t)))) (dropped : (t : ℕ) → known_at know t ≡ F → asked_at asks t ≡ Never) where
  -- no moment stays at a final tick
  pub asks_each : (t : ℕ) → asked_at left t ≡ (if is_A (wanted_at completed t) then Never else (if is_F (known_at piece t) then Never else asked_at asks t)) → asked_at left t ≡ (if is_F (known_at kept t) then Never else asked_at asks t)
  asks_each t e = e ∙ asks_value (is_A (wanted_at completed t)) (is_F (known_at know t)) (is_F (known_at piece t)) (is_F (known_at kept t)) (asked_at asks t) (final t) (λ f. dropped t (is_F-only (known_at know t) f))

  -- and none is kept of a tick that is final then
  pub dropped_on : (t : ℕ) → asked_at left t ≡ (if is_A (wanted_at completed t) then Never else (if is_F (known_at piece t) then Never else asked_at asks t)) → known_at kept t ≡ F → asked_at left t ≡ Never
  dropped_on t e f = asks_each t e ∙ ap (λ k. if is_F k then Never else asked_at asks t) f

  -- so the moments are those that the machine keeps
  pub asks_kept : AreRuns Never asks → AreRuns Q kept → RunsGive Never left (λ t. if is_A (wanted_at completed t) then Never else (if is_F (known_at piece t) then Never else asked_at asks t)) → left ≡ open_asks kept asks
  unfolding open_asks
  asks_kept a b g = given_zip Never Q Never same_moment moment_decides (λ m k. if is_F k then Never else m) asks kept left refl a b (record {
    canonical = g.canonical;
    in_range = g.in_range;
    values = λ t. asks_each t (g.values t);
  })

-- The view

view_path : {k l : Known} {ws us : List Wanted} {m n : Asked} {h i : ℕ} {js : Joins} → k ≡ l → ws ≡ us → m ≡ n → h ≡ i → ◌≡◌ {A = View} (record { know = k; wants = ws; asks = m; horizon = h; joins = js }) (record { know = l; wants = us; asks = n; horizon = i; joins = js })
view_path {js = js} a b c d = λ i. record { know = a i; wants = b i; asks = c i; horizon = d i; joins = js }

-- below the host
trimmed_below : (net : Net) (p b : ℕ) (v : View) → is_host net p b ≡ false → kept_view net p b v ≡ kept_view_below net p b v
unfolding kept_view
trimmed_below net p b v h = go (is_host net p b) h
  where
    less : View
    less = kept_view_below net p b v

    go : (q : Bool) → q ≡ false → (let u : View = elim q [ true ↦ v | false ↦ less ] in u) ≡ less
    go false e = refl
    go true e = absurd (true≢false e)

module _ (net : Net) (p b : ℕ) (piece : Known) (v : View) (log : Log) (joined left : Known) (wants : List Wanted) (reached : ℕ) (ej : joined ≡ zip_runs Q Q Q same_K join_K v.know piece) (er : reached ≡ horizon_after (keeps_horizon net p b) v.horizon joined) (ew : wants ≡ forward_wants net p (new_ticks v.know piece) (net.children p b) v.wants) (el : left ≡ finished joined (consolidated (keeps_horizon net p b) reached wants)) where
  reached_there : reached ≡ horizon_after (keeps_horizon net p b) v.horizon (zip_runs Q Q Q same_K join_K v.know piece)
  reached_there = er ∙ ap (horizon_after (keeps_horizon net p b) v.horizon) ej

  left_there : left ≡ finished (zip_runs Q Q Q same_K join_K v.know piece) (consolidated (keeps_horizon net p b) (horizon_after (keeps_horizon net p b) v.horizon (zip_runs Q Q Q same_K join_K v.know piece)) (forward_wants net p (new_ticks v.know piece) (net.children p b) v.wants))
  left_there =
      el ∙ ap (λ j. finished j (consolidated (keeps_horizon net p b) reached wants)) ej
      ∙ ap₂ (λ r w. finished (zip_runs Q Q Q same_K join_K v.know piece) (consolidated (keeps_horizon net p b) r w)) reached_there ew

  -- the host keeps what it learned
  pub learned_host : (asks : Asked) → is_host net p b ≡ true → asks ≡ v.asks → ◌≡◌ {A = View} (record { know = left; wants = wants; asks = asks; horizon = reached; joins = v.joins }) (learn net p b piece v log).view
  unfolding learn
  learned_host asks host ea = view_path left_there ew ea reached_there ∙ sym (trimmed_host net p b _ host)

  -- below it some of it is forgotten
  pub learned_below : (kept : Known) (asks : Asked) → is_host net p b ≡ false → kept ≡ forgotten net.cache (if keeps_horizon net p b then reached else max_tick) left → asks ≡ open_asks kept v.asks → ◌≡◌ {A = View} (record { know = kept; wants = wants; asks = asks; horizon = reached; joins = v.joins }) (learn net p b piece v log).view
  unfolding learn
  learned_below kept asks below ek ea =
      let known : kept ≡ forgotten net.cache (if keeps_horizon net p b then horizon_after (keeps_horizon net p b) v.horizon (zip_runs Q Q Q same_K join_K v.know piece) else max_tick) (finished (zip_runs Q Q Q same_K join_K v.know piece) (consolidated (keeps_horizon net p b) (horizon_after (keeps_horizon net p b) v.horizon (zip_runs Q Q Q same_K join_K v.know piece)) (forward_wants net p (new_ticks v.know piece) (net.children p b) v.wants))) =
      ek ∙ ap₂ (λ r k. forgotten net.cache (if keeps_horizon net p b then r else max_tick) k) reached_there left_there in
      view_path known ew (ea ∙ ap (λ k. open_asks k v.asks) known) reached_there ∙ sym (trimmed_below net p b _ below)
