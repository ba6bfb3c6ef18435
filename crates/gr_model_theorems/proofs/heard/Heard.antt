-- Above its horizon a broker knows what it has heard
use Rattle.std.proofs.Common.{◌≡◌, ◌≢◌, ◌⊎◌, inl, inr, ⊎_elim, ℕ, suc, ◌-◌, ◌≤◌, ◌<◌, Bool, true, false, not, ◌&&◌, ◌||◌, List, refl, sym, ap, ap₂, ◌∙◌, subst, arith}
use Rattle.std.specs.Prelude.{nat_le, if◌then◌else◌}
use Rattle.std.proofs.lemmas.Bool.{cases_lt, false≢true, or_left, or_right, or_cases, lt-leb, and_right, false_from_ne_true}
use Rattle.gr_know.specs.declared.values.K.{K}
use Rattle.gr_know.specs.declared.values.K.TheVariants.{Q, S, D, F}
use Rattle.gr_curio.specs.declared.values.Q3.TheVariants.{N, A}
use Rattle.gr_tick.specs.Runs.{AreRuns, zip_runs, first_bottom_from}
use Rattle.gr_know.specs.Values.{Known, known_at, is_Q, join_K, same_K}
use Rattle.gr_curio.specs.Values.{Wanted, wanted_at, is_A}
use Rattle.gr_model.specs.Net.{Net, is_host, keeps_horizon}
use Rattle.gr_model.specs.Broker.{View, Log, learn, kept_view, kept_view_below, finished, consolidated, horizon_after, is_consolidated_by, all_A, new_ticks, forward_wants, max_tick}
use Rattle.gr_model_calls.specs.Truth.{Facts, KnowsTruth, AllWantTruth}
use Rattle.gr_model.specs.Tree.{IsPlace}
use Rattle.gr_model_calls.specs.Fits.{ViewTrue}
use Rattle.gr_tick.proofs.RunLaws.{AreRunsOf, first_bottom_from-is}
use Rattle.gr_model_calls.proofs.calls.Pieces.{IsLowered, forgotten-is}
use Rattle.gr_model_calls.proofs.calls.CallTruth.{finished-is, joined-is, learn_wants, done_runs, done_values, learned_horizon}
use Rattle.gr_model_calls.proofs.calls.Calls.{learn_horizon, join_not_Q}

-- a broker that keeps a horizon: all up to it was heard, the next tick was not, and above it the known ticks are the heard ones
pub record HeardFits (v : View) (heard : ℕ → Bool) : Type 0 where
  pub below : (t : ℕ) → 1 ≤ t → t ≤ v.horizon → heard t ≡ true
  pub stops : heard (suc v.horizon) ≡ false
  pub known : (t : ℕ) → v.horizon < t → known_at v.know t ≢ Q → heard t ≡ true
  pub kept : (t : ℕ) → v.horizon < t → heard t ≡ true → known_at v.know t ≢ Q

-- what was heard once a piece has come
abbrev pub hears : (ℕ → Bool) → Known → ℕ → Bool
hears heard piece t = heard t || not (is_Q (known_at piece t))

-- a known tick does not pass the test for an unknown one
pub is_Q_at : (k : K) → k ≢ Q → not (is_Q k) ≡ true
is_Q_at Q n = absurd (n refl)
is_Q_at S n = refl
is_Q_at (D e) n = refl
is_Q_at F n = refl

-- what does not pass the test for an unknown tick is known
pub not_Q_at : (k : K) → not (is_Q k) ≡ true → k ≢ Q
not_Q_at Q e = absurd (false≢true e)
not_Q_at S e = λ h. cc
not_Q_at (D v) e = λ h. cc
not_Q_at F e = λ h. cc

-- a tick is unknown, or it is known
pub cases_Q : (k : K) → (k ≡ Q) ⊎ (k ≢ Q)
cases_Q Q = inl refl
cases_Q S = inr (λ h. cc)
cases_Q (D e) = inr (λ h. cc)
cases_Q F = inr (λ h. cc)

-- above the horizon nothing is consolidated where one is kept
pub not_done : (h t : ℕ) (ws : List Wanted) → h < t → is_consolidated_by true h ws t ≡ false
not_done h t ws l = ap (λ b. b && all_A ws t) (ap (λ b. nat_le 1 t && b) (lt-leb t h l) ∙ and_right (nat_le 1 t) false refl)

-- a view's knowledge above its horizon, after trimming and consolidation
pub kept_above : (net : Net) (f : Facts) (p b : ℕ) (know : Known) (ws : List Wanted) (v : View) (t : ℕ) → keeps_horizon net p b ≡ true → AreRuns Q know → AllWantTruth net f p (net.children p b) ws → v.know ≡ finished know (consolidated (keeps_horizon net p b) v.horizon ws) → v.horizon < t → known_at (kept_view net p b v).know t ≡ known_at know t
unfolding kept_view
kept_above net f p b know ws v t keeps r a e l = go (is_host net p b)
  where
    done : Wanted
    done = consolidated (keeps_horizon net p b) v.horizon ws

    fin : AreRunsOf Q (λ x. if is_A (wanted_at done x) then F else known_at know x) (finished know done)
    fin = finished-is know done r (done_runs net f p b v.horizon ws a)

    none : is_A (wanted_at done t) ≡ false
    none = ap is_A (done_values net f p b v.horizon ws a t ∙ ap (λ c. if c then A else N) (ap (λ k. is_consolidated_by k v.horizon ws t) keeps ∙ not_done v.horizon t ws l))

    base : known_at v.know t ≡ known_at know t
    base = ap (λ k. known_at k t) e ∙ (fin.same_at t ∙ ap (λ c. if c then F else known_at know t) none)

    upto : (if keeps_horizon net p b then v.horizon else max_tick) ≡ v.horizon
    upto = ap (λ c. if c then v.horizon else max_tick) keeps

    less : View
    less = kept_view_below net p b v

    low : IsLowered 1 (if keeps_horizon net p b then v.horizon else max_tick) v.know less.know
    low = forgotten-is net.cache (if keeps_horizon net p b then v.horizon else max_tick) v.know (subst (λ k. AreRuns Q k) (sym e) fin.runs)

    go : (q : Bool) → (let u : View = elim q [ true ↦ v | false ↦ less ] in known_at u.know t) ≡ known_at know t
    go true = base
    go false = ⊎_elim (λ x. x ∙ base) (λ x. absurd (omega (arith, x.1, upto))) (low.each t)

-- above its horizon a broker then knows of each tick what it knew joined with the piece
pub learn_above : (net : Net) (f : Facts) (p b : ℕ) (piece : Known) (v : View) (log : Log) (t : ℕ) → IsPlace net p b → keeps_horizon net p b ≡ true → ViewTrue net f p b v → KnowsTruth net f p b piece → learned_horizon net p b piece v < t → known_at (learn net p b piece v log).view.know t ≡ join_K (known_at v.know t) (known_at piece t)
unfolding learn
learn_above net f p b piece v log t place keeps h k l =
    let j = joined-is v.know piece h.know.runs k.runs in
    kept_above net f p b (zip_runs Q Q Q same_K join_K v.know piece) (forward_wants net p (new_ticks v.know piece) (net.children p b) v.wants) _ t keeps j.runs (learn_wants net f p b piece v place h k) refl l ∙ j.same_at t

-- a kept horizon moves to just before the first unknown tick past it
pub horizon_keeps : (c : Bool) (n : ℕ) (know : Known) → c ≡ true → horizon_after c n know ≡ first_bottom_from know (suc n) - 1
unfolding horizon_after
horizon_keeps true n know q = refl
horizon_keeps false n know q = absurd (false≢true q)

-- learning keeps it, with what the piece adds to what was heard
pub learn_heard : (net : Net) (f : Facts) (p b : ℕ) (piece : Known) (v : View) (log : Log) (heard : ℕ → Bool) → IsPlace net p b → keeps_horizon net p b ≡ true → ViewTrue net f p b v → KnowsTruth net f p b piece → HeardFits v heard → HeardFits (learn net p b piece v log).view (hears heard piece)
learn_heard net f p b piece v log heard place keeps h k was =
    let know = zip_runs Q Q Q same_K join_K v.know piece in
    let j = joined-is v.know piece h.know.runs k.runs in
    let e : (learn net p b piece v log).view.horizon ≡ learned_horizon net p b piece v = learn_horizon net p b piece v log in
    let g : learned_horizon net p b piece v ≡ first_bottom_from know (suc v.horizon) - 1 = horizon_keeps (keeps_horizon net p b) v.horizon know keeps in
    let i = first_bottom_from-is Q 1 know (suc v.horizon) j.runs in
    let u : suc (learned_horizon net p b piece v) ≡ first_bottom_from know (suc v.horizon) = omega (arith, g, i.reached) in
    record {
      below = λ t x y. elim (cases_lt v.horizon t) [
        | inl z ↦ heard_of t z (λ q. i.known t z (omega (arith, e, y, u)) (j.same_at t ∙ q))
        | inr z ↦ or_left (heard t) (not (is_Q (known_at piece t))) (was.below t x z)
      ];
      stops = subst (λ z. hears heard piece z ≡ false) (sym (ap suc e ∙ u)) (not_heard (first_bottom_from know (suc v.horizon)) (omega (arith, i.reached)) (sym (j.same_at (first_bottom_from know (suc v.horizon))) ∙ i.stops));
      known = λ t x y. heard_of t (omega (arith, e, x, u, i.reached)) (λ q. y (learn_above net f p b piece v log t place keeps h k (omega (arith, e, x)) ∙ q));
      kept = λ t x y q. unheard t (omega (arith, e, x, u, i.reached)) y (sym (learn_above net f p b piece v log t place keeps h k (omega (arith, e, x))) ∙ q);
    }
  where
    -- a tick above the old horizon whose join is known was heard
    heard_of : (t : ℕ) → v.horizon < t → join_K (known_at v.know t) (known_at piece t) ≢ Q → hears heard piece t ≡ true
    heard_of t l n =
        elim (cases_Q (known_at piece t)) [
          | inr x ↦ or_right (heard t) (not (is_Q (known_at piece t))) (is_Q_at (known_at piece t) x)
          | inl x ↦ elim (cases_Q (known_at v.know t)) [
            | inr y ↦ or_left (heard t) (not (is_Q (known_at piece t))) (was.known t l y)
            | inl y ↦ absurd (n (ap₂ join_K y x))
          ]
        ]

    -- and one that was heard has a known join
    unheard : (t : ℕ) → v.horizon < t → hears heard piece t ≡ true → join_K (known_at v.know t) (known_at piece t) ≡ Q → ⊥
    unheard t l y q =
        ⊎_elim (λ x. join_not_Q (known_at v.know t) (known_at piece t) (inl (was.kept t l x)) q) (λ x. join_not_Q (known_at v.know t) (known_at piece t) (inr (not_Q_at (known_at piece t) x)) q)
        (or_cases (heard t) (not (is_Q (known_at piece t))) y)

    not_heard : (t : ℕ) → v.horizon < t → join_K (known_at v.know t) (known_at piece t) ≡ Q → hears heard piece t ≡ false
    not_heard t l q = false_from_ne_true (hears heard piece t) (λ y. unheard t l y q)
