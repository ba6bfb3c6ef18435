-- What a wake asks and sends up, and what forgetting leaves, is said tick by tick,
-- since each list of runs that a call makes is a table of a function of ticks
use Rattle.std.proofs.Common.{◌≡◌, ◌⊎◌, inl, inr, ⊎_elim, ℕ, suc, ◌+◌, ◌-◌, ◌≤◌, ◌<◌, Bool, true, false, not, ◌&&◌, ◌||◌, List, [], ◌∷◌, ◌++◌, refl, sym, ap, ap₂, ◌∙◌, subst, arith, le_refl}
use Rattle.std.specs.Prelude.{nat_le, nat_lt, if◌then◌else◌}
use Rattle.std.proofs.lemmas.Bool.{and_parts, and_right, false≢true, le-leb, lt-ltb}
use Rattle.gr_know.specs.declared.values.K.{K}
use Rattle.gr_know.specs.declared.values.K.TheVariants.{Q, S, D, F}
use Rattle.gr_curio.specs.declared.values.Q3.{Q3}
use Rattle.gr_curio.specs.declared.values.Q3.TheVariants.{N, C, A}
use Rattle.gr_tick.specs.Runs.{AreRuns, top_of}
use Rattle.gr_know.specs.Values.{known_at, is_Q}
use Rattle.gr_curio.specs.Values.{Wanted, wanted_at, asked_at, is_C, is_A, same_moment, is_outstanding}
use Rattle.gr_model.specs.Net.{Net, is_host, keeps_horizon}
use Rattle.gr_model.specs.Broker.{View, Log, Outcome, all_points, any_C, is_consolidated_by, is_F, consolidated, open_asks, kept_view_below, kept_view, max_tick, due, noted, upward, up_frames, asking, wake_below, wanted_at_wake}
use Rattle.gr_model.specs.World.{World, sweep_moment}
use Rattle.gr_model_calls.specs.Truth.{Facts}
use Rattle.gr_model_calls.specs.Fits.{ViewTrue}
use Rattle.gr_tick.proofs.RunLaws.{AreRunsOf, zip_runs-is}
use Rattle.gr_curio.proofs.ValueLaws.{moment_decides}
use Rattle.gr_model_calls.proofs.calls.Pieces.{IsLowered, forgotten-is}
pub use Rattle.gr_model_calls.proofs.calls.CallTruth.{due-at, noted-at, upward-at, wake_wanted}
use Rattle.gr_model_calls.proofs.calls.CallTruth.{want_runs, done_runs, done_values}
use Rattle.gr_curio.specs.declared.asks.Moment.TheVariants.{Never, At}
use Rattle.gr_curio.specs.declared.asks.Moment.{Moment}

-- Forgetting

and_true : (x : Bool) → (x && true) ≡ x
and_true true = refl
and_true false = refl

-- forgetting leaves each tick but some that are then unknown: never at a host, and with a horizon none above it; and each moment but those at final ticks
pub record IsTrimmed (net : Net) (p b : ℕ) (v u : View) : Type 0 where
  pub wants : u.wants ≡ v.wants
  pub asks : AreRuns Never v.asks → AreRunsOf Never (λ t. if is_F (known_at u.know t) && not (is_host net p b) then Never else asked_at v.asks t) u.asks
  pub horizon : u.horizon ≡ v.horizon
  pub joins : u.joins ≡ v.joins
  pub each : (t : ℕ) → (known_at u.know t ≡ known_at v.know t) ⊎ ((known_at u.know t ≡ Q) × (is_host net p b ≡ false) × (keeps_horizon net p b ≡ true → t ≤ v.horizon))

-- what is kept of a view is the view, but for ticks that may be forgotten and asks at final ticks
pub trimmed-is : (net : Net) (p b : ℕ) (v : View) → AreRuns Q v.know → IsTrimmed net p b v (kept_view net p b v)
unfolding kept_view open_asks
trimmed-is net p b v a = go (is_host net p b) refl
  where
    upto : ℕ
    upto = if keeps_horizon net p b then v.horizon else max_tick

    less : View
    less = kept_view_below net p b v

    lowered : IsLowered 1 upto v.know less.know
    lowered = forgotten-is net.cache upto v.know a

    -- at the host each moment stays, below it none at a final tick
    at_host : is_host net p b ≡ true → (t : ℕ) → asked_at v.asks t ≡ (if is_F (known_at v.know t) && not (is_host net p b) then Never else asked_at v.asks t)
    at_host e t = ap (λ q. if q then Never else asked_at v.asks t) (sym (ap (λ q. is_F (known_at v.know t) && not q) e ∙ and_right (is_F (known_at v.know t)) false refl))

    below : is_host net p b ≡ false → AreRuns Never v.asks → AreRunsOf Never (λ t. if is_F (known_at less.know t) && not (is_host net p b) then Never else asked_at v.asks t) less.asks
    below e r =
        let z = zip_runs-is Never Q Never same_moment moment_decides (λ moment k. if is_F k then Never else moment) v.asks less.know refl r lowered.runs in
        record { runs = z.runs; same_at = λ t. z.same_at t ∙ ap (λ q. if q then Never else asked_at v.asks t) (sym (ap (λ q. is_F (known_at less.know t) && not q) e ∙ and_true (is_F (known_at less.know t)))) }

    bound : (t : ℕ) → t ≤ upto → keeps_horizon net p b ≡ true → t ≤ v.horizon
    bound t h e = subst (λ q. t ≤ (if q then v.horizon else max_tick)) e h

    go : (q : Bool) → is_host net p b ≡ q → IsTrimmed net p b v (elim q [ true ↦ v | false ↦ less ])
    go true e = record { wants = refl; asks = λ r. record { runs = r; same_at = at_host e }; horizon = refl; joins = refl; each = λ t. inl refl }
    go false e = record { wants = refl; asks = below e; horizon = refl; joins = refl; each = λ t. ⊎_elim (λ x. inl x) (λ x. inr (x.0, e, bound t x.1)) (lowered.each t) }

-- the moment stays where the tick is unknown afterwards
pub moment_kept : (net : Net) (p b : ℕ) (v u : View) → IsTrimmed net p b v u → AreRuns Never v.asks → (t : ℕ) → known_at u.know t ≡ Q → asked_at u.asks t ≡ asked_at v.asks t
moment_kept net p b v u i r t e = (i.asks r).same_at t ∙ ap (λ k. if is_F k && not (is_host net p b) then Never else asked_at v.asks t) e

-- a moment that is left was there
pub moment_from : (net : Net) (p b : ℕ) (v u : View) → IsTrimmed net p b v u → AreRuns Never v.asks → (t k : ℕ) → asked_at u.asks t ≡ At k → asked_at v.asks t ≡ At k
moment_from net p b v u i r t k e = go (is_F (known_at u.know t) && not (is_host net p b)) (asked_at v.asks t) (sym ((i.asks r).same_at t) ∙ e)
  where
    never : Never ≡ At k → ⊥
    never z = cc

    go : (q : Bool) (moment : Moment) → (if q then Never else moment) ≡ At k → moment ≡ At k
    go true moment z = absurd (never z)
    go false moment z = z

-- with a horizon, no tick above it is forgotten
pub trimmed_above : (net : Net) (p b t : ℕ) (v u : View) → IsTrimmed net p b v u → keeps_horizon net p b ≡ true → v.horizon < t → known_at u.know t ≡ known_at v.know t
trimmed_above net p b t v u i k h = ⊎_elim (λ x. x) (λ x. absurd (omega (arith, x.2 k, h))) (i.each t)

-- Outstanding asks

-- a sweep's moment is a whole retry past the greatest moment, so every ask of before is overdue
pub sweep_is_past : (net : Net) (w : World) → w.most + net.retry ≤ sweep_moment net w
unfolding sweep_moment
sweep_is_past net w = omega arith

-- an ask of this moment is outstanding
pub just_asked : (now retry : ℕ) → 1 ≤ retry → is_outstanding (At now) now retry ≡ true
just_asked now retry h = rw (le-leb now now (le_refl now), lt-ltb now (now + retry) (omega (arith, h))) refl

-- Asking

-- The wake of a broker that is not the host

-- the ticks where what a wake wants may change
abbrev pub wake_points : Net → ℕ → View → List ℕ
wake_points net now v = all_points v.wants ++ (suc v.horizon ∷ (suc (now - net.idle) ∷ (suc (now - net.gap) ∷ (top_of v.know ∷ []))))

-- what a wake asks of the next broker up
abbrev pub wake_asked : Net → ℕ → ℕ → ℕ → View → Wanted
wake_asked net p b now v = due now net.retry v.know v.asks (wanted_at_wake net (keeps_horizon net p b) now v) (wake_points net now v)

-- what a wake sends up: its acknowledgements, and what it asks
abbrev pub wake_piece : Net → ℕ → ℕ → ℕ → View → Wanted
wake_piece net p b now v = upward (consolidated (keeps_horizon net p b) v.horizon v.wants) (wake_asked net p b now v)

-- the broker needs a tick: it does not know it, and a child asks for it or it is above the horizon that the broker keeps
abbrev pub needs : Net → ℕ → ℕ → View → ℕ → Bool
needs net p b v t = is_Q (known_at v.know t) && (any_C v.wants t || (keeps_horizon net p b && nat_lt v.horizon t))

-- what the wake of a broker below the host does at each tick
pub record WakeTicks (net : Net) (p b now : ℕ) (v : View) (o : Outcome) : Type 0 where
  pub frames : o.frames ≡ up_frames net p b (wake_piece net p b now v)
  pub asked : (t : ℕ) → wanted_at (wake_asked net p b now v) t ≡ (if wanted_at_wake net (keeps_horizon net p b) now v t && is_Q (known_at v.know t) && not (is_outstanding (asked_at v.asks t) now net.retry) then C else N)
  pub piece : (t : ℕ) → wanted_at (wake_piece net p b now v) t ≡ (if is_consolidated_by (keeps_horizon net p b) v.horizon v.wants t then A else wanted_at (wake_asked net p b now v) t)
  pub piece_runs : AreRuns N (wake_piece net p b now v)
  -- the moment of the last ask stays where the tick is unknown afterwards, and none comes of itself
  pub asks : (t : ℕ) → known_at o.view.know t ≡ Q → asked_at o.view.asks t ≡ (if is_C (wanted_at (wake_asked net p b now v) t) then At now else asked_at v.asks t)
  pub asks_from : (t k : ℕ) → asked_at o.view.asks t ≡ At k → (if is_C (wanted_at (wake_asked net p b now v) t) then At now else asked_at v.asks t) ≡ At k
  pub wants : o.view.wants ≡ v.wants
  pub horizon : o.view.horizon ≡ v.horizon
  pub know : (t : ℕ) → (known_at o.view.know t ≡ known_at v.know t) ⊎ ((known_at o.view.know t ≡ Q) × (is_host net p b ≡ false) × (keeps_horizon net p b ≡ true → t ≤ v.horizon))

A_if : (c : Bool) (x : Q3) → (if is_A (if c then A else N) then A else x) ≡ (if c then A else x)
A_if true x = refl
A_if false x = refl

-- a wake below the host asks exactly the wanted, unknown ticks that
-- are not outstanding, and acknowledges exactly the consolidated ones
pub wake_ticks : (net : Net) (f : Facts) (p b now : ℕ) (v : View) (log : Log) → ViewTrue net f p b v → WakeTicks net p b now v (wake_below net p b now v log)
unfolding wake_below asking
wake_ticks net f p b now v log h =
    let d = due-at now net.retry v.know v.asks (wanted_at_wake net (keeps_horizon net p b) now v) (wake_points net now v) (wake_wanted net p b now v (want_runs net f p (net.children p b) v.wants h.wants) (keeps_horizon net p b)) in
    let done = consolidated (keeps_horizon net p b) v.horizon v.wants in
    let dr = done_runs net f p b v.horizon v.wants h.wants in
    let u = upward-at done (wake_asked net p b now v) dr d.runs in
    let left : View = record { know = v.know; wants = v.wants; asks = noted now v.asks (wake_asked net p b now v); horizon = v.horizon; joins = v.joins } in
    let i = trimmed-is net p b left h.know.runs in
    let n = noted-at now v.asks (wake_asked net p b now v) h.asks d.runs in
    record {
      frames = refl;
      asked = d.same_at;
      piece = λ t. u.same_at t ∙ (ap (λ x. if is_A x then A else wanted_at (wake_asked net p b now v) t) (done_values net f p b v.horizon v.wants h.wants t) ∙ A_if (is_consolidated_by (keeps_horizon net p b) v.horizon v.wants t) (wanted_at (wake_asked net p b now v) t));
      piece_runs = u.runs;
      asks = λ t e. moment_kept net p b left (wake_below net p b now v log).view i n.runs t e ∙ n.same_at t;
      asks_from = λ t k e. sym (n.same_at t) ∙ moment_from net p b left (wake_below net p b now v log).view i n.runs t k e;
      wants = i.wants;
      horizon = i.horizon;
      know = i.each;
    }

C_if : (c : Bool) → (if c then C else N) ≡ C → c ≡ true
C_if true e = refl
C_if false e = absurd (N_not_C e)
  where
    N_not_C : N ≡ C → ⊥
    N_not_C e = cc

wanted_needed : (q c k h x : Bool) → ((c || (k && h && x)) && q) ≡ true → (q && (c || (k && h))) ≡ true
wanted_needed true true k h x e = refl
wanted_needed true false true true x e = refl
wanted_needed true false true false x e = e
wanted_needed true false false h x e = e
wanted_needed false true k h x e = e
wanted_needed false false true true true e = e
wanted_needed false false true true false e = e
wanted_needed false false true false x e = e
wanted_needed false false false h x e = e

needed_wanted : (q c k h x y : Bool) → (q && (c || (k && h))) ≡ true → x ≡ true → ((c || (k && h && (x || y))) && q) ≡ true
needed_wanted true true k h x y e g = refl
needed_wanted true false true true x y e g = rw g refl
needed_wanted true false true false x y e g = e
needed_wanted true false false h x y e g = e
needed_wanted false c k h x y e g = absurd (false≢true e)

-- what a wake asks it needs
pub asked_is_needed : (net : Net) (p b now t : ℕ) (v : View) (o : Outcome) → WakeTicks net p b now v o → wanted_at (wake_asked net p b now v) t ≡ C → needs net p b v t ≡ true
asked_is_needed net p b now t v o k e =
    let q = is_Q (known_at v.know t) in
    let a = C_if (wanted_at_wake net (keeps_horizon net p b) now v t && q && not (is_outstanding (asked_at v.asks t) now net.retry)) (sym (k.asked t) ∙ e) in
    wanted_needed q (any_C v.wants t) (keeps_horizon net p b) (nat_lt v.horizon t) (nat_le (t + net.idle) now || (nat_le (t + net.gap) now && nat_lt t (top_of v.know)))
    (and_parts (wanted_at_wake net (keeps_horizon net p b) now v t && q) (not (is_outstanding (asked_at v.asks t) now net.retry)) a).0

-- what a broker needs, idle before this moment and with no ask outstanding, its wake asks
pub needed_is_asked : (net : Net) (p b now t : ℕ) (v : View) (o : Outcome) → WakeTicks net p b now v o → needs net p b v t ≡ true → t + net.idle ≤ now → is_outstanding (asked_at v.asks t) now net.retry ≡ false → wanted_at (wake_asked net p b now v) t ≡ C
needed_is_asked net p b now t v o k e h n =
    let w = needed_wanted (is_Q (known_at v.know t)) (any_C v.wants t) (keeps_horizon net p b) (nat_lt v.horizon t) (nat_le (t + net.idle) now) (nat_le (t + net.gap) now && nat_lt t (top_of v.know)) e (le-leb (t + net.idle) now h) in
    k.asked t ∙ (ap₂ (λ x y. if x && not y then C else N) w n)

Q_is : (k : K) → is_Q k ≡ true → k ≡ Q
Q_is Q e = refl
Q_is S e = absurd (false≢true e)
Q_is (D x) e = absurd (false≢true e)
Q_is F e = absurd (false≢true e)

-- and has it noted with this moment
pub asked_is_noted : (net : Net) (p b now t : ℕ) (v : View) (o : Outcome) → WakeTicks net p b now v o → wanted_at (wake_asked net p b now v) t ≡ C → asked_at o.view.asks t ≡ At now
asked_is_noted net p b now t v o k e =
    let q : known_at v.know t ≡ Q = Q_is (known_at v.know t) (and_parts (is_Q (known_at v.know t)) (any_C v.wants t || (keeps_horizon net p b && nat_lt v.horizon t)) (asked_is_needed net p b now t v o k e)).0 in
    k.asks t (⊎_elim (λ z. z ∙ q) (λ z. z.0) (k.know t)) ∙ ap (λ x. if is_C x then At now else asked_at v.asks t) e

-- where a tick is outstanding whenever it is wanted and unknown, it is not asked
pub not_asked : (w q o : Bool) → (q ≡ true → w ≡ true → o ≡ true) → (if w && q && not o then C else N) ≡ N
not_asked true true o h = ap (λ x. if not x then C else N) (h refl refl)
not_asked true false o h = refl
not_asked false true o h = refl
not_asked false false o h = refl
