-- What a broker below the host asks, sends up and keeps is what the machine says: each list of runs that a call answers has the
-- machine's value at every tick, and the values determine the runs
use Rattle.std.proofs.Common.{◌≡◌, ◌≢◌, ◌⊎◌, inl, inr, ⊎_elim, ℕ, zero, suc, ◌+◌, ◌-◌, ◌^◌, ◌≤◌, min, max, Bool, true, false, not, ◌&&◌, ◌||◌, List, [], ◌∷◌, ◌++◌, refl, sym, ap, ap₂, ◌∙◌, subst, arith}
use Rattle.std.specs.Prelude.{IsTrue, ◌↔◌, nat_le, nat_lt, if◌then◌else◌, filter}
use Rattle.std.specs.List.{list_all}
use Rattle.std.proofs.lemmas.Bool.{cases_Bool, cases_eq, and_parts, both_ways, leb-true, ltb-true, le-leb, lt-leb, lt-ltb}
use Rattle.std.proofs.lemmas.Bool.Decides.{nat_tests}
use Rattle.gr_know.specs.declared.values.K.{K}
use Rattle.gr_know.specs.declared.values.K.TheVariants.{Q, S, D, F}
use Rattle.gr_curio.specs.declared.values.Q3.{Q3}
use Rattle.gr_curio.specs.declared.values.Q3.TheVariants.{N, C, A}
use Rattle.gr_curio.specs.declared.asks.Moment.{Moment}
use Rattle.gr_curio.specs.declared.asks.Moment.TheVariants.{Never}
use Rattle.gr_tick.specs.Runs.{AreRuns, IsNone, IsPast, points, top_of}
use Rattle.gr_tick.specs.Stored.{within, EndBefore, RunsGive}
use Rattle.gr_tick.proofs.Canonical.{given_runs, given_zip}
use Rattle.gr_tick.proofs.RunLaws.{IsNone-append, IsPast-append, value_at-step, value_at-past, value_at-start}
use Rattle.gr_know.specs.Values.{Known, known_at, is_Q, is_D}
use Rattle.gr_know.specs.Forget.{Forgets}
use Rattle.gr_know.proofs.Lowering.{forgotten-is}
use Rattle.gr_curio.specs.Values.{Wanted, Asked, wanted_at, asked_at, is_C, is_A, same_Q3, same_moment, is_outstanding}
use Rattle.gr_curio.specs.Due.{due_of, noted_of}
use Rattle.gr_curio.proofs.ValueLaws.{Q3_decides, moment_decides}
use Rattle.gr_model.specs.Net.{Net, is_host, keeps_horizon, not_empty}
use Rattle.gr_model.specs.Broker.{View, all_points, any_C, horizon_if, is_consolidated, consolidated, is_F, open_asks, kept_view, kept_view_below, forgotten, max_tick, due, noted, upward, wanted_at_wake, covers}
use Rattle.gr_model_calls.proofs.calls.Pieces.{le_step, consolidated-is}
use Rattle.gr_model_calls.proofs.calls.CallTruth.{IsWanted, due-at}
use Rattle.gr_model_calls.proofs.asks.CallTicks.{wake_points}

-- Where what is wanted may change

same_test : (x y : Bool) → (x ≡ true → y ≡ true) → (y ≡ true → x ≡ true) → x ≡ y
same_test true true a b = refl
same_test false false a b = refl
same_test true false a b = sym (a refl)
same_test false true a b = b refl

above_step : (h t : ℕ) → suc t ≢ suc h → nat_lt h (suc t) ≡ nat_lt h t
above_step h t n = same_test (nat_lt h (suc t)) (nat_lt h t)
    (λ e. let m : t ≡ h → ⊥ = λ g. n (ap suc g) in lt-ltb h t (omega (arith, ltb-true h (suc t) e, m)))
    (λ e. lt-ltb h (suc t) (omega (arith, ltb-true h t e)))

ago_step : (gap now t : ℕ) → suc t ≢ suc (now - gap) → nat_le (suc t + gap) now ≡ nat_le (t + gap) now
ago_step gap now t n = same_test (nat_le (suc t + gap) now) (nat_le (t + gap) now)
    (λ e. le-leb (t + gap) now (omega (arith, leb-true (suc t + gap) now e)))
    (λ e. let m : t ≡ now - gap → ⊥ = λ g. n (ap suc g) in le-leb (suc t + gap) now (omega (arith, leb-true (t + gap) now e, m)))

below_step : (top t : ℕ) → suc t ≢ top → nat_lt (suc t) top ≡ nat_lt t top
below_step top t n = same_test (nat_lt (suc t) top) (nat_lt t top)
    (λ e. lt-ltb t top (omega (arith, ltb-true (suc t) top e)))
    (λ e. lt-ltb (suc t) top (omega (arith, ltb-true t top e, n)))

any_C-step : (ws : List Wanted) (t : ℕ) → IsNone (suc t) (all_points ws) → any_C ws (suc t) ≡ any_C ws t
any_C-step [] t n = refl
any_C-step (w ∷ ws) t n =
    let k = IsNone-append (suc t) (points w) (all_points ws) n in
    ap₂ (λ x y. x || y) (ap is_C (value_at-step N w t k.0)) (any_C-step ws t k.1)

any_C-past : (ws : List Wanted) (t : ℕ) → IsPast t (all_points ws) → any_C ws t ≡ false
any_C-past [] t n = refl
any_C-past (w ∷ ws) t n =
    let k = IsPast-append t (points w) (all_points ws) n in
    ap₂ (λ x y. x || y) (ap is_C (value_at-past N w t k.0)) (any_C-past ws t k.1)

and_false : (x : Bool) → (x && false) ≡ false
and_false true = refl
and_false false = refl

C_only : (b : Bool) → (if b then C else N) ≡ N → b ≡ false
C_only true e = let bad : C ≡ N = e in cc
C_only false e = refl

-- a piece that is asked where a set is wanted: the set has not 0
none_at_start : (wanted : ℕ → Bool) (piece : Wanted) → RunsGive N piece (λ t. if wanted t then C else N) → wanted 0 ≡ false
none_at_start wanted piece g = C_only (wanted 0) (sym (g.values 0) ∙ value_at-start N 1 piece 0 g.canonical (omega arith))

-- what a wake wants is steady between these points
pub wake_steady : (net : Net) (keeps : Bool) (now : ℕ) (v : View) (piece : Wanted) → RunsGive N piece (λ t. if wanted_at_wake net keeps now v t then C else N) → IsWanted (wanted_at_wake net keeps now v) (wake_points net now v)
wake_steady net keeps now v piece g = record {
  start = none_at_start (wanted_at_wake net keeps now v) piece g;
  step = λ t n.
      let k = IsNone-append (suc t) (all_points v.wants) (suc v.horizon ∷ (suc (now - net.idle) ∷ (suc (now - net.gap) ∷ (top_of v.know ∷ [])))) n in
      ap₂ (λ x y. x || y) (any_C-step v.wants t k.0)
      (ap₂ (λ x y. keeps && x && y) (above_step v.horizon t k.1.0)
      (ap₂ (λ x y. x || y) (ago_step net.idle now t k.1.1.0) (ap₂ (λ x y. x && y) (ago_step net.gap now t k.1.1.1.0) (below_step (top_of v.know) t k.1.1.1.1.0))));
  past = λ t n.
      let k = IsPast-append t (all_points v.wants) (suc v.horizon ∷ (suc (now - net.idle) ∷ (suc (now - net.gap) ∷ (top_of v.know ∷ [])))) n in
      ap₂ (λ x y. x || y) (any_C-past v.wants t k.0)
      (ap₂ (λ x y. keeps && nat_lt v.horizon t && (x || (y && nat_lt t (top_of v.know)))) (lt-leb (t + net.idle) now (omega (arith, k.1.1.0))) (lt-leb (t + net.gap) now (omega (arith, k.1.1.1.0))) ∙ and_false (keeps && nat_lt v.horizon t));
}

-- what an expectation makes wanted
abbrev pub wanted_at_expect : Bool → ℕ → View → ℕ → Bool
wanted_at_expect keeps tick v t = any_C v.wants t || (keeps && nat_lt v.horizon t && nat_le t tick)

-- is steady between these points
pub expect_steady : (keeps : Bool) (tick : ℕ) (v : View) (piece : Wanted) → RunsGive N piece (λ t. if wanted_at_expect keeps tick v t then C else N) → IsWanted (wanted_at_expect keeps tick v) (all_points v.wants ++ (suc v.horizon ∷ (suc tick ∷ [])))
expect_steady keeps tick v piece g = record {
  start = none_at_start (wanted_at_expect keeps tick v) piece g;
  step = λ t n.
      let k = IsNone-append (suc t) (all_points v.wants) (suc v.horizon ∷ (suc tick ∷ [])) n in
      ap₂ (λ x y. x || y) (any_C-step v.wants t k.0) (ap₂ (λ x y. keeps && x && y) (above_step v.horizon t k.1.0) (le_step t tick k.1.1.0));
  past = λ t n.
      let k = IsPast-append t (all_points v.wants) (suc v.horizon ∷ (suc tick ∷ [])) n in
      ap₂ (λ x y. x || y) (any_C-past v.wants t k.0) (ap (λ y. keeps && nat_lt v.horizon t && y) (lt-leb t tick (omega (arith, k.1.1.0))) ∙ and_false (keeps && nat_lt v.horizon t));
}

-- The range that is wanted

-- a tick above the horizon is wanted at a wake up to this one
wake_range : (h t gap idle now top last : ℕ) → last ≡ max (now - idle) (min (now - gap) (top - 1)) → within (h + 1) last t ≡ (nat_lt h t && (nat_le (t + idle) now || (nat_le (t + gap) now && nat_lt t top)))
wake_range h t gap idle now top last e = grind (arith, nat_tests)

-- and where one is expected up to that
expect_range : (h t tick : ℕ) → within (h + 1) tick t ≡ (nat_lt h t && nat_le t tick)
expect_range h t tick = grind (arith, nat_tests)

-- no tick lies between a horizon and 0
no_range : (h t : ℕ) → within (h + 1) 0 t ≡ false
no_range h t = grind (arith, nat_tests)

-- with the values of one function, and so of another that is the same
give_same : (piece : Wanted) (g h : ℕ → Q3) → RunsGive N piece g → ((t : ℕ) → g t ≡ h t) → RunsGive N piece h
give_same piece g h r same = record { canonical = r.canonical; in_range = r.in_range; values = λ t. r.values t ∙ same t }

-- what children ask and the range up to a wake's end is what a wake wants
pub wake_wants : (net : Net) (keeps : Bool) (now last : ℕ) (v : View) (piece : Wanted) → last ≡ (if keeps then max (now - net.idle) (min (now - net.gap) (top_of v.know - 1)) else 0) →
    RunsGive N piece (λ t. if any_C v.wants t || within (v.horizon + 1) last t then C else N) → RunsGive N piece (λ t. if wanted_at_wake net keeps now v t then C else N)
wake_wants net keeps now last v piece e g =
    give_same piece (λ t. if any_C v.wants t || within (v.horizon + 1) last t then C else N) (λ t. if wanted_at_wake net keeps now v t then C else N) g (λ t. ap (λ x. if any_C v.wants t || x then C else N) (by_case keeps e t))
  where
    by_case : (k : Bool) → last ≡ (if k then max (now - net.idle) (min (now - net.gap) (top_of v.know - 1)) else 0) → (t : ℕ) → within (v.horizon + 1) last t ≡ (k && nat_lt v.horizon t && (nat_le (t + net.idle) now || (nat_le (t + net.gap) now && nat_lt t (top_of v.know))))
    by_case true e t = wake_range v.horizon t net.gap net.idle now (top_of v.know) last e
    by_case false e t = ap (λ x. within (v.horizon + 1) x t) e ∙ no_range v.horizon t

-- what children ask and the range up to an expected tick is what an expectation makes wanted
pub expect_wants : (keeps : Bool) (tick last : ℕ) (v : View) (piece : Wanted) → last ≡ (if keeps then tick else 0) →
    RunsGive N piece (λ t. if any_C v.wants t || within (v.horizon + 1) last t then C else N) → RunsGive N piece (λ t. if wanted_at_expect keeps tick v t then C else N)
expect_wants keeps tick last v piece e g =
    give_same piece (λ t. if any_C v.wants t || within (v.horizon + 1) last t then C else N) (λ t. if wanted_at_expect keeps tick v t then C else N) g (λ t. ap (λ x. if any_C v.wants t || x then C else N) (by_case keeps e t))
  where
    by_case : (k : Bool) → last ≡ (if k then tick else 0) → (t : ℕ) → within (v.horizon + 1) last t ≡ (k && nat_lt v.horizon t && nat_le t tick)
    by_case true e t = ap (λ x. within (v.horizon + 1) x t) e ∙ expect_range v.horizon t tick
    by_case false e t = ap (λ x. within (v.horizon + 1) x t) e ∙ no_range v.horizon t

-- What is asked

due_same : (moment : Moment) (x : Q3) (w q : Bool) (now retry : ℕ) → x ≡ (if w then C else N) → due_of moment (if is_C x && q then C else N) now retry ≡ (if w && q && not (is_outstanding moment now retry) then C else N)
due_same moment x true true now retry e = ap (λ y. due_of moment (if is_C y && true then C else N) now retry) e
due_same moment x true false now retry e = ap (λ y. due_of moment (if is_C y && false then C else N) now retry) e
due_same moment x false q now retry e = ap (λ y. due_of moment (if is_C y && q then C else N) now retry) e

-- the ticks of a wanted set that are unknown, and of which no ask is outstanding, are those that the machine asks
pub due_is : (now retry : ℕ) (know : Known) (asks : Asked) (wanted : ℕ → Bool) (ps : List ℕ) (piece asked : Wanted) → IsWanted wanted ps → RunsGive N piece (λ t. if wanted t then C else N) →
    RunsGive N asked (λ t. due_of (asked_at asks t) (if is_C (wanted_at piece t) && is_Q (known_at know t) then C else N) now retry) → asked ≡ due now retry know asks wanted ps
due_is now retry know asks wanted ps piece asked steady told g =
    let d = due-at now retry know asks wanted ps steady in
    given_runs N asked (due now retry know asks wanted ps) (λ t. due_of (asked_at asks t) (if is_C (wanted_at piece t) && is_Q (known_at know t) then C else N) now retry) g d.runs
    (λ t. d.same_at t ∙ sym (due_same (asked_at asks t) (wanted_at piece t) (wanted t) (is_Q (known_at know t)) now retry (told.values t)))

-- What is sent up

-- what is acknowledged upstream is what the machine has consolidated
pub done_is : (keeps : Bool) (h : ℕ) (ws : List Wanted) (done : Wanted) → (keeps || not_empty ws) ≡ true → RunsGive N done (λ t. if is_consolidated (horizon_if keeps h) ws t then A else N) → done ≡ consolidated keeps h ws
done_is keeps h ws done some g =
    let k = consolidated-is keeps h ws some in
    given_runs N done (consolidated keeps h ws) (λ t. if is_consolidated (horizon_if keeps h) ws t then A else N) g k.runs k.same_at

-- what goes up: acknowledged where all is consolidated, else asked
pub upward_is : (done asked sent : Wanted) → AreRuns N done → AreRuns N asked → RunsGive N sent (λ t. if is_A (wanted_at done t) then A else wanted_at asked t) → sent ≡ upward done asked
unfolding upward
upward_is done asked sent d a g = given_zip N N N same_Q3 Q3_decides (λ c a. if is_A c then A else a) done asked sent refl d a g

-- What is kept

-- where events are forgotten no tick becomes final
final_was : (limit upto t : ℕ) (know kept : Known) → Forgets limit upto know kept → known_at kept t ≡ F → known_at know t ≡ F
final_was limit upto t know kept f e = by_test (is_D (known_at know t) && nat_le t f.last) (sym (f.each t) ∙ e)
  where
    by_test : (b : Bool) → (if b then Q else known_at know t) ≡ F → known_at know t ≡ F
    by_test true x = let bad : Q ≡ F = x in cc
    by_test false x = x

-- moments with none at a final tick are all open
open_is : (know : Known) (asks : Asked) → AreRuns Q know → AreRuns Never asks → EndBefore asks (2 ^ 62 + 1) → ((t : ℕ) → known_at know t ≡ F → asked_at asks t ≡ Never) → asks ≡ open_asks know asks
unfolding open_asks
open_is know asks k a b dropped = given_zip Never Q Never same_moment moment_decides (λ moment x. if is_F x then Never else moment) asks know asks refl a k (record { canonical = a; in_range = b; values = λ t. at (known_at know t) (asked_at asks t) (dropped t) })
  where
    at : (x : K) (moment : Moment) → (x ≡ F → moment ≡ Never) → moment ≡ (if is_F x then Never else moment)
    at Q moment h = refl
    at S moment h = refl
    at (D e) moment h = refl
    at F moment h = h refl

-- the moments of asks, once what is asked was asked
noted_is : (now : ℕ) (asks : Asked) (asked : Wanted) (after : Asked) → AreRuns Never asks → AreRuns N asked → RunsGive Never after (λ t. noted_of now (asked_at asks t) (wanted_at asked t)) → after ≡ noted now asks asked
unfolding noted
noted_is now asks asked after a w g = given_zip Never N Never same_moment moment_decides (noted_of now) asks asked after refl a w g

-- no moment is noted at a final tick, since an asked tick is unknown
noted_dropped : (now t : ℕ) (know : Known) (asks : Asked) (asked : Wanted) (after : Asked) → (is_C (wanted_at asked t) ≡ true → known_at know t ≡ Q) → (known_at know t ≡ F → asked_at asks t ≡ Never) →
    asked_at after t ≡ noted_of now (asked_at asks t) (wanted_at asked t) → known_at know t ≡ F → asked_at after t ≡ Never
noted_dropped now t know asks asked after unknown dropped noted final = noted ∙ by_value (wanted_at asked t) unknown
  where
    by_value : (x : Q3) → (is_C x ≡ true → known_at know t ≡ Q) → noted_of now (asked_at asks t) x ≡ Never
    by_value N u = dropped final
    by_value A u = dropped final
    by_value C u = let bad : Q ≡ F = sym (u refl) ∙ final in cc

-- what a broker below the host keeps once it has asked
pub asked_view : (net : Net) (p b now : ℕ) (v : View) (asked : Wanted) (know : Known) (asks : Asked) → is_host net p b ≡ false → AreRuns Q v.know → AreRuns Never v.asks → AreRuns N asked → AreRuns Q know →
    ((t : ℕ) → known_at v.know t ≡ F → asked_at v.asks t ≡ Never) → ((t : ℕ) → is_C (wanted_at asked t) ≡ true → known_at v.know t ≡ Q) →
    know ≡ forgotten net.cache (if keeps_horizon net p b then v.horizon else max_tick) v.know → RunsGive Never asks (λ t. noted_of now (asked_at v.asks t) (wanted_at asked t)) →
    ◌≡◌ {A = View} (record { know = know; wants = v.wants; asks = asks; horizon = v.horizon; joins = v.joins }) (kept_view net p b (record { know = v.know; wants = v.wants; asks = noted now v.asks asked; horizon = v.horizon; joins = v.joins }))
unfolding kept_view
asked_view net p b now v asked know asks below k a w kn dropped unknown forgot g = ap₂ view_with forgot asks_are ∙ sym (ap by_host below)
  where
    upto : ℕ
    upto = if keeps_horizon net p b then v.horizon else max_tick

    left : View
    left = record { know = v.know; wants = v.wants; asks = noted now v.asks asked; horizon = v.horizon; joins = v.joins }

    by_host : Bool → View
    by_host q = elim q [ true ↦ left | false ↦ kept_view_below net p b left ]

    view_with : Known → Asked → View
    view_with x y = record { know = x; wants = v.wants; asks = y; horizon = v.horizon; joins = v.joins }

    forgets : Forgets net.cache upto v.know know
    forgets = subst (λ x. Forgets net.cache upto v.know x) (sym forgot) (forgotten-is net.cache upto v.know k)

    all_open : asks ≡ open_asks know asks
    all_open = open_is know asks kn g.canonical g.in_range
        (λ t e. noted_dropped now t v.know v.asks asked asks (unknown t) (dropped t) (g.values t) (final_was net.cache upto t v.know know forgets e))

    asks_are : asks ≡ open_asks (forgotten net.cache upto v.know) (noted now v.asks asked)
    asks_are = all_open ∙ ap₂ open_asks forgot (noted_is now v.asks asked asks a w g)

-- Expectations

-- a list with one number more that passes the test of a filter, or does not
filter_yes : (good tested : ℕ → Bool) (p : ℕ) (ps : List ℕ) → tested p ≡ true → list_all good (filter tested (p ∷ ps)) ≡ (good p && list_all good (filter tested ps))
filter_yes good tested p ps y = ap (λ q. list_all good (if q then p ∷ filter tested ps else filter tested ps)) y

filter_no : (good tested : ℕ → Bool) (p : ℕ) (ps : List ℕ) → tested p ≡ false → list_all good (filter tested (p ∷ ps)) ≡ list_all good (filter tested ps)
filter_no good tested p ps n = ap (λ q. list_all good (if q then p ∷ filter tested ps else filter tested ps)) n

-- where all that pass a filter are good, a tested number is good or none of the list
good_or_none : (good tested : ℕ → Bool) (t : ℕ) (ps : List ℕ) → list_all good (filter tested ps) ≡ true → tested t ≡ true → IsNone t ps ⊎ (good t ≡ true)
good_or_none good tested t [] h e = inl tt
good_or_none good tested t (p ∷ ps) h e =
    elim (cases_Bool (tested p)) [
      | inl y ↦
          let parts = and_parts (good p) (list_all good (filter tested ps)) (sym (filter_yes good tested p ps y) ∙ h) in
          elim (cases_eq t p) [
            | inl g ↦ inr (ap good g ∙ parts.0)
            | inr g ↦ ⊎_elim (λ z. inl (g, z)) (λ z. inr z) (good_or_none good tested t ps parts.1 e)
          ]
      | inr n ↦
          let g : t ≢ p = λ z. both_ways (tested p) n (subst (λ q. tested q ≡ true) z e) in
          ⊎_elim (λ z. inl (g, z)) (λ z. inr z) (good_or_none good tested t ps (sym (filter_no good tested p ps n) ∙ h) e)
    ]

all_good : (good tested : ℕ → Bool) (ps : List ℕ) → ((t : ℕ) → tested t ≡ true → good t ≡ true) → list_all good (filter tested ps) ≡ true
all_good good tested [] h = refl
all_good good tested (p ∷ ps) h =
    elim (cases_Bool (tested p)) [
      | inl y ↦ filter_yes good tested p ps y ∙ ap₂ (λ x z. x && z) (h p y) (all_good good tested ps h)
      | inr n ↦ filter_no good tested p ps n ∙ all_good good tested ps h
    ]

covered : (w : Wanted) (upto : ℕ) → covers w upto ≡ true → (t : ℕ) → 1 ≤ t → t ≤ upto → is_A (wanted_at w t) ≡ true
covered w upto e zero a c = absurd (omega (arith, a))
covered w upto e (suc zero) a c = ⊎_elim (λ x. absurd (x.0 refl)) (λ x. x) (good_or_none (λ t. is_A (wanted_at w t)) (λ t. nat_le 1 t && nat_le t upto) 1 (1 ∷ points w) e (rw (le-leb 1 upto c) refl))
covered w upto e (suc (suc t)) a c =
    ⊎_elim (λ x. ap is_A (value_at-step N w (suc t) x.1) ∙ covered w upto e (suc t) (omega arith) (omega (arith, c))) (λ x. x)
    (good_or_none (λ t. is_A (wanted_at w t)) (λ t. nat_le 1 t && nat_le t upto) (suc (suc t)) (1 ∷ points w) e (ap₂ (λ x y. x && y) (le-leb 1 (suc (suc t)) a) (le-leb (suc (suc t)) upto c)))

-- a child covers the ticks up to one where it has acknowledged each of them
pub covers_is : (w : Wanted) (upto : ℕ) (b : Bool) → IsTrue b ↔ ((t : ℕ) → 1 ≤ t → t ≤ upto → is_A (wanted_at w t) ≡ true) → covers w upto ≡ b
covers_is w upto b h =
    same_test (covers w upto) b (λ e. h.1 (covered w upto e))
    (λ e. all_good (λ t. is_A (wanted_at w t)) (λ t. nat_le 1 t && nat_le t upto) (1 ∷ points w) (λ t y. let parts = and_parts (nat_le 1 t) (nat_le t upto) y in h.0 e t (leb-true 1 t parts.0) (leb-true t upto parts.1)))
