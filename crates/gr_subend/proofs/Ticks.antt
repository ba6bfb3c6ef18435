-- The data ticks of runs: they rise, and say the event of each tick in their range and nothing else
use Rattle.std.proofs.Common.{◌≡◌, ◌⊎◌, inl, inr, ⊎_elim, ℕ, suc, ◌+◌, ◌-◌, ◌≤◌, ◌<◌, min, max, [], ◌∷◌, ◌++◌, refl, sym, ap, ◌∙◌, subst, None, arith}
use Rattle.std.specs.Prelude.{flat_map}
use Rattle.std.proofs.lemmas.Bool.{cases_lt, cases_eq}
use Rattle.gr_tick.specs.declared.run.Run.{Run}
use Rattle.gr_tick.specs.Runs.{AreRuns, AreRunsFrom, value_at}
use Rattle.gr_tick.proofs.RunLaws.{value_at-in, value_at-below, value_at-above}
use Rattle.gr_know.specs.declared.values.K.{K}
use Rattle.gr_know.specs.declared.values.K.TheVariants.{Q, S, D, F}
use Rattle.gr_know.specs.Values.{Known, known_at}
use Rattle.gr_subend.specs.Horizon.{numbers_from, data_of_run, data_ticks}
use Rattle.gr_subend.specs.Said.{said_at, TicksRise, event_of}
use Rattle.gr_subend.proofs.Saying.{Items, TicksRise-lower, said_at-below, rises_append, rises_above, dated, dated_rises, dated_upto, dated_in, dated_out, said_append, said_append_front}

-- the list of one run of value k, from a on, n ticks
abbrev run_items : K → ℕ → ℕ → Items
run_items k a n = elim k [ D e ↦ dated e (numbers_from a n) | _ ↦ [] ]

run_items_rise : (k : K) (from m a n : ℕ) (ys : Items) → from < a → from ≤ m → a + n ≤ suc m → TicksRise m ys → TicksRise from (run_items k a n ++ ys)
run_items_rise Q from m a n ys h l u q = TicksRise-lower from m ys l q
run_items_rise S from m a n ys h l u q = TicksRise-lower from m ys l q
run_items_rise F from m a n ys h l u q = TicksRise-lower from m ys l q
run_items_rise (D e) from m a n ys h l u q = rises_append from m (dated e (numbers_from a n)) ys l (dated_rises e from a n h) (dated_upto e m a n u) q

run_items_in : (k : K) (a n t : ℕ) (ys : Items) → a ≤ t → t < a + n → said_at ys t ≡ None → said_at (run_items k a n ++ ys) t ≡ event_of k
run_items_in Q a n t ys h l u = u
run_items_in S a n t ys h l u = u
run_items_in F a n t ys h l u = u
run_items_in (D e) a n t ys h l u = said_append_front (dated e (numbers_from a n)) ys t e (dated_in e a n t h l)

run_items_out : (k : K) (a n t : ℕ) (ys : Items) → (t < a) ⊎ (a + n ≤ t) → said_at (run_items k a n ++ ys) t ≡ said_at ys t
run_items_out Q a n t ys h = refl
run_items_out S a n t ys h = refl
run_items_out F a n t ys h = refl
run_items_out (D e) a n t ys h = said_append (dated e (numbers_from a n)) ys t (dated_out e a n t h)

-- the bounds of a run's part in (lo, hi]: where it is empty the range is taken as beginning at the run's end
abbrev begins : ℕ → Run K → ℕ
begins lo r = max (suc lo) r.first

abbrev many : ℕ → ℕ → Run K → ℕ
many lo hi r = suc (min r.last hi) - max (suc lo) r.first

run_items_none : (k : K) (a n : ℕ) → n ≡ 0 → run_items k a n ≡ []
run_items_none Q a n e = refl
run_items_none S a n e = refl
run_items_none F a n e = refl
run_items_none (D v) a n e = rw e refl

run_rises : (lo hi from : ℕ) (r : Run K) (ys : Items) → from < r.first → r.first ≤ r.last → TicksRise r.last ys → TicksRise from (data_of_run lo hi r ++ ys)
run_rises lo hi from r ys a b i =
    elim (cases_lt (suc r.last) (begins lo r + many lo hi r)) [
      | inl h ↦ subst (λ x. TicksRise from (x ++ ys)) (sym (run_items_none r.value (begins lo r) (many lo hi r) (omega (arith, h)))) (TicksRise-lower from r.last ys (omega arith) i)
      | inr h ↦ run_items_rise r.value from r.last (begins lo r) (many lo hi r) ys (omega (arith, a)) (omega (arith, a, b)) h i
    ]

data_rise : (lo hi from : ℕ) (know : Known) → AreRunsFrom Q (suc from) know → TicksRise from (flat_map (data_of_run lo hi) know)
data_rise lo hi from [] a = tt
data_rise lo hi from (r ∷ rs) a = run_rises lo hi from r (flat_map (data_of_run lo hi) rs) a.0 a.1 (data_rise lo hi r.last rs a.4)

data_out : (lo hi from t : ℕ) (know : Known) → AreRunsFrom Q (suc from) know → (t ≤ lo) ⊎ (hi < t) → said_at (flat_map (data_of_run lo hi) know) t ≡ None
data_out lo hi from t [] a h = refl
data_out lo hi from t (r ∷ rs) a h =
    elim (cases_eq (many lo hi r) 0) [
      | inl z ↦ subst (λ x. said_at (x ++ flat_map (data_of_run lo hi) rs) t ≡ None) (sym (run_items_none r.value (begins lo r) (many lo hi r) z)) (data_out lo hi r.last t rs a.4 h)
      | inr z ↦ run_items_out r.value (begins lo r) (many lo hi r) t (flat_map (data_of_run lo hi) rs) (⊎_elim (λ k. inl (omega arith)) (λ k. inr (omega (arith, z))) h) ∙ data_out lo hi r.last t rs a.4 h
    ]

-- below the runs nothing is said
data_start : (lo hi from t : ℕ) (know : Known) → AreRunsFrom Q (suc from) know → t ≤ from → said_at (flat_map (data_of_run lo hi) know) t ≡ None
data_start lo hi from t know a h = said_at-below from (flat_map (data_of_run lo hi) know) t (data_rise lo hi from know a) h

data_in : (lo hi from t : ℕ) (know : Known) → AreRunsFrom Q (suc from) know → lo < t → t ≤ hi → said_at (flat_map (data_of_run lo hi) know) t ≡ event_of (value_at Q know t)
data_in lo hi from t [] a h k = refl
data_in lo hi from t (r ∷ rs) a h k =
    elim (cases_lt t r.first) [
      | inl b ↦
          run_out (omega arith) (data_in lo hi r.last t rs a.4 h k) ∙ sym (ap event_of (value_at-below Q r rs t b))
      | inr b ↦ elim (cases_lt r.last t) [
        | inl c ↦ run_past c (data_in lo hi r.last t rs a.4 h k) ∙ sym (ap event_of (value_at-above Q r rs t c))
        | inr c ↦ run_items_in r.value (begins lo r) (many lo hi r) t (flat_map (data_of_run lo hi) rs) (omega arith) (omega arith) (data_start lo hi r.last t rs a.4 c) ∙ sym (ap event_of (value_at-in Q r rs t b c))
      ]
    ]
  where
    run_out : t < begins lo r → said_at (flat_map (data_of_run lo hi) rs) t ≡ event_of (value_at Q rs t) → said_at (data_of_run lo hi r ++ flat_map (data_of_run lo hi) rs) t ≡ event_of (value_at Q rs t)
    run_out b i = run_items_out r.value (begins lo r) (many lo hi r) t (flat_map (data_of_run lo hi) rs) (inl b) ∙ i

    run_past : r.last < t → said_at (flat_map (data_of_run lo hi) rs) t ≡ event_of (value_at Q rs t) → said_at (data_of_run lo hi r ++ flat_map (data_of_run lo hi) rs) t ≡ event_of (value_at Q rs t)
    run_past c i =
        elim (cases_eq (many lo hi r) 0) [
          | inl z ↦ subst (λ x. said_at (x ++ flat_map (data_of_run lo hi) rs) t ≡ event_of (value_at Q rs t)) (sym (run_items_none r.value (begins lo r) (many lo hi r) z)) i
          | inr z ↦ run_items_out r.value (begins lo r) (many lo hi r) t (flat_map (data_of_run lo hi) rs) (inr (omega (arith, z))) ∙ i
        ]

pub data_ticks_rise : (lo hi : ℕ) (know : Known) → AreRuns Q know → TicksRise 0 (data_ticks lo hi know)
unfolding data_ticks
data_ticks_rise lo hi know a = data_rise lo hi 0 know a

pub data_ticks_in : (lo hi t : ℕ) (know : Known) → AreRuns Q know → lo < t → t ≤ hi → said_at (data_ticks lo hi know) t ≡ event_of (known_at know t)
unfolding data_ticks
data_ticks_in lo hi t know a h k = data_in lo hi 0 t know a h k

pub data_ticks_out : (lo hi t : ℕ) (know : Known) → AreRuns Q know → (t ≤ lo) ⊎ (hi < t) → said_at (data_ticks lo hi know) t ≡ None
unfolding data_ticks
data_ticks_out lo hi t know a h = data_out lo hi 0 t know a h

-- they rise from above the lower end
pub data_ticks_above : (lo hi : ℕ) (know : Known) → AreRuns Q know → TicksRise lo (data_ticks lo hi know)
data_ticks_above lo hi know a = rises_above lo 0 (data_ticks lo hi know) (data_ticks_rise lo hi know a) (λ t h. data_ticks_out lo hi t know a (inl h))
