-- What a list of runs in range tells the layer above: it is canonical, it ends by the last tick, and its values determine it.
use Rattle.std.proofs.Common.{◌≡◌, ℕ, suc, ◌+◌, ◌^◌, ◌<◌, ◌≤◌, ◌⊎◌, inl, inr, Bool, false, nat_le, List, [], ◌∷◌, sym, ◌∙◌, arith}
use Rattle.std.proofs.lemmas.Bool.{false≢true, le-leb, and_from, cases_lt}
use Rattle.gr_tick.specs.declared.run.Run.{Run}
use Rattle.gr_tick.specs.Runs.{value_at, AreRunsFrom, AreRuns, Decides_same, zip_runs, tabulate, IsSteady}
use Rattle.gr_tick.specs.Stored.{within, AreTickRuns, EndBefore, RunsGive}
use Rattle.gr_tick.proofs.RunLaws.{value_at-start, runs_equal, zip_runs-is, tabulate-is}
use Rattle.gr_tick.proofs.RunsLemmas.{value_at_past}

module _ {V : Type 0} where
  begins_from : ℕ → List (Run V) → Type 0
  begins_from n [] = Unit {0}
  begins_from n (r ∷ rs) = n ≤ r.first

  canonical_from : (least : V) (n : ℕ) (rs : List (Run V)) → AreTickRuns least rs → begins_from n rs → AreRunsFrom least n rs
  unfolding begins_from
  canonical_from least n [] h b = tt
  canonical_from least n (r ∷ []) h b = (b, h.0.ordered, h.0.known, tt, tt)
  canonical_from least n (r ∷ s ∷ ss) h b =
      let next : suc r.last ≤ s.first = omega (arith, h.1.later) in
      (b, h.0.ordered, h.0.known, λ e v. h.1.apart (omega (arith, e)) (sym v), canonical_from least (suc r.last) (s ∷ ss) h.2 next)

  from_one : (least : V) (rs : List (Run V)) → AreTickRuns least rs → begins_from 1 rs
  unfolding begins_from
  from_one least [] h = tt
  from_one least (r ∷ rs) h = h.0.from_one

  -- runs in range are canonical
  pub AreRuns-in_range : (least : V) (rs : List (Run V)) → AreTickRuns least rs → AreRuns least rs
  AreRuns-in_range least rs h = canonical_from least 1 rs h (from_one least rs h)

  -- and end by the last tick
  pub EndBefore-in_range : (least : V) (rs : List (Run V)) → AreTickRuns least rs → EndBefore rs (2 ^ 62 + 1)
  EndBefore-in_range least [] h = tt
  EndBefore-in_range least (r ∷ rs) h = (omega (arith, h.0.upto), EndBefore-in_range least rs h.2)

  -- and what is canonical and ends by the last tick are runs in range
  AreTickRuns-from : (least : V) (n : ℕ) (rs : List (Run V)) → 1 ≤ n → AreRunsFrom least n rs → EndBefore rs (2 ^ 62 + 1) → AreTickRuns least rs
  AreTickRuns-from least n [] le a b = tt
  AreTickRuns-from least n (r ∷ []) le a b =
      (record { from_one = omega (arith, a.0); ordered = a.1; upto = omega (arith, b.0); known = a.2 }, tt, tt)
  AreTickRuns-from least n (r ∷ s ∷ ss) le a b = (
    record { from_one = omega (arith, a.0); ordered = a.1; upto = omega (arith, b.0); known = a.2 },
    record { later = omega (arith, a.4.0); apart = λ e v. a.3 (omega (arith, e)) (sym v) },
    AreTickRuns-from least (suc r.last) (s ∷ ss) (omega arith) a.4 b.1,
  )

  pub AreTickRuns-canonical : (least : V) (rs : List (Run V)) → AreRuns least rs → EndBefore rs (2 ^ 62 + 1) → AreTickRuns least rs
  AreTickRuns-canonical least rs a b = AreTickRuns-from least 1 rs (omega arith) a b

  -- a tick out of range has the least value
  pub value_at-outside : (least : V) (rs : List (Run V)) (t : ℕ) → AreRuns least rs → EndBefore rs (2 ^ 62 + 1) → within 1 (2 ^ 62) t ≡ false → value_at least rs t ≡ least
  value_at-outside least rs t a b out = by_place (cases_lt t 1) (cases_lt (2 ^ 62) t)
    where
      by_place : (t < 1) ⊎ (1 ≤ t) → (2 ^ 62 < t) ⊎ (t ≤ 2 ^ 62) → value_at least rs t ≡ least
      by_place (inl lt) p = value_at-start least 1 rs t a lt
      by_place (inr ge) (inl gt) = value_at_past least rs (2 ^ 62 + 1) t b (omega arith)
      by_place (inr ge) (inr le) = absurd (false≢true (sym out ∙ and_from (nat_le 1 t) (nat_le t (2 ^ 62)) (le-leb 1 t ge) (le-leb t (2 ^ 62) le)))

  pub RunsGive-in_range : (least : V) (rs : List (Run V)) (g : ℕ → V) → AreTickRuns least rs → ((t : ℕ) → value_at least rs t ≡ g t) → RunsGive least rs g
  RunsGive-in_range least rs g h v = record {
    canonical = AreRuns-in_range least rs h;
    in_range = EndBefore-in_range least rs h;
    values = v;
  }

  -- the values determine the runs
  pub given_runs : (least : V) (rs xs : List (Run V)) (g : ℕ → V) → RunsGive least rs g → AreRuns least xs → ((t : ℕ) → value_at least xs t ≡ g t) → rs ≡ xs
  given_runs least rs xs g h a v = runs_equal least 1 1 rs xs h.canonical a (λ t. h.values t ∙ sym (v t))

-- runs with the values of two lists joined tick by tick are those that the definition makes
pub given_zip : {A B V : Type 0} (a : A) (b : B) (bottom : V) (same : V → V → Bool) → Decides_same same → (f : A → B → V) (xs : List (Run A)) (ys : List (Run B)) (rs : List (Run V)) → f a b ≡ bottom → AreRuns a xs → AreRuns b ys → RunsGive bottom rs (λ t. f (value_at a xs t) (value_at b ys t)) → rs ≡ zip_runs a b bottom same f xs ys
given_zip a b bottom same d f xs ys rs z p q h =
    let k = zip_runs-is a b bottom same d f xs ys z p q in
    given_runs bottom rs (zip_runs a b bottom same f xs ys) (λ t. f (value_at a xs t) (value_at b ys t)) h k.runs k.same_at

-- and those with the values of a function are those that it is tabulated to
pub given_table : {V : Type 0} (bottom : V) (same : V → V → Bool) → Decides_same same → (g : ℕ → V) (ps : List ℕ) (rs : List (Run V)) → IsSteady bottom g ps → RunsGive bottom rs g → rs ≡ tabulate bottom same g ps
given_table bottom same d g ps rs s h =
    let k = tabulate-is bottom same d g ps s in
    given_runs bottom rs (tabulate bottom same g ps) g h k.runs k.same_at
