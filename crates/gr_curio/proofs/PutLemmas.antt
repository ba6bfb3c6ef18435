-- What a walk over a run puts.
use Rattle.std.proofs.Common.{◌≡◌, ℕ, ◌+◌, ◌<◌, ◌≤◌, ◌⊎◌, inl, inr, true, false, nat_le, cond, List, sym, ◌∙◌, arith}
use Rattle.std.proofs.lemmas.Bool.{cases_Bool, cases_lt, and_parts, leb-true, cond-true, cond-false}
use Rattle.std.proofs.lemmas.Bool.Decides.{nat_tests}
use Rattle.gr_tick.specs.declared.run.Run.{Run}
use Rattle.gr_tick.specs.Runs.{value_at, is_in}
use Rattle.gr_tick.specs.Stored.{EndBefore, between, within}
use Rattle.gr_tick.proofs.RunsLemmas.{value_at_past}

-- nothing for a run past the last one where the function is least
pub nothing_put : {A V : Type 0} (least v : V) (ps : List (Run V)) (r : Run A) (t : ℕ) → EndBefore ps r.first → v ≡ least → value_at least ps t ≡ cond (is_in t r) v (value_at least ps t)
nothing_put {A} {V} least v ps r t past e = by_cases (cases_Bool (is_in t r))
  where
    by_cases : (is_in t r ≡ true) ⊎ (is_in t r ≡ false) → value_at least ps t ≡ cond (is_in t r) v (value_at least ps t)
    by_cases (inl y) = value_at_past least ps r.first t past (leb-true r.first t (and_parts (nat_le r.first t) (nat_le t r.last) y).0) ∙ sym e ∙ sym (cond-true (is_in t r) v (value_at least ps t) y)
    by_cases (inr n) = sym (cond-false (is_in t r) v (value_at least ps t) n)

module _ {V : Type 0} where
  come : (f a l t : ℕ) (h d : V) → a ≤ l + 1 → t < a → cond (between f a t) h d ≡ cond (within f l t) h d
  come f a l t h d al lt = grind (arith, nat_tests)

  not_yet : (f a l t : ℕ) (h d : V) → a ≤ t → l < t → cond (between f a t) h d ≡ cond (within f l t) h d
  not_yet f a l t h d at lt = grind (arith, nat_tests)

  rest : (f a l t : ℕ) (h d : V) → a ≤ t → cond (between f a t) h d ≡ d
  rest f a l t h d at = grind (arith, nat_tests)

  whole : (f l t : ℕ) (h d : V) → f ≤ t → t ≤ l → h ≡ cond (within f l t) h d
  whole f l t h d ft tl = grind (arith, nat_tests)

  -- a walk that stops before the last tick of its range, where the function changes nothing from there on
  pub walk_stop : (f a l t : ℕ) (h d v : V) → f ≤ a → a ≤ l + 1 → v ≡ cond (between f a t) h d → (a ≤ t → t ≤ l → d ≡ h) → v ≡ cond (within f l t) h d
  walk_stop f a l t h d v fa al ev out = ev ∙ by_place (cases_lt t a) (cases_lt l t)
    where
      by_place : (t < a) ⊎ (a ≤ t) → (l < t) ⊎ (t ≤ l) → cond (between f a t) h d ≡ cond (within f l t) h d
      by_place (inl lt) p = come f a l t h d al lt
      by_place (inr ge) (inl past) = not_yet f a l t h d ge past
      by_place (inr ge) (inr le) = rest f a l t h d ge ∙ out ge le ∙ whole f l t h d (omega (arith, fa, ge)) le
