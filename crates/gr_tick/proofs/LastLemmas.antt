-- A run behind all others: it stands there, or makes the last one longer
use Rattle.std.proofs.Common.{◌≡◌, ◌≢◌, ℕ, suc, ◌+◌, ◌-◌, ◌<◌, ◌≤◌, cond, List, [], ◌∷◌, ◌++◌, length, take, drop, get_or, slice_set, insert, arith, ap, sym, ◌∙◌, subst, append-nil, Result, Ok, Err, OnOk}
use Rattle.std.proofs.lemmas.List.{take_all, drop_all}
use lib.Seq.{set_split}
use Rattle.gr_tick.specs.declared.run.Run.{Run}
use Rattle.gr_tick.specs.Runs.{is_in, value_at}
use Rattle.gr_tick.specs.Stored.{AreTickRuns, EndBefore, IsRun}
use Rattle.gr_tick.proofs.EditLemmas.{with_before, run_before, left_kept, left_absorbed, left_absorbed_values}
use Rattle.gr_tick.proofs.StepLemmas.{insert_values}

whole : {X : Type 0} (xs : List X) → take (length xs) xs ≡ xs
whole xs = take_all (length xs) xs (omega arith)

-- what follows from what holds of a success holds of it too
pub on_ok : {X E P Q : Type 0} (r : Result X E) → (P → Q) → OnOk r P → OnOk r Q
on_ok (Ok x) f h = f h
on_ok (Err e) f h = tt

-- and what follows from two such facts
pub both_ok : {X E P Q R : Type 0} (r : Result X E) → (P → Q → R) → OnOk r P → OnOk r Q → OnOk r R
both_ok (Ok x) f h k = f h k
both_ok (Err e) f h k = tt

pub at_end : {X : Type 0} (xs : List X) (n : ℕ) (x : X) → n ≡ length xs → insert xs n x ≡ xs ++ x ∷ []
at_end xs n x e =
    ap (λ ys. ys ++ x ∷ drop n xs) (ap (λ k. take k xs) e ∙ whole xs) ∙ ap (λ ys. xs ++ x ∷ ys) (drop_all n xs (omega arith))

pub set_end : {X : Type 0} (xs : List X) (n : ℕ) (x : X) → n ≡ length xs → 0 < n → slice_set xs (n - 1) x ≡ take (length xs - 1) xs ++ x ∷ []
set_end xs n x e some =
    let below : n - 1 < length xs = omega (arith, e, some) in
    let next : length xs ≤ suc (n - 1) = omega (arith, e, some) in
    set_split xs (n - 1) x below
    ∙ ap (λ ys. take (n - 1) xs ++ x ∷ ys) (drop_all (suc (n - 1)) xs next)
    ∙ ap (λ k. take (k - 1) xs ++ x ∷ []) e

module _ {V : Type 0} where
  -- its values
  pub last_values : (d : V) (xs : List (Run V)) (r : Run V) → EndBefore xs r.first → (t : ℕ) → value_at d (xs ++ r ∷ []) t ≡ cond (is_in t r) r.value (value_at d xs t)
  last_values d xs r past t = insert_values d xs r [] t past ∙ ap (λ zs. cond (is_in t r) r.value (value_at d zs t)) (append-nil xs)

  -- it does not touch the last one, or has another value
  pub last_kept : (least : V) (xs : List (Run V)) (q r : Run V) → 0 < length xs → q ≡ get_or xs (length xs - 1) q → AreTickRuns least xs → EndBefore xs r.first → IsRun least r → (q.last + 1 ≡ r.first → q.value ≢ r.value) → AreTickRuns least (xs ++ r ∷ [])
  last_kept least xs q r some e h b is n =
      subst (λ (ys : List (Run V)). AreTickRuns least (ys ++ r ∷ [])) (whole xs)
      (left_kept least xs (length xs) q r some (omega arith) e (subst (λ (ys : List (Run V)). AreTickRuns least ys) (sym (whole xs)) h) (subst (λ (ys : List (Run V)). EndBefore ys r.first) (sym (whole xs)) b) is n)

  -- it goes on with the last one
  pub last_longer : (least : V) (xs : List (Run V)) (q r : Run V) → 0 < length xs → q ≡ get_or xs (length xs - 1) q → AreTickRuns least xs → IsRun least r → q.last + 1 ≡ r.first → q.value ≡ r.value → AreTickRuns least (take (length xs - 1) xs ++ with_before q r ∷ [])
  last_longer least xs q r some e h is touch same =
      left_absorbed least xs (length xs) q r some (omega arith) e (subst (λ (ys : List (Run V)). AreTickRuns least ys) (sym (whole xs)) h) is touch same

  pub longer_values : (least : V) (xs : List (Run V)) (q r : Run V) → 0 < length xs → q ≡ get_or xs (length xs - 1) q → AreTickRuns least xs → IsRun least r → q.last + 1 ≡ r.first → q.value ≡ r.value → (t : ℕ) → value_at least (take (length xs - 1) xs ++ with_before q r ∷ []) t ≡ value_at least (xs ++ r ∷ []) t
  longer_values least xs q r some e h is touch same t =
      left_absorbed_values least xs (length xs) q r some (omega arith) e (subst (λ (ys : List (Run V)). AreTickRuns least ys) (sym (whole xs)) h) is touch same least t
      ∙ ap (λ ys. value_at least (ys ++ r ∷ []) t) (whole xs)

  -- the last one is a run alone
  pub last_is : (least : V) (xs : List (Run V)) (q : Run V) → 0 < length xs → q ≡ get_or xs (length xs - 1) q → AreTickRuns least xs → IsRun least q
  last_is least xs q some e h = run_before least xs (length xs) q some (omega arith) e (subst (λ (ys : List (Run V)). AreTickRuns least ys) (sym (whole xs)) h)
