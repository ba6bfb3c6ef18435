-- A walk over the runs of one list, which makes another: at each tick a function of what the runs so far say.
use Rattle.std.proofs.Common.{◌≡◌, ℕ, ◌+◌, ◌^◌, ◌<◌, ◌≤◌, Bool, true, false, cond, List, ◌∷◌, length, take, drop, Some, sym, ap, ◌∙◌}
use Rattle.std.specs.List.{slice_get}
use Rattle.std.proofs.lemmas.List.{take_all}
use Rattle.std.proofs.lemmas.Option.{get_or_from_slice_get}
use Rattle.gr_tick.specs.declared.run.Run.{Run}
use Rattle.gr_tick.specs.Runs.{is_in, value_at, AreRuns}
use Rattle.gr_tick.specs.Stored.{EndBefore}
use Rattle.gr_tick.proofs.Canonical.{AreTickRuns-canonical}
use Rattle.gr_tick.proofs.EditLemmas.{drop_read}
use Rattle.gr_tick.proofs.StepLemmas.{read_values, next_begins}

step : {A V : Type 0} (g : A → V) (b : Bool) (x y z : A) (p q : V) → p ≡ g y → q ≡ cond b (g x) p → z ≡ cond b x y → q ≡ g z
step g true x y z p q ep eq ez = eq ∙ ap g (sym ez)
step g false x y z p q ep eq ez = eq ∙ ep ∙ ap g (sym ez)

module _ {A : Type 0} where
  -- one run more: p is the function's value at the tick so far, and q with the run
  pub each_more : {V : Type 0} (least : A) (g : A → V) (xs : List (Run A)) (i t : ℕ) (r : Run A) (p q : V) → AreRuns least xs → EndBefore xs (2 ^ 62 + 1) → i < length xs → slice_get xs i ≡ Some r → p ≡ g (value_at least (take i xs) t) → q ≡ cond (is_in t r) (g r.value) p → q ≡ g (value_at least (take (i + 1) xs) t)
  each_more least g xs i t r p q a b lt e ep eq =
      step g (is_in t r) r.value (value_at least (take i xs) t) (value_at least (take (i + 1) xs) t) p q ep eq
      (read_values least xs i t r lt (sym (get_or_from_slice_get xs i r r e)) (AreTickRuns-canonical least xs a b))

  -- and all of them
  pub each_all : {V : Type 0} (least : A) (g : A → V) (xs : List (Run A)) (i t : ℕ) (p : V) → length xs ≤ i → p ≡ g (value_at least (take i xs) t) → p ≡ g (value_at least xs t)
  each_all least g xs i t p le e = e ∙ ap (λ ys. g (value_at least ys t)) (take_all i xs le)

  -- what is made ends before the run that comes
  pub each_begins : {V : Type 0} (xs : List (Run A)) (ps : List (Run V)) (i : ℕ) (r : Run A) → i < length xs → slice_get xs i ≡ Some r → ((s : Run A) (rest : List (Run A)) → drop i xs ≡ s ∷ rest → EndBefore ps s.first) → EndBefore ps r.first
  each_begins xs ps i r lt e past = past r (drop (i + 1) xs) (drop_read xs i r lt (sym (get_or_from_slice_get xs i r r e)))

  -- and with what that run makes before the one after it
  pub each_next : {V : Type 0} (least : A) (xs : List (Run A)) (ps : List (Run V)) (i : ℕ) (r : Run A) → AreRuns least xs → EndBefore xs (2 ^ 62 + 1) → i < length xs → slice_get xs i ≡ Some r → ((t : ℕ) → r.last < t → EndBefore ps t) → (s : Run A) (rest : List (Run A)) → drop (i + 1) xs ≡ s ∷ rest → EndBefore ps s.first
  each_next least xs ps i r a b lt e past s rest d =
      next_begins least xs ps i r lt (sym (get_or_from_slice_get xs i r r e)) (AreTickRuns-canonical least xs a b) past s rest d
