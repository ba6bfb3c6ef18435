-- One run after another passes an edge
use Rattle.std.proofs.Common.{◌≡◌, ℕ, ◌+◌, ◌<◌, ◌≤◌, Bool, true, false, cond, List, length, take, refl, sym, ap, ◌∙◌, Some, arith}
use Rattle.std.specs.Prelude.{nat_le}
use Rattle.std.specs.List.{slice_get}
use Rattle.std.proofs.lemmas.Bool.{and_parts, leb-true}
use Rattle.std.proofs.lemmas.Option.{get_or_from_slice_get}
use Rattle.gr_event.specs.Joins.{Joins}
use Rattle.gr_tick.specs.declared.TheConstants.{MAX_TICK}
use Rattle.gr_tick.specs.declared.run.Run.{Run}
use Rattle.gr_tick.specs.Runs.{value_at, is_in}
use Rattle.gr_tick.specs.Stored.{IsRun, AreTickRuns}
use Rattle.gr_tick.proofs.StepLemmas.{read_values}
use Rattle.gr_know.specs.declared.values.K.{K}
use Rattle.gr_know.specs.declared.values.K.TheVariants.{Q, S}
use Rattle.gr_edge.specs.Pass.{Wanting, pass}

-- what a run has from a tick on, and silence before it
abbrev pub from_then : ℕ → ℕ → K → K
from_then from t v = cond (nat_le from t) v S

step_value : (f : K → K) (b : Bool) (x y v p q z : K) → (b ≡ true → v ≡ f x) → p ≡ f y → q ≡ cond b v p → z ≡ cond b x y → q ≡ f z
step_value f true x y v p q z ev ep eq ez = eq ∙ ev refl ∙ ap f (sym ez)
step_value f false x y v p q z ev ep eq ez = eq ∙ ep ∙ ap f (sym ez)

-- one run more: p is what passed at the tick so far, and q with it
pub passed_more : (ws : List Wanting) (js : Joins) (xs : List (Run K)) (i t from : ℕ) (r : Run K) (p q : K) → AreTickRuns Q xs → i < length xs → slice_get xs i ≡ Some r → IsRun Q r
    → ((t : ℕ) → t ≤ MAX_TICK → pass ws js t r.value ≡ from_then from t r.value) → p ≡ pass ws js t (value_at Q (take i xs) t) → q ≡ cond (is_in t r) (from_then from t r.value) p
    → q ≡ pass ws js t (value_at Q (take (i + 1) xs) t)
passed_more ws js xs i t from r p q runs l g alone passes ep eq =
    step_value (pass ws js t) (is_in t r) r.value (value_at Q (take i xs) t) (from_then from t r.value) p q _
    (λ inside. sym (passes t (upto inside))) ep eq (read_values Q xs i t r l (sym (get_or_from_slice_get xs i r r g)) runs)
  where
    upto : is_in t r ≡ true → t ≤ MAX_TICK
    upto inside = omega (arith, alone.upto, leb-true t r.last (and_parts (nat_le r.first t) (nat_le t r.last) inside).1)
