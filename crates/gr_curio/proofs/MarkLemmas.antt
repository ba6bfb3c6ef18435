-- A value put wherever a piece asks, run by run.
use Rattle.std.proofs.Common.{◌≡◌, ℕ, ◌+◌, ◌^◌, ◌<◌, ◌≤◌, ◌⊎◌, inl, inr, true, false, ◌&&◌, cond, leb, List, ◌∷◌, ◌++◌, length, take, drop, get_or, Bool, sym, ap, ◌∙◌}
use Rattle.std.proofs.lemmas.Bool.{cases_Bool, leb-true, and_parts, cond-true, cond-false}
use Rattle.gr_tick.specs.declared.run.Run.{Run}
use Rattle.gr_tick.specs.Runs.{is_in, AreRuns}
use Rattle.gr_tick.specs.Stored.{AreTickRuns, EndBefore}
use Rattle.gr_tick.proofs.Canonical.{AreTickRuns-canonical}
use Rattle.gr_tick.proofs.EditLemmas.{split_read}
use Rattle.gr_tick.proofs.RunsLemmas.{value_at_past, AreTickRuns-upto, EndBefore-front}
use Rattle.gr_tick.proofs.StepLemmas.{read_values}
use Rattle.gr_curio.specs.Values.{wanted_at, is_C}
use Rattle.gr_curio.specs.Wants.{answered_of}
use Rattle.gr_curio.specs.declared.values.Q3.{Q3}
use Rattle.gr_curio.specs.declared.values.Q3.TheVariants.{N}

-- the runs before one ask nothing at its ticks
earlier_none : (xs : List (Run Q3)) (i t : ℕ) (r : Run Q3) → i < length xs → r ≡ get_or xs i r → AreTickRuns N xs → r.first ≤ t → wanted_at (take i xs) t ≡ N
earlier_none xs i t r lt e h ft =
    let k : AreTickRuns N (take i xs ++ r ∷ drop (i + 1) xs) = rw (split_read xs i r lt e) at h in
    value_at_past N (take i xs) r.first t (EndBefore-front N (take i xs) r (AreTickRuns-upto N (take i xs) r (drop (i + 1) xs) k)) ft

-- one run more is marked
pub mark_more : {V : Type 0} (xs : List (Run Q3)) (i t : ℕ) (r : Run Q3) (v old mid new : V) → i < length xs → r ≡ get_or xs i r → AreRuns N xs → EndBefore xs (2 ^ 62 + 1) → mid ≡ cond (is_C (wanted_at (take i xs) t)) v old → new ≡ cond (is_in t r && is_C r.value) v mid → new ≡ cond (is_C (wanted_at (take (i + 1) xs) t)) v old
mark_more {V} xs i t r v old mid new lt e a b em en = en ∙ by_cases (cases_Bool (is_in t r))
  where
    h : AreTickRuns N xs
    h = AreTickRuns-canonical N xs a b

    by_cases : (is_in t r ≡ true) ⊎ (is_in t r ≡ false) → cond (is_in t r && is_C r.value) v mid ≡ cond (is_C (wanted_at (take (i + 1) xs) t)) v old
    by_cases (inl y) =
        ap (λ z. cond (z && is_C r.value) v mid) y
        ∙ ap (cond (is_C r.value) v) (em ∙ ap (λ z. cond (is_C z) v old) (earlier_none xs i t r lt e h (leb-true r.first t (and_parts (leb r.first t) (leb t r.last) y).0)))
        ∙ ap (λ z. cond (is_C z) v old) (sym (read_values N xs i t r lt e h ∙ cond-true (is_in t r) r.value (wanted_at (take i xs) t) y))
    by_cases (inr n) =
        ap (λ z. cond (z && is_C r.value) v mid) n ∙ em
        ∙ ap (λ z. cond (is_C z) v old) (sym (read_values N xs i t r lt e h ∙ cond-false (is_in t r) r.value (wanted_at (take i xs) t) n))

-- nothing more is asked where a piece of the range asks
pub answered_is : (b : Bool) (a p : Q3) → p ≡ cond b a N → cond (is_C p) N a ≡ answered_of b a
answered_is true a p e = ap (λ z. cond (is_C z) N a) e
answered_is false a p e = ap (λ z. cond (is_C z) N a) e
