-- A value put wherever a list of runs has a value of some kind, run by run.
use Rattle.std.proofs.Common.{◌≡◌, ℕ, ◌+◌, ◌^◌, ◌<◌, ◌≤◌, ◌⊎◌, inl, inr, Bool, true, false, ◌&&◌, cond, leb, List, ◌∷◌, ◌++◌, length, take, drop, get_or, sym, ap, ◌∙◌}
use Rattle.std.proofs.lemmas.Bool.{cases_Bool, leb-true, and_parts, cond-true, cond-false}
use Rattle.gr_tick.specs.declared.run.Run.{Run}
use Rattle.gr_tick.specs.Runs.{is_in, value_at, AreRuns}
use Rattle.gr_tick.specs.Stored.{AreTickRuns, EndBefore}
use Rattle.gr_tick.proofs.Canonical.{AreTickRuns-canonical}
use Rattle.gr_tick.proofs.EditLemmas.{split_read}
use Rattle.gr_tick.proofs.RunsLemmas.{value_at_past, AreTickRuns-upto, EndBefore-front}
use Rattle.gr_tick.proofs.StepLemmas.{read_values}

-- the runs before one have nothing at its ticks
earlier_none : {W : Type 0} (least : W) (xs : List (Run W)) (i t : ℕ) (r : Run W) → i < length xs → r ≡ get_or xs i r → AreTickRuns least xs → r.first ≤ t → value_at least (take i xs) t ≡ least
earlier_none least xs i t r lt e h ft =
    let k : AreTickRuns least (take i xs ++ r ∷ drop (i + 1) xs) = rw (split_read xs i r lt e) at h in
    value_at_past least (take i xs) r.first t (EndBefore-front least (take i xs) r (AreTickRuns-upto least (take i xs) r (drop (i + 1) xs) k)) ft

module _ {W V : Type 0} (least : W) (p : W → Bool) (xs : List (Run W)) (i t : ℕ) (r : Run W) (lt : i < length xs) (e : r ≡ get_or xs i r) where
  -- one run more
  pub kind_more : p least ≡ false → (v old mid new : V) → AreRuns least xs → EndBefore xs (2 ^ 62 + 1) → mid ≡ cond (p (value_at least (take i xs) t)) v old → new ≡ cond (is_in t r && p r.value) v mid → new ≡ cond (p (value_at least (take (i + 1) xs) t)) v old
  kind_more z v old mid new a b em en = en ∙ by_cases (cases_Bool (is_in t r))
    where
      h : AreTickRuns least xs
      h = AreTickRuns-canonical least xs a b

      by_cases : (is_in t r ≡ true) ⊎ (is_in t r ≡ false) → cond (is_in t r && p r.value) v mid ≡ cond (p (value_at least (take (i + 1) xs) t)) v old
      by_cases (inl y) =
          ap (λ q. cond (q && p r.value) v mid) y
          ∙ ap (cond (p r.value) v) (em ∙ ap (λ q. cond (p q) v old) (earlier_none least xs i t r lt e h (leb-true r.first t (and_parts (leb r.first t) (leb t r.last) y).0)) ∙ ap (λ q. cond q v old) z)
          ∙ ap (λ q. cond (p q) v old) (sym (read_values least xs i t r lt e h ∙ cond-true (is_in t r) r.value (value_at least (take i xs) t) y))
      by_cases (inr n) =
          ap (λ q. cond (q && p r.value) v mid) n ∙ em
          ∙ ap (λ q. cond (p q) v old) (sym (read_values least xs i t r lt e h ∙ cond-false (is_in t r) r.value (value_at least (take i xs) t) n))
