-- Tests over numbers in a row: what one of them shows of all, and all of each
use Rattle.std.proofs.Common.{◌≡◌, ℕ, zero, suc, ◌+◌, ◌<◌, ◌≤◌, Bool, true, false, List, [], ◌∷◌, length, get_or, map, Some, None, refl, sym, ap, ◌∙◌, subst, inl, inr, ⊎_elim, arith}
use Rattle.std.specs.List.{list_any, list_all}
use Rattle.std.proofs.lemmas.Bool.{false≢true, true≢false, or_cases, or_left, or_right, and_parts, and_from, cases_eq, cases_Bool, cond-true, cond-false}
use Rattle.gr_tree.specs.Walks.{numbers_from, first_number, least_number}

-- some element of a list passes
pub any_in : {X : Type 0} (test : X → Bool) (xs : List X) → list_any test xs ≡ true → (x : X) × (test x ≡ true)
any_in test [] h = absurd (false≢true h)
any_in test (x ∷ xs) h = ⊎_elim (λ e. (x, e)) (λ e. any_in test xs e) (or_cases (test x) (list_any test xs) h)

pub any_from : (test : ℕ → Bool) (from k b : ℕ) → from ≤ b → b < from + k → test b ≡ true → list_any test (numbers_from from k) ≡ true
any_from test from zero b low high h = absurd (omega arith)
any_from test from (suc k) b low high h =
    elim (cases_eq from b) [
      | inl e ↦ or_left (test from) _ (subst (λ z. test z ≡ true) (sym e) h)
      | inr e ↦ or_right (test from) _ (any_from test (suc from) k b (omega arith) (omega arith) h)
    ]

pub all_at : (test : ℕ → Bool) (from k b : ℕ) → from ≤ b → b < from + k → list_all test (numbers_from from k) ≡ true → test b ≡ true
all_at test from zero b low high h = absurd (omega arith)
all_at test from (suc k) b low high h =
    let parts = and_parts (test from) (list_all test (numbers_from (suc from) k)) h in
    elim (cases_eq from b) [
      | inl e ↦ subst (λ z. test z ≡ true) e parts.0
      | inr e ↦ all_at test (suc from) k b (omega arith) (omega arith) parts.1
    ]

pub all_from : (test : ℕ → Bool) (from k : ℕ) → ((b : ℕ) → from ≤ b → b < from + k → test b ≡ true) → list_all test (numbers_from from k) ≡ true
all_from test from zero f = refl
all_from test from (suc k) f =
    and_from (test from) (list_all test (numbers_from (suc from) k)) (f from (omega arith) (omega arith))
    (all_from test (suc from) k (λ b low high. f b (omega arith) (omega arith)))

pub least_is : (test : ℕ → Bool) (from k d : ℕ) → from ≤ d → d < from + k → test d ≡ true → ((j : ℕ) → from ≤ j → j < d → test j ≡ false) → least_number test from k ≡ d
least_is test from zero d low high h before = absurd (omega arith)
least_is test from (suc k) d low high h before =
    elim (cases_eq from d) [
      | inl e ↦ cond-true (test from) from _ (subst (λ z. test z ≡ true) (sym e) h) ∙ e
      | inr e ↦ cond-false (test from) from _ (before from (omega arith) (omega arith)) ∙ least_is test (suc from) k d (omega arith) (omega arith) h (λ j a b. before j (omega arith) b)
    ]

pub first_is : (test : ℕ → Bool) (from k u : ℕ) → from ≤ u → u < from + k → test u ≡ true → ((c : ℕ) → test c ≡ true → c ≡ u) → first_number test from k ≡ Some u
first_is test from zero u low high h only = absurd (omega arith)
first_is test from (suc k) u low high h only =
    elim (cases_Bool (test from)) [
      | inl e ↦ cond-true (test from) (Some from) _ e ∙ ap Some (only from e)
      | inr e ↦ cond-false (test from) (Some from) _ e ∙ first_is test (suc from) k u (later e) (omega arith) h only
    ]
  where
    later : test from ≡ false → suc from ≤ u
    later e = elim (cases_eq from u) [
      | inl same ↦ absurd (true≢false (sym h ∙ subst (λ z. test z ≡ false) same e))
      | inr other ↦ omega arith
    ]

pub first_none : (test : ℕ → Bool) (from k : ℕ) → ((c : ℕ) → test c ≡ false) → first_number test from k ≡ None
first_none test from zero none = refl
first_none test from (suc k) none = cond-false (test from) (Some from) _ (none from) ∙ first_none test (suc from) k none

pub length-numbers_from : (from k : ℕ) → length (numbers_from from k) ≡ k
length-numbers_from from zero = refl
length-numbers_from from (suc k) = ap suc (length-numbers_from (suc from) k)

-- what a function gives at a number of the row
pub at_number : {X : Type 0} (f : ℕ → X) (from k b : ℕ) (d : X) → b < k → get_or (map f (numbers_from from k)) b d ≡ f (from + b)
at_number f from zero b d h = absurd (omega arith)
at_number f from (suc k) zero d h = let e : from ≡ from + 0 = omega arith in ap f e
at_number f from (suc k) (suc b) d h = let e : suc from + b ≡ from + suc b = omega arith in at_number f (suc from) k b d (omega arith) ∙ ap f e
