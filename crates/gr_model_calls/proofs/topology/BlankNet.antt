-- The topology of the small examples is a tree
use Rattle.std.proofs.Common.{◌≡◌, ℕ, suc, zero, ◌<◌, true, false, [], ◌∷◌, refl, sym, subst, Some, None, arith, ⊎_elim, ap}
use Rattle.std.specs.Prelude.{nat_eq}
use Rattle.std.specs.List.{list_any}
use Rattle.std.proofs.lemmas.Bool.{eqb-true, or_cases, false≢true, true≢false}
use Rattle.gr_model.specs.Net.{is_host}
use Rattle.gr_model.specs.Tree.{IsPlace, is_below, IsNet, IsDistinct, IsSubscriber}
use Rattle.gr_model.specs.Blank.{net0}

only_one : (k c : ℕ) → list_any (λ x. nat_eq x c) (k ∷ []) ≡ true → k ≡ c
only_one k c h = ⊎_elim (λ e. eqb-true k c e) (λ e. absurd (false≢true e)) (or_cases (nat_eq k c) false h)

two : (P : ℕ → Type 0) → P 0 → P 1 → (b : ℕ) → b < 2 → P b
two P x y zero h = x
two P x y (suc zero) h = y
two P x y (suc (suc b)) h = absurd (omega arith)

one : (P : ℕ → Type 0) → P 0 → (p : ℕ) → p < 1 → P p
one P x zero h = x
one P x (suc p) h = absurd (omega arith)

place_0 : IsPlace net0 0 0
place_0 = record {
  child_below = λ c s m k. let e = only_one 1 c m in let g : 0 ≡ s = only_one 0 s (subst (λ z. is_below net0 0 z s ≡ true) (sym e) k) in subst (λ z. is_below net0 0 0 z ≡ true) g refl;
  child_not_host = λ c m. subst (λ z. is_host net0 0 z ≡ false) (only_one 1 c m) refl;
  split = λ s k n. (1, refl, subst (λ z. is_below net0 0 1 z ≡ true) (only_one 0 s k) refl);
}

place_1 : IsPlace net0 0 1
place_1 = record {
  child_below = λ c s m k. absurd (false≢true m);
  child_not_host = λ c m. absurd (false≢true m);
  split = λ s k n. absurd (true≢false (subst (λ z. list_any (λ x. nat_eq x z) (0 ∷ []) ≡ false) (sym (only_one 0 s k)) n));
}

-- the topology of the small examples is a tree
pub net0_is : IsNet net0
net0_is = record {
  place = λ p b i j. one (λ q. IsPlace net0 q b) (two (IsPlace net0 0) place_0 place_1 b j) p i;
  depth_in = λ p b i j. two (λ z. net0.depth p z < 2) (omega arith) (omega arith) b j;
  host_in = λ p i. omega arith;
  child_in = λ p b c i j. two (λ z. list_any (λ x. nat_eq x c) (net0.children p z) ≡ true → c < 2) (λ m. subst (λ z. z < 2) (only_one 1 c m) (omega arith)) (λ m. absurd (false≢true m)) b j;
  up_in = λ p b u i j. two (λ z. net0.up p z ≡ Some u → (u < 2) × (list_any (λ x. nat_eq x z) (net0.children p u) ≡ true))
      (λ e. absurd (none_some u e))
      (λ e. subst (λ z. (z < 2) × (list_any (λ x. nat_eq x 1) (net0.children p z) ≡ true)) (some_some 0 u e) (omega arith, refl)) b j;
  distinct = λ b j. two (λ z. IsDistinct (net0.subscribers_at z)) tt (refl, tt) b j;
  children_once = λ p b i j. two (λ z. IsDistinct (net0.children p z)) (refl, tt) tt b j;
  here_below = λ p b s i j. two (λ z. list_any (λ x. nat_eq x s) (net0.subscribers_at z) ≡ true → is_below net0 p z s ≡ true) (λ m. absurd (false≢true m)) (λ m. subst (λ z. is_below net0 p 1 z ≡ true) (only_one 0 s m) refl) b j;
  all_below = λ p s i j m. two (λ z. list_any (λ x. nat_eq x s) (net0.subscribers_at z) ≡ true → is_below net0 p 0 s ≡ true) (λ k. absurd (false≢true k)) (λ k. subst (λ z. is_below net0 p 0 z ≡ true) (only_one 0 s k) refl) (net0.at s) j m;
  depth_up = λ p b u i j. two (λ z. net0.up p z ≡ Some u → net0.depth p z ≡ suc (net0.depth p u)) (λ e. absurd (none_some u e)) (λ e. ap (λ v. suc (net0.depth p v)) (some_some 0 u e)) b j;
  subscriber = λ s i. one (IsSubscriber net0) (record { at_in = omega arith; here = refl }) s i;
  up_below = λ p b i j. two (λ z. is_host net0 p z ≡ false → (u : ℕ) × (net0.up p z ≡ Some u)) (λ e. absurd (true≢false e)) (λ e. (0, refl)) b j;
  child_up = λ p b c i j. two (λ z. list_any (λ x. nat_eq x c) (net0.children p z) ≡ true → net0.up p c ≡ Some z) (λ m. subst (λ z. net0.up p z ≡ Some 0) (only_one 1 c m) refl) (λ m. absurd (false≢true m)) b j;
  here_at = λ b s j. two (λ z. list_any (λ x. nat_eq x s) (net0.subscribers_at z) ≡ true → net0.at s ≡ z) (λ m. absurd (false≢true m)) (λ m. subst (λ z. net0.at z ≡ 1) (only_one 0 s m) refl) b j;
}
  where
    none_some : (u : ℕ) → None ≡ Some u → ⊥
    none_some u e = cc

    some_some : (a u : ℕ) → Some a ≡ Some u → a ≡ u
    some_some a u e = cc
