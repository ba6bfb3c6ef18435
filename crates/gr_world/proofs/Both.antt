-- What is done to one lane and then to the next one is done to both
use Rattle.std.proofs.Common.{◌≡◌, ◌≢◌, ℕ, suc, ◌+◌, ap, ap₂, ◌∙◌, subst, arith, add-one}
use Rattle.gr_out.specs.Lane.{Lane}
use Rattle.gr_publog.specs.Views.{Lanes, lanes_at, AwayFrom}

module _ (change : Lane → Lane) (before mid after : ℕ → Lane) (n m : ℕ) (is : m ≡ n) where
  pub both_changed : mid m ≡ change (before m) → ((k : ℕ) → k ≢ m → mid k ≡ before k) → after (m + 1) ≡ change (mid (m + 1)) → ((k : ℕ) → k ≢ m + 1 → after k ≡ mid k)
      → lanes_at after n ≡ record { first = change (before n); second = change (before (suc n)) }
  both_changed one rest two others =
      ap₂ (λ (x y : Lane). let ls : Lanes = record { first = x; second = y } in ls)
      (subst (λ k. after k ≡ change (before k)) is (others m (λ e. omega (arith, e)) ∙ one))
      (subst (λ k. after k ≡ change (before k)) (add-one m ∙ ap suc is) (two ∙ ap change (rest (m + 1) (λ e. omega (arith, e)))))

  -- and to no other
  pub others_same : ((k : ℕ) → k ≢ m → mid k ≡ before k) → ((k : ℕ) → k ≢ m + 1 → after k ≡ mid k) → (k : ℕ) → AwayFrom n k → after k ≡ before k
  others_same rest others k away = others k (λ e. away.1 (e ∙ (add-one m ∙ ap suc is))) ∙ rest k (λ e. away.0 (e ∙ is))
