-- Of a list of integers that has each literal with its neighbours, one is told from no integer that is given by any of them
use Rattle.std.proofs.Common.{◌≡◌, ℤ, pos, ◌+ℤ◌, ◌-ℤ◌, ◌≤ℤ◌, ◌<ℤ◌, List, [], ◌∷◌, refl, sym, ap, ◌∙◌, subst, ◌⊎◌, inl, inr, arith, FitsSigned}
use Rattle.std.specs.Int.{w64}
use Rattle.std.specs.Ordering.{int_cmp, MatchOrdering}
use Rattle.std.specs.declared.cmp.Ordering.{Ordering}
use Rattle.std.specs.declared.cmp.Ordering.TheVariants.{Less, Equal, Greater}
use Rattle.std.proofs.lemmas.Int.{ints}
use Rattle.std.proofs.lemmas.Cmp.{int_ranked}
use Rattle.gr_cover.specs.Candidates.{least_integer, greatest_integer}
use Rattle.gr_cover.proofs.Rising.{Stands}

-- the greatest of a list that is not above z
pub record Below (z : ℤ) (xs : List ℤ) : Type 0 where
  pub value : ℤ
  pub stands : Stands value xs
  pub upto : value ≤ℤ z
  pub greatest : (y : ℤ) → Stands y xs → y ≤ℤ z → y ≤ℤ value

abbrev pub AllAbove : ℤ → List ℤ → Type 0
AllAbove z xs = (y : ℤ) → Stands y xs → z <ℤ y

pub record Least (xs : List ℤ) : Type 0 where
  pub value : ℤ
  pub stands : Stands value xs
  pub least : (y : ℤ) → Stands y xs → value ≤ℤ y

abbrev pub Sides : ℤ → ℤ → Type 0
Sides a b = (a <ℤ b) ⊎ ((a ≡ b) ⊎ (b <ℤ a))

-- below, equal or above
pub sides : (a b : ℤ) → Sides a b
sides a b = go (int_cmp a b) (int_ranked a b (int_cmp a b) refl)
  where
    go : (o : Ordering) → MatchOrdering o (a <ℤ b) (a ≡ b) (b <ℤ a) → Sides a b
    go Less h = inl h
    go Equal h = inr (inl h)
    go Greater h = inr (inr h)

int_up : (a b c : ℤ) → a ≤ℤ b → b ≤ℤ c → a ≤ℤ c
int_up a b c h k = omega (arith, ints)

int_same : (a : ℤ) → a ≤ℤ a
int_same a = omega (arith, ints)

int_lower : (a b : ℤ) → a <ℤ b → a ≤ℤ b
int_lower a b h = omega (arith, ints)

int_not : (a b : ℤ) → a <ℤ b → b ≤ℤ a → ⊥
int_not a b h k = omega (arith, ints)

at_equal : (a b : ℤ) → a ≡ b → a ≤ℤ b
at_equal a b e = subst (λ x. a ≤ℤ x) e (int_same a)

-- some are not above z, or all are above
pub below : (z : ℤ) (xs : List ℤ) → Below z xs ⊎ AllAbove z xs
below z [] = inr (λ y s. absurd s)
below z (x ∷ xs) = go (sides x z) (below z xs)
  where
    one : x ≤ℤ z → AllAbove z xs → Below z (x ∷ xs)
    one h above = record {
      value = x;
      stands = inl refl;
      upto = h;
      greatest = λ y s k. elim s [ inl e ↦ at_equal y x e | inr t ↦ absurd (int_not z y (above y t) k) ];
    }

    more : x ≤ℤ z → Below z xs → Sides x z → Below z (x ∷ xs)
    more h b s = elim (sides x b.value) [
      | inl l ↦ record { value = b.value; stands = inr b.stands; upto = b.upto; greatest = λ y t k. elim t [ inl e ↦ int_up y x b.value (at_equal y x e) (int_lower x b.value l) | inr u ↦ b.greatest y u k ] }
      | inr (inl q) ↦ record { value = b.value; stands = inr b.stands; upto = b.upto; greatest = λ y t k. elim t [ inl e ↦ int_up y x b.value (at_equal y x e) (at_equal x b.value q) | inr u ↦ b.greatest y u k ] }
      | inr (inr l) ↦ record { value = x; stands = inl refl; upto = h; greatest = λ y t k. elim t [ inl e ↦ at_equal y x e | inr u ↦ int_up y b.value x (b.greatest y u k) (int_lower b.value x l) ] }
    ]

    within : x ≤ℤ z → Below z xs ⊎ AllAbove z xs → Below z (x ∷ xs) ⊎ AllAbove z (x ∷ xs)
    within h (inl b) = inl (more h b (sides x z))
    within h (inr above) = inl (one h above)

    past : z <ℤ x → Below z xs ⊎ AllAbove z xs → Below z (x ∷ xs) ⊎ AllAbove z (x ∷ xs)
    past l (inl b) = inl (record { value = b.value; stands = inr b.stands; upto = b.upto; greatest = λ y t k. elim t [ inl e ↦ absurd (int_not z x l (subst (λ w. w ≤ℤ z) e k)) | inr u ↦ b.greatest y u k ] })
    past l (inr above) = inr (λ y t. elim t [ inl e ↦ subst (λ w. z <ℤ w) (sym e) l | inr u ↦ above y u ])

    go : Sides x z → Below z xs ⊎ AllAbove z xs → Below z (x ∷ xs) ⊎ AllAbove z (x ∷ xs)
    go (inl l) r = within (int_lower x z l) r
    go (inr (inl e)) r = within (at_equal x z e) r
    go (inr (inr l)) r = past l r

-- a list that is not empty has a least integer
pub least : (x : ℤ) (xs : List ℤ) → Least (x ∷ xs)
least x [] = record { value = x; stands = inl refl; least = λ y s. elim s [ inl e ↦ at_equal x y (sym e) | inr t ↦ absurd t ] }
least x (y ∷ ys) = go (least y ys)
  where
    go : Least (y ∷ ys) → Least (x ∷ y ∷ ys)
    go l = elim (sides x l.value) [
      | inl k ↦ record { value = x; stands = inl refl; least = λ w s. elim s [ inl e ↦ at_equal x w (sym e) | inr t ↦ int_up x l.value w (int_lower x l.value k) (l.least w t) ] }
      | inr (inl q) ↦ record { value = x; stands = inl refl; least = λ w s. elim s [ inl e ↦ at_equal x w (sym e) | inr t ↦ int_up x l.value w (at_equal x l.value q) (l.least w t) ] }
      | inr (inr k) ↦ record { value = l.value; stands = inr l.stands; least = λ w s. elim s [ inl e ↦ int_up l.value x w (int_lower l.value x k) (at_equal x w (sym e)) | inr t ↦ l.least w t ] }
    ]

-- two integers stand alike to k
pub record SameSide (a b k : ℤ) : Type 0 where
  pub left : int_cmp a k ≡ int_cmp b k
  pub right : int_cmp k a ≡ int_cmp k b

cmp_less : (a b : ℤ) → a <ℤ b → int_cmp a b ≡ Less
cmp_less a b h = go (int_cmp a b) (int_ranked a b (int_cmp a b) refl)
  where
    go : (o : Ordering) → MatchOrdering o (a <ℤ b) (a ≡ b) (b <ℤ a) → o ≡ Less
    go Less k = refl
    go Equal k = absurd (int_not a b h (at_equal b a (sym k)))
    go Greater k = absurd (int_not a b h (int_lower b a k))

cmp_greater : (a b : ℤ) → b <ℤ a → int_cmp a b ≡ Greater
cmp_greater a b h = go (int_cmp a b) (int_ranked a b (int_cmp a b) refl)
  where
    go : (o : Ordering) → MatchOrdering o (a <ℤ b) (a ≡ b) (b <ℤ a) → o ≡ Greater
    go Greater k = refl
    go Equal k = absurd (int_not b a h (at_equal a b k))
    go Less k = absurd (int_not b a h (int_lower a b k))

both_less : (a b k : ℤ) → a <ℤ k → b <ℤ k → SameSide a b k
both_less a b k h j = record { left = cmp_less a k h ∙ sym (cmp_less b k j); right = cmp_greater k a h ∙ sym (cmp_greater k b j) }

both_greater : (a b k : ℤ) → k <ℤ a → k <ℤ b → SameSide a b k
both_greater a b k h j = record { left = cmp_greater a k h ∙ sym (cmp_greater b k j); right = cmp_less k a h ∙ sym (cmp_less k b j) }

both_equal : (a b k : ℤ) → a ≡ b → SameSide a b k
both_equal a b k e = record { left = ap (λ x. int_cmp x k) e; right = ap (λ x. int_cmp k x) e }

-- a literal stands in the list, with its neighbours within 64 bits
pub record IsNear (k : ℤ) (xs : List ℤ) : Type 0 where
  pub itself : Stands k xs
  pub lower : least_integer <ℤ k → Stands (k -ℤ pos 1) xs
  pub upper : k <ℤ greatest_integer → Stands (k +ℤ pos 1) xs

meet : (a b : ℤ) → a ≤ℤ b → b ≤ℤ a → a ≡ b
meet a b h k = omega (arith, ints)

in_upper : (k z : ℤ) → FitsSigned w64 z → k <ℤ z → k <ℤ greatest_integer
in_upper k z f h = omega (arith, ints)

in_lower : (k z : ℤ) → FitsSigned w64 z → z <ℤ k → least_integer <ℤ k
in_lower k z f h = omega (arith, ints)

step_up : (k z : ℤ) → k <ℤ z → (k +ℤ pos 1) ≤ℤ z
step_up k z h = omega (arith, ints)

from_step : (k x : ℤ) → (k +ℤ pos 1) ≤ℤ x → k <ℤ x
from_step k x h = omega (arith, ints)

under_step : (k x : ℤ) → x ≤ℤ (k -ℤ pos 1) → x <ℤ k
under_step k x h = omega (arith, ints)

under : (a b c : ℤ) → a ≤ℤ b → b <ℤ c → a <ℤ c
under a b c h k = omega (arith, ints)

-- the greatest that is not above z stands to each literal as z does
pub below_tells : (z k : ℤ) (xs : List ℤ) (b : Below z xs) → FitsSigned w64 z → IsNear k xs → SameSide z b.value k
below_tells z k xs b f near =
    elim (sides z k) [
      | inl l ↦ both_less z b.value k l (under b.value z k b.upto l)
      | inr (inl e) ↦ both_equal z b.value k (meet z b.value (subst (λ w. w ≤ℤ b.value) (sym e) (b.greatest k near.itself (at_equal k z (sym e)))) b.upto)
      | inr (inr l) ↦ both_greater z b.value k l (from_step k b.value (b.greatest (k +ℤ pos 1) (near.upper (in_upper k z f l)) (step_up k z l)))
    ]

-- where all are above z, the least of them stands to each literal as z does
pub least_tells : (z k : ℤ) (xs : List ℤ) (b : Least xs) → AllAbove z xs → FitsSigned w64 z → IsNear k xs → SameSide z b.value k
least_tells z k xs b above f near =
    let l : z <ℤ k = above k near.itself in
    both_less z b.value k l (under_step k b.value (b.least (k -ℤ pos 1) (near.lower (in_lower k z f l))))
