-- A walk over the ticks, by pieces on which a function is steady.
use Rattle.std.proofs.Common.{◌≡◌, ℕ, ◌+◌, ◌≤◌, ◌⊎◌, inl, inr, true, false, cond, leb, sym, ◌∙◌, arith}
use Rattle.std.proofs.lemmas.Bool.{leb-true, cases_Bool, and_parts, cond-true, cond-false}
use Rattle.std.proofs.lemmas.Bool.Decides.{nat_tests}
use Rattle.gr_tick.specs.Stored.{within, between}

-- what holds at each tick of the range, and outside it, holds at all
pub everywhere : (P : ℕ → Type 0) (l : ℕ) → ((t : ℕ) → 1 ≤ t → t ≤ l → P t) → ((t : ℕ) → within 1 l t ≡ false → P t) → (t : ℕ) → P t
everywhere P l here out t = by_cases (cases_Bool (within 1 l t))
  where
    by_cases : (within 1 l t ≡ true) ⊎ (within 1 l t ≡ false) → P t
    by_cases (inl y) = here t (leb-true 1 t (and_parts (leb 1 t) (leb t l) y).0) (leb-true t l (and_parts (leb 1 t) (leb t l) y).1)
    by_cases (inr n) = out t n

module _ {V : Type 0} where
  inside : (f a e t : ℕ) (y x : V) → f ≤ a → a ≤ e → within a e t ≡ true → y ≡ cond (between f (e + 1) t) y x
  inside f a e t y x fa ae h = grind (arith, nat_tests)

  ahead : (f a e t : ℕ) (y x : V) → within a e t ≡ true → cond (between f a t) y x ≡ x
  ahead f a e t y x h = grind (arith, nat_tests)

  outside : (f a e t : ℕ) (y x : V) → a ≤ e → within a e t ≡ false → cond (between f a t) y x ≡ cond (between f (e + 1) t) y x
  outside f a e t y x ae h = grind (arith, nat_tests)

  -- the function's value put on its next steady piece
  pub walk_push : (f a e t : ℕ) (h w old new d : V) → f ≤ a → a ≤ e → old ≡ cond (between f a t) h d → new ≡ cond (within a e t) w old → (a ≤ t → t ≤ e → w ≡ h) → new ≡ cond (between f (e + 1) t) h d
  walk_push f a e t h w old new d fa ae eo en eh = by_cases (cases_Bool (within a e t))
    where
      by_cases : (within a e t ≡ true) ⊎ (within a e t ≡ false) → new ≡ cond (between f (e + 1) t) h d
      by_cases (inl y) =
          en ∙ cond-true (within a e t) w old y
          ∙ eh (leb-true a t (and_parts (leb a t) (leb t e) y).0) (leb-true t e (and_parts (leb a t) (leb t e) y).1)
          ∙ inside f a e t h d fa ae y
      by_cases (inr n) = en ∙ cond-false (within a e t) w old n ∙ eo ∙ outside f a e t h d ae n

  -- nothing put where the function has the least value
  pub walk_skip : (f a e t : ℕ) (h old d : V) → f ≤ a → a ≤ e → old ≡ cond (between f a t) h d → (a ≤ t → t ≤ e → d ≡ h) → old ≡ cond (between f (e + 1) t) h d
  walk_skip f a e t h old d fa ae eo eh = by_cases (cases_Bool (within a e t))
    where
      by_cases : (within a e t ≡ true) ⊎ (within a e t ≡ false) → old ≡ cond (between f (e + 1) t) h d
      by_cases (inl y) =
          eo ∙ ahead f a e t h d y
          ∙ eh (leb-true a t (and_parts (leb a t) (leb t e) y).0) (leb-true t e (and_parts (leb a t) (leb t e) y).1)
          ∙ inside f a e t h d fa ae y
      by_cases (inr n) = eo ∙ outside f a e t h d ae n

  pub walk_start : (f t : ℕ) (h d : V) → d ≡ cond (between f f t) h d
  walk_start f t h d = grind (arith, nat_tests)

  pub walk_end : (f a l t : ℕ) (h d v : V) → a ≡ l + 1 → v ≡ cond (between f a t) h d → v ≡ cond (within f l t) h d
  walk_end f a l t h d v e ev = grind (arith, nat_tests)

  -- a walk over all ticks up to the last gives the function, where that has the least value outside them
  pub walk_all : (a l t : ℕ) (h d v : V) → a ≡ l + 1 → v ≡ cond (between 1 a t) h d → (within 1 l t ≡ false → h ≡ d) → v ≡ h
  walk_all a l t h d v e ev out = walk_end 1 a l t h d v e ev ∙ by_cases (cases_Bool (within 1 l t))
    where
      by_cases : (within 1 l t ≡ true) ⊎ (within 1 l t ≡ false) → cond (within 1 l t) h d ≡ h
      by_cases (inl y) = cond-true (within 1 l t) h d y
      by_cases (inr n) = cond-false (within 1 l t) h d n ∙ sym (out n)
