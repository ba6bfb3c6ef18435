-- Two neighbours that share their values otherwise than before: all values stay, and so does the row.
use Rattle.std.proofs.Common.{subst, ◌≡◌, ℕ, zero, suc, ◌+◌, ◌<◌, ◌≤◌, List, [], ◌∷◌, ◌++◌, length, set, get_or, refl, sym, ap, ◌∙◌, arith, length-append, length-set}
use Rattle.std.proofs.lemmas.List.{get_or_default}
use Rattle.std_alloc.specs.declared.vec.deque.VecDeque.{VecDeque}
use Rattle.gr_gap.specs.Blocks.{held, IsRow, Rearranged}
use Rattle.gr_gap.proofs.Rows.{held_at, in_row, start_is, block_is}
use Rattle.gr_gap.proofs.RowEdits.{passed, shared_row}

module _ {X Z : Type 0} where
  -- another block is what it was where one is exchanged
  pub apart : (k j : ℕ) (bs : List (VecDeque X Z)) (b d : VecDeque X Z) → (j ≡ k → ⊥) → get_or (set bs k b) j d ≡ get_or bs j d
  apart k j [] b d ne = refl
  apart zero zero (a ∷ bs) b d ne = absurd (ne refl)
  apart zero (suc j) (a ∷ bs) b d ne = refl
  apart (suc k) zero (a ∷ bs) b d ne = refl
  apart (suc k) (suc j) (a ∷ bs) b d ne = apart k j bs b d (λ e. ne (omega (arith, e)))

  module _ (k x : ℕ) (ss : List ℕ) (bs : List (VecDeque X Z)) (a z b c : VecDeque X Z) (h : IsRow 512 0 ss bs)
      (first : a ≡ get_or bs k a) (same : a.items ++ z.items ≡ b.items ++ c.items)
      (le : length b.items ≤ 512) (more : length c.items ≤ 512) (near : b.cap ≡ a.cap) (far : c.cap ≡ z.cap)
      (at : x ≡ get_or ss k 0 + length b.items) where
    shared : suc k < length ss → z ≡ get_or bs (suc k) z →
        Rearranged 512 bs (set ss (suc k) x) (set (set bs k b) (suc k) c)
    shared next second =
        let some = in_row 0 ss bs h in
        let inside : suc k < length bs = omega (arith, some, next) in
        let was : held k bs ≡ length a.items = held_at k bs a (omega (arith, inside)) first in
        let was_next : held (suc k) bs ≡ length z.items = held_at (suc k) bs z inside second in
        let long : length b.items + length c.items ≡ length a.items + length z.items =
        sym (length-append b.items c.items) ∙ ap length (sym same) ∙ length-append a.items z.items in
        let start = start_is k 0 ss bs h (omega (arith, next)) in
        let wide = block_is k 0 ss bs a h (omega (arith, inside)) in
        let wide_next = block_is (suc k) 0 ss bs z h inside in
        let cap : a.cap ≡ (get_or bs k a).cap = ap (λ q. q.cap) first in
        let cap_next : z.cap ≡ (get_or bs (suc k) z).cap = ap (λ q. q.cap) second in
        let next_was : get_or bs (suc k) a ≡ z = get_or_default bs (suc k) a z inside ∙ sym second in
        record {
          row = shared_row k 0 x ss bs b c h next (omega (arith, at, start)) (omega (arith, long, was, was_next)) le more
              (omega (arith, near, cap, wide.1)) (omega (arith, far, cap_next, wide_next.1));
          values = passed k bs a b c inside
              (ap (λ q. q.items ++ (get_or bs (suc k) a).items) (sym first) ∙ ap (λ q. a.items ++ q.items) next_was ∙ same);
          count = length-set (set bs k b) (suc k) c ∙ length-set bs k b;
        }

    pub shared_at : k + 1 < length ss → z ≡ get_or bs (k + 1) z →
        Rearranged 512 bs (set ss (k + 1) x) (set (set bs k b) (k + 1) c)
    shared_at next second =
        let step : suc k ≡ k + 1 = omega arith in
        subst (λ j. Rearranged 512 bs (set ss j x) (set (set bs k b) j c)) step
        (shared (omega (arith, next)) (subst (λ j. z ≡ get_or bs j z) (sym step) second))
