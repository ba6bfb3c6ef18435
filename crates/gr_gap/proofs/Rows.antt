-- Blocks in a row: which block has the value at i, and what an edit in one block makes of all values.
use Rattle.std.proofs.Common.{◌⊎◌, inl, inr, subst, ◌≡◌, ℕ, zero, suc, ◌+◌, ◌-◌, ◌*◌, ◌<◌, ◌≤◌, List, [], ◌∷◌, ◌++◌, length, set, get_or, remove, refl, sym, ap, ◌∙◌, arith, length-append}
use Rattle.std_alloc.specs.declared.vec.deque.VecDeque.{VecDeque}
use Rattle.gr_gap.proofs.Changes.{read_is}
use Rattle.gr_gap.specs.Blocks.{IsBlockOf, IsBlockFor, values_of, held, before, IsRow, Rearranged}

-- a block is the last one, or there is another behind it
pub last_or : (k n : ℕ) → k < n → (k + 1 < n) ⊎ (suc k ≡ n)
last_or k zero lt = absurd (omega (arith, lt))
last_or zero (suc zero) lt = inr refl
last_or zero (suc (suc n)) lt = inl (omega arith)
last_or (suc k) (suc n) lt = elim (last_or k n (omega (arith, lt))) [ inl h ↦ inl (omega (arith, h)) | inr e ↦ inr (omega (arith, e)) ]

module _ {X Z : Type 0} where
  -- the count of a block
  pub held_is : (k : ℕ) (bs : List (VecDeque X Z)) (d : VecDeque X Z) → k < length bs →
      held k bs ≡ length (get_or bs k d).items
  held_is k [] d lt = absurd (omega (arith, lt))
  held_is zero (b ∷ bs) d lt = refl
  held_is (suc k) (b ∷ bs) d lt = held_is k bs d (omega (arith, lt))

  pub held_at : (k : ℕ) (bs : List (VecDeque X Z)) (d : VecDeque X Z) → k < length bs → d ≡ get_or bs k d →
      held k bs ≡ length d.items
  held_at k bs d lt e = held_is k bs d lt ∙ ap (λ q. length q.items) (sym e)

  pub held_set : (k : ℕ) (bs : List (VecDeque X Z)) (b : VecDeque X Z) → k < length bs →
      held k (set bs k b) ≡ length b.items
  held_set k [] b lt = absurd (omega (arith, lt))
  held_set zero (a ∷ bs) b lt = refl
  held_set (suc k) (a ∷ bs) b lt = held_set k bs b (omega (arith, lt))

  pub held_other : (j k : ℕ) (bs : List (VecDeque X Z)) (b : VecDeque X Z) → (j ≡ k → ⊥) →
      held j (set bs k b) ≡ held j bs
  held_other j k [] b ne = refl
  held_other zero zero (a ∷ bs) b ne = absurd (ne refl)
  held_other zero (suc k) (a ∷ bs) b ne = refl
  held_other (suc j) zero (a ∷ bs) b ne = refl
  held_other (suc j) (suc k) (a ∷ bs) b ne = held_other j k bs b (λ e. ne (omega (arith, e)))

  pub before_next : (k : ℕ) (bs : List (VecDeque X Z)) → before (suc k) bs ≡ before k bs + held k bs
  before_next zero [] = refl
  before_next (suc k) [] = refl
  before_next zero (b ∷ bs) = omega arith
  before_next (suc k) (b ∷ bs) = let on = before_next k bs in omega (arith, on)

  pub before_step : (k : ℕ) (bs : List (VecDeque X Z)) → before (k + 1) bs ≡ before k bs + held k bs
  before_step k bs =
      let step : suc k ≡ k + 1 = omega arith in
      subst (λ j. before j bs ≡ before k bs + held k bs) step (before_next k bs)

  pub free_none : (n : ℕ) (bs : List (VecDeque X Z)) → IsRow 512 n [] bs → length (values_of bs) ≡ 0
  free_none n [] h = refl
  free_none n (b ∷ bs) h = let on = free_none n bs h.1.1 in omega (arith, h.0, on, length-append b.items (values_of bs))

  pub in_row : (n : ℕ) (ss : List ℕ) (bs : List (VecDeque X Z)) → IsRow 512 n ss bs → length ss ≤ length bs
  in_row n [] bs h = omega arith
  in_row n (s ∷ ss) [] h = absurd h
  in_row n (s ∷ ss) (b ∷ bs) h = let on = in_row (n + length b.items) ss bs h.1.1.1 in omega (arith, on)

  pub start_is : (k n : ℕ) (ss : List ℕ) (bs : List (VecDeque X Z)) → IsRow 512 n ss bs → k < length ss →
      get_or ss k 0 ≡ n + before k bs
  start_is k n [] bs h lt = absurd (omega (arith, lt))
  start_is k n (s ∷ ss) [] h lt = absurd h
  start_is zero n (s ∷ ss) (b ∷ bs) h lt = omega (arith, h.0)
  start_is (suc k) n (s ∷ ss) (b ∷ bs) h lt =
      let on = start_is k (n + length b.items) ss bs h.1.1.1 (omega (arith, lt)) in omega (arith, on)

  -- a block has no more values than places, and so many places
  pub block_is : (k n : ℕ) (ss : List ℕ) (bs : List (VecDeque X Z)) (d : VecDeque X Z) → IsRow 512 n ss bs → k < length bs →
      (held k bs ≤ 512) × (512 ≤ (get_or bs k d).cap)
  block_is k n ss [] d h lt = absurd (omega (arith, lt))
  block_is zero n [] (b ∷ bs) d h lt = (omega (arith, h.0), h.1.0)
  block_is (suc k) n [] (b ∷ bs) d h lt = block_is k n [] bs d h.1.1 (omega (arith, lt))
  block_is zero n (s ∷ ss) (b ∷ bs) d h lt = (h.1.0, h.1.1.0)
  block_is (suc k) n (s ∷ ss) (b ∷ bs) d h lt = block_is k (n + length b.items) ss bs d h.1.1.1 (omega (arith, lt))

  -- behind the last block in use there is no value
  pub last_end : (k n : ℕ) (ss : List ℕ) (bs : List (VecDeque X Z)) → IsRow 512 n ss bs → suc k ≡ length ss →
      length (values_of bs) ≡ before k bs + held k bs
  last_end k n [] bs h e = absurd (omega (arith, e))
  last_end k n (s ∷ ss) [] h e = absurd h
  last_end zero n (s ∷ []) (b ∷ bs) h e =
      let none = free_none (n + length b.items) bs h.1.1.1 in omega (arith, none, length-append b.items (values_of bs))
  last_end zero n (s ∷ t ∷ ss) (b ∷ bs) h e = absurd (omega (arith, e))
  last_end (suc k) n (s ∷ ss) (b ∷ bs) h e =
      let on = last_end k (n + length b.items) ss bs h.1.1.1 (omega (arith, e)) in
      omega (arith, on, length-append b.items (values_of bs))

  -- no more values stand before a block than there are
  pub before_all : (k : ℕ) (bs : List (VecDeque X Z)) → before k bs + held k bs ≤ length (values_of bs)
  before_all zero [] = omega arith
  before_all (suc k) [] = omega arith
  before_all zero (b ∷ bs) = omega (arith, length-append b.items (values_of bs))
  before_all (suc k) (b ∷ bs) = let on = before_all k bs in omega (arith, on, length-append b.items (values_of bs))

  -- the value at i stands in its block
  pub placed : (k i : ℕ) (ss : List ℕ) (bs : List (VecDeque X Z)) → IsRow 512 0 ss bs → IsBlockOf ss k i →
      i < length (values_of bs) → (get_or ss k 0 ≡ before k bs) × (i < get_or ss k 0 + held k bs)
  placed k i ss bs h at lt =
      let start : get_or ss k 0 ≡ 0 + before k bs = start_is k 0 ss bs h at.within in
      let next : k + 1 < length ss → get_or ss (k + 1) 0 ≡ before k bs + held k bs =
      λ more. omega (arith, start_is (k + 1) 0 ss bs h more, before_step k bs) in
      let last : suc k ≡ length ss → length (values_of bs) ≡ before k bs + held k bs = λ e. last_end k 0 ss bs h e in (
        omega (arith, start),
        elim (last_or k (length ss) at.within)
            [ inl more ↦ omega (arith, start, next more, at.ends more, lt) | inr e ↦ omega (arith, start, last e, lt) ],
      )

  -- a start is no more than all values
  pub start_low : (k n : ℕ) (ss : List ℕ) (bs : List (VecDeque X Z)) → IsRow 512 n ss bs →
      get_or ss k 0 ≤ n + length (values_of bs)
  start_low k n [] bs h = omega arith
  start_low k n (s ∷ ss) [] h = absurd h
  start_low zero n (s ∷ ss) (b ∷ bs) h = omega (arith, h.0)
  start_low (suc k) n (s ∷ ss) (b ∷ bs) h =
      let on = start_low k (n + length b.items) ss bs h.1.1.1 in omega (arith, on, length-append b.items (values_of bs))

  -- all values fit into the blocks in use
  pub fits : (n : ℕ) (ss : List ℕ) (bs : List (VecDeque X Z)) → IsRow 512 n ss bs → length (values_of bs) ≤ length ss * 512
  fits n [] [] h = omega arith
  fits n [] (b ∷ bs) h =
      let none = free_none n (b ∷ bs) h in omega (arith, none)
  fits n (s ∷ ss) [] h = absurd h
  fits n (s ∷ ss) (b ∷ bs) h =
      let on = fits (n + length b.items) ss bs h.1.1.1 in omega (arith, on, h.1.0, length-append b.items (values_of bs))

  -- where there is a value, a block is in use
  pub some_start : (ss : List ℕ) (bs : List (VecDeque X Z)) → IsRow 512 0 ss bs → 0 < length (values_of bs) → 0 < length ss
  some_start ss bs h lt = let all = fits 0 ss bs h in omega (arith, all, lt)

  -- what stands before the last block is what it is without it
  pub before_front : (k : ℕ) (bs : List (VecDeque X Z)) (e : VecDeque X Z) → k ≤ length bs → before k (bs ++ e ∷ []) ≡ before k bs
  before_front zero bs e le = refl
  before_front (suc k) [] e le = absurd (omega (arith, le))
  before_front (suc k) (b ∷ bs) e le = ap (λ n. length b.items + n) (before_front k bs e (omega (arith, le)))

  pub held_front : (k : ℕ) (bs : List (VecDeque X Z)) (e : VecDeque X Z) → k < length bs → held k (bs ++ e ∷ []) ≡ held k bs
  held_front k [] e lt = absurd (omega (arith, lt))
  held_front zero (b ∷ bs) e lt = refl
  held_front (suc k) (b ∷ bs) e lt = held_front k bs e (omega (arith, lt))

  -- the row without its first block
  pub without_first : (ss : List ℕ) (a : VecDeque X Z) (bs : List (VecDeque X Z)) → IsRow 512 0 ss (a ∷ bs) → 0 < length ss →
      IsRow 512 (length a.items) (remove ss 0) bs × (length a.items ≤ 512) × (512 ≤ a.cap)
  without_first [] a bs h lt = absurd (omega (arith, lt))
  without_first (s ∷ ss) a bs h lt =
      let same : 0 + length a.items ≡ length a.items = omega arith in
      (subst (λ m. IsRow 512 m ss bs) same h.1.1.1, h.1.0, h.1.1.0)

  -- where the next block starts
  pub next_start : (k : ℕ) (ss : List ℕ) (bs : List (VecDeque X Z)) → IsRow 512 0 ss bs → k + 1 < length ss →
      get_or ss (k + 1) 0 ≡ get_or ss k 0 + held k bs
  next_start k ss bs h lt =
      omega (arith, start_is (k + 1) 0 ss bs h lt, start_is k 0 ss bs h (omega (arith, lt)), before_step k bs)

  -- a value for the place i of all goes between the values of its block, or to one of their ends
  pub placed_for : (k i : ℕ) (ss : List ℕ) (bs : List (VecDeque X Z)) → IsRow 512 0 ss bs → IsBlockFor ss k i →
      i ≤ length (values_of bs) → (get_or ss k 0 ≡ before k bs) × (i ≤ get_or ss k 0 + held k bs)
  placed_for k i ss bs h at le =
      let start : get_or ss k 0 ≡ 0 + before k bs = start_is k 0 ss bs h at.within in
      let next : k + 1 < length ss → get_or ss (k + 1) 0 ≡ before k bs + held k bs =
      λ more. omega (arith, start_is (k + 1) 0 ss bs h more, before_step k bs) in
      let last : suc k ≡ length ss → length (values_of bs) ≡ before k bs + held k bs = λ e. last_end k 0 ss bs h e in (
        omega (arith, start),
        elim (last_or k (length ss) at.within)
            [ inl more ↦ omega (arith, start, next more, at.ends more, le) | inr e ↦ omega (arith, start, last e, le) ],
      )

  -- one rearrangement after another
  pub then_on : (was : List (VecDeque X Z)) (ss : List ℕ) (bs : List (VecDeque X Z)) (ts : List ℕ) (cs : List (VecDeque X Z)) →
      Rearranged 512 was ss bs → Rearranged 512 bs ts cs → Rearranged 512 was ts cs
  then_on was ss bs ts cs a b = record { row = b.row; values = b.values ∙ a.values; count = b.count ∙ a.count }

  -- no block has more values than places
  pub held_most : (k n : ℕ) (ss : List ℕ) (bs : List (VecDeque X Z)) → IsRow 512 n ss bs → held k bs ≤ 512
  held_most k n ss [] h = omega arith
  held_most zero n [] (b ∷ bs) h = omega (arith, h.0)
  held_most (suc k) n [] (b ∷ bs) h = held_most k n [] bs h.1.1
  held_most zero n (s ∷ ss) (b ∷ bs) h = h.1.0
  held_most (suc k) n (s ∷ ss) (b ∷ bs) h = held_most k (n + length b.items) ss bs h.1.1.1

  -- where the value at i is found, in a block that begins at r
  pub located : (k i r : ℕ) (cs ss : List ℕ) (bs : List (VecDeque X Z)) → cs ≡ ss → IsRow 512 0 ss bs → IsBlockOf cs k i →
      r ≡ get_or ss k r → i < length (values_of bs) →
      (k < length ss) × (k < length bs) × (i ≡ before k bs + (i - r)) × (i - r < held k bs)
  located k i r cs ss bs same h at read lt =
      let of : IsBlockOf ss k i = subst (λ l. IsBlockOf l k i) same at in
      let start : r ≡ get_or ss k 0 = read_is k ss r of.within read in
      let near = placed k i ss bs h of lt in
      let many = in_row 0 ss bs h in
      (of.within, omega (arith, many, of.within), omega (arith, start, near.0, of.begins), omega (arith, start, near.1, of.begins))

  -- behind a block at least its values stand before
  pub start_past : (k j n : ℕ) (ss : List ℕ) (bs : List (VecDeque X Z)) → IsRow 512 n ss bs → k < j → j < length ss →
      n + held k bs ≤ get_or ss j 0
  start_past k j n [] bs h past lt = absurd (omega (arith, lt))
  start_past k j n (s ∷ ss) [] h past lt = absurd h
  start_past k zero n (s ∷ ss) (b ∷ bs) h past lt = absurd (omega (arith, past))
  start_past zero (suc j) n (s ∷ ss) (b ∷ bs) h past lt =
      let on = start_is j (n + length b.items) ss bs h.1.1.1 (omega (arith, lt)) in omega (arith, on)
  start_past (suc k) (suc j) n (s ∷ ss) (b ∷ bs) h past lt =
      let on = start_past k j (n + length b.items) ss bs h.1.1.1 (omega (arith, past)) (omega (arith, lt)) in omega (arith, on)
