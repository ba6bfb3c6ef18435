-- How the values of a list stand in blocks, in order. Of each block in use it is known how many values stand before it,
-- its start. Behind the blocks in use stand the free ones.
use Rattle.std.specs.Prelude.{◌≡◌, ℕ, zero, suc, ◌+◌, ◌<◌, ◌≤◌, List, [], ◌∷◌, ◌++◌, length, slice_index}
use Rattle.std_alloc.specs.declared.vec.deque.VecDeque.{VecDeque}

-- the numbers from the place k on, each changed
abbrev pub changed_from : (ℕ → ℕ) → ℕ → List ℕ → List ℕ
changed_from f k [] = []
changed_from f zero (s ∷ ss) = f s ∷ changed_from f zero ss
changed_from f (suc k) (s ∷ ss) = s ∷ changed_from f k ss

-- among these starts, k is that of the block of the value at i
pub record IsBlockOf (ss : List ℕ) (k i : ℕ) : Type 0 where
  pub within : k < length ss
  pub begins : slice_index ss k ≤ i
  pub ends : k + 1 < length ss → i < slice_index ss (k + 1)

-- and where k is that of the block for a value that is to stand at i: it goes behind one of the block's, or before all
pub record IsBlockFor (ss : List ℕ) (k i : ℕ) : Type 0 where
  pub within : k < length ss
  pub begins : slice_index ss k ≤ i
  pub behind : 0 < k → slice_index ss k < i
  pub ends : k + 1 < length ss → i ≤ slice_index ss (k + 1)

module _ {X Z : Type 0} where
  -- the values of all blocks in order
  abbrev pub values_of : List (VecDeque X Z) → List X
  values_of [] = []
  values_of (b ∷ bs) = b.items ++ values_of bs

  -- how many values the block at k has
  abbrev pub held : ℕ → List (VecDeque X Z) → ℕ
  held k [] = 0
  held zero (b ∷ bs) = length b.items
  held (suc k) (b ∷ bs) = held k bs

  -- how many values stand before it
  abbrev pub before : ℕ → List (VecDeque X Z) → ℕ
  before zero bs = 0
  before (suc k) [] = 0
  before (suc k) (b ∷ bs) = length b.items + before k bs

  -- the blocks, of so many places each, stand in a row behind n values: those in use have their starts, and the others
  -- are empty
  abbrev pub IsRow : ℕ → ℕ → List ℕ → List (VecDeque X Z) → Type 0
  IsRow places n [] [] = Unit {0}
  IsRow places n (s ∷ ss) [] = ⊥
  IsRow places n [] (b ∷ bs) = (length b.items ≡ 0) × ((places ≤ b.cap) × IsRow places n [] bs)
  IsRow places n (s ∷ ss) (b ∷ bs) =
      (s ≡ n) × ((length b.items ≤ places) × ((places ≤ b.cap) × IsRow places (n + length b.items) ss bs))

  -- the blocks now are as many as those before, in a row, with the same values
  pub record Rearranged (places : ℕ) (was : List (VecDeque X Z)) (ss : List ℕ) (bs : List (VecDeque X Z)) : Type 0 where
    pub row : IsRow places 0 ss bs
    pub values : values_of bs ≡ values_of was
    pub count : length bs ≡ length was

  -- the block at k has a place for a value that is to stand at i of all
  pub record Takes (places : ℕ) (ss : List ℕ) (bs : List (VecDeque X Z)) (k i : ℕ) : Type 0 where
    pub within : k < length ss
    pub begins : slice_index ss k ≤ i
    pub ends : i ≤ slice_index ss k + held k bs
    pub room : held k bs < places
