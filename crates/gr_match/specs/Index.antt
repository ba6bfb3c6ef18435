-- The index of a list of filters: which of them are asked for an event
use Rattle.std.specs.Prelude.{◌≡◌, ℕ, ◌+◌, ◌*◌, ◌%◌, ◌^◌, ◌≤◌, Bool, false, nat_eq, nat_lt, cond, if◌then◌else◌, List}
use Rattle.std.specs.Prelude.{[], ◌∷◌, ◌++◌, length, map, get_or, Option, Some, None, option_and_then}
use Rattle.std.specs.List.{AllByRecursion, flat_map, slice_get}
use Rattle.std.specs.Int.{cast_unsigned, w64}
use Rattle.gr_event.specs.declared.value.Value.TheVariants as value
use Rattle.gr_event.specs.declared.event.Event.{Event}
use Rattle.gr_filter.specs.declared.filter.Filter.{Filter}
use Rattle.gr_filter.specs.Tree.{Tree, tree_of}
use Rattle.gr_filter.specs.Truth as truth
use Rattle.gr_match.specs.declared.bucket.Bucket.{Bucket}
use Rattle.gr_match.specs.Needed.{Pair, needed, is_pair}
use Rattle.gr_match.specs.Marked.{mark_of}

-- the filters of a list as trees
abbrev pub trees : List Filter → List Tree
trees fs = map (λ f. tree_of f) fs

abbrev pub is_match : Event → Option Tree → Bool
is_match e None = false
is_match e (Some f) = truth.matches f e

-- the filter at a place matches
abbrev pub matches_at : List Tree → Event → ℕ → Bool
matches_at fs e n = is_match e (slice_get fs n)

abbrev pub bucket_pair : Bucket → Pair
bucket_pair b = (b.name, b.value)

-- the bucket of a pair, with one place
abbrev pub with_place : Pair → ℕ → Bucket
with_place p n = record { name = p.0; value = p.1; places = n ∷ [] }

-- a place in the bucket of its pair, which is a new one where there is none
abbrev pub put : Pair → ℕ → List Bucket → List Bucket
put p n [] = with_place p n ∷ []
put p n (b ∷ bs) = if is_pair p (bucket_pair b) then record b { places = b.places ++ n ∷ [] } ∷ bs else b ∷ put p n bs

-- Buckets stand in rows, each in the row of its pair, so that an event looks up the rows of its own pairs alone.

-- how many rows there are, once there is a bucket
abbrev pub row_count : ℕ
row_count = 251

-- bytes mixed into a number below 2 ^ 32
abbrev pub mixed : ℕ → List ℕ → ℕ
mixed h [] = h
mixed h (b ∷ bs) = mixed ((31 * h + b) % 2 ^ 32) bs

-- the number of a pair, of which its row is the rest
abbrev pub number_of : Pair → ℕ
number_of (name, value.Int z) = mark_of name + cast_unsigned w64 z % row_count
number_of (name, value.Text t) = mixed (mark_of name) t
number_of (name, value.Bool b) = mark_of name + (if b then 1 else 0)

-- the row of a pair
abbrev pub row_of : Pair → ℕ
row_of p = number_of p % row_count

-- the buckets of a row; none where there is no such row
abbrev pub row_at : List (List Bucket) → ℕ → List Bucket
row_at rows i = get_or rows i []

-- a place in the index: in the rest where its filter has no pair, and otherwise in the bucket of the pair
abbrev pub rest_with : Option Pair → ℕ → List ℕ → List ℕ
rest_with None n rest = rest ++ n ∷ []
rest_with (Some p) n rest = rest

abbrev pub row_with : Option Pair → ℕ → (ℕ → List Bucket) → ℕ → List Bucket
row_with None n row i = row i
row_with (Some p) n row i = if nat_eq i (row_of p) then put p n (row i) else row i

-- the places of all buckets of a row
abbrev pub all_places : List Bucket → List ℕ
all_places bs = flat_map (λ b. b.places) bs

-- the places of a bucket, where it is that of the pair
abbrev pub places_for : Pair → Bucket → List ℕ
places_for p b = if is_pair p (bucket_pair b) then b.places else []

-- the places of the filters that need a pair
abbrev pub places_of : (ℕ → List Bucket) → Pair → List ℕ
places_of row p = flat_map (places_for p) (row (row_of p))

-- the places of the filters that need one of the event's pairs
abbrev pub asked : (ℕ → List Bucket) → Event → List ℕ
asked row e = flat_map (places_of row) e

-- how often a place stands in a list
abbrev pub times : ℕ → List ℕ → ℕ
times n [] = 0
times n (m ∷ ms) = cond (nat_eq m n) 1 0 + times n ms

-- the pair that the filter at a place needs
abbrev pub needed_at : List Tree → ℕ → Option Pair
needed_at fs n = option_and_then needed (slice_get fs n)

-- the filter at a place matches only events with the pair
abbrev pub NeedsAt : List Tree → Pair → ℕ → Type 0
NeedsAt fs p n = needed_at fs n ≡ Some p

-- the filters of each bucket match only events with its pair
abbrev pub EachNeeds : List Tree → List Bucket → Type 0
EachNeeds fs [] = Unit {0}
EachNeeds fs (b ∷ bs) = AllByRecursion (NeedsAt fs (bucket_pair b)) b.places × EachNeeds fs bs

-- Each filter has one place in the index: in the rest where it needs no pair, else in the row of its pair. It stands in
-- no bucket but that of a pair without which it does not match.
pub record IsIndex (fs : List Tree) (rest : List ℕ) (row : ℕ → List Bucket) : Type 0 where
  pub few : length fs ≤ 65536
  pub in_rest : (n : ℕ) → needed_at fs n ≡ None → times n rest ≡ cond (nat_lt n (length fs)) 1 0
  pub not_in_rest : (n : ℕ) (p : Pair) → needed_at fs n ≡ Some p → times n rest ≡ 0
  pub in_row : (n : ℕ) (p : Pair) → needed_at fs n ≡ Some p → times n (all_places (row (row_of p))) ≡ 1
  pub needs : (i : ℕ) → EachNeeds fs (row i)
