-- What a crash leaves of a lane while it is closed and filled anew, and which of two lanes is present then
use Rattle.std.specs.Prelude.{◌≡◌, ◌≢◌, ◌⊎◌, ℕ, suc, ◌+◌, ◌<◌, ◌≤◌, Bool, true, false, List, [], ◌∷◌, ◌++◌, length, take, drop}
use Rattle.std.specs.Prelude.{get_or, Result, Ok}
use Rattle.std.specs.Int.{to_be_bytes, w64}
use Rattle.gr_out.specs.Lane.{over, Torn}
use Rattle.gr_publog.specs.declared.head.Standing.{Standing}
use Rattle.gr_publog.specs.declared.head.Standing.TheVariants.{Shut, Old, New}
use Rattle.gr_publog.specs.declared.head.Present.TheVariants.{First, Second}
use Rattle.gr_publog.specs.State.{empty_state, max_tick}
use Rattle.gr_publog.specs.Text.{stamp, standing_of}
use Rattle.gr_publog.specs.Lanes.{chosen, present_of, pair_in, state_text}

-- the lane gate is not open: at most 6 bytes, or byte 5 is not 1
abbrev pub IsShut : List ℕ → Type 0
IsShut bytes = (length bytes ≤ 6) ⊎ (get_or bytes 5 0 ≢ 1)

-- ready to be filled: stamped and shut
pub record IsStamped (bytes : List ℕ) : Type 0 where
  pub head : take 5 bytes ≡ stamp
  pub long : 6 ≤ length bytes
  pub shut : get_or bytes 5 0 ≢ 1

-- a lane that was filled with a body: what stood behind that is still there
abbrev pub filled : List ℕ → List ℕ → List ℕ
filled body old = 71 ∷ (76 ∷ (79 ∷ (71 ∷ (2 ∷ (1 ∷ (body ++ drop (6 + length body) old))))))

-- Every image of a lane that is rewritten is the old bytes, shut, or the new bytes.
pub record ThreeOutcomes : Type 0 where
  -- close, an open lane: a 0 at place 5
  pub shutting : (old image : List ℕ) → 6 < length old → get_or old 5 0 ≡ 1 → Torn 5 1 old image
      → (image ≡ old) ⊎ IsShut image
  pub shut_now : (old : List ℕ) → 6 < length old → get_or (over 5 (0 ∷ []) old) 5 0 ≢ 1
  -- close, a longer lane that is shut: five bytes at place 0
  pub stamping : (old image : List ℕ) → 6 < length old → get_or old 5 0 ≢ 1 → Torn 0 5 old image → IsShut image
  pub stamped : (old : List ℕ) → 6 < length old → get_or old 5 0 ≢ 1 → IsStamped (over 0 stamp old)
  -- close, a lane of at most 6 bytes: six bytes at place 0
  pub starting : (old image : List ℕ) → length old ≤ 6 → Torn 0 6 old image → IsShut image
  pub started : (old : List ℕ) → length old ≤ 6 → IsStamped (over 0 (stamp ++ 0 ∷ []) old)
  -- fill: the body behind the gate at place 5, and then the gate
  pub filling : (body old image : List ℕ) → IsStamped old → Torn 6 (length body) old image → IsShut image
  pub opening : (body old image : List ℕ) → IsStamped old → Torn 5 1 (over 6 body old) image
      → IsShut image ⊎ (image ≡ filled body old)
  pub opened : (body old : List ℕ) → IsStamped old → over 5 (1 ∷ []) (over 6 body old) ≡ filled body old

-- what stands behind place 6 is all that matters of the lane before
abbrev pub FilledSame : Type 0
FilledSame = (body x y : List ℕ) → drop 6 x ≡ drop 6 y → filled body x ≡ filled body y

-- How these lanes stand

abbrev pub ShutIs : Type 0
ShutIs = (first : Bool) (bytes : List ℕ) → IsShut bytes → standing_of first bytes ≡ Ok Shut

abbrev pub FilledIs : Type 0
FilledIs = (first : Bool) (g : ℕ) (rest before : List ℕ) → 1 ≤ g → g ≤ max_tick
    → standing_of first (filled (to_be_bytes w64 g ++ rest) before) ≡ Ok (New g)

-- which of two is present

abbrev pub TwoAre : Type 0
TwoAre = (a b : List ℕ) (x y : Standing) → standing_of true a ≡ Ok x → standing_of false b ≡ Ok y
    → present_of a b ≡ chosen x y

abbrev pub LowerIs : Type 0
LowerIs = (g h : ℕ) → h < g
    → (chosen (New g) (New h) ≡ Ok (First (New g))) × (chosen (New h) (New g) ≡ Ok (Second (New g)))

-- Pairs of images of two lanes, one of which is rewritten

-- an image of a lane that is rewritten with a generation
abbrev pub Outcome : ℕ → List ℕ → List ℕ → List ℕ → Type 0
Outcome g rest before image = (image ≡ before)
    ⊎ (IsShut image ⊎ (image ≡ filled (to_be_bytes w64 g ++ rest) before))

-- a lane beside a present one of a generation
abbrev pub IsBeside : Bool → ℕ → List ℕ → Type 0
IsBeside first g bytes = IsShut bytes
    ⊎ ((standing_of first bytes ≡ Ok Old) ⊎ ((h : ℕ) × (h < g) × (standing_of first bytes ≡ Ok (New h))))

-- Each pair of images reads as before or as after, whatever a present lane's text stands for.
pub record Reclaiming {X : Type 0} (empty : X) (text : Standing → List ℕ → Result X ℕ) : Type 0 where
  -- the second lane is rewritten beside an image of the first one with its head
  pub second_lane : (g : ℕ) (a b rest image : List ℕ) → 1 ≤ g → suc g ≤ max_tick → standing_of true a ≡ Ok (New g)
      → IsBeside false g b → Outcome (suc g) rest b image
      → (pair_in empty text a image ≡ text (New g) a)
      ⊎ (pair_in empty text a image ≡ text (New (suc g)) (filled (to_be_bytes w64 (suc g) ++ rest) b))
  -- the first lane beside one of the second one
  pub first_lane : (g : ℕ) (a b rest image : List ℕ) → 1 ≤ g → suc g ≤ max_tick → standing_of false b ≡ Ok (New g)
      → IsBeside true g a → Outcome (suc g) rest a image
      → (pair_in empty text image b ≡ text (New g) b)
      ⊎ (pair_in empty text image b ≡ text (New (suc g)) (filled (to_be_bytes w64 (suc g) ++ rest) a))
  -- the second lane beside a first one of the first version
  pub migrating : (a b rest image : List ℕ) → standing_of true a ≡ Ok Old → IsShut b → Outcome 1 rest b image
      → (pair_in empty text a image ≡ text Old a)
      ⊎ (pair_in empty text a image ≡ text (New 1) (filled (to_be_bytes w64 1 ++ rest) b))
  -- the first lane where neither is open
  pub beginning : (a b rest image : List ℕ) → IsShut a → IsShut b → Outcome 1 rest a image
      → (pair_in empty text image b ≡ Ok empty)
      ⊎ (pair_in empty text image b ≡ text (New 1) (filled (to_be_bytes w64 1 ++ rest) a))

-- so does each pair as a state, whoever may join
abbrev pub Reclaims : Type 0
Reclaims = (late : List ℕ) → Reclaiming (empty_state late) (state_text late)
