-- What is answered to whether one filter covers another
use Rattle.std.specs.Prelude.{◌≡◌, ◌≤◌, ℕ, Bool, true, false, not, ◌&&◌, nat_le, if◌then◌else◌, List, ◌++◌, Option}
use Rattle.std.specs.Prelude.{Some, None, find}
use Rattle.gr_event.specs.declared.event.Event.{Event}
use Rattle.gr_event.specs.Limits.{IsEvent}
use Rattle.gr_filter.specs.Tree.{Tree}
use Rattle.gr_filter.specs.Truth.{matches}
use Rattle.gr_cover.specs.declared.attribute.Attribute.{Attribute}
use Rattle.gr_cover.specs.declared.cover.TheConstants.{MAX_PARTS}
use Rattle.gr_cover.specs.declared.cover.Cover.{Cover}
use Rattle.gr_cover.specs.declared.cover.Cover.TheVariants.{Yes, No, Unknown}
use Rattle.gr_cover.specs.Covering.{covered}
use Rattle.gr_cover.specs.Mentions.{mentions, is_plain}
use Rattle.gr_cover.specs.Candidates.{attributes, parts as parts_of, candidates}

-- the names of both filters with their candidates
abbrev pub pair_attributes : Tree → Tree → List Attribute
pair_attributes wide narrow = attributes (mentions wide ++ mentions narrow)

-- both filters are plain
abbrev pub is_plain_pair : Tree → Tree → Bool
is_plain_pair wide narrow = is_plain wide && is_plain narrow

-- how many candidates they have, up to 2^64 - 1
abbrev pub pair_parts : Tree → Tree → ℕ
pair_parts wide narrow = parts_of (pair_attributes wide narrow)

-- narrow matches the event, and wide does not
abbrev pub differs : Tree → Tree → Event → Bool
differs wide narrow e = matches narrow e && not (matches wide e)

-- an event that tells is No, and none is Yes
abbrev pub verdict : Option Event → Cover
verdict (Some e) = No e
verdict None = Yes

-- the verdict of the first candidate that narrow matches and wide does not
abbrev pub first_verdict : Tree → Tree → Cover
first_verdict wide narrow = verdict (find (differs wide narrow) (candidates (pair_attributes wide narrow)))

-- Unknown 0 where the pair is not plain, Unknown with its parts where they are too many, and otherwise the verdict
abbrev pub answer : Tree → Tree → Cover
answer wide narrow =
    let parts = pair_parts wide narrow in
    if is_plain_pair wide narrow then (if nat_le parts MAX_PARTS then first_verdict wide narrow else Unknown parts)
    else Unknown 0

-- a pair of which the answer is Yes or No
pub record IsDecided (wide narrow : Tree) : Type 0 where
  pub plain : is_plain_pair wide narrow ≡ true
  pub few : pair_parts wide narrow ≤ MAX_PARTS

-- a pair that is decided, and wide matches every event that narrow matches
abbrev pub IsCoveredPair : Tree → Tree → Type 0
IsCoveredPair wide narrow = IsDecided wide narrow × covered wide narrow

-- the event of a No is one that narrow matches and wide does not
abbrev pub TellsApart : Tree → Tree → Cover → Type 0
TellsApart wide narrow (No e) = IsEvent e × (matches narrow e ≡ true) × (matches wide e ≡ false)
TellsApart wide narrow _ = Unit {0}
