-- Joins of late subscribers, in their order
use Rattle.std.specs.Prelude.{◌≡◌, ℕ, ◌<◌, ◌≤◌, ◌^◌, suc, Bool, false, not, ◌&&◌, nat_eq, nat_lt, nat_le, if◌then◌else◌}
use Rattle.std.specs.Prelude.{List, [], ◌∷◌, length, Option, Some, None, is_some}
use Rattle.std.specs.List.{list_any}
use Rattle.smallvec.specs.SmallVec.{SmallVec}
use Rattle.gr_event.specs.declared.limits.TheConstants.{MAX_JOINS, MAX_JOIN_TICK}
pub use Rattle.gr_event.specs.declared.join.Join.{Join}
pub use Rattle.gr_event.specs.declared.join.Split.{Split}

abbrev pub Joins : Type 0
Joins = List Join

-- the list that a block has: none where there is no block
abbrev pub items_of : Option (SmallVec Join) → Joins
items_of None = []
items_of (Some v) = v.items

-- ---- what a list says of a subscriber

-- some join of s is below a tick
abbrev pub joined_below : Joins → ℕ → ℕ → Bool
joined_below js s t = list_any (λ j. nat_eq j.subscriber s && nat_lt j.tick t) js

-- there is one of s
abbrev pub has_joined : Joins → ℕ → Bool
has_joined js s = list_any (λ j. nat_eq j.subscriber s) js

-- the tick of the first join of s
abbrev pub tick_of : Joins → ℕ → Option ℕ
tick_of [] s = None
tick_of (j ∷ js) s = if nat_eq j.subscriber s then Some j.tick else tick_of js s

-- ---- two lists

-- the longer of two lists; of two as long the first
abbrev pub longer : Joins → Joins → Joins
longer js ks = if nat_lt (length js) (length ks) then ks else js

abbrev pub same_join : Join → Join → Bool
same_join j k = nat_eq j.subscriber k.subscriber && nat_eq j.tick k.tick

-- the least place, from n on, at which both have a join and they differ
abbrev pub first_split : ℕ → Joins → Joins → Option Split
first_split n [] ks = None
first_split n (j ∷ js) [] = None
first_split n (j ∷ js) (k ∷ ks) = if same_join j k then first_split (suc n) js ks
    else Some (record { at = n; kept = j; came = k })

-- neither is a front of the other
abbrev pub splits : Joins → Joins → Bool
splits js ks = is_some (first_split 0 js ks)

-- ---- what holds of every list

-- none is below a tick
abbrev pub NoneBelow : ℕ → Joins → Type 0
NoneBelow t [] = Unit {0}
NoneBelow t (j ∷ js) = (t ≤ j.tick) × NoneBelow t js

-- the ticks rise from above one, none past the last of all, and the numbers have 16 bits
abbrev pub JoinsRise : ℕ → Joins → Type 0
JoinsRise from [] = Unit {0}
JoinsRise from (j ∷ js) = (from < j.tick) × (j.tick ≤ MAX_JOIN_TICK) × (j.subscriber < 2 ^ 16) × JoinsRise j.tick js

-- no subscriber has two
abbrev pub JoinOnce : Joins → Type 0
JoinOnce [] = Unit {0}
JoinOnce (j ∷ js) = (has_joined js j.subscriber ≡ false) × JoinOnce js

pub record AreJoins (js : Joins) : Type 0 where
  pub few : length js ≤ MAX_JOINS
  pub rise : JoinsRise 0 js
  pub once : JoinOnce js

-- the tick of the last one, or the one given where there is none
abbrev pub last_tick_from : ℕ → Joins → ℕ
last_tick_from t [] = t
last_tick_from t (j ∷ js) = last_tick_from j.tick js

-- the tick of the last one, 0 where there is none
abbrev pub last_join_tick : Joins → ℕ
last_join_tick js = last_tick_from 0 js

-- a join may stand behind these
abbrev pub may_join : Joins → Join → Bool
may_join js j = nat_lt (length js) MAX_JOINS && not (has_joined js j.subscriber)
    && nat_lt (last_join_tick js) j.tick && nat_le j.tick MAX_JOIN_TICK
