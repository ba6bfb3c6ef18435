-- What any calls together give: one order of all items
use Rattle.std.specs.Prelude.{◌≡◌, ◌↔◌, ℕ, ◌≤◌, List, [], ◌∷◌, ◌++◌, ⊤}
use Rattle.std.specs.List.{Contains}
use Rattle.gr_order.specs.declared.item.Item.{Item}
use Rattle.gr_order.specs.Order.{IsRising}
use Rattle.gr_order.specs.Merge.{MergeView, fresh, least_horizon, MayTake, MayAdvance, with_item, with_horizon}
use Rattle.gr_order.specs.Merge.{ready_items, without_ready}

-- A call that is answered. One that is refused for want of memory changes nothing.
pub data Call : Type 0 where
  take : Item → Call
  advance : ℕ → ℕ → Call  -- a publisher's horizon
  ready : Call

abbrev pub MayCall : MergeView → Call → Type 0
MayCall m (take item) = MayTake m item
MayCall m (advance publisher horizon) = MayAdvance m publisher horizon
MayCall m ready = ⊤

-- the merge after a call
abbrev pub after_call : MergeView → Call → MergeView
after_call m (take item) = with_item m item
after_call m (advance publisher horizon) = with_horizon m publisher horizon
after_call m ready = without_ready m

-- what a call is handed, and what it gives
abbrev pub taken_by : Call → List Item
taken_by (take item) = item ∷ []
taken_by (advance publisher horizon) = []
taken_by ready = []

abbrev pub given_by : MergeView → Call → List Item
given_by m (take item) = []
given_by m (advance publisher horizon) = []
given_by m ready = ready_items m

-- Calls one after another, from a merge on: each may be made in its turn

abbrev pub MayCallAll : MergeView → List Call → Type 0
MayCallAll m [] = ⊤
MayCallAll m (call ∷ calls) = MayCall m call × MayCallAll (after_call m call) calls

abbrev pub after_calls : MergeView → List Call → MergeView
after_calls m [] = m
after_calls m (call ∷ calls) = after_calls (after_call m call) calls

abbrev pub taken : List Call → List Item
taken [] = []
taken (call ∷ calls) = taken_by call ++ taken calls

abbrev pub given : MergeView → List Call → List Item
given m [] = []
given m (call ∷ calls) = given_by m call ++ given (after_call m call) calls

-- This list has exactly the items up to a tick, rising, and so each once.
pub record IsMerged (items : List Item) (tick : ℕ) (list : List Item) : Type 0 where
  pub each : (item : Item) → Contains list item ↔ (Contains items item × (item.tick ≤ tick))
  pub rises : IsRising list

-- Whatever the calls: what was given, and what is ready now behind it, are all taken items up to the least horizon.
abbrev pub GivesInOrder : Type 0
GivesInOrder = (publishers : ℕ) (calls : List Call) →
    let start : MergeView = fresh publishers in
    let now : MergeView = after_calls start calls in
    MayCallAll start calls → IsMerged (taken calls) (least_horizon now) (given start calls ++ ready_items now)

-- There is one such list.
abbrev pub IsOneList : Type 0
IsOneList = (items : List Item) (tick : ℕ) (list other : List Item)
    → IsMerged items tick list → IsMerged items tick other → list ≡ other

-- the second list begins with the first
pub record Begins (first second : List Item) : Type 0 where
  pub rest : List Item
  pub is : second ≡ first ++ rest

-- Of two merged lists one begins with the other, where the items are the same up to the lesser tick.
abbrev pub GivesOneOrder : Type 0
GivesOneOrder = (items others : List Item) (tick later : ℕ) (list longer : List Item) → tick ≤ later
    → ((item : Item) → item.tick ≤ tick → Contains items item ↔ Contains others item)
    → IsMerged items tick list → IsMerged others later longer → Begins list longer
