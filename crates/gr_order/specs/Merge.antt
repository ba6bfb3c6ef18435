-- What a merge is seen as, and what its calls do
use Rattle.std.specs.Prelude.{◌≡◌, ℕ, ◌<◌, ◌≤◌, min, List, [], ◌∷◌, length, replicate, get_or, set}
use Rattle.std.specs.List.{AllByRecursion, fold}
use Rattle.gr_event.specs.declared.event.Event.{Event}
use Rattle.gr_order.specs.declared.item.Item.{Item}
use Rattle.gr_order.specs.Order.{placed, up_to, past}

pub record MergeView : Type 0 where
  pub waiting : List Item  -- what was taken and not given yet, rising
  pub horizons : List ℕ  -- one for each publisher

-- how the waiting items are kept: by tick and publisher
abbrev pub item_of : (ℕ × ℕ) × Event → Item
item_of entry = record { publisher = entry.0.1; tick = entry.0.0; event = entry.1 }

-- nothing waits, and every horizon is 0
abbrev pub fresh : ℕ → MergeView
fresh publishers = record { waiting = []; horizons = replicate publishers 0 }

abbrev pub least_of : List ℕ → ℕ
least_of [] = 0
least_of (first ∷ rest) = fold min first rest

abbrev pub least_horizon : MergeView → ℕ
least_horizon m = least_of m.horizons

-- An item may come past its publisher's horizon, later than all that wait of this publisher. What was given of it is up
-- to its horizon, so the item is later than each that was taken.
pub record MayTake (m : MergeView) (item : Item) : Type 0 where
  pub publisher : item.publisher < length m.horizons
  pub unheard : get_or m.horizons item.publisher 0 < item.tick
  pub later : AllByRecursion (λ other. other.publisher ≡ item.publisher → other.tick < item.tick) m.waiting

-- a horizon never goes back
pub record MayAdvance (m : MergeView) (number horizon : ℕ) : Type 0 where
  pub publisher : number < length m.horizons
  pub forward : get_or m.horizons number 0 ≤ horizon

abbrev pub with_item : MergeView → Item → MergeView
with_item m item = record { waiting = placed item m.waiting; horizons = m.horizons }

abbrev pub with_horizon : MergeView → ℕ → ℕ → MergeView
with_horizon m publisher horizon = record { waiting = m.waiting; horizons = set m.horizons publisher horizon }

-- what is ready: no publisher can still have an earlier item
abbrev pub ready_items : MergeView → List Item
ready_items m = up_to (least_horizon m) m.waiting

abbrev pub without_ready : MergeView → MergeView
without_ready m = record { waiting = past (least_horizon m) m.waiting; horizons = m.horizons }
