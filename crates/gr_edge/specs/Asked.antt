-- Which filters an edge asks
use Rattle.std.specs.Prelude.{◌≡◌, ◌≤◌, ℕ, Bool, true, false, ◌&&◌, ◌||◌, List, length, Option, Some, None}
use Rattle.std.specs.List.{list_any}
use Rattle.gr_event.specs.declared.event.Event.{Event}
use Rattle.gr_event.specs.Joins.{Joins}
use Rattle.gr_event.specs.Limits.{IsEvent}
use Rattle.gr_filter.specs.Tree.{Tree}
use Rattle.gr_match.specs.Matches.{any}
use Rattle.gr_edge.specs.Pass.{Wanting, wanted}

abbrev pub is_missing : {A : Type 0} → Option A → Bool
is_missing None = true
is_missing (Some x) = false

-- a subscriber that wants every event of every tick
abbrev pub is_open : Wanting → Bool
is_open w = is_missing w.late && is_missing w.filter

-- the filters that an edge asks, and the late subscribers that it asks besides: those of a list, but for what others of
-- it cover. Where some subscriber wants everything, the edge is open. Whatever they leave out, they want the same
-- events at the same ticks, whatever the joins are
pub record IsAsked (all : List Wanting) (opened : Bool) (asked : List Tree) (lates : List Wanting) : Type 0 where
  pub open_is : opened ≡ list_any is_open all
  pub few : length asked ≤ length all
  pub sound : (js : Joins) (t : ℕ) (e : Event) → (any asked e || wanted lates js t e) ≡ true → wanted all js t e ≡ true
  pub whole : (js : Joins) (t : ℕ) (e : Event) → IsEvent e → wanted all js t e ≡ true
      → (opened || any asked e || wanted lates js t e) ≡ true
