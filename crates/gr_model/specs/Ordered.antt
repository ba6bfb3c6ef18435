-- What the one list of a subscriber over all publishers is to say, apart from any merge
use Rattle.std.specs.Prelude.{◌≡◌, ◌⊎◌, ◌↔◌, ℕ, ◌<◌, true, nat_eq, if◌then◌else◌, List, [], ◌∷◌, ◌++◌, map, take}
use Rattle.std.specs.Prelude.{flat_map, Contains}
use Rattle.std.specs.List.{list_any}
use Rattle.gr_event.specs.declared.event.Event.{Event}
use Rattle.gr_order.specs.declared.item.Item.{Item}
use Rattle.gr_order.specs.Order.{IsRising}
use Rattle.gr_order.specs.Merge.{least_of}
use Rattle.gr_order.specs.Law.{Begins}
use Rattle.gr_sched.specs.declared.step.Line.{Line}
use Rattle.gr_model.specs.declared.report.Report.{Report}
use Rattle.gr_model.specs.declared.report.Report.TheVariants as line
use Rattle.gr_model.specs.Net.{Net, numbers}
use Rattle.gr_model.specs.Headline.{History, expected, last_horizon, history_after, begin, recorded_net}

-- what lines tell a subscriber in its one list
abbrev pub ordered_item : ℕ → Report → List Item
ordered_item s (line.Ordered r p t e) =
    if nat_eq r s then record { publisher = p; tick = t; event = e } ∷ [] else []
ordered_item s _ = []

abbrev pub ordered_items : ℕ → List Report → List Item
ordered_items s ls = flat_map (ordered_item s) ls

-- the least of a subscriber's last horizons over all publishers, 0 where one has none
abbrev pub heard_upto : Net → List Report → ℕ → ℕ
heard_upto net ls s = least_of (map (λ p. last_horizon s p 0 ls) (numbers net.publishers))

-- these items are all that a subscriber is to have of each publisher up to tick n, each once, rising by tick and then
-- publisher
pub record IsMergedOf (net : Net) (h : History) (s n : ℕ) (items : List Item) : Type 0 where
  pub each : (i : Item) → Contains items i
      ↔ ((i.publisher < net.publishers) × Contains (expected net h s i.publisher n) (i.tick, i.event))
  pub rises : IsRising items

-- each of these subscribers was told exactly what all publishers have up to where it has heard them all; whom an event
-- concerns is asked of a net that the history shows
abbrev pub IsOrdered_by : (History → Net) → Net → List ℕ → History → List Report → Type 0
IsOrdered_by at net totals h told = (s : ℕ) → list_any (λ x. nat_eq x s) totals ≡ true
    → IsMergedOf (at h) h s (heard_upto net h.lines s) (ordered_items s told)

abbrev pub IsOrdered : Net → List ℕ → History → List Report → Type 0
IsOrdered net = IsOrdered_by (recorded_net net) net

-- the same after each step: steps, the lines of each, and what is told in one order behind each
abbrev pub TotallyOrdered_from_by : (History → Net) → Net → List ℕ → History → List Report → List Line
    → List (List Report) → List (List Report) → Type 0
TotallyOrdered_from_by at net totals h told [] [] [] = IsOrdered_by at net totals h told
TotallyOrdered_from_by at net totals h told (l ∷ ls) (r ∷ rs) (o ∷ os) = IsOrdered_by at net totals h told
    × TotallyOrdered_from_by at net totals (history_after net h l r) (told ++ o) ls rs os
TotallyOrdered_from_by at net totals h told _ _ _ = ⊥

abbrev pub TotallyOrdered_from : Net → List ℕ → History → List Report → List Line → List (List Report)
    → List (List Report) → Type 0
TotallyOrdered_from net = TotallyOrdered_from_by (recorded_net net) net

-- of every step of a report that begins with nothing
abbrev pub TotallyOrdered : Net → List ℕ → List Line → List (List Report) → List (List Report) → Type 0
TotallyOrdered net totals steps (r ∷ rs) (o ∷ os) = (o ≡ []) × TotallyOrdered_from net totals (begin net) [] steps rs os
TotallyOrdered net totals steps _ _ = ⊥

-- what a subscriber was told in its one list by these steps
abbrev pub items_told : ℕ → List (List Report) → List Item
items_told s told = ordered_items s (flat_map (λ ls. ls) told)

-- of two subscribers that want the same, at any two steps of one run, one list begins with the other
abbrev pub OneOrder : Net → List ℕ → List (List Report) → Type 0
OneOrder net totals told = (s r i j : ℕ)
    → list_any (λ x. nat_eq x s) totals ≡ true → list_any (λ x. nat_eq x r) totals ≡ true
    → ((p t : ℕ) (e : Event) → net.wants p s t e ≡ net.wants p r t e)
    → Begins (items_told s (take i told)) (items_told r (take j told))
    ⊎ Begins (items_told r (take j told)) (items_told s (take i told))
