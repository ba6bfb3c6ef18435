-- One list over all publishers: what a subscriber that gets one has heard of each, and what its list says next
use Rattle.std.specs.Prelude.{◌≡◌, ℕ, ◌<◌, ◌≤◌, ◌&&◌, nat_eq, nat_lt, nat_le, if◌then◌else◌, List, [], ◌∷◌, ◌++◌}
use Rattle.std.specs.Prelude.{length, map, get_or, set, replicate, flat_map}
use Rattle.std.specs.List.{AllByRecursion}
use Rattle.gr_event.specs.declared.event.Event.{Event}
use Rattle.gr_order.specs.declared.item.Item.{Item}
use Rattle.gr_order.specs.Merge.{MergeView, fresh, with_item, with_horizon, ready_items, without_ready}
use Rattle.gr_topo.specs.Topology.{TopologyView, totals_of}
use Rattle.gr_model.specs.declared.report.Report.{Report}
use Rattle.gr_model.specs.declared.report.Report.TheVariants as line

-- what a subscriber has of the publishers: the merge of their events, and of each publisher the last tick that was
-- taken or heard
pub record Order : Type 0 where
  pub subscriber : ℕ
  pub merge : MergeView
  pub reached : List ℕ

-- no horizon is past what was reached, and nothing of a publisher waits past it
pub record IsOrder (m : MergeView) (reached : List ℕ) : Type 0 where
  pub count : length m.horizons ≡ length reached
  pub horizons : (p : ℕ) → get_or m.horizons p 0 ≤ get_or reached p 0
  pub waiting : AllByRecursion (λ i. i.tick ≤ get_or reached i.publisher 0) m.waiting

-- ---- what is heard

-- a merge, and what was reached
abbrev pub Held : Type 0
Held = MergeView × List ℕ

-- an event is taken past all that was reached of its publisher, and a horizon is heard where it is not before that
abbrev pub got : MergeView → List ℕ → ℕ → ℕ → Event → Held
got m reached p t e = if nat_lt p (length reached) && nat_lt (get_or reached p 0) t
    then (with_item m (record { publisher = p; tick = t; event = e }), set reached p t) else (m, reached)

abbrev pub moved : MergeView → List ℕ → ℕ → ℕ → Held
moved m reached p t = if nat_lt p (length reached) && nat_le (get_or reached p 0) t
    then (with_horizon m p t, set reached p t) else (m, reached)

-- what a line says of events and horizons: a subscriber's event of a publisher, its horizon, or nothing
pub data Said : Type 0 where
  event_of : ℕ → ℕ → ℕ → Event → Said  -- subscriber, publisher, tick, event
  horizon_of : ℕ → ℕ → ℕ → Said  -- subscriber, publisher, tick
  nothing : Said

abbrev pub said_of : Report → Said
said_of (line.Got s p t e) = event_of s p t e
said_of (line.Horizon s p t) = horizon_of s p t
said_of _ = nothing

-- what that is to a subscriber: its own events and horizons are heard, and nothing else
abbrev pub said : ℕ → Held → Said → Held
said s x (event_of r p t e) = if nat_eq r s then got x.0 x.1 p t e else x
said s x (horizon_of r p t) = if nat_eq r s then moved x.0 x.1 p t else x
said s x nothing = x

abbrev pub held : Order → Held
held o = (o.merge, o.reached)

abbrev pub with_held : Order → Held → Order
with_held o x = record { subscriber = o.subscriber; merge = x.0; reached = x.1 }

abbrev pub heard : Order → Report → Order
heard o l = with_held o (said o.subscriber (held o) (said_of l))

-- lines in order
abbrev pub heard_all : Order → List Report → Order
heard_all o [] = o
heard_all o (l ∷ ls) = heard_all (heard o l) ls

abbrev pub fed : List Order → List Report → List Order
fed os ls = map (λ o. heard_all o ls) os

-- ---- what is told

abbrev pub ordered_line : ℕ → Item → Report
ordered_line s i = line.Ordered s i.publisher i.tick i.event

-- what is ready in one list, and what is left then
abbrev pub ordered_in : Order → List Report
ordered_in o = map (ordered_line o.subscriber) (ready_items o.merge)

abbrev pub rested : Order → Order
rested o = record { subscriber = o.subscriber; merge = without_ready o.merge; reached = o.reached }

-- of all lists, subscriber by subscriber
abbrev pub ordered : List Order → List Report
ordered os = flat_map ordered_in os

abbrev pub without_ordered : List Order → List Order
without_ordered os = map rested os

-- of each step what is ready behind its lines
unfoldable pub ordered_steps : List Order → List (List Report) → List (List Report)
ordered_steps os [] = []
ordered_steps os (ls ∷ rs) = let next = fed os ls in ordered next ∷ ordered_steps (without_ordered next) rs

-- the lines of each step, and behind them what is ready then
unfoldable pub with_orders : List Order → List (List Report) → List (List Report)
with_orders os [] = []
with_orders os (ls ∷ rs) = let next = fed os ls in (ls ++ ordered next) ∷ with_orders (without_ordered next) rs

-- ---- at the start

abbrev pub fresh_order : ℕ → ℕ → Order
fresh_order publishers s = record {
  subscriber = s;
  merge = fresh publishers;
  reached = replicate publishers 0;
}

-- the lists of these subscribers over so many publishers; with no publisher there is no merge, so no list
abbrev pub orders_over : ℕ → List ℕ → List Order
orders_over publishers totals = if nat_eq publishers 0 then [] else map (fresh_order publishers) totals

abbrev pub orders_of : TopologyView → List Order
orders_of t = orders_over (length t.publishers) (totals_of t)

-- a list of a subscriber that there is: it hears every publisher, and what waits is of one of them
pub record IsOrderOf (t : TopologyView) (o : Order) : Type 0 where
  pub subscriber : o.subscriber < length t.subscribers
  pub count : length o.reached ≡ length t.publishers
  pub waiting : AllByRecursion (λ i. i.publisher < length t.publishers) o.merge.waiting

abbrev pub AreOrdersOf : TopologyView → List Order → Type 0
AreOrdersOf t os = AllByRecursion (IsOrderOf t) os
