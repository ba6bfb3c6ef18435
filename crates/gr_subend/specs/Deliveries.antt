-- Deliveries as pairs of a tick and an event, and as they stand in a list
use Rattle.std.specs.Prelude.{ℕ, List, [], ◌∷◌, map}
use Rattle.gr_event.specs.declared.event.Event.{Event}
use Rattle.gr_subend.specs.declared.delivery.Delivery.{Delivery}
use Rattle.gr_subend.specs.declared.delivery.Place.{Place}
use Rattle.gr_subend.specs.declared.delivery.Place.TheVariants.{Empty, Alone, Many}

abbrev pub items : List Delivery → List (ℕ × Event)
items ds = map (λ d. (d.tick, d.event)) ds

-- the deliveries in order
abbrev pub listed : Place → List Delivery
listed Empty = []
listed (Alone d) = d ∷ []
listed (Many ds) = ds.items

-- one delivery stands alone
abbrev pub IsAlone : Place → Type 0
IsAlone Empty = ⊥
IsAlone (Alone d) = Unit {0}
IsAlone (Many ds) = ⊥
