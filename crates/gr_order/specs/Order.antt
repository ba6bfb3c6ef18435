-- The order of items: by tick, and of one tick by publisher
use Rattle.std.specs.Prelude.{◌≡◌, ℕ, Bool, true, ◌&&◌, ◌||◌, nat_eq, nat_lt, nat_le, if◌then◌else◌, List, [], ◌∷◌, ⊤}
use Rattle.std.specs.List.{AllByRecursion, filter}
use Rattle.gr_order.specs.declared.item.Item.{Item}

abbrev pub is_before : Item → Item → Bool
is_before a b = nat_lt a.tick b.tick || (nat_eq a.tick b.tick && nat_lt a.publisher b.publisher)

-- each item is before all that stand behind it
abbrev pub IsRising : List Item → Type 0
IsRising [] = ⊤
IsRising (item ∷ rest) = AllByRecursion (λ other. is_before item other ≡ true) rest × IsRising rest

-- the items with one more at its place
abbrev pub placed : Item → List Item → List Item
placed item [] = item ∷ []
placed item (other ∷ rest) = if is_before item other then item ∷ other ∷ rest else other ∷ placed item rest

-- the items up to a tick, and those past it
abbrev pub up_to : ℕ → List Item → List Item
up_to tick items = filter (λ item. nat_le item.tick tick) items

abbrev pub past : ℕ → List Item → List Item
past tick items = filter (λ item. nat_lt tick item.tick) items
