-- Where the list of a subscriber stands
use Rattle.std.specs.Prelude.{◌≡◌, ℕ, suc, ◌<◌, List, [], ◌∷◌, length, get_or, Option, Some, None}
use Rattle.gr_model.specs.Orders.{Order, Said, event_of, horizon_of, nothing}

-- for each list the table has its place, counted from this number on
abbrev pub ArePlaced : ℕ → List Order → List ℕ → Type 0
ArePlaced n [] places = Unit {0}
ArePlaced n (o ∷ os) places = (o.subscriber < length places) × (get_or places o.subscriber 0 ≡ n)
    × ArePlaced (suc n) os places

-- whose event or horizon it is
abbrev pub subject : Said → Option ℕ
subject (event_of s p t e) = Some s
subject (horizon_of s p t) = Some s
subject nothing = None
