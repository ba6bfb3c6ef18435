-- Which filters of a list match an event
use Rattle.std.specs.Prelude.{ℕ, suc, Bool, if◌then◌else◌, List, [], ◌∷◌}
use Rattle.std.specs.List.{list_any}
use Rattle.gr_event.specs.declared.event.Event.{Event}
use Rattle.gr_filter.specs.Tree.{Tree}
use Rattle.gr_filter.specs.Truth as truth

-- the places of the filters that match, where the first filter stands at place n
abbrev pub matches_from : ℕ → List Tree → Event → List ℕ
matches_from n [] e = []
matches_from n (f ∷ fs) e = if truth.matches f e then n ∷ matches_from (suc n) fs e else matches_from (suc n) fs e

-- the places, from 0 on and rising, of exactly the filters that match
abbrev pub matches : List Tree → Event → List ℕ
matches fs e = matches_from 0 fs e

-- some filter matches
abbrev pub any : List Tree → Event → Bool
any fs e = list_any (λ f. truth.matches f e) fs
