-- What the children ask and acknowledge, tick by tick
use Rattle.std.specs.Prelude.{ℕ, zero, suc, ◌≢◌, ◌⊎◌, Bool, true, ◌&&◌, nat_le, if◌then◌else◌}
use Rattle.std.specs.Prelude.{List, [], ◌∷◌, map, get_or, Option, Some, None}
use Rattle.std.specs.List.{list_any, list_all}
use Rattle.gr_tick.specs.Kept.{Kept}
use Rattle.gr_curio.specs.Values.{Wanted, wanted_at, is_C, is_A}
use Rattle.gr_curio.specs.declared.values.Q3.{Q3}
use Rattle.gr_curio.specs.declared.values.Q3.TheVariants.{N}

-- each child's runs
abbrev pub runs_of : List (Kept Q3) → List Wanted
runs_of children = map (λ child. child.runs) children

-- the runs of one child
abbrev pub wants_of : List Wanted → ℕ → Wanted
wants_of wants child = get_or wants child []

-- how many runs more of one child fit before memory is asked for; past the last child 0
abbrev pub spare_of : List (Kept Q3) → ℕ → ℕ
spare_of children child = get_or (map (λ c. c.spare) children) child 0

-- whether each child has acknowledged a tick
abbrev pub all_A : List Wanted → ℕ → Bool
all_A wants t = list_all (λ w. is_A (wanted_at w t)) wants

-- whether each child but one, if one is left out, has acknowledged a tick
abbrev pub all_A_but : Option ℕ → List Wanted → ℕ → Bool
all_A_but None wants t = all_A wants t
all_A_but (Some child) [] t = true
all_A_but (Some zero) (w ∷ wants) t = all_A wants t
all_A_but (Some (suc child)) (w ∷ wants) t = is_A (wanted_at w t) && all_A_but (Some child) wants t

-- whether some child asks for a tick
abbrev pub any_C : List Wanted → ℕ → Bool
any_C wants t = list_any (λ w. is_C (wanted_at w t)) wants

-- whether the horizon, if one is kept, has come to a tick
abbrev pub is_reached : Option ℕ → ℕ → Bool
is_reached None t = true
is_reached (Some h) t = nat_le t h

-- whether a tick is consolidated
abbrev pub is_consolidated : Option ℕ → List Wanted → ℕ → Bool
is_consolidated horizon wants t = nat_le 1 t && is_reached horizon t && all_A wants t

-- a child's curiosity where a range of ticks was answered
abbrev pub answered_of : Bool → Q3 → Q3
answered_of inside a = if inside && is_C a then N else a

-- some child's value at a tick is not that at an earlier one
abbrev pub HasChange : ℕ → ℕ → List (Kept Q3) → Type 0
HasChange before t [] = ⊥
HasChange before t (child ∷ children) =
    (wanted_at child.runs t ≢ wanted_at child.runs before) ⊎ HasChange before t children
