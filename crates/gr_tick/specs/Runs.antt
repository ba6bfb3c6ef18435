-- Functions of ticks as lists of runs, and runs made from a function that is steady between points
use Rattle.std.specs.Prelude.{◌≡◌, ◌≢◌, ℕ, suc, ◌-◌, ◌≤◌, Bool, true, false, ◌&&◌, nat_eq, nat_le, nat_lt, max}
use Rattle.std.specs.Prelude.{if◌then◌else◌, List, [], ◌∷◌, ◌++◌}
use Rattle.gr_tick.specs.declared.run.Run.{Run}

-- the tick is in the run
abbrev pub is_in : {V : Type 0} → ℕ → Run V → Bool
is_in t r = nat_le r.first t && nat_le t r.last

-- the value at a tick; a tick in no run has the least one
abbrev pub value_at : {V : Type 0} → V → List (Run V) → ℕ → V
value_at bottom [] t = bottom
value_at bottom (r ∷ rs) t = if is_in t r then r.value else value_at bottom rs t

-- the next run does not go on with the same value
abbrev pub StartsApart : {V : Type 0} → Run V → List (Run V) → Type 0
StartsApart r [] = Unit {0}
StartsApart r (s ∷ ss) = s.first ≡ suc r.last → s.value ≢ r.value

-- the runs rise from a tick on, are disjoint and maximal, and none is least
abbrev pub AreRunsFrom : {V : Type 0} → V → ℕ → List (Run V) → Type 0
AreRunsFrom bottom from [] = Unit {0}
AreRunsFrom bottom from (r ∷ rs) = (from ≤ r.first) × (r.first ≤ r.last) × (r.value ≢ bottom) × StartsApart r rs
    × AreRunsFrom bottom (suc r.last) rs

abbrev pub AreRuns : {V : Type 0} → V → List (Run V) → Type 0
AreRuns bottom rs = AreRunsFrom bottom 1 rs

-- a run on top of the rest, joined to the first of them where it touches one of the same value
abbrev pub put_on : {V : Type 0} → (V → V → Bool) → ℕ → ℕ → V → List (Run V) → List (Run V)
put_on same first last v [] = record { first = first; last = last; value = v } ∷ []
put_on same first last v (r ∷ rs) =
    if nat_eq r.first (suc last) && same r.value v
    then record { first = first; last = r.last; value = v } ∷ rs
    else record { first = first; last = last; value = v } ∷ (r ∷ rs)

-- the same, with nothing for the least value
abbrev pub put : {V : Type 0} → V → (V → V → Bool) → ℕ → ℕ → V → List (Run V) → List (Run V)
put bottom same first last v rs = if same v bottom then rs else put_on same first last v rs

-- a number at its place in a strictly rising list, once
abbrev pub add_point : ℕ → List ℕ → List ℕ
add_point p [] = p ∷ []
add_point p (q ∷ qs) = if nat_lt p q then p ∷ (q ∷ qs) else (if nat_eq p q then q ∷ qs else q ∷ add_point p qs)

-- the numbers in strictly rising order
abbrev pub sorted : List ℕ → List ℕ
sorted [] = []
sorted (p ∷ ps) = add_point p (sorted ps)

abbrev pub tabulate_from : {V : Type 0} → V → (V → V → Bool) → (ℕ → V) → ℕ → List ℕ → List (Run V)
tabulate_from bottom same g p [] = []
tabulate_from bottom same g p (q ∷ qs) = put bottom same p (q - 1) (g p) (tabulate_from bottom same g q qs)

abbrev pub tabulate_sorted : {V : Type 0} → V → (V → V → Bool) → (ℕ → V) → List ℕ → List (Run V)
tabulate_sorted bottom same g [] = []
tabulate_sorted bottom same g (p ∷ ps) = tabulate_from bottom same g p ps

-- the runs of g, which changes at no tick but these points
abbrev pub tabulate : {V : Type 0} → V → (V → V → Bool) → (ℕ → V) → List ℕ → List (Run V)
tabulate bottom same g points = tabulate_sorted bottom same g (sorted points)

-- where the value of a list of runs may change
abbrev pub points : {V : Type 0} → List (Run V) → List ℕ
points [] = []
points (r ∷ rs) = r.first ∷ (suc r.last ∷ points rs)

-- the tick is none of the points; it is past them all
abbrev pub IsNone : ℕ → List ℕ → Type 0
IsNone t [] = Unit {0}
IsNone t (p ∷ ps) = (t ≢ p) × IsNone t ps

abbrev pub IsPast : ℕ → List ℕ → Type 0
IsPast t [] = Unit {0}
IsPast t (p ∷ ps) = (p ≤ t) × IsPast t ps

-- g changes at these points alone, and is least at 0 and past them all
pub record IsSteady {V : Type 0} (bottom : V) (g : ℕ → V) (ps : List ℕ) : Type 0 where
  pub start : g 0 ≡ bottom
  pub step : (t : ℕ) → IsNone (suc t) ps → g (suc t) ≡ g t
  pub past : (t : ℕ) → IsPast t ps → g t ≡ bottom

-- the test decides equality
abbrev pub Decides_same : {V : Type 0} → (V → V → Bool) → Type 0
Decides_same {V} same = (a b : V) → (same a b ≡ true → a ≡ b) × (same a b ≡ false → a ≢ b)

-- tick by tick
abbrev pub zip_runs : {A B V : Type 0} → A → B → V → (V → V → Bool) → (A → B → V) → List (Run A) → List (Run B)
    → List (Run V)
zip_runs a b bottom same f xs ys = tabulate bottom same (λ t. f (value_at a xs t) (value_at b ys t)) (points xs
    ++ points ys)

abbrev pub map_runs : {A V : Type 0} → A → V → (V → V → Bool) → (A → V) → List (Run A) → List (Run V)
map_runs a bottom same f xs = tabulate bottom same (λ t. f (value_at a xs t)) (points xs)

-- the ticks of a range alone
abbrev pub in_range : {V : Type 0} → V → (V → V → Bool) → ℕ → ℕ → List (Run V) → List (Run V)
in_range bottom same first last xs = tabulate bottom same (λ t. if nat_le first t && nat_le t last
    then value_at bottom xs t else bottom) (first ∷ (suc last ∷ points xs))

-- the least tick from t on that is in no run
abbrev pub first_bottom_from : {V : Type 0} → List (Run V) → ℕ → ℕ
first_bottom_from [] t = t
first_bottom_from (r ∷ rs) t = if nat_lt t r.first then t else first_bottom_from rs (max t (suc r.last))

-- the greatest tick of a run, or 0
abbrev pub top_of : {V : Type 0} → List (Run V) → ℕ
top_of [] = 0
top_of (r ∷ []) = r.last
top_of (r ∷ (s ∷ ss)) = top_of (s ∷ ss)
