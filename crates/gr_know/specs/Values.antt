-- What is known of a tick: the four values, their join, and when two of them clash
use Rattle.std.specs.Prelude.{ℕ, Bool, true, false, not, if◌then◌else◌, List}
use Rattle.gr_event.specs.Event.{same_event}
use Rattle.gr_know.specs.declared.values.K.{K}
use Rattle.gr_know.specs.declared.values.K.TheVariants.{Q, S, D, F}
use Rattle.gr_tick.specs.declared.run.Run.{Run}
use Rattle.gr_tick.specs.Runs.{value_at, tabulate}

abbrev pub same_K : K → K → Bool
same_K Q Q = true
same_K S S = true
same_K F F = true
same_K (D a) (D b) = same_event a b
same_K _ _ = false

-- nothing is known
abbrev pub is_Q : K → Bool
is_Q Q = true
is_Q _ = false

-- an event is known
abbrev pub is_D : K → Bool
is_D (D e) = true
is_D _ = false

-- the least upper bound: unknown is below all, final above all, and no two others are related
abbrev pub join_K : K → K → K
join_K Q y = y
join_K F y = F
join_K S Q = S
join_K S S = S
join_K S (D e) = F
join_K S F = F
join_K (D a) Q = D a
join_K (D a) S = F
join_K (D a) (D b) = if same_event a b then D a else F
join_K (D a) F = F

-- what is kept and what came say different things of a tick: silence against an event, or two events
abbrev pub clash_K : K → K → Bool
clash_K S (D e) = true
clash_K (D e) S = true
clash_K (D a) (D b) = not (same_event a b)
clash_K _ _ = false

-- what came, where nothing was known
abbrev pub new_K : K → K → K
new_K k x = if is_Q k then x else Q

-- knowledge of all ticks, as runs
abbrev pub Known : Type 0
Known = List (Run K)

abbrev pub known_at : Known → ℕ → K
known_at = value_at Q

abbrev pub knowns : (ℕ → K) → List ℕ → Known
knowns = tabulate Q same_K
