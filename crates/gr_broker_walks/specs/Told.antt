-- What a child is told of what it asks, and what is left of it
use Rattle.std.specs.Prelude.{ℕ, Bool, ◌&&◌, if◌then◌else◌}
use Rattle.gr_know.specs.declared.values.K.{K}
use Rattle.gr_know.specs.declared.values.K.TheVariants.{Q, F}
use Rattle.gr_know.specs.Values.{Known, known_at, is_Q}
use Rattle.gr_curio.specs.declared.values.Q3.{Q3}
use Rattle.gr_curio.specs.declared.values.Q3.TheVariants.{N, C, A}
use Rattle.gr_curio.specs.Values.{Wanted, wanted_at, is_C, is_A}

-- what a child that asks a tick is told before the edge, by what is known and what it has acknowledged
abbrev pub said_at : K → Q3 → Q3 → K
said_at known curious asked = if is_C asked then (if is_A curious then F else known) else Q

-- what is left of what it asks and acknowledges: where it asks and nothing is told, it goes on asking
abbrev pub left_at : Q3 → Bool → Q3
left_at asked untold = if is_A asked then A else (if is_C asked && untold then C else N)

-- the same at each tick, of what is known, what the child has acknowledged and what it asks; of what it asks and is
-- told
abbrev pub said_by : Known → Wanted → Wanted → ℕ → K
said_by know curious asked t = said_at (known_at know t) (wanted_at curious t) (wanted_at asked t)

abbrev pub left_by : Wanted → Known → ℕ → Q3
left_by asked reply t = left_at (wanted_at asked t) (is_Q (known_at reply t))
