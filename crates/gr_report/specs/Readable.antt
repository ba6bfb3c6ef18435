-- What a crash leaves of the lanes of a log
use Rattle.std.specs.Prelude.{ℕ, List, IsOk}
use Rattle.gr_publog.specs.Lanes.{state_in}
use Rattle.gr_publog.specs.Views.{Lanes, MayLeavePair}

-- whatever pair a crash leaves of two lanes holds a log, where these subscribers may join
abbrev pub IsReadable : List ℕ → Lanes → Type 0
IsReadable late ls = (a b : List ℕ) → MayLeavePair ls a b → IsOk (state_in late a b)
