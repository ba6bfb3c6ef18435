-- The two lanes of a log, as one
use Rattle.std.specs.Prelude.{◌≡◌, true}
use Rattle.gr_out.specs.declared.disk.Stop.{Stop}
use Rattle.gr_out.specs.Lane.{crashed, with_stop}
use Rattle.gr_publog.specs.Views.{Lanes}

-- room was made in both
pub record AreReserved (ls : Lanes) : Type 0 where
  pub first : ls.first.reserved ≡ true
  pub second : ls.second.reserved ≡ true

-- both with a stop, and both after a crash
abbrev pub with_stops : Stop → Lanes → Lanes
with_stops stop ls = record { first = with_stop stop ls.first; second = with_stop stop ls.second }

abbrev pub crashed_lanes : Lanes → Lanes
crashed_lanes ls = record { first = crashed ls.first; second = crashed ls.second }
