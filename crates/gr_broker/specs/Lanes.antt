-- Which lanes of a disk are whose, and what was done to the two of a log
use Rattle.std.specs.Prelude.{◌≡◌, ℕ, ◌*◌}
use Rattle.gr_out.specs.declared.disk.Stop.TheVariants.{Unset}
use Rattle.gr_publog.specs.Steps.{GoesOn}
use Rattle.gr_publog.specs.Views.{Lanes}
pub use Rattle.gr_publog.specs.Opens.{either_stopped}

-- the first of the two lanes of a publisher's log; the second one is the next
abbrev pub log_lane : ℕ → ℕ
log_lane p = 2 * p

-- what was called on either of two lanes stays called
pub record GoesOnBoth (before after : Lanes) : Type 0 where
  pub first : GoesOn before.first after.first
  pub second : GoesOn before.second after.second

-- no stop was ordered on either
pub record AreUnset (ls : Lanes) : Type 0 where
  pub first : ls.first.stop ≡ Unset
  pub second : ls.second.stop ≡ Unset
