-- What every call on the log of a publisher needs, and what it keeps, whatever it logs
use Rattle.std.specs.Prelude.{◌≡◌, ℕ, true, Result}
use Rattle.gr_out.specs.Lane.{Lane}
use Rattle.gr_publog.specs.declared.record.LogFault.{LogFault}
use Rattle.gr_publog.specs.Views.{LogView, lanes_at, IsReady}
use Rattle.gr_publog.specs.Calls.{LeavesDisk}
use Rattle.gr_model.specs.Net.{is_host}
use Rattle.gr_model.specs.NetOf.{net_of}
use Rattle.gr_broker_relay.specs.declared.held.Held.{Held}
use Rattle.gr_broker_relay.specs.declared.site.Site.{Site}
use Rattle.gr_broker_relay.specs.Kept.{IsKept}
use Rattle.gr_broker_relay.specs.Held.{held_view, IsSite}
use Rattle.gr_broker.specs.declared.outcome.BrokerFault.{BrokerFault}
use Rattle.gr_broker.specs.Lanes.{log_lane, GoesOnBoth, either_stopped}
use Rattle.gr_broker.specs.Told.{log_answer}

-- a publisher that is here, and what is kept of it
pub record IsAtHost (s : Site) (h : Held) : Type 0 where
  pub site : IsSite s
  pub host : is_host (net_of s.topo.now) s.publisher s.broker ≡ true
  pub kept : IsKept (net_of s.topo.now) s.publisher s.broker (held_view h)

-- the lanes of a log that is not broken stand as its last call left them, on a disk that tells what it holds
abbrev pub IsReadyOn : Type 0 → (ℕ → Lane) → LogView → Type 0
IsReadyOn tells lanes l = tells → IsReady l (lanes_at lanes l.lane)

-- What a call leaves of a disk that it uses on two lanes alone, the first of which has this number
pub record UsesLane {S T : Type 0} (tells : Type 0) (faultless : S → Type 0) (lane_of : S → ℕ → Lane)
    (faults stops : S → ℕ) (lane : ℕ) (old new : S) (result : Result T LogFault) : Type 0 where
  -- it is left as by every call on that log
  pub disk : LeavesDisk tells faultless lane_of faults stops lane (either_stopped (lanes_at (lane_of new) lane)) old new
      result
  -- what was called on the two stays called
  pub goes_on : tells → GoesOnBoth (lanes_at (lane_of old) lane) (lanes_at (lane_of new) lane)

-- the same of a call for a publisher, by the broker's answer
abbrev pub UsesLaneOf : {S T : Type 0} → Type 0 → (S → Type 0) → (S → ℕ → Lane) → (S → ℕ) → (S → ℕ) → ℕ → S → S
    → Result T BrokerFault → Type 0
UsesLaneOf tells faultless lane_of faults stops p old new result =
    UsesLane tells faultless lane_of faults stops (log_lane p) old new (log_answer result)

-- What a call on a log leaves: of the disk, and that the log stands, so that the next call may be made
pub record UsesLog {S T : Type 0} (tells : Type 0) (faultless : S → Type 0) (lane_of : S → ℕ → Lane)
    (faults stops : S → ℕ) (old new : S) (l l' : LogView) (result : Result T LogFault) : Type 0 where
  pub lane : UsesLane tells faultless lane_of faults stops l.lane old new result
  pub stands : IsReadyOn tells (lane_of new) l'
