-- What holds of a world between its calls, and of the lanes that its logs stand on
use Rattle.std.specs.Prelude.{◌≡◌, ◌≢◌, ℕ, ◌<◌, ◌≤◌, false, length, map, Some, None}
use Rattle.std.specs.List.{AllByRecursion}
use Rattle.gr_frame.specs.Cut.{AreFrames}
use Rattle.gr_out.specs.Lane.{Lane}
use Rattle.gr_tick.specs.declared.TheConstants.{MAX_TICK}
use Rattle.gr_publog.specs.Views.{LogView, Lanes, lanes_at, IsReady}
use Rattle.gr_topo.specs.Topology.{host_of}
use Rattle.gr_model_calls.specs.Edges.{GoesOverEdge}
use Rattle.gr_broker.specs.Lanes.{log_lane, AreUnset}
use Rattle.gr_broker.specs.Of.{IsBrokerOf}
pub use Rattle.gr_report.specs.Readable.{IsReadable}
use Rattle.gr_world.specs.Lanes.{AreReserved}
use Rattle.gr_world.specs.Seen.{WorldView, broker_in, log_at, net_in, frame_said}

-- The brokers of the topology, in order, and frames that went over its edges
pub record IsWorld (w : WorldView) : Type 0 where
  pub count : length w.brokers ≡ length w.topo.brokers
  pub brokers : (b : ℕ) → b < length w.topo.brokers → IsBrokerOf w.topo (broker_in w b)
  pub numbered : (b : ℕ) → b < length w.topo.brokers → (broker_in w b).number ≡ b
  -- each frame is the spelling of the one that its bytes say, and that one goes over an edge
  pub spelled : AreFrames w.frames (map frame_said w.frames)
  pub over : AllByRecursion (GoesOverEdge (net_in w)) (map frame_said w.frames)
  pub clock : w.clock ≤ MAX_TICK
  pub most : w.most ≤ MAX_TICK
  pub down : (b : ℕ) → w.down ≡ Some b → b < length w.topo.brokers

-- two lanes under a log: unless the disk has failed the log, it stands in them, and a crash leaves nothing else. Room
-- was made in both, and no stop is ordered
pub record LaneFits (l : LogView) (ls : Lanes) : Type 0 where
  pub ready : IsReady l ls
  pub reserved : AreReserved ls
  pub unset : AreUnset ls

-- The lanes of a world, until memory was refused, after which no call uses them
pub record LanesFit (lanes : ℕ → Lane) (w : WorldView) : Type 0 where
  -- two lanes fit each log, but for those of a broker whose opening failed
  pub logs : w.spent ≡ false → (p : ℕ) (l : LogView) → p < length w.topo.publishers
      → w.down ≢ Some (host_of w.topo p) → log_at w p ≡ Some l → LaneFits l (lanes_at lanes (log_lane p))
  pub readable : w.spent ≡ false → (p : ℕ) → p < length w.topo.publishers
      → IsReadable w.topo.late (lanes_at lanes (log_lane p))

-- the disk has failed no log, and no broker is down
pub record IsSound (w : WorldView) : Type 0 where
  pub logs : (p : ℕ) (l : LogView) → p < length w.topo.publishers → log_at w p ≡ Some l → l.broken ≡ false
  pub up : w.down ≡ None
