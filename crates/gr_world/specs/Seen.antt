-- What a contract sees of a world
use Rattle.std.specs.Prelude.{ℕ, Bool, List, [], length, map, get_or, Option}
use Rattle.gr_publog.specs.Views.{LogView}
use Rattle.gr_topo.specs.Topology.{TopologyView, host_of}
use Rattle.gr_model.specs.declared.report.Report.{Report}
use Rattle.gr_model.specs.Net.{Net, numbers}
use Rattle.gr_model.specs.NetOf.{net_of}
use Rattle.gr_model.specs.World.{World}
use Rattle.gr_broker.specs.Seen.{BrokerView, log_in, log_said}
pub use Rattle.gr_outbox.specs.Said.{frame_said}

-- All brokers of a topology, and the bytes of each frame that they sent, in order
pub record WorldView : Type 0 where
  pub topo : TopologyView
  pub brokers : List BrokerView  -- in order of number
  pub frames : List (List ℕ)
  pub clock : ℕ
  pub most : ℕ  -- the greatest of all moments that the clock had
  pub told : List Report  -- what the opening of the logs told
  pub down : Option ℕ  -- the broker whose last opening failed
  pub spent : Bool  -- memory was refused in a call that changes the world

abbrev pub no_broker : BrokerView
no_broker = record { number = 0; here = []; branches = []; views = []; logs = [] }

-- the broker with a number
abbrev pub broker_in : WorldView → ℕ → BrokerView
broker_in w b = get_or w.brokers b no_broker

-- the log of a publisher, at its host
abbrev pub log_at : WorldView → ℕ → Option LogView
log_at w p = log_in (broker_in w (host_of w.topo p)) p

abbrev pub net_in : WorldView → Net
net_in w = net_of w.topo

-- The machine's world: the frames that the bytes say, what each broker keeps, and the logs of all publishers
abbrev pub world_of : WorldView → World
world_of w = record {
  clock = w.clock;
  most = w.most;
  frames = map frame_said w.frames;
  views = map (λ b. b.views) w.brokers;
  logs = map (λ p. log_said (log_at w p)) (numbers (length w.topo.publishers));
}
