-- A world's opening, and a broker's start again, over what the lanes hold
use Rattle.std.specs.Prelude.{◌≡◌, ◌≢◌, ◌⊎◌, ℕ, ◌<◌, false, List, [], ◌∷◌, length, flat_map, Option, Some, None}
use Rattle.std.specs.Prelude.{Result, Ok, IsOk, IsErrOf, OnOk}
use Rattle.gr_out.specs.declared.disk.Stop.TheVariants.{Unset}
use Rattle.gr_out.specs.Lane.{Lane, content, crash_image}
use Rattle.gr_publog.specs.Views.{LogView, Lanes, lanes_at}
use Rattle.gr_publog.specs.Opens.{OpensAs}
use Rattle.gr_topo.specs.Topology.{TopologyView, host_of}
use Rattle.gr_model.specs.declared.report.Report.{Report}
use Rattle.gr_model.specs.declared.report.Report.TheVariants as line
use Rattle.gr_model.specs.Net.{Net, numbers}
use Rattle.gr_model.specs.NetOf.{net_of}
use Rattle.gr_model.specs.Broker.{Log}
use Rattle.gr_model.specs.World.{World, Transition, restarted, opened_lines}
use Rattle.gr_broker.specs.Lanes.{log_lane}
use Rattle.gr_broker.specs.Seen.{view_in, machine_log}
use Rattle.gr_broker.specs.Opened.{opened_at, found_at, IsDamagedAt}
use Rattle.gr_world.specs.declared.fault.WorldFault.{WorldFault}
use Rattle.gr_world.specs.declared.fault.WorldFault.TheVariants as fault
use Rattle.gr_world.specs.Seen.{WorldView, broker_in, log_at, net_in, world_of}
use Rattle.gr_world.specs.Of.{IsSound}

-- no stop is ordered on any lane
abbrev pub NoStops : (ℕ → Lane) → Type 0
NoStops lanes = (n : ℕ) → (lanes n).stop ≡ Unset

-- two lanes read nothing, and so do those of all publishers
abbrev pub ReadNothing : Lanes → Type 0
ReadNothing ls = (content ls.first ≡ []) × (content ls.second ≡ [])

abbrev pub AreEmpty : TopologyView → (ℕ → Lane) → Type 0
AreEmpty t lanes = (p : ℕ) → p < length t.publishers → ReadNothing (lanes_at lanes (log_lane p))

-- the log is the one that is opened over this pair of images, where these subscribers may join
abbrev pub IsRead : List ℕ → Option LogView → List ℕ → List ℕ → Type 0
IsRead late (Some l) a b = OpensAs late l.lane a b (Ok l)
IsRead late None a b = ⊥

-- over what two lanes read, and over what a crash leaves of them
abbrev pub IsFound : List ℕ → Option LogView → Lanes → Type 0
IsFound late o ls = IsRead late o (content ls.first) (content ls.second)

abbrev pub IsLeft : List ℕ → Option LogView → Lanes → Type 0
IsLeft late o ls = IsRead late o (crash_image ls.first) (crash_image ls.second)

-- A world that was opened: each broker has started over the logs that it has, in order
pub record IsOpened (t : TopologyView) (w : WorldView) : Type 0 where
  pub topo : w.topo ≡ t
  pub clock : w.clock ≡ 0
  pub most : w.most ≡ 0
  pub frames : w.frames ≡ []
  pub unspent : w.spent ≡ false
  pub sound : IsSound w
  pub views : (b p : ℕ) → b < length t.brokers → p < length t.publishers
      → view_in (broker_in w b) p ≡ (opened_at (net_of t) p b (machine_log (broker_in w b) p)).view
  pub told : w.told ≡ flat_map (λ b. flat_map (λ p. (opened_at (net_of t) p b (machine_log (broker_in w b) p)).lines)
      (numbers (length t.publishers))) (numbers (length t.brokers))

-- the machine's restart of a broker over logs that were found
abbrev pub with_logs : World → List Log → World
with_logs w logs = record { clock = w.clock; most = w.most; frames = w.frames; views = w.views; logs = logs }

abbrev pub restart_over : Net → World → ℕ → List Log → Transition
restart_over net w b logs = record { world = restarted net (with_logs w logs) b; lines = opened_lines net logs b }

-- its crash and start again over them
abbrev pub crash_over : Net → World → ℕ → List Log → Transition
crash_over net w b logs = record {
  world = restarted net (with_logs w logs) b;
  lines = line.Crashed b ∷ opened_lines net logs b;
}

-- A broker has crashed and started again. The logs of its publishers are those that the crash left on their lanes, all
-- other logs are as they were; over these it is the machine's crash, whether the disk had failed a log or not
pub record Crashes (b : ℕ) (lanes : ℕ → Lane) (old new : WorldView) (lines : List Report) : Type 0 where
  pub found : (p : ℕ) → p < length old.topo.publishers → host_of old.topo p ≡ b
      → IsLeft old.topo.late (log_at new p) (lanes_at lanes (log_lane p))
  pub elsewhere : (p : ℕ) → p < length old.topo.publishers → host_of old.topo p ≢ b → log_at new p ≡ log_at old p
  pub over : (let w : World = world_of new in crash_over (net_in old) (world_of old) b w.logs)
      ≡ record { world = world_of new; lines = lines }

-- The lanes of a publisher hold no log, with the place of the first fault, and it is the first such publisher: by its
-- host, and at one host by its number
pub record IsFirstDamaged (t : TopologyView) (p at : ℕ) (lanes : ℕ → Lane) : Type 0 where
  pub here : IsDamagedAt t (host_of t p) p at lanes
  pub before : (q : ℕ) → q < length t.publishers → host_of t q < host_of t p → IsOk (found_at t lanes q)

-- no log is broken but those of one broker, and no other broker is down
pub record IsSoundBut (b : ℕ) (w : WorldView) : Type 0 where
  pub logs : (p : ℕ) (l : LogView) → p < length w.topo.publishers → host_of w.topo p ≢ b → log_at w p ≡ Some l
      → l.broken ≡ false
  pub up : (w.down ≡ None) ⊎ (w.down ≡ Some b)

-- the world with a broker down, whose opening failed: all else is as before its crash
abbrev pub with_down : WorldView → ℕ → WorldView
with_down w b = record {
  topo = w.topo;
  brokers = w.brokers;
  frames = w.frames;
  clock = w.clock;
  most = w.most;
  told = w.told;
  down = Some b;
  spent = w.spent;
}

-- What a broker's start again leaves: after a fault of the disk the broker is down, with what stood before
pub record Restarts (b : ℕ) (old new : WorldView) (result : Result (List Report) WorldFault) : Type 0 where
  pub topo : new.topo ≡ old.topo
  pub told : new.told ≡ old.told
  pub clock : new.clock ≡ old.clock
  pub most : new.most ≡ old.most
  pub frames : new.frames ≡ old.frames
  pub spent : new.spent ≡ old.spent
  pub up : OnOk result (new.down ≡ None)
  pub failed : IsErrOf result fault.Disk → new ≡ with_down old b
  pub refused : IsErrOf result fault.Memory → new ≡ old
  pub elsewhere : (p : ℕ) → p < length old.topo.publishers → host_of old.topo p ≢ b → log_at new p ≡ log_at old p
  pub sound : OnOk result (IsSoundBut b old → IsSound new)
