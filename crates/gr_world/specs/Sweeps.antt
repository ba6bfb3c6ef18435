-- What the parts of a sweep promise beside the machine's equation
use Rattle.std.specs.Prelude.{◌≡◌, ℕ, ◌+◌, ◌<◌, ◌≤◌, max, nat_eq, true, List, [], ◌∷◌, ◌++◌, length, Result, Ok, Err}
use Rattle.std.specs.List.{filter, list_any, AllByRecursion}
use Rattle.gr_frame.specs.declared.Frame.{Frame}
use Rattle.gr_topo.specs.Topology.{host_of}
use Rattle.gr_model.specs.declared.report.Report.{Report}
use Rattle.gr_model.specs.declared.report.Report.TheVariants as line
use Rattle.gr_model.specs.Net.{Net, numbers}
use Rattle.gr_model.specs.World.{World, Transition, unchanged, followed_by, in_turn, deliver_frame, deliver_up, is_want}
use Rattle.gr_model.specs.World.{frames_past, sent_since, wake_up, hand_down, sweep_for, log_of}
use Rattle.gr_broker.specs.Seen.{is_broken}
use Rattle.gr_world.specs.declared.fault.WorldFault.{WorldFault}
use Rattle.gr_world.specs.declared.fault.WorldFault.TheVariants as fault
use Rattle.gr_world.specs.Seen.{WorldView, log_at, world_of}

-- the answer of two calls one after another: the lines of both, why the second failed, or want of memory for the lines
abbrev pub Joins : List Report → Result (List Report) WorldFault → Result (List Report) WorldFault → Type 0
Joins before (Ok more) (Ok lines) = lines ≡ before ++ more
Joins before (Ok more) (Err e) = e ≡ fault.Memory
Joins before (Err e) (Ok lines) = ⊥
Joins before (Err e) (Err f) = f ≡ e

-- Deliveries: no log has changed, and nothing but memory was refused
pub record Delivers (old new : WorldView) (result : Result (List Report) WorldFault) : Type 0 where
  pub memory : (e : WorldFault) → result ≡ Err e → e ≡ fault.Memory
  pub logs : (p : ℕ) → p < length old.topo.publishers → log_at new p ≡ log_at old p

-- the upward frames of a world from a place on, by places from 0
abbrev pub wants_past : ℕ → World → List Frame
wants_past first w = filter is_want (frames_past first w.frames)

-- a frame is delivered, and then the upward frames that this sends
abbrev pub with_wants : Net → ℕ → World → Frame → Transition
with_wants net fuel w f =
    followed_by (deliver_frame net w f) (λ x. deliver_up net fuel (filter is_want (sent_since w x)) x)

-- each is the number of a broker
abbrev pub AreBrokers : WorldView → List ℕ → Type 0
AreBrokers w bs = AllByRecursion (λ b. b < length w.topo.brokers) bs

-- the world at a later moment
abbrev pub at_moment : WorldView → ℕ → WorldView
at_moment w m = record {
  topo = w.topo;
  brokers = w.brokers;
  frames = w.frames;
  clock = m;
  most = max m w.most;
  told = w.told;
  down = w.down;
  spent = w.spent;
}

-- the machine's first two phases for a publisher, and all three, the brokers given in the order in which they are
-- woken and handed to
abbrev pub handed : Net → ℕ → List ℕ → List ℕ → World → Transition
handed net p inward outward w =
    followed_by (in_turn (wake_up net p) inward w) (in_turn (hand_down net p (length w.frames)) outward)

abbrev pub phases : Net → ℕ → List ℕ → List ℕ → World → Transition
phases net p inward outward w = followed_by (handed net p inward outward w) (in_turn (wake_up net p) inward)

-- the machine's sweep of all publishers, and its last line
abbrev pub swept : Net → World → ℕ → Transition
swept net w m = followed_by (in_turn (sweep_for net) (numbers net.publishers) w) (λ x. unchanged x (line.Swept m ∷ []))

-- the host of a publisher is one of these brokers
abbrev pub HasHost : WorldView → ℕ → List ℕ → Type 0
HasHost w p bs = list_any (λ x. nat_eq x (host_of w.topo p)) bs ≡ true

-- the disk has failed the log of a publisher, and the log was silent for long: a wake of its host is to mark it
pub record IsDue (w : WorldView) (p : ℕ) : Type 0 where
  pub broken : is_broken (log_at w p) ≡ true
  pub silent : (log_of (world_of w) p).settled + w.topo.settings.quiet ≤ w.clock
