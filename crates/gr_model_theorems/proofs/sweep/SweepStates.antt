-- What stands before a publisher's sweep, after its first phase, and after its second: the facts by which the phases are joined
use Rattle.std.proofs.Common.{◌≡◌, ◌≢◌, ◌⊎◌, ℕ, ◌+◌, ◌≤◌, ◌<◌, true, false, length}
use Rattle.gr_know.specs.declared.values.K.TheVariants.{Q}
use Rattle.gr_curio.specs.declared.values.Q3.TheVariants.{C, A}
use Rattle.gr_curio.specs.declared.asks.Moment.TheVariants.{At}
use Rattle.gr_know.specs.Values.{known_at}
use Rattle.gr_curio.specs.Values.{wanted_at, asked_at}
use Rattle.gr_model.specs.Net.{Net, is_host, keeps_horizon}
use Rattle.gr_model.specs.Broker.{any_C}
use Rattle.gr_model.specs.World.{World, view_of, log_of, in_turn, inwards, outwards, frames_past}
use Rattle.gr_model_calls.specs.OneNet.{wake_up, hand_down}
use Rattle.gr_model_calls.specs.Fits.{WorldFits}
pub use Rattle.gr_model_calls.specs.Rules.{IsChild}
use Rattle.gr_model_calls.proofs.rules.SweepAsks.{AsksNow}
use Rattle.gr_model_calls.proofs.rules.Forwarding.{Has, wants_of}
use Rattle.gr_model_calls.proofs.asks.CallTicks.{needs}
use Rattle.gr_model_calls.proofs.rules.Serves.{TellsKnown, Stores}

-- a broker that has stored a child's question does not know the tick
pub record Unknowns (net : Net) (w : World) : Type 0 where
  pub each : (p b c t : ℕ) → p < net.publishers → b < net.brokers → IsChild net p b c → wanted_at (wants_of net p b (view_of w b p) c) t ≡ C → known_at (view_of w b p).know t ≡ Q
  pub any : (p b t : ℕ) → p < net.publishers → b < net.brokers → any_C (view_of w b p).wants t ≡ true → known_at (view_of w b p).know t ≡ Q

-- where the sweep of a publisher begins: no ask has its moment yet, and the moment is far past what is settled
pub record Begins (net : Net) (p m : ℕ) (w : World) : Type 0 where
  pub publisher : p < net.publishers
  pub fits : WorldFits net w
  pub now : AsksNow net m w
  pub unknown : Unknowns net w
  pub none_asked : (b t : ℕ) → b < net.brokers → asked_at (view_of w b p).asks t ≢ At m
  pub far : (log_of w p).settled + net.idle + net.quiet + 1 ≤ m

-- after the first phase; s is what was settled before it, first the number of frames before it
pub record Asked (net : Net) (p s m first : ℕ) (w : World) : Type 0 where
  pub fits : WorldFits net w
  pub now : AsksNow net m w
  pub unknown : Unknowns net w
  pub first_in : first ≤ length w.frames
  pub settled : (log_of w p).settled ≡ m
  -- a host that keeps a horizon has come to its mark
  pub host : keeps_horizon net p (net.host p) ≡ true → (view_of w (net.host p) p).horizon ≡ m
  -- below the host nothing is known past what was settled, and nowhere is anything acknowledged there
  pub fresh : (b t : ℕ) → b < net.brokers → is_host net p b ≡ false → s < t → known_at (view_of w b p).know t ≡ Q
  pub plain : (b c t : ℕ) → b < net.brokers → IsChild net p b c → s < t → wanted_at (wants_of net p b (view_of w b p) c) t ≢ A
  -- the host has told each child of its mark
  pub marked : (c t : ℕ) → IsChild net p (net.host p) c → s < t → t ≤ m → Has (TellsKnown p (net.host p) c t) (frames_past first w.frames)
  -- what a broker below the host needs was told it, or its next broker up has stored the question, and is not the host
  pub served : (c u t : ℕ) → u < net.brokers → IsChild net p u c → 1 ≤ t → t ≤ s → needs net p c (view_of w c p) t ≡ true → Has (TellsKnown p u c t) (frames_past first w.frames) ⊎ (Stores net w p u c t × (is_host net p u ≡ false))
  -- each stored question was asked on at this moment
  pub asked : (b t : ℕ) → b < net.brokers → is_host net p b ≡ false → any_C (view_of w b p).wants t ≡ true → asked_at (view_of w b p).asks t ≡ At m

-- after the second phase
pub record Calm (net : Net) (p m first : ℕ) (w : World) : Type 0 where
  pub fits : WorldFits net w
  pub now : AsksNow net m w
  pub unknown : Unknowns net w
  pub first_in : first ≤ length w.frames
  pub settled : (log_of w p).settled ≡ m
  pub reached : (b : ℕ) → b < net.brokers → keeps_horizon net p b ≡ true → (view_of w b p).horizon ≡ m
  pub asked : (b t : ℕ) → b < net.brokers → is_host net p b ≡ false → any_C (view_of w b p).wants t ≡ true → asked_at (view_of w b p).asks t ≡ At m

-- the worlds after the first phase, and after the second
abbrev pub first_phase : Net → World → ℕ → World
first_phase net w p = (in_turn (wake_up net p) (inwards net p) w).world

-- the world after the second phase
abbrev pub second_phase : Net → World → ℕ → World
second_phase net w p = (in_turn (hand_down net p (length w.frames)) (outwards net p) (first_phase net w p)).world
