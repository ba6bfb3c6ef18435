-- What a crash leaves of the lanes of logs at any moment within a step
use Rattle.std.specs.Prelude.{◌≡◌, ◌⊎◌, ℕ, ◌<◌, List, [], ◌∷◌, length, Ok}
use Rattle.gr_out.specs.Lane.{Lane}
use Rattle.gr_publog.specs.State.{LogState}
use Rattle.gr_publog.specs.Lanes.{state_in}
use Rattle.gr_publog.specs.Views.{Lanes, lanes_at, MayLeavePair, LeftPair}
use Rattle.gr_topo.specs.Topology.{TopologyView}
use Rattle.gr_broker.specs.Lanes.{log_lane, GoesOnBoth}
use Rattle.gr_world.specs.Disk.{LeavesOthers}
use Rattle.gr_world.specs.Starting.{TouchesLanes}

-- a pair of images holds this, where these subscribers may join
abbrev pub Holds : List ℕ → LogState → List ℕ → List ℕ → Type 0
Holds late s a b = state_in late a b ≡ Ok s

-- What one call on a log does to its two lanes: no call is taken back, and where each pair of images that a crash might
-- leave before held one state, each that it may leave at a moment of the call holds that one, or what the log was to
-- hold after the call, or after a part of it
pub record IsCall (late : List ℕ) (before after : Lanes) : Type 0 where
  pub on : GoesOnBoth before after
  pub any_moment : (s : LogState) → ((a b : List ℕ) → MayLeavePair before a b → Holds late s a b)
      → (part : LogState) × (whole : LogState) × ((a b : List ℕ) → LeftPair before after a b
      → Holds late s a b ⊎ (Holds late part a b ⊎ Holds late whole a b))

-- two lanes went from one time to another by calls. Over several calls the product of what both may leave would have
-- pairs that no crash leaves
abbrev pub ByCalls : List ℕ → Lanes → List Lanes → Lanes → Type 0
ByCalls late before [] after = after ≡ before
ByCalls late before (next ∷ calls) after = IsCall late before next × ByCalls late next calls after

-- What the calls of a step do to the lanes: those of a publisher go on by calls on its log, and no others are touched
pub record CallsLanes (t : TopologyView) (before after : ℕ → Lane) : Type 0 where
  pub others : LeavesOthers t before after
  pub moments : (p : ℕ) → p < length t.publishers
      → (calls : List Lanes) × ByCalls t.late (lanes_at before (log_lane p)) calls (lanes_at after (log_lane p))

-- What a publish that may stop does to them: calls, and then, where it was stopped, its host crashes and starts again,
-- at each moment of which they hold what the crash has left
pub record StopsLanes (t : TopologyView) (host : ℕ) (before after : ℕ → Lane) : Type 0 where
  pub between : ℕ → Lane
  pub calls : CallsLanes t before between
  pub crash : ((n : ℕ) → after n ≡ between n) ⊎ TouchesLanes t host between after
