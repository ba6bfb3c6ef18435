-- What was ever sent is in the logs or was cut, whatever a crash leaves of their lanes
use Rattle.std.specs.Prelude.{◌≡◌, ◌≢◌, ◌⊎◌, ℕ, ◌≤◌, List, ◌++◌, Some, Ok}
use Rattle.gr_event.specs.declared.event.Event.{Event}
use Rattle.gr_event.specs.Joins.{Joins}
use Rattle.gr_frame.specs.declared.Body.TheVariants as body
use Rattle.gr_frame.specs.declared.Frame.{Frame}
use Rattle.gr_know.specs.declared.values.K.TheVariants.{Q, D}
use Rattle.gr_know.specs.Values.{Known, known_at}
use Rattle.gr_publog.specs.State.{LogState}
use Rattle.gr_publog.specs.Lanes.{state_in}
use Rattle.gr_pubend.specs.Log.{pairs}
use Rattle.gr_model.specs.World.{frame_at}
use Rattle.gr_model_calls.specs.Said.{said_at}
use Rattle.gr_world.specs.Seen.{WorldView, world_of}

-- all that knowledge says is settled in what a log holds, each event that it says is among the log's events, at its
-- tick, or at most its cut, and the joins that it brings are the first of the log's
pub record IsLogged (s : LogState) (runs : Known) (js : Joins) : Type 0 where
  pub settled : (t : ℕ) → known_at runs t ≢ Q → t ≤ s.settled
  pub events : (t : ℕ) (e : Event) → known_at runs t ≡ D e → (t ≤ s.cut) ⊎ (said_at (pairs s.events) t ≡ Some e)
  pub rest : Joins
  pub joins : s.joins ≡ js ++ rest

-- a pair of images holds a log of a publisher in which all knowledge is that was ever sent of it
pub record HoldsSent (w : WorldView) (p : ℕ) (a b : List ℕ) : Type 0 where
  pub state : LogState
  pub reads : state_in w.topo.late a b ≡ Ok state
  pub sent : (k : ℕ) (f : Frame) (runs : Known) (js : Joins) → frame_at (world_of w) k ≡ Some f
      → f.body ≡ body.Knowledge runs js → f.head.publisher ≡ p → IsLogged state runs js
