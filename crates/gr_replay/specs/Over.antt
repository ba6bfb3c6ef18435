-- A replay over lanes that hold logs: the world that was opened over them, and the text of the run from it
use Rattle.std.specs.Prelude.{◌≡◌, ℕ, ◌<◌, ◌⊎◌, List, ◌++◌, length, Option}
use Rattle.gr_out.specs.Bytes.{with_more}
use Rattle.gr_out.specs.Lane.{Lane}
use Rattle.gr_out.specs.Page.{TakesFront}
use Rattle.gr_publog.specs.Views.{lanes_at}
use Rattle.gr_sched.specs.declared.step.Line.{Line}
use Rattle.gr_topo.specs.Topology.{TopologyView}
use Rattle.gr_model.specs.Orders.{orders_of}
use Rattle.gr_model.specs.Text.{labels_of, report_text}
use Rattle.gr_broker.specs.Lanes.{log_lane}
use Rattle.gr_world.specs.Seen.{WorldView, log_at}
use Rattle.gr_world.specs.Opened.{IsOpened, IsFound}
use Rattle.gr_replay.specs.Going.{with_ready, left_behind, text_from}

-- the text of steps from a world that was opened: what its opening told, and what the machine's steps tell, each with
-- what is ready behind it in the one list of each subscriber that gets one
abbrev pub opened_text : WorldView → List Line → List ℕ
opened_text w lines =
    report_text (labels_of w.topo) (with_ready (orders_of w.topo) w.told)
    ++ text_from w (left_behind (orders_of w.topo) w.told) lines

-- each broker of the topology has started, over the logs that the lanes hold
pub record IsOver (t : TopologyView) (lanes : ℕ → Lane) (w : WorldView) : Type 0 where
  pub opened : IsOpened t w
  pub found : (p : ℕ) → p < length t.publishers → IsFound t.late (log_at w p) (lanes_at lanes (log_lane p))

-- the sink took the text of the steps from such a world
pub record ReplaysOver (t : TopologyView) (lines : List Line) (lanes : ℕ → Lane) (old new : Option (List ℕ))
    : Type 0 where
  pub world : WorldView
  pub over : IsOver t lanes world
  pub taken : new ≡ with_more old (opened_text world lines)

-- it took a front of that text, or nothing
pub record CutsOver (t : TopologyView) (lines : List Line) (lanes : ℕ → Lane) (old new : Option (List ℕ)) : Type 0 where
  pub world : WorldView
  pub over : IsOver t lanes world
  pub front : TakesFront old new (opened_text world lines)

abbrev pub AtMostCut : TopologyView → List Line → (ℕ → Lane) → Option (List ℕ) → Option (List ℕ) → Type 0
AtMostCut t lines lanes old new = (new ≡ old) ⊎ CutsOver t lines lanes old new
