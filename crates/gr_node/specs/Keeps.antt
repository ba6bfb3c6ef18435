-- What the calls of a run need, and what they keep beside what they do
use Rattle.std.specs.Prelude.{◌≡◌, ◌≢◌, ℕ, ◌<◌, true, List, [], length, Result, Err, IfErr, OnOk}
use Rattle.gr_out.specs.declared.fault.RunFault.{RunFault}
use Rattle.gr_out.specs.declared.fault.RunFault.TheVariants as run
use Rattle.gr_out.specs.Lane.{Lane}
use Rattle.gr_sched.specs.declared.step.Line.{Line}
use Rattle.gr_topo.specs.Topology.{TopologyView}
use Rattle.gr_scenario.specs.Steps.{AreStepsOf}
use Rattle.gr_model.specs.NetOf.{net_of}
use Rattle.gr_model.specs.Arrivals.{is_hosted}
use Rattle.gr_report.specs.Named.{IsPutFault}
use Rattle.gr_node.specs.Seen.{NodeView}
use Rattle.gr_node.specs.Of.{AreHosted, IsSet, AllStand, OthersStay}
use Rattle.gr_node.specs.Went.{SinkMoves, DiskMoves, PostMoves}

-- What they need

-- a node that hosts these brokers, between two calls, over the lanes that they left
pub record IsServing (t : TopologyView) (hosted : List ℕ) (tells : Type 0) (lanes : ℕ → Lane) (n : NodeView)
    : Type 0 where
  pub set : IsSet t hosted n
  pub stands : tells → AllStand lanes n

-- what a run is asked for: brokers and steps of its topology
pub record IsAsked (t : TopologyView) (hosted : List ℕ) (steps : List Line) : Type 0 where
  pub brokers : AreHosted t hosted
  pub lines : AreStepsOf t steps

-- such a run may go on: all that was told is written
pub record CanRun (t : TopologyView) (hosted : List ℕ) (tells : Type 0) (lanes : ℕ → Lane) (steps : List Line)
    (n : NodeView) (held : List ℕ) : Type 0 where
  pub asked : IsAsked t hosted steps
  pub serving : IsServing t hosted tells lanes n
  pub written : held ≡ []

-- What they keep

-- What a call that puts lines keeps: why it ends early, and that the count of the sink moves as its answer says
pub record PutKeeps {T : Type 0} (sink sink' : ℕ) (result : Result T RunFault) : Type 0 where
  pub cause : IfErr result IsPutFault
  pub sink_moves : SinkMoves sink sink' result

-- The same of one that offers frames too: an offer that fails is a loss, and none that the post counts
pub record TellKeeps {T : Type 0} (sink sink' post post' : ℕ) (result : Result T RunFault) : Type 0 where
  pub puts : PutKeeps sink sink' result
  pub post_same : post' ≡ post

-- What each call of a turn keeps: no lane is touched but those of publishers at hosted brokers; the counts of disk and
-- sink move as its answer says, and the post's stays
pub record TurnKeeps {S T : Type 0} (t : TopologyView) (hosted : List ℕ) (tells : Type 0) (lane_of : S → ℕ → Lane)
    (faults stops : S → ℕ) (old new : S) (sink sink' post post' : ℕ) (result : Result T RunFault) : Type 0 where
  pub others : tells → OthersStay t hosted (lane_of old) (lane_of new)
  pub disk_moves : DiskMoves (faults old) (stops old) (faults new) (stops new) result
  pub sink_moves : SinkMoves sink sink' result
  pub post_same : post' ≡ post

-- What a run of turns keeps: the same of the lanes of others and of the counts, where the post's moves too; and no
-- lane that was opened is damaged
pub record RunKeeps {S T : Type 0} (t : TopologyView) (hosted : List ℕ) (tells : Type 0) (lane_of : S → ℕ → Lane)
    (faults stops : S → ℕ) (old new : S) (sink sink' post post' : ℕ) (result : Result T RunFault) : Type 0 where
  pub others : tells → OthersStay t hosted (lane_of old) (lane_of new)
  pub disk_moves : DiskMoves (faults old) (stops old) (faults new) (stops new) result
  pub sink_moves : SinkMoves sink sink' result
  pub post_moves : PostMoves post post' result
  pub never_damaged : (p at : ℕ) → result ≢ Err (run.Damaged p at)

-- all that the page held is written, where the call came through
abbrev pub LeavesEmpty : {T : Type 0} → List ℕ → Result T RunFault → Type 0
LeavesEmpty held result = OnOk result (held ≡ [])

-- a lane that is damaged is one of a publisher at a hosted broker
abbrev pub IsDamagedHere : {T : Type 0} → TopologyView → List ℕ → Result T RunFault → Type 0
IsDamagedHere t hosted result = (p at : ℕ) → result ≡ Err (run.Damaged p at)
    → (p < length t.publishers) × (is_hosted (net_of t) hosted p ≡ true)
