-- How far code went with acts that it is to do: what it leaves, and what the sink, the page and the post have of it
use Rattle.std.specs.Prelude.{◌≡◌, ◌≢◌, ℕ, suc, ◌+◌, ◌≤◌, true, false, Bool, List, [], ◌∷◌, ◌++◌, length, map, Option}
use Rattle.std.specs.Prelude.{Result, Err, IsErrOf, OnOk, OnErr}
use Rattle.std.specs.List.{AllByRecursion}
use Rattle.gr_frame.specs.declared.Frame.{Frame}
use Rattle.gr_frame.specs.Cut.{AreFrames}
use Rattle.gr_out.specs.declared.fault.RunFault.{RunFault}
use Rattle.gr_out.specs.declared.fault.RunFault.TheVariants as run
use Rattle.gr_out.specs.Entry.{Entry}
use Rattle.gr_out.specs.Entry as entry
use Rattle.gr_out.specs.Faults.{Rose}
use Rattle.gr_out.specs.Page.{TakesBut, TakesFront}
use Rattle.gr_publog.specs.Crash.{EitherRose}
use Rattle.gr_topo.specs.Topology.{TopologyView}
use Rattle.gr_model.specs.NetOf.{net_of}
use Rattle.gr_model.specs.World.{sent_lines}
use Rattle.gr_model.specs.Orders.{fed}
use Rattle.gr_model_calls.specs.Edges.{GoesOverEdge}
use Rattle.gr_broker_relay.specs.declared.outcome.Outcome.{Outcome}
use Rattle.gr_report.specs.Named.{AllNamed}
use Rattle.gr_node.specs.Seen.{NodeView, text_of}
use Rattle.gr_node.specs.Plan.{Call, publishes, joins, wakes, Act, starts, calls, offers_of, bound_entry}
use Rattle.gr_node.specs.Done.{call_done, all_done}

-- What stands outside: what the sink took, what the page holds, and the journal of the post
pub record Outside : Type 0 where
  pub taken : Option (List ℕ)
  pub held : List ℕ
  pub journal : List Entry

abbrev pub outside : Option (List ℕ) → List ℕ → List Entry → Outside
outside taken held journal = record { taken = taken; held = held; journal = journal }

-- An answer after which it is known what was done: all of it, or all up to a call that was refused
abbrev pub IsExact : {T : Type 0} → Result T RunFault → Type 0
IsExact (Err run.Memory) = ⊥
IsExact (Err run.Write) = ⊥
IsExact _ = Unit {0}

-- what a post notes of the call that failed
abbrev pub fault_entries : {T : Type 0} → Result T RunFault → List Entry
fault_entries (Err run.Post) = entry.failed ∷ []
fault_entries _ = []

-- an act that calls the disk
abbrev pub uses_disk : Act → Bool
uses_disk (starts b) = true
uses_disk (calls (publishes x)) = true
uses_disk (calls (joins s p)) = true
uses_disk (calls (wakes b p)) = true
uses_disk _ = false

abbrev pub FirstIs : (Act → Bool) → List Act → Type 0
FirstIs test [] = ⊥
FirstIs test (a ∷ acts) = test a ≡ true

-- some of these entries were put behind those before, the first of them
pub record Begins (before after sent : List Entry) : Type 0 where
  pub part : List Entry
  pub rest : List Entry
  pub whole : sent ≡ part ++ rest
  pub are : after ≡ before ++ part

-- Nodes were bound one after another, all or all up to one whose binding failed
pub record Bound {T : Type 0} (t : TopologyView) (hosted : List ℕ) (tells : Type 0) (all : List ℕ)
    (before after : List Entry) (result : Result T RunFault) : Type 0 where
  pub bound : List ℕ
  pub left : List ℕ
  pub parts : bound ++ left ≡ all
  pub whole : OnOk result (left ≡ [])
  pub short : OnErr result ((next : ℕ) × ((more : List ℕ) × (left ≡ next ∷ more)))
  pub put : tells → after ≡ before ++ (map (bound_entry t hosted) bound ++ fault_entries result)

-- Acts were made one after another, all or all up to one that was refused. After want of memory, or a failure of the
-- sink, only fronts are told
pub record Went {T : Type 0} (t : TopologyView) (hosted : List ℕ) (tells : Type 0) (acts : List Act) (n n' : NodeView)
    (before after : Outside) (result : Result T RunFault) : Type 0 where
  pub made : List Act
  pub left : List Act
  pub parts : made ++ left ≡ acts
  pub whole : OnOk result (left ≡ [])
  pub node : IsExact result → left ≡ [] → n' ≡ (all_done t hosted n made).node
  pub told : IsExact result
      → TakesBut before.taken after.taken (before.held ++ text_of t (all_done t hosted n made).lines) after.held
  pub sent : IsExact result → tells
      → after.journal ≡ before.journal ++ ((all_done t hosted n made).entries ++ fault_entries result)
  pub refused : IsErrOf result run.Disk → FirstIs uses_disk left
  pub given_up : IsErrOf result run.Post → left ≡ []
  pub told_front : OnErr result
      (TakesFront before.taken after.taken (before.held ++ text_of t (all_done t hosted n acts).lines))
  pub sent_front : (IsExact result → ⊥) → tells → Begins before.journal after.journal (all_done t hosted n acts).entries

-- How the counts move

-- the sink's: it has risen where the answer is that the sink failed, and stays where it is anything else
pub record SinkMoves {T : Type 0} (faults faults' : ℕ) (result : Result T RunFault) : Type 0 where
  pub rose : IsErrOf result run.Write → Rose faults faults'
  pub same : result ≢ Err run.Write → faults' ≡ faults

-- the disk's two: neither falls, one has risen where the answer is that the disk failed, and both stay where it is
-- anything else; but Write and Memory may stand in the place of Disk, where lines could not be written then
pub record DiskMoves {T : Type 0} (faults stops faults' stops' : ℕ) (result : Result T RunFault) : Type 0 where
  pub faults_never_fall : faults ≤ faults'
  pub stops_never_fall : stops ≤ stops'
  pub same : result ≢ Err run.Disk → result ≢ Err run.Write → result ≢ Err run.Memory
      → (faults' ≡ faults) × (stops' ≡ stops)
  pub rose : IsErrOf result run.Disk → EitherRose faults faults' stops stops'

-- the post's: it has risen where the answer is that the post failed, and stays where it is anything else
pub record PostMoves {T : Type 0} (faults faults' : ℕ) (result : Result T RunFault) : Type 0 where
  pub never_falls : faults ≤ faults'
  pub same : result ≢ Err run.Post → faults' ≡ faults
  pub rose : IsErrOf result run.Post → Rose faults faults'

-- A broker's call was made, before its lines are put and its frames offered: with them it is the node's act
pub record Makes (t : TopologyView) (n : NodeView) (c : Call) (n' : NodeView) (told : Outcome) : Type 0 where
  pub frames : List Frame
  pub spelled : AreFrames told.frames.frames frames
  pub over : AllByRecursion (GoesOverEdge (net_of t)) frames
  pub named : AllNamed t told.reports
  pub offers : n'.offers ≡ n.offers
  pub now : n'.now ≡ n.now
  pub orders : n'.orders ≡ n.orders
  pub done : call_done t n c ≡ record {
    node = record {
      brokers = n'.brokers;
      offers = n.offers + length frames;
      now = n.now;
      orders = fed n.orders told.reports;
    };
    lines = told.reports ++ sent_lines (suc n.offers) frames;
    entries = offers_of frames;
  }

-- Why a call ends early

-- of a broker
abbrev pub IsCallFault : RunFault → Type 0
IsCallFault run.Memory = Unit {0}
IsCallFault run.Disk = Unit {0}
IsCallFault _ = ⊥

-- of a turn, whose lines are put as well
abbrev pub IsTurnFault : RunFault → Type 0
IsTurnFault run.Memory = Unit {0}
IsTurnFault run.Disk = Unit {0}
IsTurnFault run.Write = Unit {0}
IsTurnFault _ = ⊥

-- of a post
abbrev pub IsPostFault : RunFault → Type 0
IsPostFault run.Memory = Unit {0}
IsPostFault run.Post = Unit {0}
IsPostFault _ = ⊥
