-- How far code went with acts whose journal it writes: what it leaves, and what the sink and the post have of it
use Rattle.std.specs.Prelude.{◌≡◌, ◌⊎◌, ℕ, ◌≤◌, Bool, true, if◌then◌else◌, List, [], ◌∷◌, ◌++◌, length, map, drop, Option}
use Rattle.std.specs.Prelude.{Result, is_ok, IsErrOf, OnOk, OnErr}
use Rattle.std.specs.List.{AllByRecursion}
use Rattle.gr_out.specs.declared.fault.RunFault.{RunFault}
use Rattle.gr_out.specs.declared.fault.RunFault.TheVariants as run
use Rattle.gr_out.specs.Bytes.{with_more}
use Rattle.gr_out.specs.Entry.{Entry}
use Rattle.gr_out.specs.Lane.{Lane}
use Rattle.gr_out.specs.Page.{TakesFront}
use Rattle.gr_sched.specs.declared.step.Line.{Line}
use Rattle.gr_topo.specs.Topology.{TopologyView}
use Rattle.gr_model.specs.NetOf.{net_of}
use Rattle.gr_model.specs.Arrivals.{Arrival, requests_of}
use Rattle.gr_model_theorems.specs.Served.{IsOfBytes}
use Rattle.gr_journal.specs.Groups.{said_text}
use Rattle.gr_journal.specs.Lines.{arrival_text}
use Rattle.gr_node.specs.Seen.{NodeView}
use Rattle.gr_node.specs.Keeps.{IsDamagedHere}
use Rattle.gr_node.specs.Plan.{Act, is_ours, acts_from, closing, turn_acts, bound_entry, nodes}
use Rattle.gr_node.specs.Done.{Done, done, all_done}
use Rattle.gr_node.specs.Lasting.{ActsKeep, StoodEachTime}
use Rattle.gr_node.specs.Served.{Course, IsRunOf, Posts, KeepsLogs}
use Rattle.gr_node.specs.Turns.{CameIn, left_behind}
use Rattle.gr_node.specs.Went.{IsExact, uses_disk, FirstIs, Begins, fault_entries, SinkMoves, DiskMoves, PostMoves}
use Rattle.gr_trace.specs.declared.gathering.Gathered.{Gathered}
use Rattle.gr_trace.specs.Offered.{entries_of}
use Rattle.gr_trace.specs.Gathered.{Opens}
use Rattle.gr_trace.specs.Traced.{noted, outs_of, written, waits_after, Traces}

-- The bytes of a group

-- what was gathered, behind the line of its arrival; its offers only where all was gathered
abbrev pub gathered_text : TopologyView → Gathered → Bool → List ℕ
gathered_text t g whole = said_text true g.lines.held ++ (if whole then outs_of t (entries_of g.offers) else [])

-- the line of an arrival; one at a broker elsewhere has none
abbrev pub line_of : TopologyView → List ℕ → Arrival → List ℕ
line_of t hosted a = if is_ours hosted a then arrival_text t (noted a) else []

-- what acts of a node put into the journal, one after another; at first these lines of offers wait
unfoldable pub written_at : TopologyView → List ℕ → NodeView → List ℕ → List Act → List ℕ
written_at t hosted n waiting [] = []
written_at t hosted n waiting (a ∷ acts) =
    let d : Done = done t hosted n a in
    written t hosted a d.lines waiting ++ written_at t hosted d.node (waits_after t a d.entries waiting) acts

-- Acts were made one after another, all or all up to one that was refused, and what they put into the journal was
-- written behind these bytes. After want of memory, or a failure of the sink, only fronts are told
pub record Wrote {T : Type 0} (t : TopologyView) (hosted : List ℕ) (tells : Type 0) (acts : List Act) (n n' : NodeView)
    (first : List ℕ) (before after : Option (List ℕ)) (journal journal' : List Entry) (result : Result T RunFault)
    : Type 0 where
  pub made : List Act
  pub left : List Act
  pub parts : made ++ left ≡ acts
  pub whole : OnOk result (left ≡ [])
  pub node : IsExact result → left ≡ [] → n' ≡ (all_done t hosted n made).node
  pub wrote : IsExact result → after ≡ with_more before (first ++ written_at t hosted n [] made)
  pub sent : IsExact result → tells
      → journal' ≡ journal ++ ((all_done t hosted n made).entries ++ fault_entries result)
  pub refused : IsErrOf result run.Disk → FirstIs uses_disk left
  pub given_up : IsErrOf result run.Post → left ≡ []
  pub front : OnErr result (TakesFront before after (first ++ written_at t hosted n [] acts))
  pub sent_front : (IsExact result → ⊥) → tells → Begins journal journal' (all_done t hosted n acts).entries

-- What was gathered was written behind what a page held, and its offers were made; nothing of it where it was not known
-- what was done
pub record Writes {T : Type 0} (t : TopologyView) (tells : Type 0) (g : Gathered) (held : List ℕ)
    (done : Result T RunFault) (before after : Option (List ℕ)) (journal journal' : List Entry)
    (result : Result T RunFault) : Type 0 where
  pub same : IsExact result → result ≡ done
  pub wrote : IsExact result → after ≡ with_more before (held ++ gathered_text t g (is_ok done))
  pub sent : IsExact result → tells → journal' ≡ journal ++ entries_of g.offers
  pub front : OnErr result ((after ≡ before)
      ⊎ (IsExact done × TakesFront before after (held ++ gathered_text t g (is_ok done))))
  pub sent_front : tells → (journal' ≡ journal) ⊎ (IsExact done × Begins journal journal' (entries_of g.offers))

-- A turn, as `Turned` of gr_node has it, whose group was written
pub record TurnTraced (t : TopologyView) (hosted : List ℕ) (tells keeps : Type 0) (steps : List Line) (next next' : ℕ)
    (n n' : NodeView) (before after : Option (List ℕ)) (journal journal' : List Entry) (lanes lanes' : ℕ → Lane)
    (result : Result Bool RunFault) : Type 0 where
  pub came : List Arrival
  pub shut : Bool
  pub ends : CameIn result came shut
  pub bytes : AllByRecursion IsOfBytes came
  pub wrote : Wrote t hosted tells
      (acts_from (net_of t) hosted (requests_of (net_of t) hosted (drop next steps)) came ++ closing shut)
      n n' [] before after journal journal' result
  pub kept : keeps → ActsKeep t hosted n
      (acts_from (net_of t) hosted (requests_of (net_of t) hosted (drop next steps)) came ++ closing shut) lanes lanes'
  pub left : OnOk result (requests_of (net_of t) hosted (drop next' steps)
      ≡ left_behind (requests_of (net_of t) hosted (drop next steps)) came)

-- All turns
pub record TurnsTraced {T : Type 0} (t : TopologyView) (hosted : List ℕ) (tells keeps : Type 0) (steps : List Line)
    (turns : ℕ) (n n' : NodeView) (before after : Option (List ℕ)) (journal journal' : List Entry) (lanes lanes' : ℕ → Lane)
    (result : Result T RunFault) : Type 0 where
  pub came : List Arrival
  pub shut : Bool
  pub within : length came ≤ turns
  pub bytes : AllByRecursion IsOfBytes came
  pub ended : OnOk result ((shut ≡ true) ⊎ (length came ≡ turns))
  pub wrote : Wrote t hosted tells (turn_acts (net_of t) hosted steps came shut)
      n n' [] before after journal journal' result
  pub kept : keeps → ActsKeep t hosted n (turn_acts (net_of t) hosted steps came shut) lanes lanes'
  pub stood : keeps → StoodEachTime t hosted steps n came shut lanes'

-- The brokers started, which was answered so, and the line of the process was written, with what they told behind it
pub record OpeningTraced {T : Type 0} (t : TopologyView) (hosted : List ℕ) (tells : Type 0) (n' : NodeView)
    (first : List ℕ) (before after : Option (List ℕ)) (lanes : ℕ → Lane) (result : Result T RunFault) : Type 0 where
  pub done : Result T RunFault
  pub lines : List ℕ
  pub same : IsExact result → result ≡ done
  pub opens : IsExact done → Opens t hosted tells n' lines lanes done
  pub wrote : IsExact result → after ≡ with_more before (first ++ said_text true lines)
  pub front : OnErr result ((after ≡ before) ⊎ (IsExact done × TakesFront before after (first ++ said_text true lines)))

-- What a whole run does, and what it leaves at the post, at the sink and on the disk
pub record RunTraced {T : Type 0} (t : TopologyView) (hosted : List ℕ) (steps : List Line) (turns : ℕ)
    (posts keeps : Type 0) (journal journal' : List Entry) (taken taken' : Option (List ℕ))
    (lanes lanes' : ℕ → Lane) (result : Result T RunFault) : Type 0 where
  pub course : Course
  pub run : IsRunOf t hosted steps turns course result
  pub posted : posts → Posts t hosted steps course journal journal' result
  pub traces : Traces t hosted steps course taken taken' result
  pub kept : keeps → KeepsLogs t hosted steps course lanes lanes' result

-- so it does once all nodes are bound behind what the post had
abbrev pub TracesBound : {T : Type 0} → TopologyView → List ℕ → List Line → ℕ → Type 0 → Type 0 → List Entry
    → List Entry → Option (List ℕ) → Option (List ℕ) → (ℕ → Lane) → (ℕ → Lane) → Result T RunFault → Type 0
TracesBound t hosted steps turns posts keeps bound journal' taken taken' lanes lanes' result =
    (journal : List Entry) → (posts → bound ≡ journal ++ map (bound_entry t hosted) (nodes t hosted))
    → RunTraced t hosted steps turns posts keeps journal journal' taken taken' lanes lanes' result

-- How a run may end early: a lane that is damaged is one of a publisher at a hosted broker, and the counts move as the
-- answer says
pub record EndsEarly {S T : Type 0} (t : TopologyView) (hosted : List ℕ) (faults stops : S → ℕ) (old new : S)
    (sink sink' post post' : ℕ) (result : Result T RunFault) : Type 0 where
  pub damaged_here : IsDamagedHere t hosted result
  pub disk_moves : DiskMoves (faults old) (stops old) (faults new) (stops new) result
  pub sink_moves : SinkMoves sink sink' result
  pub post_moves : PostMoves post post' result
