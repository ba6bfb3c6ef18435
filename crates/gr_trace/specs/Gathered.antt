-- What brokers told and offered in memory
use Rattle.std.specs.Prelude.{◌≡◌, ◌≢◌, ◌⊎◌, ℕ, List, [], ◌∷◌, ◌++◌, length, Some, IsSome, Result, Err, IsErrOf, OnOk, OnErr}
use Rattle.gr_out.specs.declared.fault.RunFault.{RunFault}
use Rattle.gr_out.specs.declared.fault.RunFault.TheVariants as run
use Rattle.gr_out.specs.Lane.{Lane}
use Rattle.gr_topo.specs.Topology.{TopologyView}
use Rattle.gr_model.specs.Orders.{ordered}
use Rattle.gr_node.specs.Seen.{NodeView, broker_in, text_of}
use Rattle.gr_node.specs.Of.{OthersStay}
use Rattle.gr_node.specs.Keeps.{IsServing, IsDamagedHere}
use Rattle.gr_node.specs.Lasting.{StartsKeep}
use Rattle.gr_node.specs.Plan.{Act}
use Rattle.gr_node.specs.Done.{all_done, settled}
use Rattle.gr_node.specs.Went.{outside, IsExact, uses_disk, FirstIs, DiskMoves}
use Rattle.gr_node.specs.Starting.{Started, Found, IsFirstDamaged}
use Rattle.gr_trace.specs.declared.gathering.Gathered.{Gathered}
use Rattle.gr_trace.specs.declared.offers.Offer.{Offer}
use Rattle.gr_trace.specs.Offered.{entries_of}

-- nothing was told
pub record IsEmpty (g : Gathered) : Type 0 where
  pub page : g.page.held ≡ []
  pub lines : g.lines.held ≡ []
  pub offers : g.offers ≡ []

-- Acts were made one after another, all or all up to one that was refused; these lines were told and these offers made
pub record Gathers {T : Type 0} (t : TopologyView) (hosted : List ℕ) (acts : List Act) (n n' : NodeView)
    (lines : List ℕ) (offers : List Offer) (result : Result T RunFault) : Type 0 where
  pub made : List Act
  pub left : List Act
  pub parts : made ++ left ≡ acts
  pub whole : OnOk result (left ≡ [])
  pub node : left ≡ [] → n' ≡ (all_done t hosted n made).node
  pub told : lines ≡ text_of t (all_done t hosted n made).lines
  pub sent : entries_of offers ≡ (all_done t hosted n made).entries
  pub refused : IsErrOf result run.Disk → FirstIs uses_disk left

-- The hosted brokers started, all or all up to one that was refused, and these lines were told; where all have started,
-- those of one order among them
pub record Opens {T : Type 0} (t : TopologyView) (hosted : List ℕ) (tells : Type 0) (n' : NodeView) (lines : List ℕ)
    (before : ℕ → Lane) (result : Result T RunFault) : Type 0 where
  pub opened : NodeView
  pub told : List ℕ
  pub started : Started {T = T} t hosted opened (outside (Some []) [] []) (outside (Some told) [] []) result
  pub whole : OnOk result (lines ≡ told ++ text_of t (ordered opened.orders))
  pub cut : OnErr result (lines ≡ told)
  pub node : OnOk result (n' ≡ settled opened)
  pub offers : opened.offers ≡ 0
  pub now : opened.now ≡ 0
  pub count : length opened.brokers ≡ length t.brokers
  pub found : tells → (b : ℕ) → IsSome (broker_in opened b) → Found t opened (b ∷ []) before

-- What a call keeps of the disk: no lane is touched but those of publishers at hosted brokers, and the counts move as
-- its answer says
pub record DiskKeeps {S T : Type 0} (t : TopologyView) (hosted : List ℕ) (tells : Type 0) (lane_of : S → ℕ → Lane)
    (faults stops : S → ℕ) (old new : S) (result : Result T RunFault) : Type 0 where
  pub others : tells → OthersStay t hosted (lane_of old) (lane_of new)
  pub disk_moves : DiskMoves (faults old) (stops old) (faults new) (stops new) result

-- What a call keeps at which the brokers start: the same of the disk, and at every moment its lanes hold what they held
-- before; a lane that is damaged is the first of its publisher's at a hosted broker; and no post has failed
pub record OpenKeeps {S T : Type 0} (t : TopologyView) (hosted : List ℕ) (tells : Type 0) (lane_of : S → ℕ → Lane)
    (faults stops : S → ℕ) (old new : S) (result : Result T RunFault) : Type 0 where
  pub keeps : DiskKeeps t hosted tells lane_of faults stops old new result
  pub kept : tells → StartsKeep t.late (lane_of old) (lane_of new)
  pub damaged : tells → (p at : ℕ) → result ≡ Err (run.Damaged p at) → IsFirstDamaged t hosted p at (lane_of old)
  pub damaged_here : IsDamagedHere t hosted result
  pub never_post : result ≢ Err run.Post

-- Between two arrivals: the brokers serve over the lanes that they left, nothing is gathered, and all that the page held
-- is written
pub record IsBetween (t : TopologyView) (hosted : List ℕ) (tells : Type 0) (lanes : ℕ → Lane) (n : NodeView)
    (g : Gathered) (held : List ℕ) : Type 0 where
  pub serving : IsServing t hosted tells lanes n
  pub empty : IsEmpty g
  pub written : held ≡ []

-- How a call ends whose lines stand in memory: as it answered, with the lines that were on their way behind the others;
-- or by want of memory
pub record EndsAs {T : Type 0} (done result : Result T RunFault) (lines held lines' held' : List ℕ) : Type 0 where
  pub same : result ≡ done
  pub exact : IsExact done
  pub whole : lines' ≡ lines ++ held
  pub empty : held' ≡ []

abbrev pub Ends : {T : Type 0} → Result T RunFault → Result T RunFault → List ℕ → List ℕ → List ℕ → List ℕ → Type 0
Ends done result lines held lines' held' = EndsAs done result lines held lines' held' ⊎ (result ≡ Err run.Memory)
