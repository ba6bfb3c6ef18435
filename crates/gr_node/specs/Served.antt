-- What a run did, from its first binding to what is shown at the end, and what it left outside
use Rattle.std.specs.Prelude.{◌≡◌, ◌⊎◌, ℕ, ◌<◌, ◌≤◌, Bool, true, false, ◌&&◌, nat_eq, bytes_eq, List, [], ◌∷◌}
use Rattle.std.specs.Prelude.{◌++◌, length, map, take, get_or, Option, Result, Err, OnOk, OnErr}
use Rattle.std.specs.List.{list_any, AllByRecursion}
use Rattle.gr_frame.specs.declared.fault.FrameFault.{FrameFault}
use Rattle.gr_frame.specs.Decode.{frame_decoded}
use Rattle.gr_out.specs.declared.fault.RunFault.{RunFault}
use Rattle.gr_out.specs.declared.fault.RunFault.TheVariants as run
use Rattle.gr_out.specs.Bytes.{with_more}
use Rattle.gr_out.specs.Entry.{Entry, offered, datagram}
use Rattle.gr_out.specs.Lane.{Lane}
use Rattle.gr_out.specs.Page.{TakesFront}
use Rattle.gr_publog.specs.Views.{Lanes, lanes_at}
use Rattle.gr_sched.specs.declared.step.Line.{Line}
use Rattle.gr_topo.specs.Topology.{TopologyView, host_of}
use Rattle.gr_model.specs.declared.report.Report.{Report}
use Rattle.gr_model.specs.NetOf.{net_of}
use Rattle.gr_model.specs.Broker.{Log, empty_log}
use Rattle.gr_model.specs.World.{World, Transition, in_turn, log_of}
use Rattle.gr_model.specs.Opening.{over_logs}
use Rattle.gr_model.specs.Arrivals.{Arrival, is_hosted, served, requests_of}
use Rattle.gr_model.specs.Orders.{orders_of, with_orders}
use Rattle.gr_model_theorems.specs.Served.{joined, IsOfBytes}
use Rattle.gr_model_theorems.specs.Forgets.{AllOpened}
use Rattle.gr_broker.specs.Lanes.{log_lane}
use Rattle.gr_node.specs.Seen.{text_of}
use Rattle.gr_node.specs.Of.{OthersStay}
use Rattle.gr_node.specs.Lasting.{HoldsBetween, IsFound, Along, HoldsLog, Lasts}
use Rattle.gr_node.specs.Plan.{Act, binds, starts, settles, shows, ours, act, told_by_acts, acts_from, nodes, plan}
use Rattle.gr_node.specs.Plan.{all_entries}
use Rattle.gr_node.specs.Went.{IsExact, FirstIs, uses_disk, fault_entries, Begins}
use Rattle.gr_node.specs.Starting.{OpensAsLog, IsFirstDamaged}

-- The course of a run
pub record Course : Type 0 where
  pub logs : List Log  -- of each publisher, the log that was opened where its host has started, else an empty one
  pub came : List Arrival  -- what the post gave, in order
  pub closed : Bool  -- whether it then said that nothing comes any more
  pub made : List Act  -- what was done of the plan
  pub left : List Act  -- what is left of it; a call that was refused is the first of these

-- the machine's world before the first act, over logs that forget what they cut; and what the acts lead to
abbrev pub world_before : TopologyView → Course → World
world_before t c = over_logs (net_of t) c.logs

abbrev pub end_of : TopologyView → List ℕ → Course → Transition
end_of t hosted c = in_turn (act (net_of t) hosted) c.made (world_before t c)

-- what they tell, the lines of one order among them
abbrev pub told_of : TopologyView → List ℕ → Course → List Report
told_of t hosted c = told_by_acts (net_of t) hosted (world_before t c) (orders_of t) c.made

-- what the whole plan puts into the journal
abbrev pub planned : TopologyView → List ℕ → List Line → Course → List Entry
planned t hosted steps c = all_entries t hosted (world_before t c) (plan t hosted steps c.came c.closed)

-- the text of what the machine serves of what came at the hosted brokers, and behind the lines of each step those of
-- one order
abbrev pub served_text : TopologyView → List ℕ → List Line → Course → List ℕ
served_text t hosted steps c =
    text_of t (joined (with_orders (orders_of t)
    (served (net_of t) hosted c.logs steps (ours hosted c.came))))

abbrev pub is_bind : Act → Bool
is_bind (binds b) = true
is_bind _ = false

abbrev pub is_start : ℕ → Act → Bool
is_start b (starts c) = nat_eq b c
is_start b _ = false

-- The act that a fault refused is the first that is left: a binding, or the arrival after the last; one that calls the
-- disk; the start of the publisher's host. Of want of memory, and of a failure of the sink, it is not said which it is
abbrev pub IsRefused : TopologyView → RunFault → List Act → Type 0
IsRefused t run.Post left = FirstIs is_bind left ⊎ (left ≡ shows ∷ [])
IsRefused t run.Disk left = FirstIs uses_disk left
IsRefused t (run.Damaged p at) left = FirstIs (is_start (host_of t p)) left
IsRefused t run.Memory left = Unit {0}
IsRefused t run.Write left = Unit {0}

-- The plan was carried out, all of it, or up to an act that was refused
pub record IsRunOf {T : Type 0} (t : TopologyView) (hosted : List ℕ) (steps : List Line) (turns : ℕ) (c : Course)
    (result : Result T RunFault) : Type 0 where
  pub acts : c.made ++ c.left ≡ plan t hosted steps c.came c.closed
  pub count : length c.logs ≡ length t.publishers
  pub opened : AllOpened t.late c.logs
  pub within : length c.came ≤ turns
  pub bytes : AllByRecursion IsOfBytes c.came
  pub whole : OnOk result (c.left ≡ [])
  pub ended : OnOk result ((c.closed ≡ true) ⊎ (length c.came ≡ turns))
  pub refused : (e : RunFault) → result ≡ Err e → IsRefused t e c.left

-- Of a post that tells its journal: what was done of the plan was put there, and then the failure that ended it; where
-- it is not known what was done, a front of what the plan puts there
pub record Posts {T : Type 0} (t : TopologyView) (hosted : List ℕ) (steps : List Line) (c : Course)
    (before after : List Entry) (result : Result T RunFault) : Type 0 where
  pub exact : IsExact result
      → after ≡ before ++ (all_entries t hosted (world_before t c) c.made ++ fault_entries result)
  pub front : (IsExact result → ⊥) → Begins before after (planned t hosted steps c)

-- The sink took what the machine serves; after a fault a front of it, and where an act was refused all lines of the
-- acts before
pub record Prints {T : Type 0} (t : TopologyView) (hosted : List ℕ) (steps : List Line) (c : Course)
    (before after : Option (List ℕ)) (result : Result T RunFault) : Type 0 where
  pub report : OnOk result (after ≡ with_more before (served_text t hosted steps c))
  pub front : OnErr result (TakesFront before after (served_text t hosted steps c))
  pub refused : OnErr result (IsExact result → after ≡ with_more before (text_of t (told_of t hosted c)))

-- the acts of a run up to those of its first k arrivals, and the machine's world then
abbrev pub acts_upto : TopologyView → List ℕ → List Line → Course → ℕ → List Act
acts_upto t hosted steps c k = map binds (nodes t hosted)
    ++ (map starts hosted
    ++ (settles ∷ acts_from (net_of t) hosted (requests_of (net_of t) hosted steps) (take k c.came)))

abbrev pub world_upto : TopologyView → List ℕ → List Line → Course → ℕ → World
world_upto t hosted steps c k =
    let s : Transition = in_turn (act (net_of t) hosted) (acts_upto t hosted steps c k) (world_before t c) in s.world

-- the machine's log of a publisher after acts of a run
abbrev pub log_then : TopologyView → List ℕ → Course → List Act → ℕ → Log
log_then t hosted c acts p =
    let s : Transition = in_turn (act (net_of t) hosted) acts (world_before t c) in log_of s.world p

-- a pair of images holds what lies between the machine's log after the first acts of the plan, at least these, and that
-- after one more, or none
pub record IsReachedFrom (t : TopologyView) (hosted : List ℕ) (steps : List Line) (c : Course) (first : List Act)
    (p : ℕ) (a b : List ℕ) : Type 0 where
  pub made : List Act
  pub next : List Act
  pub left : List Act
  pub parts : first ++ (made ++ (next ++ left)) ≡ plan t hosted steps c.came c.closed
  pub one : length next ≤ 1
  pub holds : HoldsBetween t.late (log_then t hosted c (first ++ made) p)
      (log_then t hosted c (first ++ (made ++ next)) p) a b

abbrev pub IsReached : TopologyView → List ℕ → List Line → Course → ℕ → List ℕ → List ℕ → Type 0
IsReached t hosted steps c p a b = IsReachedFrom t hosted steps c [] p a b

-- The lanes of a publisher stood with what the machine's log had after the first k arrivals. Whatever a crash might
-- have left of them then goes on from that, and so does what it may have left at any moment since; and this is what the
-- plan has reached from there
pub record LastsFrom (t : TopologyView) (hosted : List ℕ) (steps : List Line) (c : Course) (k p : ℕ)
    (before after : Lanes) : Type 0 where
  pub lasts : Lasts t.late (log_of (world_upto t hosted steps c k) p) before after
  pub reached : Along (IsReachedFrom t hosted steps c (acts_upto t hosted steps c k) p) before lasts.parts after

-- Nothing that was logged is lost by a crash in the run: so it is once another arrival has come after the first k
abbrev pub LogsLast : TopologyView → List ℕ → List Line → Course → (ℕ → Lane) → Type 0
LogsLast t hosted steps c after = (k : ℕ) → k < length c.came → (p : ℕ) → p < length t.publishers
    → is_hosted (net_of t) hosted p ≡ true
    → (mid : Lanes) × LastsFrom t hosted steps c k p mid (lanes_at after (log_lane p))

-- What the lanes of a publisher hold at any moment of a run: what was found there, or, where that is a log, what the
-- plan has reached from it
abbrev pub IsOfRun : TopologyView → List ℕ → List Line → Course → ℕ → Lanes → List ℕ → List ℕ → Type 0
IsOfRun t hosted steps c p found a b = IsFound t.late found a b
    ⊎ (OpensAsLog t.late (log_lane p) found (get_or c.logs p empty_log) × IsReached t hosted steps c p a b)

abbrev pub RunsAlong : TopologyView → List ℕ → List Line → Course → (ℕ → Lane) → (ℕ → Lane) → Type 0
RunsAlong t hosted steps c before after = (p : ℕ) → p < length t.publishers → is_hosted (net_of t) hosted p ≡ true
    → (parts : List Lanes) × Along (IsOfRun t hosted steps c p (lanes_at before (log_lane p)))
    (lanes_at before (log_lane p)) parts (lanes_at after (log_lane p))

-- Of a disk that tells what it holds: the logs are what the lanes of the started brokers held. After a run whose acts
-- are known to be made the lanes of each publisher stand with the machine's log. At every answer they hold what was
-- found, or what the plan has reached, and no other lane was touched: nothing is erased, written over or invented
pub record KeepsLogs {T : Type 0} (t : TopologyView) (hosted : List ℕ) (steps : List Line) (c : Course)
    (before after : ℕ → Lane) (result : Result T RunFault) : Type 0 where
  pub found : (p : ℕ) → p < length t.publishers → is_hosted (net_of t) hosted p ≡ true
      → list_any (is_start (host_of t p)) c.made ≡ true
      → OpensAsLog t.late (log_lane p) (lanes_at before (log_lane p)) (get_or c.logs p empty_log)
  pub kept : IsExact result → (c.left ≡ []) ⊎ (c.left ≡ shows ∷ []) → (p : ℕ) → p < length t.publishers
      → is_hosted (net_of t) hosted p ≡ true
      → HoldsLog t.late (lanes_at after (log_lane p)) (log_of (end_of t hosted c).world p)
  pub since : LogsLast t hosted steps c after
  pub along : RunsAlong t hosted steps c before after
  pub damaged : (p at : ℕ) → result ≡ Err (run.Damaged p at) → IsFirstDamaged t hosted p at before
  pub others : OthersStay t hosted before after

-- An honest journal: each datagram in it is no frame, as notes are none, or has the bytes of an offer to the same
-- broker that stands before it

abbrev pub is_offer_to : ℕ → List ℕ → Entry → Bool
is_offer_to b bytes (offered from to sent) = nat_eq to b && bytes_eq sent bytes
is_offer_to b bytes _ = false

abbrev pub IsHonestEntry : List Entry → Entry → Type 0
IsHonestEntry before (datagram b bytes moment) =
    ((fault : FrameFault) × (frame_decoded bytes ≡ Err fault)) ⊎ (list_any (is_offer_to b bytes) before ≡ true)
IsHonestEntry before _ = Unit {0}

abbrev pub IsHonestJournal : List Entry → List Entry → Type 0
IsHonestJournal before [] = Unit {0}
IsHonestJournal before (e ∷ entries) = IsHonestEntry before e × IsHonestJournal (before ++ e ∷ []) entries
