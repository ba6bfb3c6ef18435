-- What `serve` is asked, and what a run of brokers comes to
use Rattle.std.specs.Prelude.{◌≡◌, ◌⊎◌, ℕ, suc, ◌*◌, ◌<◌, Bool, true, not, if◌then◌else◌, List, [], length}
use Rattle.std.specs.Prelude.{Option, Result, Err, IsOk, IfSome, ⊤}
use Rattle.gr_out.specs.declared.fault.RunFault.{RunFault}
use Rattle.gr_out.specs.declared.fault.RunFault.TheVariants as run
use Rattle.gr_out.specs.Bytes.{with_more}
use Rattle.gr_out.specs.Entry.{Entry}
use Rattle.gr_out.specs.Lane.{Lane, content}
use Rattle.gr_out.specs.Page.{TakesFront}
use Rattle.gr_publog.specs.Lanes.{lanes_text}
use Rattle.gr_sched.specs.declared.step.Line.{Line}
use Rattle.gr_topo.specs.Topology.{TopologyView, totals_of}
use Rattle.gr_scenario.specs.declared.asked.Asked.{Asked}
use Rattle.gr_scenario.specs.declared.asked.Asked.TheVariants as asked
use Rattle.gr_scenario.specs.Scenario.{asked_by}
use Rattle.gr_scenario.specs.Steps.{AreStepsOf}
use Rattle.gr_model.specs.declared.report.Report.{Report}
use Rattle.gr_model.specs.declared.report.Report.TheVariants as line
use Rattle.gr_model.specs.Text.{labels_of, whole_line}
use Rattle.gr_model.specs.Net.{numbers}
use Rattle.gr_model.specs.NetOf.{net_of}
use Rattle.gr_model.specs.Arrivals.{is_hosted, served}
use Rattle.gr_model.specs.Orders.{orders_of, ordered_steps, with_orders}
use Rattle.gr_model_theorems.specs.Lanes.{HoldsServedLanes}
use Rattle.gr_model_theorems.specs.OrderedServed.{OrderedServedLanes, OneOrderServedLanes}
use Rattle.gr_audit.specs.Audited.{has_clients}
use Rattle.gr_node.specs.Of.{AreHosted, AreAddressed}
use Rattle.gr_node.specs.Obeyed.{AloneObeysRules}
use Rattle.gr_node.specs.Plan.{ours}
use Rattle.gr_node.specs.Starting.{IsFirstDamaged}
use Rattle.gr_node.specs.Served.{Course, planned, IsRunOf, Posts, Prints, KeepsLogs, IsHonestJournal}
use Rattle.gr_trace.specs.Traced.{Traces}
use Rattle.gr_top.specs.declared.hosting.Hosting.{Hosting}
use Rattle.gr_top.specs.declared.hosting.Hosting.TheVariants as hosting
use Rattle.gr_top.specs.declared.serving.Serving.{Serving}
use Rattle.gr_top.specs.declared.serving.Serving.TheVariants.{TooManyBytes, TooManySteps, Refused, Run}
use Rattle.gr_top.specs.declared.words.Task.{Task}
use Rattle.gr_top.specs.declared.words.Task.TheVariants.{Serve}
use Rattle.gr_top.specs.declared.voice.Voice.{Voice}
use Rattle.gr_top.specs.declared.voice.Voice.TheVariants as voices
use Rattle.gr_top.specs.Behind.{AreBehind}
use Rattle.gr_top.specs.Hosting.{hosting_of, clients_line}

-- What is asked

-- a journal is written only where no publisher has a client
abbrev pub is_unheard : Voice → TopologyView → Bool
is_unheard voices.Report t = true
is_unheard voices.Journal t = not (has_clients t)

-- over a topology that was read with its steps
abbrev pub serving_over : Voice → TopologyView → List Line → Hosting → Serving
serving_over voice t lines (hosting.Refused line) = Refused line
serving_over voice t lines (hosting.Hosted brokers) =
    if is_unheard voice t then Run t lines brokers else Refused clients_line

-- by the bytes of a source and the words that name brokers
abbrev pub serving_of : Voice → List (List ℕ) → Asked → Serving
serving_of voice words asked.TooManyBytes = TooManyBytes
serving_of voice words asked.TooManySteps = TooManySteps
serving_of voice words (asked.Refused line) = Refused line
serving_of voice words (asked.Scenario t lines) = serving_over voice t lines (hosting_of t words)

-- where there is to be a run, what holds of it: of the topology, its steps and the numbers of the brokers that serve
abbrev pub OnRun : Serving → (TopologyView → List Line → List ℕ → Type 0) → Type 0
OnRun TooManyBytes P = Unit {0}
OnRun TooManySteps P = Unit {0}
OnRun (Refused line) P = Unit {0}
OnRun (Run t lines hosted) P = P t lines hosted

-- the same of a task, with these bytes left in the source, where it is to serve
abbrev pub IfRun : Task → Option (List ℕ) → (Voice → ℕ → TopologyView → List Line → List ℕ → Type 0) → Type 0
IfRun (Serve voice turns words) left P =
    IfSome left (λ bytes. OnRun (serving_of voice words (asked_by bytes)) (P voice turns))
IfRun _ left P = Unit {0}

-- the steps and brokers are those of the topology, each broker of it has an address, and a journal can be written
-- where one is
pub record CanRun (voice : Voice) (t : TopologyView) (lines : List Line) (hosted : List ℕ) : Type 0 where
  pub steps : AreStepsOf t lines
  pub brokers : AreHosted t hosted
  pub addressed : AreAddressed t
  pub unheard : is_unheard voice t ≡ true

-- What stands outside

-- what the sink took, the journal of the post, and the lanes of the disk
pub record Around : Type 0 where
  pub taken : Option (List ℕ)
  pub journal : List Entry
  pub lanes : ℕ → Lane

abbrev pub around : Option (List ℕ) → List Entry → (ℕ → Lane) → Around
around taken journal lanes = record { taken = taken; journal = journal; lanes = lanes }

-- what the machine serves of the arrivals of a run: the lines of the opening, of each arrival, and of the end
abbrev pub served_lines : TopologyView → List Line → List ℕ → Course → List (List Report)
served_lines t lines hosted c = served (net_of t) hosted c.logs lines (ours hosted c.came)

-- the lists over all publishers in a run of all brokers
pub record IsInOrder (t : TopologyView) (lines : List Line) (hosted : List ℕ) (c : Course) : Type 0 where
  -- what is printed of each step are its lines, and behind them what is ready in the one list of each subscriber that
  -- gets one
  pub behind : AreBehind (with_orders (orders_of t) (served_lines t lines hosted c)) (served_lines t lines hosted c)
      (ordered_steps (orders_of t) (served_lines t lines hosted c))
  -- that is, after the opening and after each arrival each of these was told exactly what all publishers have past the
  -- cut that was found, up to where it has heard them all, each event once, rising by tick and then publisher
  pub ordered : OrderedServedLanes (net_of t) (totals_of t) c.logs lines (ours hosted c.came)
  -- and of two of these that want the same, at any two arrivals, one list begins with the other
  pub one_order : OneOrderServedLanes (net_of t) (totals_of t) c.logs lines (ours hosted c.came)

-- what the sink took of a run: its report, or its journal
abbrev pub Writes : Voice → TopologyView → List Line → List ℕ → Course → Option (List ℕ) → Option (List ℕ)
    → Result ⊤ RunFault → Type 0
Writes voices.Report t lines hosted c before after answer = Prints t hosted lines c before after answer
Writes voices.Journal t lines hosted c before after answer = Traces t hosted lines c before after answer

-- A run came to an answer. What was done of it is told by its course: the post has the journal of that, the sink took
-- its lines and the lanes hold its logs. Where all brokers served, over old logs too, and the journal is honest, the
-- headline holds, the report is by the rules of the calls and no other is, and each list over all publishers is what it
-- is to be
pub record RunsTo (voice : Voice) (t : TopologyView) (lines : List Line) (hosted : List ℕ) (turns : ℕ)
    (post_tells disk_tells : Type 0) (before after : Around) (answer : Result ⊤ RunFault) : Type 0 where
  pub course : Course
  pub is_run : IsRunOf t hosted lines turns course answer
  pub posts : post_tells → Posts t hosted lines course before.journal after.journal answer
  pub prints : Writes voice t lines hosted course before.taken after.taken answer
  pub keeps : disk_tells → KeepsLogs t hosted lines course before.lanes after.lanes answer
  pub headline : hosted ≡ numbers (length t.brokers) → IsHonestJournal [] (planned t hosted lines course)
      → HoldsServedLanes (net_of t) course.logs lines (ours hosted course.came)
  pub by_rules : hosted ≡ numbers (length t.brokers) → IsHonestJournal [] (planned t hosted lines course)
      → AloneObeysRules (net_of t) course.logs lines (ours hosted course.came) (served_lines t lines hosted course)
  pub ordered : hosted ≡ numbers (length t.brokers) → IsHonestJournal [] (planned t hosted lines course)
      → IsInOrder t lines hosted course

-- the line of a log that is none
abbrev pub damaged_line : TopologyView → ℕ → ℕ → List ℕ
damaged_line t p at = whole_line (labels_of t) (line.Damaged p at)

-- The status after a fault, and what the sink took since: after a log that is none, its line, or a front of it where
-- that failed
abbrev pub EndsBy : TopologyView → RunFault → ℕ → Option (List ℕ) → Option (List ℕ) → Type 0
EndsBy t run.Write status old new = (status ≡ 4) × (new ≡ old)
EndsBy t run.Disk status old new = (status ≡ 5) × (new ≡ old)
EndsBy t (run.Damaged p at) status old new =
    ((status ≡ 6) × (new ≡ with_more old (damaged_line t p at)))
    ⊎ (((status ≡ 4) ⊎ (status ≡ 7)) × TakesFront old new (damaged_line t p at))
EndsBy t run.Memory status old new = (status ≡ 7) × (new ≡ old)
EndsBy t run.Post status old new = (status ≡ 8) × (new ≡ old)

-- A run was ended by a fault
pub record StopsBy (voice : Voice) (t : TopologyView) (lines : List Line) (hosted : List ℕ) (turns : ℕ)
    (post_tells disk_tells : Type 0) (before after : Around) (status : ℕ) : Type 0 where
  pub fault : RunFault
  pub taken : Option (List ℕ)  -- what the sink had taken by then
  pub run : RunsTo voice t lines hosted turns post_tells disk_tells before
      (around taken after.journal after.lanes) (Err fault)
  pub ends : EndsBy t fault status taken after.taken

-- want of memory came before the run: nothing was done
pub record NotBegun (before after : Around) (status : ℕ) : Type 0 where
  pub memory : status ≡ 7
  pub same : after ≡ before

-- The lanes of a publisher at these brokers hold no log: this one is the first, with the place of its fault
pub record IsDamaged (t : TopologyView) (hosted : List ℕ) (lanes : ℕ → Lane) : Type 0 where
  pub publisher : ℕ
  pub at : ℕ
  pub first : IsFirstDamaged t hosted publisher at lanes

-- the lanes of each publisher at these brokers hold a log
abbrev pub AllRead : TopologyView → List ℕ → (ℕ → Lane) → Type 0
AllRead t hosted lanes = (p : ℕ) → p < length t.publishers → is_hosted (net_of t) hosted p ≡ true
    → IsOk (lanes_text t.late (content (lanes (2 * p))) (content (lanes (suc (2 * p)))))
