-- Journals that are one honest run
use Rattle.std.specs.Prelude.{◌≡◌, ℕ, ◌<◌, true, nat_eq, if◌then◌else◌, List, [], ◌∷◌, ◌++◌, length, map, get_or, set}
use Rattle.std.specs.Prelude.{Ok}
use Rattle.gr_frame.specs.declared.Frame.{Frame}
use Rattle.gr_sched.specs.declared.step.Line.{Line}
use Rattle.gr_topo.specs.Topology.{TopologyView}
use Rattle.gr_model.specs.declared.report.Report.{Report}
use Rattle.gr_model.specs.Net.{Net}
use Rattle.gr_model.specs.NetOf.{net_of}
use Rattle.gr_model.specs.Broker.{seen}
use Rattle.gr_model.specs.World.{World, Transition, start, sent_since}
use Rattle.gr_model.specs.Headline.{begin}
use Rattle.gr_model.specs.Arrivals.{Arrival, Request}
use Rattle.gr_model.specs.Orders.{orders_of, with_orders}
use Rattle.gr_model_theorems.specs.Joint.{lefts_after, joint_comes_by, lefts_at_start, joint_reports, IsHonestJoint}
use Rattle.gr_model_theorems.specs.Joint.{HoldsJoint}
use Rattle.gr_journal.specs.declared.arrival.Arrival.{Arrival as Noted}
use Rattle.gr_journal.specs.declared.journal.Journal.{Journal}
use Rattle.gr_journal.specs.Groups.{group_text}
use Rattle.gr_journal.specs.Lines.{is_among, rising, process_text, journals_of}
use Rattle.gr_audit.specs.Audited.{arrivals, links_of}
use Rattle.gr_audit.specs.Joint.{Link, joint_order, begun as all_left, total}
use Rattle.gr_audit_theorems.specs.Behaves.{arrival_of, group_of, behaves}
use Rattle.gr_audit_theorems.specs.Numbered.{numbered_groups}

-- Processes and their turns

-- the brokers of each journal's process
abbrev pub processes_of : TopologyView → List Journal → List (List ℕ)
processes_of t js = map (λ (j : Journal). rising t j.brokers) js

-- what came to each
abbrev pub came_to : List Journal → List (List Arrival)
came_to js = map (λ (j : Journal). map arrival_of (arrivals j.came)) js

-- each broker is in one process, and in no other
pub record ArePartsOf (net : Net) (processes : List (List ℕ)) : Type 0 where
  pub each : (b : ℕ) → b < net.brokers
      → (k : ℕ) × ((k < length processes) × (is_among (get_or processes k []) b ≡ true))
  pub one : (b i k : ℕ) → is_among (get_or processes i []) b ≡ true → is_among (get_or processes k []) b ≡ true → i ≡ k

-- the arrivals in an order of journals: at each turn the next one of a journal, with the number of the journal
abbrev pub turns_of : List (List Arrival) → List ℕ → List (ℕ × Arrival)
turns_of lefts [] = []
turns_of lefts (k ∷ order) = elim (get_or lefts k []) [
  | [] ↦ turns_of lefts order
  | a ∷ left ↦ (k, a) ∷ turns_of (set lefts k left) order
]

-- what is of one process: its arrivals, and what each of its turns led to
abbrev pub arrivals_at : ℕ → List (ℕ × Arrival) → List Arrival
arrivals_at k [] = []
arrivals_at k (x ∷ turns) = if nat_eq x.0 k then x.1 ∷ arrivals_at k turns else arrivals_at k turns

abbrev pub parts_at : {X : Type 0} → ℕ → List (ℕ × Arrival) → List X → List X
parts_at k [] parts = []
parts_at k (x ∷ turns) [] = []
parts_at k (x ∷ turns) (part ∷ parts) =
    if nat_eq x.0 k then part ∷ parts_at k turns parts else parts_at k turns parts

-- the frames that are sent at each turn of a run that begins in this world
unfoldable pub joint_sent_from : Net → List (List ℕ) → World → List (List Request) → List (ℕ × Arrival)
    → List (List Frame)
joint_sent_from net processes w lefts [] = []
joint_sent_from net processes w lefts (x ∷ turns) =
    let t : Transition = joint_comes_by (seen net) net processes w lefts x in
    sent_since w t.world ∷ joint_sent_from net processes t.world (lefts_after lefts x) turns

-- of one that begins with nothing
abbrev pub joint_sent : Net → List (List ℕ) → List Line → List (ℕ × Arrival) → List (List Frame)
joint_sent net processes steps turns =
    joint_sent_from net processes (start net) (lefts_at_start net processes steps) turns

-- What a journal says

-- of arrivals, of what was told at each and of the frames that were sent then
abbrev pub groups_said : TopologyView → List Noted → List (List Report) → List (List Frame) → List ℕ
groups_said t (a ∷ came) (ls ∷ rs) (fs ∷ sent) = group_text t a (group_of t ls fs) ++ groups_said t came rs sent
groups_said t _ _ _ = []

-- The journal of process k is that of the joint run: at each of its turns it says the lines of this turn, with its
-- frames numbered by itself, and then those of its lists over all publishers, and it offers the frames of this turn
abbrev pub SaysItsPart : TopologyView → List (List ℕ) → List Line → List (ℕ × Arrival) → ℕ → Journal → Type 0
SaysItsPart t processes steps turns k j = j.text
    ≡ process_text t (rising t j.brokers) ++ groups_said t (arrivals j.came)
    (with_orders (orders_of t) (numbered_groups 1 (parts_at k turns (joint_reports (net_of t) processes steps turns))))
    (parts_at k turns (joint_sent (net_of t) processes steps turns))

-- One run

-- Journals in an order of theirs: they are of all brokers, the order takes all that came to each, as it came; the joint
-- journal is honest, the headline holds of the joint run, and each journal is its part of that run
pub record IsOneRunIn (t : TopologyView) (steps : List Line) (js : List Journal) (turns : List (ℕ × Arrival))
    : Type 0 where
  pub parts : ArePartsOf (net_of t) (processes_of t js)
  pub whole : (k : ℕ) → arrivals_at k turns ≡ get_or (came_to js) k []
  pub honest : IsHonestJoint [] turns (joint_reports (net_of t) (processes_of t js) steps turns)
  pub headline : HoldsJoint (net_of t) (processes_of t js) (begin (net_of t))
      (lefts_at_start (net_of t) (processes_of t js) steps) turns
      (joint_reports (net_of t) (processes_of t js) steps turns)
  pub said : (k : ℕ) (j : Journal) → k < length js → get_or js k j ≡ j
      → SaysItsPart t (processes_of t js) steps turns k j

-- the groups of journals to the joint order
abbrev pub links_in_all : TopologyView → List Line → List Journal → List (List Link)
links_in_all t steps js = map (links_of (behaves t steps) t) js

-- the joint order: at each turn the next group of the first journal whose next group can go
abbrev pub order_of : TopologyView → List Line → List Journal → List ℕ
order_of t steps js =
    let links : List (List Link) = links_in_all t steps js in joint_order (total links) (all_left links)

-- the bytes are journals that are one honest run, in the joint order
pub record IsOneRun (t : TopologyView) (steps : List Line) (bytes : List ℕ) : Type 0 where
  pub js : List Journal
  pub read : journals_of t bytes ≡ Ok js
  pub run : IsOneRunIn t steps js (turns_of (came_to js) (order_of t steps js))
