-- A process of an audit: its brokers have started over empty logs
use Rattle.std.specs.Prelude.{◌≡◌, ℕ, ◌≤◌, List, [], ◌∷◌, ◌++◌, length, drop, Ok}
use Rattle.gr_out.specs.Entry.{Entry, offered}
use Rattle.gr_out.specs.Lane.{Lane, lane_at}
use Rattle.gr_sched.specs.declared.step.Line.{Line}
use Rattle.gr_topo.specs.Topology.{TopologyView}
use Rattle.gr_model.specs.NetOf.{net_of}
use Rattle.gr_model.specs.Arrivals.{Request, requests_of, left_after}
use Rattle.gr_journal.specs.declared.arrival.Arrival.{Arrival as Noted}
use Rattle.gr_journal.specs.Lines.{arrival_text}
use Rattle.gr_node.specs.Seen.{NodeView, seen, text_of}
use Rattle.gr_node.specs.Keeps.{IsServing}
use Rattle.gr_node.specs.Plan.{led_to}
use Rattle.gr_node.specs.Done.{Done, at_arrival, all_done}
use Rattle.gr_node.specs.Turns.{IsFirst}
use Rattle.gr_trace.specs.Offered.{entries_of}
use Rattle.gr_trace.specs.Gathered.{IsEmpty, Opens}
use Rattle.gr_trace.specs.Traced.{said_lines, outs_of}
use Rattle.gr_audit.specs.Taken.{GivenView, with_offered}
use Rattle.gr_audit_theorems.specs.Behaves.{arrival_of}
use Rattle.gr_audit_run.specs.declared.brokers.Process.{Process}

-- the requests that are left
abbrev pub left_of : TopologyView → List ℕ → List Line → Process → List Request
left_of t hosted steps p = requests_of (net_of t) hosted (drop p.next steps)

-- its lanes
abbrev pub lanes_of : Process → ℕ → Lane
lanes_of p n = lane_at p.disk.lanes n

-- its brokers serve, and its next request is one
pub record GoesOn (t : TopologyView) (hosted : List ℕ) (steps : List Line) (p : Process) : Type 0 where
  pub serving : IsServing t hosted (Unit {0}) (lanes_of p) (seen p.node)
  pub within : p.next ≤ length steps
  pub first : IsFirst (net_of t) hosted (drop p.next steps)

-- between two arrivals nothing that was told waits
pub record IsReady (t : TopologyView) (hosted : List ℕ) (steps : List Line) (p : Process) : Type 0 where
  pub goes_on : GoesOn t hosted steps p
  pub empty : IsEmpty p.gathered

-- before the first: its brokers have opened empty lanes
pub record IsFresh (t : TopologyView) (hosted : List ℕ) (n : NodeView) : Type 0 where
  pub told : List ℕ
  pub lanes : ℕ → Lane
  pub none : (k : ℕ) → lanes k ≡ lane_at [] k
  pub opens : Opens {T = Unit {0}} t hosted (Unit {0}) n told lanes (Ok tt)

-- what is done at an arrival
abbrev pub done_at : TopologyView → List ℕ → List Line → Process → Noted → Done
done_at t hosted steps p a =
    all_done t hosted (at_arrival hosted (seen p.node) (arrival_of a))
    (led_to (net_of t) hosted (left_of t hosted steps p) (arrival_of a))

-- An arrival has come: its line is in the text, what it led to is gathered, and the process is behind it
pub record Came (t : TopologyView) (hosted : List ℕ) (steps : List Line) (a : Noted) (p p' : Process) : Type 0 where
  pub text : p'.text ≡ p.text ++ arrival_text t a
  pub lines : (let d : Done = done_at t hosted steps p a in p'.gathered.lines.held ≡ text_of t d.lines)
  pub offers : (let d : Done = done_at t hosted steps p a in entries_of p'.gathered.offers ≡ d.entries)
  pub node : (let d : Done = done_at t hosted steps p a in seen p'.node ≡ d.node)
  pub left : left_of t hosted steps p' ≡ left_after (left_of t hosted steps p) (arrival_of a)

-- An arrival was taken: the text has its group
pub record Took (t : TopologyView) (hosted : List ℕ) (steps : List Line) (a : Noted) (p p' : Process) : Type 0 where
  pub text : (let d : Done = done_at t hosted steps p a in
      p'.text ≡ p.text ++ (arrival_text t a ++ (said_lines t d.lines ++ outs_of t d.entries)))
  pub node : (let d : Done = done_at t hosted steps p a in seen p'.node ≡ d.node)
  pub left : left_of t hosted steps p' ≡ left_after (left_of t hosted steps p) (arrival_of a)

-- datagrams are offered, one after another
abbrev pub with_offers : List Entry → GivenView → GivenView
with_offers [] g = g
with_offers (offered from to bytes ∷ sent) g = with_offers sent (with_offered (to, bytes) g)
with_offers (e ∷ sent) g = with_offers sent g
