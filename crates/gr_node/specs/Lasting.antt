-- What the lanes of publishers had at some time, and a crash at any moment since then leaves
use Rattle.std.specs.Prelude.{◌≡◌, ◌⊎◌, ℕ, ◌<◌, ◌≤◌, Bool, true, List, [], ◌∷◌, ◌++◌, length, take, Ok}
use Rattle.gr_event.specs.declared.event.Event.{Event}
use Rattle.gr_event.specs.declared.join.Join.{Join}
use Rattle.gr_out.specs.Lane.{Lane}
use Rattle.gr_publog.specs.State.{LogState}
use Rattle.gr_publog.specs.Lanes.{state_in}
use Rattle.gr_publog.specs.Views.{LogView, Lanes, lanes_at, MayLeavePair, LeftPair, Stands}
use Rattle.gr_pubend.specs.Log.{past, pairs, said}
use Rattle.gr_sched.specs.declared.step.Line.{Line}
use Rattle.gr_topo.specs.Topology.{TopologyView}
use Rattle.gr_model.specs.NetOf.{net_of}
use Rattle.gr_model.specs.Broker.{Log}
use Rattle.gr_model.specs.Arrivals.{Arrival, requests_of}
use Rattle.gr_broker.specs.Lanes.{log_lane, GoesOnBoth}
use Rattle.gr_node.specs.Seen.{NodeView, log_here}
use Rattle.gr_node.specs.Of.{IsSet, AllStand}
use Rattle.gr_node.specs.Plan.{Call, Act, acts_from, turn_acts}
use Rattle.gr_node.specs.Done.{Done, call_done, all_done}

-- What is read

-- the machine's log of what two lanes hold, but for the generation and the size of their text
abbrev pub log_read : LogState → Log
log_read s = record {
  last = s.last;
  settled = s.settled;
  cut = s.cut;
  events = pairs s.events;
  joins = s.joins;
  generation = 0;
  size = 0;
  forgets = true;
}

-- A log goes on from an earlier one: no number is lower, it has all joins of it, and past its cut the same events. What
-- it has besides stands behind them
pub record Onward (l m : Log) : Type 0 where
  pub last : l.last ≤ m.last
  pub settled : l.settled ≤ m.settled
  pub cut : l.cut ≤ m.cut
  pub more_joins : List Join
  pub joins : m.joins ≡ l.joins ++ more_joins
  pub more : List (ℕ × Event)
  pub events : past m.cut m.events ≡ past m.cut (l.events ++ more)

-- Two logs say the same, whatever generation and size their text has
pub record IsAlike (l m : Log) : Type 0 where
  pub last : m.last ≡ l.last
  pub settled : m.settled ≡ l.settled
  pub cut : m.cut ≡ l.cut
  pub events : m.events ≡ l.events
  pub joins : m.joins ≡ l.joins

-- A log has what an earlier one has, and no more, but that it may be settled further
pub record SettlesOn (l m : Log) : Type 0 where
  pub last : m.last ≡ l.last
  pub settled : l.settled ≤ m.settled
  pub cut : m.cut ≡ l.cut
  pub events : m.events ≡ l.events
  pub joins : m.joins ≡ l.joins

-- a pair of images holds, where these subscribers may join, a log that goes on from this one
abbrev pub HoldsOnward : List ℕ → Log → List ℕ → List ℕ → Type 0
HoldsOnward late l a b = (s : LogState) × (state_in late a b ≡ Ok s) × Onward l (log_read s)

-- and from which another one goes on. It has no more than the first, but that it may be settled further, or says what
-- the other says
abbrev pub HoldsBetween : List ℕ → Log → Log → List ℕ → List ℕ → Type 0
HoldsBetween late l m a b = (s : LogState) × (state_in late a b ≡ Ok s) × Onward l (log_read s) × Onward (log_read s) m
    × (SettlesOn l (log_read s) ⊎ IsAlike (log_read s) m)

-- it holds what a pair holds that a crash might have left of these lanes, or has its fault
abbrev pub IsFound : List ℕ → Lanes → List ℕ → List ℕ → Type 0
IsFound late ls a b = (x y : List ℕ) × MayLeavePair ls x y × (state_in late a b ≡ state_in late x y)

-- Lanes from one time to another

-- Two lanes went from one time to another by parts, of one call each. Whatever pair of images a crash may have left at
-- any moment of a part is so. Over several calls the product of both lanes would have pairs that no crash leaves
abbrev pub Along : (List ℕ → List ℕ → Type 0) → Lanes → List Lanes → Lanes → Type 0
Along P before [] after = after ≡ before
Along P before (next ∷ parts) after = GoesOnBoth before next
    × ((a b : List ℕ) → LeftPair before next a b → P a b) × Along P next parts after

-- A call does this to the lanes of each publisher: at every moment they hold what lies between its log before the call
-- and that after it
pub record CallKeeps (t : TopologyView) (n : NodeView) (c : Call) (before after : ℕ → Lane) : Type 0 where
  pub lanes : (p : ℕ) → (parts : List Lanes)
      × Along (HoldsBetween t.late (log_here t n p) (log_here t (call_done t n c).node p))
      (lanes_at before (log_lane p)) parts (lanes_at after (log_lane p))

-- the log of a publisher after acts
abbrev pub log_after : TopologyView → List ℕ → NodeView → List Act → ℕ → Log
log_after t hosted n acts p = let d : Done = all_done t hosted n acts in log_here t d.node p

-- a pair of images holds what lies between the log after the first of these acts and that after one more, or none
pub record IsDuring (t : TopologyView) (hosted : List ℕ) (n : NodeView) (acts : List Act) (p : ℕ) (a b : List ℕ)
    : Type 0 where
  pub made : List Act
  pub next : List Act
  pub left : List Act
  pub parts : made ++ (next ++ left) ≡ acts
  pub one : length next ≤ 1
  pub holds : HoldsBetween t.late (log_after t hosted n made p) (log_after t hosted n (made ++ next) p) a b

-- acts do that to the lanes of each publisher, however far they were made
pub record ActsKeep (t : TopologyView) (hosted : List ℕ) (n : NodeView) (acts : List Act) (before after : ℕ → Lane)
    : Type 0 where
  pub lanes : (p : ℕ) → (parts : List Lanes) × Along (IsDuring t hosted n acts p)
      (lanes_at before (log_lane p)) parts (lanes_at after (log_lane p))

-- starts do this to them: at every moment they hold what they held before
pub record StartsKeep (late : List ℕ) (before after : ℕ → Lane) : Type 0 where
  pub lanes : (p : ℕ) → (parts : List Lanes) × Along (IsFound late (lanes_at before (log_lane p)))
      (lanes_at before (log_lane p)) parts (lanes_at after (log_lane p))

-- Lanes that stood

-- two lanes stand with a log of which the machine's is this one
pub record HoldsLog (subscribers : List ℕ) (ls : Lanes) (log : Log) : Type 0 where
  pub view : LogView
  pub stands : Stands ls view
  pub late : view.state.late ≡ subscribers
  pub says : said view ≡ log

-- Two lanes stood with a log at an earlier time: whatever a crash might have left then, or may have left at any moment
-- since, goes on from it
pub record Lasts (late : List ℕ) (log : Log) (before after : Lanes) : Type 0 where
  pub stood : HoldsLog late before log
  pub first : (a b : List ℕ) → MayLeavePair before a b → HoldsOnward late log a b
  pub parts : List Lanes
  pub since : Along (HoldsOnward late log) before parts after

-- the acts of what came, and the brokers after those of so many arrivals
abbrev pub acts_came : TopologyView → List ℕ → List Line → List Arrival → List Act
acts_came t hosted steps came = acts_from (net_of t) hosted (requests_of (net_of t) hosted steps) came

abbrev pub node_upto : TopologyView → List ℕ → List Line → NodeView → List Arrival → ℕ → NodeView
node_upto t hosted steps n came k =
    let d : Done = all_done t hosted n (acts_came t hosted steps (take k came)) in d.node

-- After so many arrivals and their acts all logs stood, and since then the lanes went on by the acts of the others
pub record StoodAfter (t : TopologyView) (hosted : List ℕ) (steps : List Line) (n : NodeView) (came : List Arrival)
    (closed : Bool) (k : ℕ) (lanes : ℕ → Lane) : Type 0 where
  pub between : ℕ → Lane
  pub set : IsSet t hosted (node_upto t hosted steps n came k)
  pub stand : AllStand between (node_upto t hosted steps n came k)
  pub later : List Act
  pub acts : acts_came t hosted steps (take k came) ++ later ≡ turn_acts (net_of t) hosted steps came closed
  pub keep : ActsKeep t hosted (node_upto t hosted steps n came k) later between lanes

-- so it was each time that one more came
abbrev pub StoodEachTime : TopologyView → List ℕ → List Line → NodeView → List Arrival → Bool → (ℕ → Lane) → Type 0
StoodEachTime t hosted steps n came closed lanes =
    (k : ℕ) → k < length came → StoodAfter t hosted steps n came closed k lanes
