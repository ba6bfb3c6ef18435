-- A broker starts over the logs that its lanes hold
use Rattle.std.specs.Prelude.{◌≡◌, ◌⊎◌, ℕ, ◌<◌, true, false, ◌&&◌, if◌then◌else◌, List, [], ◌++◌, length}
use Rattle.std.specs.Prelude.{Some, Result, Ok, Err, IsOk, IsSome, flat_map}
use Rattle.gr_topo.specs.Topology.{TopologyView}
use Rattle.gr_out.specs.Lane.{Lane, content}
use Rattle.gr_publog.specs.Lanes.{Found, lanes_text, state_in}
use Rattle.gr_publog.specs.Views.{LogView, Lanes, lanes_at, AwayFrom, LeftPair, MayLeavePair}
use Rattle.gr_publog.specs.Opens.{Opens}
use Rattle.gr_model.specs.Net.{Net, numbers, is_host, not_empty}
use Rattle.gr_model.specs.NetOf.{net_of}
use Rattle.gr_model.specs.Broker.{Log, View, Outcome as MachineOutcome, learn, seen, started}
use Rattle.gr_model.specs.Opening.{reopened_line}
use Rattle.gr_broker_relay.specs.declared.outcome.Outcome.{Outcome}
use Rattle.gr_broker.specs.Lanes.{log_lane, GoesOnBoth}
use Rattle.gr_broker.specs.Seen.{BrokerView, view_in, log_in, machine_log}
use Rattle.gr_broker.specs.Of.{IsBrokerOf}

-- A publisher's start at a broker. A host with a subscriber learns nothing new, holding the joins of its log, by which
-- its horizon moves to what is settled
unfoldable pub opened_at : Net → ℕ → ℕ → Log → MachineOutcome
opened_at net p b log =
    let v : View = started net p b log in
    let o : MachineOutcome = learn (seen net v) p b [] v log in
    elim (is_host net p b && not_empty (net.subscribers_at b)) [
      | true ↦ record { view = o.view; log = log; lines = reopened_line log p ++ o.lines; frames = o.frames }
      | false ↦ record { view = v; log = log; lines = if is_host net p b then reopened_line log p else []; frames = [] }
    ]

-- A broker that has started, over the logs that it has now
pub record StartsOver (t : TopologyView) (n : ℕ) (b : BrokerView) (told : Outcome) : Type 0 where
  pub number : b.number ≡ n
  pub fits : IsBrokerOf t b
  pub views : (p : ℕ) → p < length t.publishers → view_in b p ≡ (opened_at (net_of t) p n (machine_log b p)).view
  pub lines : told.reports
      ≡ flat_map (λ p. (opened_at (net_of t) p n (machine_log b p)).lines) (numbers (length t.publishers))
  pub frames : told.frames.frames ≡ []
  pub sends_none : (p : ℕ) → p < length t.publishers → (opened_at (net_of t) p n (machine_log b p)).frames ≡ []
  pub whole : (p : ℕ) (l : LogView) → log_in b p ≡ Some l → l.broken ≡ false

-- the lanes of each publisher that is here were opened as its log, and no other lane was touched
pub record OpensLanes (t : TopologyView) (b : BrokerView) (before after : ℕ → Lane) : Type 0 where
  pub opened : (p : ℕ) (l : LogView) → log_in b p ≡ Some l
      → Opens t.late (log_lane p) (lanes_at before (log_lane p)) (lanes_at after (log_lane p)) (Ok l)
  pub others : (n : ℕ) → ((p : ℕ) → IsSome (log_in b p) → AwayFrom (log_lane p) n) → after n ≡ before n

-- Two lanes have lost nothing: at every moment until both are synced a crash leaves a pair that it might have left
-- before, and from then on such a pair, or one that holds what the two held.
pub record LosesNothing (late : List ℕ) (before after : Lanes) : Type 0 where
  pub synced : Lanes
  pub on_synced : GoesOnBoth before synced
  pub on : GoesOnBoth synced after
  pub before_sync : (a b : List ℕ) → LeftPair before synced a b → MayLeavePair before a b
  pub any_moment : (a b : List ℕ) → LeftPair synced after a b → MayLeavePair before a b
      ⊎ (state_in late a b ≡ state_in late (content before.first) (content before.second))

-- what the lanes of a publisher stand for
abbrev pub found_at : TopologyView → (ℕ → Lane) → ℕ → Result Found ℕ
found_at t lanes p = let ls = lanes_at lanes (log_lane p) in lanes_text t.late (content ls.first) (content ls.second)

-- the lanes of a publisher at a broker hold no log, with the place of the first fault; those of the publishers before
-- it hold one
pub record IsDamagedAt (t : TopologyView) (b p at : ℕ) (lanes : ℕ → Lane) : Type 0 where
  pub publisher : p < length t.publishers
  pub hosted : is_host (net_of t) p b ≡ true
  pub fault : found_at t lanes p ≡ Err at
  pub before : (q : ℕ) → q < p → is_host (net_of t) q b ≡ true → IsOk (found_at t lanes q)
