-- What a contract sees of a broker
use Rattle.std.specs.Prelude.{◌≡◌, ℕ, ◌<◌, Bool, false, List, length, map, get_or, set, Option, Some, None, IsSome}
use Rattle.gr_edge.specs.Pass.{Wanting}
use Rattle.gr_publog.specs.declared.record.Record.{Record}
use Rattle.gr_publog.specs.Views.{LogView, appended, failed}
use Rattle.gr_pubend.specs.Log.{Log, empty_log, said}
use Rattle.gr_pubend.specs.Cuts.{cut_if}
use Rattle.gr_model.specs.Broker.{View}
use Rattle.gr_model.specs.World.{blank_view}
use Rattle.gr_broker_relay.specs.declared.held.Held.{Held}
use Rattle.gr_broker_relay.specs.declared.place.Position.{Position}
use Rattle.gr_broker_relay.specs.declared.site.Seat.{Seat}
use Rattle.gr_broker_relay.specs.Branch.{Branch}
use Rattle.gr_broker_relay.specs.Held.{held_view, seen_branch}

-- A broker: what it keeps of each publisher is the machine's view, and where the publisher is here, its log
pub record BrokerView : Type 0 where
  pub number : ℕ
  pub here : List ℕ  -- the subscribers at it
  pub branches : List Branch  -- for each publisher
  pub views : List View  -- for each publisher
  pub logs : List (Option LogView)  -- for each publisher; None where it is elsewhere

-- what is kept of a publisher
abbrev pub view_in : BrokerView → ℕ → View
view_in b p = get_or b.views p blank_view

-- the log of a publisher that is here
abbrev pub log_in : BrokerView → ℕ → Option LogView
log_in b p = get_or b.logs p None

-- the machine's log of one that is here; where the publisher is elsewhere no log is looked at
abbrev pub log_said : Option LogView → Log
log_said None = empty_log
log_said (Some l) = said l

abbrev pub machine_log : BrokerView → ℕ → Log
machine_log b p = log_said (log_in b p)

-- the broker with what it keeps of one publisher exchanged, and with a log exchanged
abbrev pub with_view : BrokerView → ℕ → View → BrokerView
with_view b p v = record {
  number = b.number;
  here = b.here;
  branches = b.branches;
  views = set b.views p v;
  logs = b.logs;
}

abbrev pub with_log : BrokerView → ℕ → Option LogView → BrokerView
with_log b p l = record {
  number = b.number;
  here = b.here;
  branches = b.branches;
  views = b.views;
  logs = set b.logs p l;
}

-- a log with a further record, or none
abbrev pub with_logged : Option LogView → Option Record → Option LogView
with_logged None r = None
with_logged (Some l) None = Some l
with_logged (Some l) (Some r) = Some (appended r l)

-- a log cut at a tick, or not
abbrev pub with_cut_if : Option LogView → Option ℕ → ℕ → Option LogView
with_cut_if None cut reclaim = None
with_cut_if (Some l) cut reclaim = Some (cut_if cut reclaim l)

-- a log that the disk failed
abbrev pub with_failed : Option LogView → Option LogView
with_failed None = None
with_failed (Some l) = Some (failed l)

abbrev pub is_broken : Option LogView → Bool
is_broken None = false
is_broken (Some l) = l.broken

-- the broker whose log of a publisher the disk failed
abbrev pub broken_at : BrokerView → ℕ → BrokerView
broken_at b p = with_log b p (with_failed (log_in b p))

-- the broker once a record was logged, or none, and this is kept
abbrev pub logged_at : BrokerView → ℕ → Option Record → View → BrokerView
logged_at b p logged v = with_view (with_log b p (with_logged (log_in b p) logged)) p v

-- the joins that are held are those of a log
abbrev pub HasJoins : View → LogView → Type 0
HasJoins v l = v.joins ≡ l.state.joins

-- the publisher is at the broker
abbrev pub IsHosted : BrokerView → ℕ → Type 0
IsHosted b p = (p < length b.logs) × IsSome (log_in b p)

-- a broker, by its parts
abbrev pub seen_broker : ℕ → List ℕ → List (List Wanting) → List Position → List Held → BrokerView
seen_broker number here edges positions held = record {
  number = number;
  here = here;
  branches = map (seen_branch edges) positions;
  views = map held_view held;
  logs = map (λ h. h.log) held;
}

-- the logs of the parts
abbrev pub logs_of : List Held → List (Option LogView)
logs_of held = map (λ h. h.log) held

-- the broker at a seat, with these parts
abbrev pub broker_at : Seat → List Held → BrokerView
broker_at s held = seen_broker s.number s.here.now s.edges.now s.positions.now held
