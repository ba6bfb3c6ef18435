-- A start over logs that were found: the world, and what is told
use Rattle.std.specs.Prelude.{◌≡◌, ℕ, ◌≤◌, true, false, nat_lt, if◌then◌else◌, List, [], ◌∷◌, ◌++◌, map, filter, get_or}
use Rattle.std.specs.Prelude.{replicate, None, flat_map}
use Rattle.gr_model.specs.declared.report.Report.{Report}
use Rattle.gr_model.specs.declared.report.Report.TheVariants as line
use Rattle.gr_model.specs.Net.{Net, is_host, not_empty, numbers}
use Rattle.gr_model.specs.Broker.{View, Log, empty_log, got_line, learn, started, seen}
use Rattle.gr_model.specs.World.{World, Transition, view_of, log_of, absorbed, unchanged, followed_by, in_turn}
use Rattle.gr_model.specs.Headline.{Recorded, Stored, History}

-- the log of a publisher among those that were found
abbrev pub reopened_log : List Log → ℕ → Log
reopened_log logs p = get_or logs p empty_log

-- brokers that know what their logs say, before any horizon has moved
unfoldable pub over_logs : Net → List Log → World
over_logs net logs = record {
  clock = 0;
  most = 0;
  frames = [];
  views = map (λ b. map (λ p. started net p b (reopened_log logs p)) (numbers net.publishers)) (numbers net.brokers);
  logs = map (reopened_log logs) (numbers net.publishers);
}

-- the line of a log that is not empty
abbrev pub reopened_line : Log → ℕ → List Report
reopened_line log p = if nat_lt 0 log.settled then line.Opened p log.last log.settled log.cut ∷ [] else []

-- A host with a subscriber learns nothing new, by which its horizon moves to where the log is settled; nothing is sent
unfoldable pub opened_for_by : (View → Net) → Net → World → ℕ → Transition
opened_for_by see net w p =
    followed_by (unchanged w (reopened_line (log_of w p) p)) (λ u. elim (not_empty (net.subscribers_at (net.host p))) [
      | true ↦
          absorbed u (net.host p) p (learn (see (view_of u (net.host p) p)) p (net.host p) [] (view_of u (net.host p) p)
          (log_of u p))
      | false ↦ unchanged u []
    ])

abbrev pub opened_for : Net → World → ℕ → Transition
opened_for net = opened_for_by (seen net) net

-- the publishers of some brokers, broker by broker, and those of a broker in order
abbrev pub publishers_at : Net → List ℕ → List ℕ
publishers_at net bs = flat_map (λ b. filter (λ p. is_host net p b) (numbers net.publishers)) bs

-- the hosted brokers start, in order, over the logs that were found
unfoldable pub opening_by : (View → Net) → Net → List ℕ → List Log → Transition
opening_by see net hosted logs = in_turn (opened_for_by see net) (publishers_at net hosted) (over_logs net logs)

abbrev pub opening : Net → List ℕ → List Log → Transition
opening net = opening_by (seen net) net

-- The history where logs were found: the record begins with what they say

abbrev pub recorded_of : Log → Recorded
recorded_of log = record { last = log.last; settled = log.settled; events = log.events; joined = log.joins }

-- what is stored of a log as it stands
abbrev pub stored_now : Log → Stored
stored_now log = record { generation = log.generation; size = log.size }

unfoldable pub begin_over : Net → List Log → List Report → History
begin_over net logs told = record {
  clock = 0;
  most = 0;
  records = map (λ p. recorded_of (reopened_log logs p)) (numbers net.publishers);
  reopened_cuts = map (λ p. (let log = reopened_log logs p in log.cut)) (numbers net.publishers);
  lines = told;
  heard = replicate net.brokers (replicate net.publishers []);
  unlogged = replicate net.publishers true;
  stored = map (λ p. stored_now (reopened_log logs p)) (numbers net.publishers);
}
