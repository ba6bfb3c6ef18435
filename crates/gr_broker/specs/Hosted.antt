-- A publisher's calls at its host: what is logged, told and kept. Each is at the net that what is held of it shows
use Rattle.std.specs.Prelude.{◌≡◌, ◌≢◌, ◌⊎◌, ℕ, false, List, Option, Some, None, Result, Err, IsErrOf, OnOk}
use Rattle.gr_event.specs.declared.event.Event.{Event}
use Rattle.gr_out.specs.Lane.{Lane}
use Rattle.gr_publog.specs.declared.record.Record.{Record}
use Rattle.gr_publog.specs.declared.record.LogFault.{LogFault}
use Rattle.gr_publog.specs.declared.record.LogFault.TheVariants as fault
use Rattle.gr_publog.specs.Views.{LogView, Lanes, lanes_at, LeftPair, ReadsAs}
use Rattle.gr_publog.specs.Calls.{Appends, appended_if, state_if}
use Rattle.gr_know.specs.Values.{Known}
use Rattle.gr_pubend.specs.declared.answers.Joined.TheVariants as joins
use Rattle.gr_pubend.specs.Answers.{published, quieted, joined_at, event_of, mark_of, join_of}
use Rattle.gr_pubend.specs.Cuts.{Cuts, cut_state}
use Rattle.gr_topo.specs.Topology.{TopologyView}
use Rattle.gr_model.specs.Net.{Net}
use Rattle.gr_model.specs.NetOf.{net_of}
use Rattle.gr_model.specs.Broker.{View, Log, Outcome as MachineOutcome, publish, joining, marking, wake, seen}
use Rattle.gr_model.specs.Broker.{with_join, with_joins, joining_by, view_joined}
use Rattle.gr_broker_relay.specs.Cuts.{tick_cut}
use Rattle.gr_broker.specs.Lanes.{log_lane}
use Rattle.gr_broker.specs.Seen.{BrokerView, view_in, log_in, machine_log, with_view, with_log, with_logged, logged_at}
use Rattle.gr_broker.specs.Seen.{with_cut_if}

-- A publish

-- the machine's call
abbrev pub publish_at : TopologyView → BrokerView → ℕ → ℕ → ℕ → Event → MachineOutcome
publish_at t b p now number e =
    let v : View = view_in b p in publish (seen (net_of t) v) p b.number now number e v (machine_log b p)

-- the record that it logs, or none
abbrev pub publish_logs_at : BrokerView → ℕ → ℕ → ℕ → Event → Option Record
publish_logs_at b p now number e = event_of (published (machine_log b p) number e now) number e

-- the broker after it
abbrev pub after_publish : TopologyView → BrokerView → ℕ → ℕ → ℕ → Event → BrokerView
after_publish t b p now number e =
    let o : MachineOutcome = publish_at t b p now number e in logged_at b p (publish_logs_at b p now number e) o.view

-- The join of a late subscriber

-- the machine's call: its net is that which the held list shows once the join is logged
abbrev pub join_with : Net → ℕ → ℕ → ℕ → ℕ → View → Log → MachineOutcome
join_with net p b now s v log = joining (seen net (view_joined log s now v)) p b now s v log

-- the same by an answer that logs it
abbrev pub join_by : Net → ℕ → ℕ → ℕ → View → Log → ℕ → Known → MachineOutcome
join_by net p b s v log tick fresh =
    let next : Log = with_join log tick s in
    joining_by (seen net (with_joins v next.joins)) p b s v log (joins.Logged tick fresh)

-- the same at a broker
abbrev pub join_at : TopologyView → BrokerView → ℕ → ℕ → ℕ → MachineOutcome
join_at t b p s now = join_with (net_of t) p b.number now s (view_in b p) (machine_log b p)

-- the record that it logs, or none
abbrev pub join_logs_at : BrokerView → ℕ → ℕ → ℕ → Option Record
join_logs_at b p s now = join_of (joined_at (machine_log b p) s now) s

-- the broker after it
abbrev pub after_join : TopologyView → BrokerView → ℕ → ℕ → ℕ → BrokerView
after_join t b p s now =
    let o : MachineOutcome = join_at t b p s now in logged_at b p (join_logs_at b p s now) o.view

-- A wake: a mark, and then a cut

abbrev pub wake_at : TopologyView → BrokerView → ℕ → ℕ → MachineOutcome
wake_at t b p now = let v : View = view_in b p in wake (seen (net_of t) v) p b.number now v (machine_log b p)

abbrev pub mark_at : TopologyView → BrokerView → ℕ → ℕ → MachineOutcome
mark_at t b p now = let v : View = view_in b p in marking (seen (net_of t) v) p b.number now v (machine_log b p)

-- the record of the mark, or none; the tick of the cut at what is kept then, or none
abbrev pub mark_logs_at : TopologyView → BrokerView → ℕ → ℕ → Option Record
mark_logs_at t b p now = mark_of (quieted (machine_log b p) now t.settings.quiet)

abbrev pub cut_at : TopologyView → BrokerView → ℕ → ℕ → Option ℕ
cut_at t b p now = let o : MachineOutcome = mark_at t b p now in tick_cut (net_of t) p b.number o.view o.log

-- the broker after the mark, and after the whole call
abbrev pub after_mark : TopologyView → BrokerView → ℕ → ℕ → BrokerView
after_mark t b p now = let o : MachineOutcome = mark_at t b p now in logged_at b p (mark_logs_at t b p now) o.view

abbrev pub after_wake : TopologyView → BrokerView → ℕ → ℕ → BrokerView
after_wake t b p now =
    let o : MachineOutcome = wake_at t b p now in
    let marked : Option LogView = with_logged (log_in b p) (mark_logs_at t b p now) in
    let log : Option LogView = with_cut_if marked (cut_at t b p now) t.settings.reclaim in
    with_view (with_log b p log) p o.view

-- The lanes of a publisher

-- what a call that logs a record, or none, does to the lanes of a publisher that is here
abbrev pub AppendsAt : {T : Type 0} → BrokerView → ℕ → Option Record → (ℕ → Lane) → (ℕ → Lane) → Result T LogFault
    → Type 0
AppendsAt b p logged before after result =
    elim (log_in b p) [
      | Some l ↦ Appends l logged (lanes_at before (log_lane p)) (lanes_at after (log_lane p)) result
      | None ↦ Unit {0}
    ]

-- What a wake does to the two lanes of a log: it logs a mark, or none, and then cuts it at a tick, or not.
pub record Wakes {T : Type 0} (l : LogView) (mark : Option Record) (cut : Option ℕ) (reclaim : ℕ) (before after : Lanes)
    (result : Result T LogFault) : Type 0 where
  pub between : Lanes
  pub answer : Result (Unit {0}) LogFault  -- of the first
  pub one : Appends l mark before between answer
  pub stops : (e : LogFault) → answer ≡ Err e → (after ≡ between) × (result ≡ Err e)
  pub two : OnOk answer (Cuts (appended_if mark l) cut reclaim between after result)
  -- at every moment of the call a crash leaves what was held before, that with the mark, or that with both
  pub any_moment : l.broken ≡ false → (a b : List ℕ) → LeftPair before after a b
      → ReadsAs l.state a b
      ⊎ (ReadsAs (state_if mark l.state) a b ⊎ ReadsAs (cut_state cut (state_if mark l.state)) a b)

abbrev pub WakesAt : {T : Type 0} → BrokerView → ℕ → Option Record → Option ℕ → ℕ → (ℕ → Lane) → (ℕ → Lane)
    → Result T LogFault → Type 0
WakesAt b p mark cut reclaim before after result =
    elim (log_in b p) [
      | Some l ↦ Wakes l mark cut reclaim (lanes_at before (log_lane p)) (lanes_at after (log_lane p)) result
      | None ↦ Unit {0}
    ]

-- What stands after a wake, by its answer: after a fault all is as before, or as after the mark; where the disk failed,
-- that log has to be opened again
pub record WakeLeaves {V T : Type 0} (before marked woken broken marked_broken after : V)
    (result : Result T LogFault) : Type 0 where
  pub ok : OnOk result (after ≡ woken)
  pub memory : IsErrOf result fault.Memory → (after ≡ before) ⊎ (after ≡ marked)
  pub failed : IsErrOf result fault.Disk → (after ≡ broken) ⊎ (after ≡ marked_broken)
  pub closed : IsErrOf result fault.Reopen → after ≡ before
  pub never_damaged : (at : ℕ) → result ≢ Err (fault.Damaged at)
