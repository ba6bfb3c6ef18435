-- One publisher's part of a broker: what is kept of it and its log, and what a wake does to them
use Rattle.std.specs.Prelude.{ℕ, Option}
use Rattle.gr_publog.specs.declared.record.Record.{Record}
use Rattle.gr_publog.specs.Views.{LogView}
use Rattle.gr_pubend.specs.Answers.{quieted, mark_of}
use Rattle.gr_topo.specs.Topology.{TopologyView}
use Rattle.gr_model.specs.NetOf.{net_of}
use Rattle.gr_model.specs.Broker.{View, Outcome as MachineOutcome, marking, wake, seen}
use Rattle.gr_broker_relay.specs.declared.held.Held.{Held}
use Rattle.gr_broker_relay.specs.Held.{held_view}
use Rattle.gr_broker_relay.specs.Cuts.{tick_cut}
use Rattle.gr_broker.specs.Seen.{BrokerView, view_in, log_in, log_said, with_view, with_log, with_logged, with_failed}
use Rattle.gr_broker.specs.Seen.{with_cut_if}

-- what is kept of a publisher, and its log where the publisher is here
pub record PartView : Type 0 where
  pub view : View
  pub log : Option LogView

abbrev pub part_with : View → Option LogView → PartView
part_with v l = record { view = v; log = l }

abbrev pub part_of : Held → PartView
part_of h = part_with (held_view h) h.log

abbrev pub part_in : BrokerView → ℕ → PartView
part_in b p = part_with (view_in b p) (log_in b p)

-- the broker with one part exchanged
abbrev pub with_part : BrokerView → ℕ → PartView → BrokerView
with_part b p x = with_view (with_log b p x.log) p x.view

-- the machine's wake, and its mark
abbrev pub part_wake : TopologyView → ℕ → ℕ → ℕ → PartView → MachineOutcome
part_wake t p b now x = wake (seen (net_of t) x.view) p b now x.view (log_said x.log)

abbrev pub part_mark : TopologyView → ℕ → ℕ → ℕ → PartView → MachineOutcome
part_mark t p b now x = marking (seen (net_of t) x.view) p b now x.view (log_said x.log)

-- the record of the mark, or none; the tick of the cut, or none
abbrev pub part_mark_logs : TopologyView → ℕ → PartView → Option Record
part_mark_logs t now x = mark_of (quieted (log_said x.log) now t.settings.quiet)

abbrev pub part_cut : TopologyView → ℕ → ℕ → ℕ → PartView → Option ℕ
part_cut t p b now x = let o : MachineOutcome = part_mark t p b now x in tick_cut (net_of t) p b o.view o.log

-- the part after the mark, and after the whole call
abbrev pub part_marked : TopologyView → ℕ → ℕ → ℕ → PartView → PartView
part_marked t p b now x =
    let o : MachineOutcome = part_mark t p b now x in part_with o.view (with_logged x.log (part_mark_logs t now x))

abbrev pub part_woken : TopologyView → ℕ → ℕ → ℕ → PartView → PartView
part_woken t p b now x =
    let o : MachineOutcome = part_wake t p b now x in
    let marked : Option LogView = with_logged x.log (part_mark_logs t now x) in
    part_with o.view (with_cut_if marked (part_cut t p b now x) t.settings.reclaim)

-- a part whose log the disk failed
abbrev pub part_failed : PartView → PartView
part_failed x = part_with x.view (with_failed x.log)
