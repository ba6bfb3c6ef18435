-- The text that a replay gives
use Rattle.std.specs.Prelude.{List, ℕ}
use Rattle.std.specs.List.{flat_map}
use Rattle.gr_sched.specs.declared.step.Line.{Line}
use Rattle.gr_topo.specs.Topology.{TopologyView}
use Rattle.gr_model.specs.declared.report.Report.{Report}
use Rattle.gr_model.specs.NetOf.{net_of}
use Rattle.gr_model.specs.Orders.{with_orders, orders_of}
use Rattle.gr_model.specs.World.{report_of}
use Rattle.gr_model.specs.Text.{labels_of, report_text}

-- all lines of a report, step after step
abbrev pub all_lines : List (List Report) → List Report
all_lines steps = flat_map (λ lines. lines) steps

-- the text of the report of these steps, with what each subscriber that gets one list is told in it behind each step
abbrev pub replayed_text : TopologyView → List Line → List ℕ
replayed_text t lines = report_text (labels_of t) (all_lines (with_orders (orders_of t) (report_of (net_of t) lines)))
