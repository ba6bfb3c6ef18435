use Rattle.std.proofs.Common.{◌≡◌, ◌++◌, take}
use Rattle.gr_model.specs.Text.{labels_of, report_text}
use Rattle.gr_out.specs.Page.{TakesBut}
use Rattle.gr_report.proofs.putting.put_all.Given as goal

-- the lines so far were put, and no fault was counted
abbrev pub invariant-lines : goal.invariant-lines
invariant-lines g l = record {
  put : TakesBut (g.K.Sink.taken l.initial.sink) (g.K.Sink.taken l.sink) (l.initial.page.held ++ report_text (labels_of l.topology) (take l.line-index l.lines)) l.page.held;
  same : g.K.Sink.faults l.sink ≡ g.K.Sink.faults l.initial.sink;
}
