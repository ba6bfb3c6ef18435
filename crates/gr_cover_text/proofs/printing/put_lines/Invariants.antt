use Rattle.std.proofs.Common.{◌≡◌, ◌≤◌, ◌++◌, length}
use Rattle.gr_out.specs.Page.{TakesBut}
use Rattle.gr_cover_text.specs.Covers.{pair_line, text_below}
use Rattle.gr_cover_text.proofs.printing.put_lines.Given as goal

-- the lines over the filters so far were put, and no fault was counted
abbrev pub invariant-filters : goal.invariant-filters
invariant-filters g l = record {
  upto : l.narrow ≤ length l.filters;
  put : TakesBut (g.K.Sink.taken l.initial.sink) (g.K.Sink.taken l.sink) (l.initial.page.held ++ text_below (pair_line l.filters l.wide) l.narrow) l.page.held;
  same : g.K.Sink.faults l.sink ≡ g.K.Sink.faults l.initial.sink;
}
