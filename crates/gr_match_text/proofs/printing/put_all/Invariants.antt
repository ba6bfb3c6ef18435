use Rattle.std.proofs.Common.{◌≡◌, ◌++◌, take}
use Rattle.gr_out.specs.Page.{TakesBut}
use Rattle.gr_match_text.specs.Matching.{matched_text}
use Rattle.gr_match_text.proofs.printing.put_all.Given as goal

-- the lines so far were put, and no fault was counted
abbrev pub invariant-events : goal.invariant-events
invariant-events g l = record {
  put : TakesBut (g.K.Sink.taken l.initial.sink) (g.K.Sink.taken l.sink) (l.initial.page.held ++ matched_text l.filters (take l.event-index l.events)) l.page.held;
  same : g.K.Sink.faults l.sink ≡ g.K.Sink.faults l.initial.sink;
}
