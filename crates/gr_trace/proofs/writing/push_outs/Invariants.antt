use Rattle.std.proofs.Common.{◌≡◌, ◌++◌, drop}
use Rattle.gr_trace.specs.Offered.{entries_of}
use Rattle.gr_trace.specs.Traced.{outs_of}
use Rattle.gr_trace.proofs.writing.push_outs.Given as goal

-- with what is left
abbrev pub invariant-offers : goal.invariant-offers
invariant-offers l = l.text ++ outs_of l.topo (entries_of (drop l.offer-index l.offers)) ≡ l.fn.text ++ outs_of l.topo (entries_of l.offers)
