use Rattle.std.proofs.Common.{◌≡◌, ◌++◌, take}
use Rattle.gr_trace.specs.Offered.{entries_of}
use Rattle.gr_trace.proofs.writing.offer_all.Given as goal

-- those so far were made
abbrev pub invariant-offers : goal.invariant-offers
invariant-offers g l = record {
  sent : g.P.Post.tells → g.P.Post.journal l.post ≡ g.P.Post.journal l.fn.post ++ entries_of (take l.waiting-index l.offers);
  same : g.P.Post.faults l.post ≡ g.P.Post.faults l.fn.post;
}
