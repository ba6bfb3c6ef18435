use Rattle.std.proofs.Common.{◌≡◌, drop}
use Rattle.gr_trace.specs.Offered.{entries_of}
use Rattle.gr_audit_run.specs.Process.{with_offers}
use Rattle.gr_audit_run.proofs.brokers.note_offers.Given as goal

-- with what is left
abbrev pub invariant-noted : goal.invariant-noted
invariant-noted l = with_offers (entries_of (drop l.offer-index l.offers)) l.given ≡ with_offers (entries_of l.offers) l.fn.given
