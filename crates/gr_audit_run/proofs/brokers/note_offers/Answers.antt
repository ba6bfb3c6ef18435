use Rattle.std.proofs.Common.{ap, ◌∙◌, arith}
use Rattle.gr_audit.specs.Taken.{with_offered}
use Rattle.gr_audit_run.proofs.Taking.{offers_on}
use Rattle.gr_audit_run.proofs.brokers.note_offers.Goals as goal

pub noted-preserved : goal.noted-preserved
noted-preserved c =
    let o = c.offer-item.result in
    offers_on c.args.offers.now c.noted.offer-index o c.noted.given _ _ (omega (arith, c.noted-test.true)) c.offer-item.is c.noted.invariant
    (c.in_ok-offers.ensures ∙ ap (λ xs. with_offered (o.to, xs) c.noted.given) c.as_slice.ensures)
