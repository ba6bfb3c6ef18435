use Rattle.std.proofs.Common.{ap, ◌∙◌}
use Rattle.gr_audit.specs.Links.{with_offers}
use Rattle.gr_audit.proofs.Turns.{behind_at, went}
use Rattle.gr_audit.proofs.joint.go.Goals as goal

pub returns-clause-rests : goal.returns-clause-rests
returns-clause-rests c =
    went c.args.journals.now c.args.places.now.items c.args.journal c.index.result.now c.next_arrival.result c.index-journals-journal.result c.as_slice-marks.result.now
    c.requires.count c.requires.within c.index.ensures c.index-journals-journal.is c.as_slice-marks.ensures c.next_arrival.ensures.rest

pub returns-clause-offered : goal.returns-clause-offered
returns-clause-offered c =
    c.offer.ensures.offered
    ∙ ap (with_offers c.args.offered.now.items)
    (behind_at c.args.journals.now c.args.places.now.items c.args.journal c.index.result.now c.index-journals-journal.result c.as_slice-marks.result.now
    c.requires.count c.requires.within c.index.ensures c.index-journals-journal.is c.as_slice-marks.ensures)
