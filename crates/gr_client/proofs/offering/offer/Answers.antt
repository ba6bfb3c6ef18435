use Rattle.std.proofs.Common.{◌≡◌, Some}
use Rattle.gr_client.specs.Client.{offered}
use Rattle.gr_client.proofs.Offers.{offer_in_range}
use Rattle.gr_client.proofs.offering.offer.Goals as goal

pub offer_note-requires : goal.offer_note-requires
offer_note-requires g c =
    let gives = c.offer.ensures.offers in
    let was = c.in_ok-note.was in
    let is = c.in-Some.is in
    let given : offered c.args.client.now ≡ Some c.in-Some.note = cc in
    offer_in_range c.args.client.now c.in-Some.note c.offer.ensures.few c.offer.ensures.among given
