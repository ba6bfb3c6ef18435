-- Offers that wait, as a post notes them
use Rattle.std.specs.Prelude.{List, map}
use Rattle.gr_out.specs.Entry.{Entry, offered}
use Rattle.gr_trace.specs.declared.offers.Offer.{Offer}

abbrev pub entry_of : Offer → Entry
entry_of o = offered o.from o.to o.bytes

abbrev pub entries_of : List Offer → List Entry
entries_of offers = map entry_of offers
