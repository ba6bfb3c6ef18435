use Rattle.std.proofs.Common.{◌≡◌, length, take, map}
use Rattle.gr_audit.specs.Links.{rests_of, behind_offers}
use Rattle.gr_audit.proofs.joint.first_places.Given as goal

abbrev pub invariant-journals : goal.invariant-journals
invariant-journals l = record {
  count : length l.places.items ≡ l.journal-index;
  rests : rests_of (take l.journal-index l.journals) l.places.items ≡ map behind_offers (take l.journal-index l.journals);
}
