use Rattle.gr_event.specs.declared.event.Event.{Event}
use Rattle.gr_event.proofs.Decoding.{ReadSoFar}
use Rattle.gr_event.proofs.decode.pairs_at.Given as goal

abbrev pub invariant-loop : goal.invariant-loop
invariant-loop l = (found : Event) × ReadSoFar l.bytes l.before found l.count l.counter l.at
