use Rattle.gr_audit.proofs.Numbers.{key_inserted, key_placed}
use Rattle.gr_audit.proofs.keys.Keys.number.Goals as goal

pub returns-clause-keys : goal.returns-clause-keys
returns-clause-keys c =
    key_inserted c.self.inside.keys.keys c.insert_full.new.self.keys c.args.self.now c.args.to c.in_ok-copy.copy c.args.bytes.now c.self.view_is c.in_ok-copy.ensures.items c.in_ok-place.ensures.keys

pub returns-clause-number : goal.returns-clause-number
returns-clause-number c =
    key_placed c.self.inside.keys.keys c.args.self.now c.args.to c.in_ok-copy.copy c.args.bytes.now c.in_ok-place.place c.self.view_is c.in_ok-copy.ensures.items c.in_ok-place.ensures.index
