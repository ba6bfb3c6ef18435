-- The first pair is found, and then the others
use Rattle.std.proofs.Common.{◌≡◌, ◌<◌, length, arith, rules}
use Rattle.std.proofs.lemmas.Option.{IfSome_then}
use Rattle.gr_event.proofs.Walking.{something}
use Rattle.gr_event.proofs.Found.{found_end, found_first}
use Rattle.gr_event.proofs.compare.behind_members.Goals as goal

pub front-requires : goal.front-requires
front-requires c = something c.pairs.pairs.now c.pairs.invariant.spelled.0 c.pairs.invariant.spelled.1 (search rules)

pub pairs-preserved : goal.pairs-preserved
pairs-preserved c =
    let some : 0 < length c.pairs.pairs.now = omega (arith, c.front.ensures.shorter) in
    let first = something c.pairs.pairs.now c.pairs.invariant.spelled.0 c.pairs.invariant.spelled.1 some in
    record {
      spelled = (first.1, (c.front.ensures.front first.0 first.1 first.2).2);
      found = λ end rest. c.pairs.invariant.found end (λ ps h. found_first c.pairs.later c.pairs.pairs.now _ _ _ ps _ _ end h some c.front.ensures.front c.in_ok-left.ensures rest);
    }

pub returns : goal.returns
returns c =
    let none : length c.pairs.pairs.now ≡ 0 = search rules in
    IfSome_then c.behind_byte.result c.behind_byte.ensures
    (λ left is. c.pairs.invariant.found left.now (λ ps h. found_end c.pairs.later c.pairs.pairs.now ps _ left.now h none is))
