-- The first of the pairs that are left, and the others behind it
use Rattle.std.proofs.Common.{sym, ◌∙◌, arith}
use Rattle.gr_event.proofs.Walking.{some_left, next_left}
use Rattle.gr_event.proofs.pairs.Pairs.next.Goals as goal

pub front-requires : goal.front-requires
front-requires c =
    some_left c.self.inside.count c.self.inside.rest.now _ c.self.invariant.event c.self.invariant.spelled (omega (arith, c.if-self-eq0.false))

pub invariant_of-self : goal.invariant_of-self
invariant_of-self c =
    (next_left c.self.inside.count c.self.inside.rest.now _ _ _ _ c.self.invariant.event c.self.invariant.spelled (omega (arith, c.if-self-eq0.false)) c.front.ensures.front).0

pub returns : goal.returns
returns c =
    sym c.self.view_is
    ∙ (next_left c.self.inside.count c.self.inside.rest.now _ _ _ _ c.self.invariant.event c.self.invariant.spelled (omega (arith, c.if-self-eq0.false)) c.front.ensures.front).1
