-- The subscriber wants the event behind its join, if it has joined and its filter passes the event.
use Rattle.std.proofs.Common.{◌≤◌, arith, sym, ◌∙◌}
use Rattle.gr_tick.specs.declared.TheConstants.{MAX_TICK}
use Rattle.gr_event.specs.declared.limits.TheConstants.{MAX_JOIN_TICK}
use Rattle.gr_edge.specs.Pass.{wants}
use Rattle.gr_edge.specs.Lates.{wanting_of}
use Rattle.gr_edge.proofs.Joined.{never_joined, past_join, past_all, tick_small}
use Rattle.gr_edge.proofs.late.wanted_from.Goals as goal

pub returns-in_default : goal.returns-in_default
returns-in_default c =
    let l = c.args.late.now in
    let js = c.args.joins.now in
    λ t h. never_joined js l.subscriber t (wants (wanting_of l).filter c.args.event.now) c.len.ensures.joins.once (sym c.in_default.ensures) ∙ sym (past_all t MAX_TICK h)

pub overflow_add-result : goal.overflow_add-result
overflow_add-result c =
    let small : c.in-Some.join ≤ MAX_JOIN_TICK = tick_small 0 c.args.joins.now c.args.late.now.subscriber c.in-Some.join c.len.ensures.joins.rise (sym c.tick_of.ensures ∙ c.in-Some.is) in
    omega (arith, small)

pub returns : goal.returns
returns c =
    let l = c.args.late.now in
    let js = c.args.joins.now in
    λ t h. past_join js l.subscriber t c.in-Some.join (wants (wanting_of l).filter c.args.event.now) c.len.ensures.joins.once (sym c.tick_of.ensures ∙ c.in-Some.is) (sym c.passes.ensures ∙ c.if-not-passes.false)
