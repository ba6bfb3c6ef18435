use Rattle.std.proofs.Common.{sym, ap, ◌∙◌, subst}
use Rattle.gr_subend.specs.Said.{said_at, TicksRise}
use Rattle.gr_subend.specs.Deliveries.{items}
use Rattle.gr_subend.proofs.Saying.{Items}
use Rattle.gr_subend.proofs.Ticks.{data_ticks_above, data_ticks_in, data_ticks_out}
use Rattle.gr_subend.proofs.Handing.{no_ticks, moves, handed}
use Rattle.gr_subend.proofs.subend.Subend.advance.Goals as goal

pub returns-then-horizon-self-clause-horizon : goal.returns-then-horizon-self-clause-horizon
returns-then-horizon-self-clause-horizon c =
    sym c.self.view_is ∙ sym c.if-horizon-self.true ∙ moves c.self.inside.horizon c.args.self.now c.horizon_from-horizon.result c.args.know.now.runs c.self.view_is c.horizon_from-horizon.ensures.horizon

pub returns-then-horizon-self-clause-delivered : goal.returns-then-horizon-self-clause-delivered
returns-then-horizon-self-clause-delivered c =
    ap items c.new.ensures ∙ sym (no_ticks c.args.self.now c.args.know.now.runs c.len.ensures.canonical)

pub returns-clause-horizon : goal.returns-clause-horizon
returns-clause-horizon c =
    moves c.self.inside.horizon c.args.self.now c.horizon_from-horizon.result c.args.know.now.runs c.self.view_is c.horizon_from-horizon.ensures.horizon

pub returns-clause-delivered : goal.returns-clause-delivered
returns-clause-delivered c =
    handed c.self.inside.horizon c.args.self.now c.horizon_from-horizon.result c.args.know.now.runs c.in_ok-passed.passed c.in_ok-deliveries.deliveries c.self.view_is c.horizon_from-horizon.ensures.inside c.len.ensures.canonical c.in_ok-passed.ensures c.in_ok-deliveries.ensures

pub returns-clause-rise : goal.returns-clause-rise
returns-clause-rise c =
    let d = handed c.self.inside.horizon c.args.self.now c.horizon_from-horizon.result c.args.know.now.runs c.in_ok-passed.passed c.in_ok-deliveries.deliveries c.self.view_is c.horizon_from-horizon.ensures.inside c.len.ensures.canonical c.in_ok-passed.ensures c.in_ok-deliveries.ensures in
    subst (λ (xs : Items). TicksRise c.args.self.now xs) (sym d) (data_ticks_above c.args.self.now c.horizon_from-horizon.result c.args.know.now.runs c.len.ensures.canonical)

pub returns-clause-each : goal.returns-clause-each
returns-clause-each c = λ t past upto.
    let d = handed c.self.inside.horizon c.args.self.now c.horizon_from-horizon.result c.args.know.now.runs c.in_ok-passed.passed c.in_ok-deliveries.deliveries c.self.view_is c.horizon_from-horizon.ensures.inside c.len.ensures.canonical c.in_ok-passed.ensures c.in_ok-deliveries.ensures in
    ap (λ (xs : Items). said_at xs t) d ∙ data_ticks_in c.args.self.now c.horizon_from-horizon.result t c.args.know.now.runs c.len.ensures.canonical past upto

pub returns-clause-no_other : goal.returns-clause-no_other
returns-clause-no_other c = λ t out.
    let d = handed c.self.inside.horizon c.args.self.now c.horizon_from-horizon.result c.args.know.now.runs c.in_ok-passed.passed c.in_ok-deliveries.deliveries c.self.view_is c.horizon_from-horizon.ensures.inside c.len.ensures.canonical c.in_ok-passed.ensures c.in_ok-deliveries.ensures in
    ap (λ (xs : Items). said_at xs t) d ∙ data_ticks_out c.args.self.now c.horizon_from-horizon.result t c.args.know.now.runs c.len.ensures.canonical out
