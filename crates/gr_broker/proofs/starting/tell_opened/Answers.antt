use Rattle.std.proofs.Common.{◌≡◌, ◌++◌, sym, ap, ◌∙◌, subst, arith}
use Rattle.std.specs.Prelude.{OnOk}
use Rattle.std.proofs.lemmas.List.{append-nil}
use Rattle.gr_pubend.specs.Log.{said}
use Rattle.gr_broker.proofs.Fresh.{tells_nothing, tells_log}
use Rattle.gr_broker.proofs.starting.tell_opened.Goals as goal

pub returns-then-settled-eq0 : goal.returns-then-settled-eq0
returns-then-settled-eq0 c =
    sym (ap (λ xs. c.args.into.now ++ xs) (tells_nothing (said c.args.log.now) c.args.p c.settled-settled.result (sym c.settled-settled.ensures) c.if-settled-eq0.true) ∙ append-nil c.args.into.now)

pub returns : goal.returns
returns c =
    let line = tells_log (said c.args.log.now) c.args.p c.last.result c.settled-settled.result c.cut.result (sym c.last.ensures) (sym c.settled-settled.ensures) (sym c.cut.ensures) (omega (arith, c.if-settled-eq0.false)) in
    subst (λ xs. OnOk c.push.result (c.push.new.self ≡ c.args.into.now ++ xs)) (sym line) c.push.ensures.ok
