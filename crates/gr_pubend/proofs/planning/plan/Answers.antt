-- The tests, in their order, are those of the rule
use Rattle.std.proofs.Common.{◌≡◌, ◌+◌, suc, max, sym, ap, ◌∙◌, arith}
use Rattle.gr_publog.specs.declared.record.Record.TheVariants as entry
use Rattle.gr_know.specs.Values.{Known}
use Rattle.gr_pubend.specs.declared.answers.Published.{Published}
use Rattle.gr_pubend.specs.declared.answers.Published.TheVariants.{Logged, Gap}
use Rattle.gr_pubend.specs.Log.{said}
use Rattle.gr_pubend.specs.Answers.{event_of}
use Rattle.gr_pubend.proofs.Knowing.{up_to_event, stays_of}
use Rattle.gr_pubend.proofs.Standing.{is_logged, may_event, says_already, says_gap, says_exhausted, says_logged}
use Rattle.gr_pubend.proofs.planning.plan.Goals as goal

pub returns-then-number-last-clause-answer : goal.returns-then-number-last-clause-answer
returns-then-number-last-clause-answer c =
    let log = said c.args.log.now in
    sym (says_already log c.args.number c.args.now c.args.event.now (omega (arith, c.last-last.ensures, c.if-number-last.true)))

pub returns-then-number-last-2-clause-answer : goal.returns-then-number-last-2-clause-answer
returns-then-number-last-2-clause-answer c =
    let log = said c.args.log.now in
    let next : c.last-last.result + 1 ≡ c.args.log.now.state.last + 1 = omega (arith, c.last-last.ensures) in
    sym (says_gap log c.args.number c.args.now c.args.event.now (omega (arith, c.last-last.ensures, c.if-number-last-2.true)) ∙ ap Gap (sym next))

pub overflow_add-first : goal.overflow_add-first
overflow_add-first c =
    let h = stays_of c.args.log.now c.is_broken.ensures.state in
    omega (arith, c.settled-first.ensures, h.upto)

pub returns-then-tick-gt-MAX_TICK-clause-answer : goal.returns-then-tick-gt-MAX_TICK-clause-answer
returns-then-tick-gt-MAX_TICK-clause-answer c =
    let log = said c.args.log.now in
    let tick : c.max-tick.result ≡ max c.args.now (c.args.log.now.state.settled + 1) = omega (arith, c.max-tick.ensures, c.settled-first.ensures) in
    sym (says_exhausted log c.args.number c.args.now c.args.event.now c.max-tick.result (omega (arith, c.last-last.ensures, c.if-number-last.false)) (omega (arith, c.last-last.ensures, c.if-number-last-2.false)) tick c.if-tick-gt-MAX_TICK.true)

pub returns-in-Ok-clause-answer : goal.returns-in-Ok-clause-answer
returns-in-Ok-clause-answer c =
    let log = said c.args.log.now in
    let tick : c.max-tick.result ≡ max c.args.now (c.args.log.now.state.settled + 1) = omega (arith, c.max-tick.ensures, c.settled-first.ensures) in
    let says = says_logged log c.args.number c.args.now c.args.event.now c.max-tick.result (omega (arith, c.last-last.ensures, c.if-number-last.false)) (omega (arith, c.last-last.ensures, c.if-number-last-2.false)) tick c.if-tick-gt-MAX_TICK.false in
    let begins : c.settled-first.result + 1 ≡ suc log.settled = omega (arith, c.settled-first.ensures) in
    ap (λ (x : Known). Logged c.max-tick.result x) (c.in-Ok.ensures ∙ ap (λ n. up_to_event n c.max-tick.result c.args.event.now) begins) ∙ sym says

pub returns-in-Ok-clause-planned : goal.returns-in-Ok-clause-planned
returns-in-Ok-clause-planned c =
    let log = said c.args.log.now in
    let tick : c.max-tick.result ≡ max c.args.now (c.args.log.now.state.settled + 1) = omega (arith, c.max-tick.ensures, c.settled-first.ensures) in
    let begins : c.settled-first.result + 1 ≡ suc log.settled = omega (arith, c.settled-first.ensures) in (
      may_event c.args.log.now.state c.max-tick.result c.args.number c.args.event.now (omega (arith, tick)) c.if-tick-gt-MAX_TICK.false (omega (arith, c.last-last.ensures, c.if-number-last.false, c.if-number-last-2.false)),
      c.in-Ok.ensures ∙ ap (λ n. up_to_event n c.max-tick.result c.args.event.now) begins,
    )

pub returns-in-Err-clause-wants : goal.returns-in-Err-clause-wants
returns-in-Err-clause-wants c = λ _.
    let log = said c.args.log.now in
    let tick : c.max-tick.result ≡ max c.args.now (c.args.log.now.state.settled + 1) = omega (arith, c.max-tick.ensures, c.settled-first.ensures) in
    let says = says_logged log c.args.number c.args.now c.args.event.now c.max-tick.result (omega (arith, c.last-last.ensures, c.if-number-last.false)) (omega (arith, c.last-last.ensures, c.if-number-last-2.false)) tick c.if-tick-gt-MAX_TICK.false in
    is_logged _ (entry.Event c.max-tick.result c.args.number c.args.event.now) (ap (λ (p : Published). event_of p c.args.number c.args.event.now) says)
