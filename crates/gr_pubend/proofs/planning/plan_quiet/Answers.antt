-- The test is that of the rule
use Rattle.std.proofs.Common.{◌≡◌, ◌+◌, [], suc, sym, ap, ◌∙◌, arith}
use Rattle.gr_publog.specs.declared.record.Record.TheVariants as entry
use Rattle.gr_know.specs.Values.{Known}
use Rattle.gr_pubend.specs.declared.answers.Quieted.TheVariants.{Marked}
use Rattle.gr_pubend.specs.Log.{said, silence}
use Rattle.gr_pubend.specs.Answers.{mark_of}
use Rattle.gr_pubend.proofs.Knowing.{stays_of}
use Rattle.gr_pubend.proofs.Standing.{is_logged, may_mark, says_not_yet, says_marked}
use Rattle.gr_pubend.proofs.planning.plan_quiet.Goals as goal

pub returns-then-saturating_sub-quiet-clause-answer : goal.returns-then-saturating_sub-quiet-clause-answer
returns-then-saturating_sub-quiet-clause-answer c =
    let log = said c.args.log.now in
    sym (says_not_yet log c.args.now c.args.quiet (omega (arith, c.settled-settled.ensures, c.saturating_sub.ensures, c.if-saturating_sub-quiet.true)))

pub overflow_add-settled : goal.overflow_add-settled
overflow_add-settled c =
    let h = stays_of c.args.log.now c.is_broken.ensures.state in
    omega (arith, c.settled-settled.ensures, h.upto)

pub returns-in-Ok-clause-answer : goal.returns-in-Ok-clause-answer
returns-in-Ok-clause-answer c =
    let log = said c.args.log.now in
    let says = says_marked log c.args.now c.args.quiet c.requires.some (omega (arith, c.settled-settled.ensures, c.saturating_sub.ensures, c.if-saturating_sub-quiet.false)) in
    let begins : c.settled-settled.result + 1 ≡ suc log.settled = omega (arith, c.settled-settled.ensures) in
    ap (λ (x : Known). Marked c.args.now x) (c.in-Ok.ensures ∙ ap (λ n. silence n c.args.now []) begins) ∙ sym says

pub returns-in-Ok-clause-planned : goal.returns-in-Ok-clause-planned
returns-in-Ok-clause-planned c =
    let log = said c.args.log.now in
    let begins : c.settled-settled.result + 1 ≡ suc log.settled = omega (arith, c.settled-settled.ensures) in (
      may_mark c.args.log.now.state c.args.now (omega (arith, c.settled-settled.ensures, c.saturating_sub.ensures, c.if-saturating_sub-quiet.false, c.requires.some)) c.requires.now,
      c.in-Ok.ensures ∙ ap (λ n. silence n c.args.now []) begins,
    )

pub returns-in-Err-clause-wants : goal.returns-in-Err-clause-wants
returns-in-Err-clause-wants c = λ _.
    let log = said c.args.log.now in
    let says = says_marked log c.args.now c.args.quiet c.requires.some (omega (arith, c.settled-settled.ensures, c.saturating_sub.ensures, c.if-saturating_sub-quiet.false)) in
    is_logged _ (entry.Mark c.args.now) (ap mark_of says)
