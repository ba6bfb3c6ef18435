-- The tests, in their order, are those of the rule
use Rattle.std.proofs.Common.{◌≡◌, ◌+◌, [], suc, max, true, false, sym, ap, ◌∙◌, arith}
use Rattle.gr_event.specs.Joins.{Joins, has_joined}
use Rattle.gr_publog.specs.declared.record.Record.TheVariants as entry
use Rattle.gr_know.specs.Values.{Known}
use Rattle.gr_pubend.specs.declared.answers.Joined.{Joined}
use Rattle.gr_pubend.specs.declared.answers.Joined.TheVariants.{Logged}
use Rattle.gr_pubend.specs.Log.{said, silence}
use Rattle.gr_pubend.specs.Answers.{join_of}
use Rattle.gr_pubend.proofs.Knowing.{stays_of}
use Rattle.gr_pubend.proofs.Standing.{is_logged, may_join, says_joined, says_no_tick, says_joins}
use Rattle.gr_pubend.proofs.planning.plan_join.Goals as goal

pub returns-then-joined-clause-answer : goal.returns-then-joined-clause-answer
returns-then-joined-clause-answer c =
    let log = said c.args.log.now in
    let has : has_joined log.joins c.args.s ≡ true = ap (λ (js : Joins). has_joined js c.args.s) (sym c.joins.ensures) ∙ sym c.has-joined.ensures ∙ c.if-joined.true in
    sym (says_joined log c.args.s c.args.now has)

pub overflow_add-first : goal.overflow_add-first
overflow_add-first c =
    let h = stays_of c.args.log.now c.is_broken.ensures.state in
    omega (arith, c.settled-first.ensures, h.upto)

pub returns-then-tick-gt-MAX_TICK-clause-answer : goal.returns-then-tick-gt-MAX_TICK-clause-answer
returns-then-tick-gt-MAX_TICK-clause-answer c =
    let log = said c.args.log.now in
    let has : has_joined log.joins c.args.s ≡ false = ap (λ (js : Joins). has_joined js c.args.s) (sym c.joins.ensures) ∙ sym c.has-joined.ensures ∙ c.if-joined.false in
    let tick : c.max-tick.result ≡ max c.args.now (c.args.log.now.state.settled + 1) = omega (arith, c.max-tick.ensures, c.settled-first.ensures) in
    sym (says_no_tick log c.args.s c.args.now c.max-tick.result has tick c.if-tick-gt-MAX_TICK.true)

pub returns-in-Ok-clause-answer : goal.returns-in-Ok-clause-answer
returns-in-Ok-clause-answer c =
    let log = said c.args.log.now in
    let has : has_joined log.joins c.args.s ≡ false = ap (λ (js : Joins). has_joined js c.args.s) (sym c.joins.ensures) ∙ sym c.has-joined.ensures ∙ c.if-joined.false in
    let tick : c.max-tick.result ≡ max c.args.now (c.args.log.now.state.settled + 1) = omega (arith, c.max-tick.ensures, c.settled-first.ensures) in
    let says = says_joins log c.args.s c.args.now c.max-tick.result has tick c.if-tick-gt-MAX_TICK.false in
    let begins : c.settled-first.result + 1 ≡ suc log.settled = omega (arith, c.settled-first.ensures) in
    ap (λ (x : Known). Logged c.max-tick.result x) (c.in-Ok.ensures ∙ ap (λ n. silence n c.max-tick.result []) begins) ∙ sym says

pub returns-in-Ok-clause-planned : goal.returns-in-Ok-clause-planned
returns-in-Ok-clause-planned c =
    let log = said c.args.log.now in
    let has : has_joined c.args.log.now.state.joins c.args.s ≡ false = ap (λ (js : Joins). has_joined js c.args.s) (sym c.joins.ensures) ∙ sym c.has-joined.ensures ∙ c.if-joined.false in
    let tick : c.max-tick.result ≡ max c.args.now (c.args.log.now.state.settled + 1) = omega (arith, c.max-tick.ensures, c.settled-first.ensures) in
    let begins : c.settled-first.result + 1 ≡ suc log.settled = omega (arith, c.settled-first.ensures) in (
      may_join c.args.log.now.state c.max-tick.result c.args.s (omega (arith, tick)) c.if-tick-gt-MAX_TICK.false c.requires.late has,
      c.in-Ok.ensures ∙ ap (λ n. silence n c.max-tick.result []) begins,
    )

pub returns-in-Err-clause-wants : goal.returns-in-Err-clause-wants
returns-in-Err-clause-wants c = λ _.
    let log = said c.args.log.now in
    let has : has_joined log.joins c.args.s ≡ false = ap (λ (js : Joins). has_joined js c.args.s) (sym c.joins.ensures) ∙ sym c.has-joined.ensures ∙ c.if-joined.false in
    let tick : c.max-tick.result ≡ max c.args.now (c.args.log.now.state.settled + 1) = omega (arith, c.max-tick.ensures, c.settled-first.ensures) in
    let says = says_joins log c.args.s c.args.now c.max-tick.result has tick c.if-tick-gt-MAX_TICK.false in
    is_logged _ (entry.Join c.max-tick.result c.args.s) (ap (λ (p : Joined). join_of p c.args.s) says)
