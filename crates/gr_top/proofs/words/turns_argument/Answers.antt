use Rattle.std.proofs.Common.{rules, arith, ap, ◌≡◌, ◌∙◌, Some}
use Rattle.clap.specs.declared.builder.value_parser.ValueParser.TheVariants as vp
use Rattle.gr_top.proofs.WordLemmas.{narrowed}
use Rattle.gr_top.proofs.words.turns_argument.Goals as goal

pub returns-clause-rule : goal.returns-clause-rule
returns-clause-rule c =
    let given = c.value_parser-2.ensures.given in
    let made : c.range.result ≡ vp.Unsigned 1 1000000 = narrowed 1000000 c.range.result _ _ (ap (λ z. Some z) c.new-2.ensures.start) (ap (λ z. Some z) c.new-2.ensures.end) (omega arith) (rw c.value_parser.ensures at c.range.ensures) in
    let parser : c.value_parser-2.result.value_parser ≡ Some (vp.Unsigned 1 1000000) = given.1 ∙ ap (λ q. Some q) (given.2 ∙ made) in
    search (rules, parser)

pub returns-clause-reader : goal.returns-clause-reader
returns-clause-reader c =
    let given = c.value_parser-2.ensures.given in
    let made : c.range.result ≡ vp.Unsigned 1 1000000 = narrowed 1000000 c.range.result _ _ (ap (λ z. Some z) c.new-2.ensures.start) (ap (λ z. Some z) c.new-2.ensures.end) (omega arith) (rw c.value_parser.ensures at c.range.ensures) in
    given.1 ∙ ap (λ q. Some q) (given.2 ∙ made)
