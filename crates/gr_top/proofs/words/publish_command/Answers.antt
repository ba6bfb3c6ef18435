use Rattle.std.proofs.Common.{rules, arith, refl, subst, ap₂, ◌≡◌, ◌∙◌, ℕ, List, [], codes, inl, inr, Some, slice_index, true, bytes_eq}
use Rattle.clap.specs.Words.{rule_of, with_rule, one_text, found_of}
use Rattle.clap.specs.declared.builder.value_parser.ValueParser.TheVariants as vp
use Rattle.gr_top.specs.Words.{publisher_rule}
use Rattle.gr_top.proofs.TwoRequired.{second_required_read}
use Rattle.gr_top.proofs.words.publish_command.Goals as goal

pub returns-clause-app : goal.returns-clause-app
returns-clause-app c =
    let publisher_is : rule_of c.required-publisher.result ≡ publisher_rule = search rules in
    c.in_ok-command.ensures.shape c.turns_argument-turns.ensures.own
    ∙ ap₂ with_rule (c.in_ok-arg.ensures.shape (search rules) ∙ ap₂ with_rule c.new-2.ensures.app publisher_is) c.turns_argument-turns.ensures.rule

pub returns-clause-reads : goal.returns-clause-reads
returns-clause-reads c = λ m p.
    let other = c.required-publisher.result in
    let arg = c.turns_argument-turns.result in
    let is = c.turns_argument-turns.ensures in
    let other_id : other.id.now ≡ codes "publisher" = search rules in
    let first : (t : List ℕ) → arg.id.now ≡ t → slice_index t 0 ≡ 116 = λ t e. rw (← e, is.id) refl in
    let apart : bytes_eq other.id.now arg.id.now ≡ true → ⊥ = λ h. let bad = rw (other_id, is.id) at h in cc in
    let read = second_required_read c.new-2.result c.in_ok-arg.field-0 c.in_ok-command.command other arg m
    c.in_ok-arg.ensures c.in_ok-command.ensures (search rules) (search rules) (search rules) (search rules) (search rules) is.plain (search rules) is.own
    is.required is.set is.whole is.some
    (λ e. let bad : 0 ≡ 116 = first [] e in absurd (omega arith))
    (λ auto. elim auto [
      | inl h ↦ let bad : 104 ≡ 116 = first _ h in absurd (omega arith)
      | inr h ↦ let bad : 118 ≡ 116 = first _ h in absurd (omega arith)
    ])
    apart (vp.Unsigned 1 1000000) is.reader p in
    (read.0, subst (λ (id : List ℕ). one_text (found_of m) id ≡ Some read.0) is.id read.1, read.2)
