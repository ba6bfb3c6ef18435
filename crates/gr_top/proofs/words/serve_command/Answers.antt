use Rattle.std.proofs.Common.{rules, arith, refl, subst, ap₂, ◌≡◌, ◌∙◌, ℕ, List, [], codes, inl, inr, Some, slice_index, true, bytes_eq}
use Rattle.clap.specs.Lexer.{usize_max}
use Rattle.clap.specs.Words.{rule_of, with_rule, one_text, found_of}
use Rattle.clap.specs.declared.builder.value_parser.ValueParser.TheVariants as vp
use Rattle.gr_top.specs.Words.{brokers_rule}
use Rattle.gr_top.proofs.TwoRequired.{first_required_read}
use Rattle.gr_top.proofs.WordLemmas.{given_range}
use Rattle.gr_top.proofs.words.serve_command.Goals as goal

pub returns-clause-app : goal.returns-clause-app
returns-clause-app c =
    let range_is : c.num_args-brokers.result.num_vals ≡ Some (record { start_inclusive = 1; end_inclusive = usize_max }) =
    given_range _ _ _ c.num_args-brokers.ensures.1 (λ w h. h) in
    let brokers_is : rule_of c.num_args-brokers.result ≡ brokers_rule = search (rules, range_is) in
    c.in_ok-command.ensures.shape (search rules)
    ∙ ap₂ with_rule (c.in_ok-arg.ensures.shape c.turns_argument-turns.ensures.own ∙ ap₂ with_rule c.new-2.ensures.app c.turns_argument-turns.ensures.rule) brokers_is

pub returns-clause-reads : goal.returns-clause-reads
returns-clause-reads c = λ m p.
    let arg = c.turns_argument-turns.result in
    let is = c.turns_argument-turns.ensures in
    let other = c.num_args-brokers.result in
    let other_id : other.id.now ≡ codes "brokers" = search rules in
    let first : (t : List ℕ) → arg.id.now ≡ t → slice_index t 0 ≡ 116 = λ t e. rw (← e, is.id) refl in
    let apart : bytes_eq other.id.now arg.id.now ≡ true → ⊥ = λ h. let bad = rw (other_id, is.id) at h in cc in
    let read = first_required_read c.new-2.result c.in_ok-arg.field-0 c.in_ok-command.command arg other m
    c.in_ok-arg.ensures c.in_ok-command.ensures (search rules) (search rules) (search rules) (search rules) is.plain (search rules) is.own (search rules)
    is.required is.set is.whole is.some
    (λ e. let bad : 0 ≡ 116 = first [] e in absurd (omega arith))
    (λ auto. elim auto [
      | inl h ↦ let bad : 104 ≡ 116 = first _ h in absurd (omega arith)
      | inr h ↦ let bad : 118 ≡ 116 = first _ h in absurd (omega arith)
    ])
    apart (vp.Unsigned 1 1000000) is.reader p in
    (read.0, subst (λ (id : List ℕ). one_text (found_of m) id ≡ Some read.0) is.id read.1, read.2)
