use Rattle.std.proofs.Common.{rules, refl, ap, sym, subst, ◌≡◌, ◌∙◌, Some, ℕ, List, [], codes, inl, inr, arith, slice_index}
use Rattle.clap.specs.Words.{Accepts, one_text, found_of, read_as, reading_of}
use Rattle.clap.specs.declared.builder.value_parser.ValueParser.{ValueParser}
use Rattle.clap.specs.declared.builder.value_parser.ValueParser.TheVariants as vp
use Rattle.clap.proofs.CallerReads.{one_required_read}
use Rattle.gr_top.proofs.WordLemmas.{narrowed}
use Rattle.gr_top.proofs.words.soak_command.Goals as goal

pub returns-clause-reads : goal.returns-clause-reads
returns-clause-reads c = λ m p.
    let arg = c.value_parser-count.result in
    let given = c.value_parser-count.ensures.given in
    let made : c.range.result ≡ vp.Unsigned 1 2000 = narrowed 2000 c.range.result _ _ (ap (λ z. Some z) c.new-2.ensures.start) (ap (λ z. Some z) c.new-2.ensures.end) (omega arith) (rw c.value_parser.ensures at c.range.ensures) in
    let is_q : given.0 ≡ vp.Unsigned 1 2000 = given.2 ∙ made in
    let name_id : arg.id.now ≡ codes "count" = search rules in
    let first : (t : List ℕ) → arg.id.now ≡ t → slice_index t 0 ≡ 99 = λ t e. rw (← e, name_id) refl in
    let read = one_required_read c.new-3.result c.in_ok-command.command arg m
    c.in_ok-command.ensures (search rules) (search rules) (search rules) (search rules) (search rules) (search rules) (search rules)
    (search rules) (search rules) (search rules)
    (λ e. let bad : 0 ≡ 99 = first [] e in absurd (omega arith))
    (λ auto. elim auto [
      | inl h ↦ let bad : 104 ≡ 99 = first _ h in absurd (omega arith)
      | inr h ↦ let bad : 118 ≡ 99 = first _ h in absurd (omega arith)
    ])
    given.0 given.1 p in
    let accepted = subst (λ (q : ValueParser). Accepts arg.ignore_case q read.0) is_q read.2 in
    let text = subst (λ (q : ValueParser). one_text (found_of m) arg.id.now ≡ Some (read_as (reading_of q) read.0)) is_q read.1 in
    (read.0, ap (one_text (found_of m)) (sym name_id) ∙ text, accepted)
