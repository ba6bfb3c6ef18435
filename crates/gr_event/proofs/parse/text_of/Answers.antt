use Rattle.std.proofs.Common.{arith, ap, ◌∙◌}
use Rattle.std.proofs.lemmas.Str.{IsUtf8-string_bytes}
use Rattle.gr_event.proofs.parse.text_of.Goals as goal

pub returns-clause-value : goal.returns-clause-value
returns-clause-value c =
    let is = c.from_vec.ensures ∙ ap (λ v. v.items) c.into_bytes.ensures.value in
    rw is (omega (arith, c.len.ensures), IsUtf8-string_bytes c.args.text)
