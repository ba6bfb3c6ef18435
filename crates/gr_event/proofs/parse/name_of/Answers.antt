use Rattle.std.proofs.Common.{rules, ap, ◌∙◌}
use Rattle.std.proofs.lemmas.Str.{IsUtf8-string_bytes}
use Rattle.gr_event.proofs.parse.name_of.Goals as goal

pub returns-clause-name : goal.returns-clause-name
returns-clause-name c =
    let is = c.from_vec.ensures ∙ ap (λ v. v.items) c.into_bytes.ensures.value in
    rw is (search rules, search rules, IsUtf8-string_bytes c.args.name)
