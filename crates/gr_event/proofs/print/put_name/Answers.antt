use Rattle.std.proofs.Common.{◌++◌, ap, ◌∙◌, append_assoc}
use Rattle.std.proofs.lemmas.Result.{on_ok_weaker}
use Rattle.json.specs.Token.{key}
use Rattle.json.specs.Print.{quoted, separator}
use Rattle.gr_event.proofs.print.put_name.Goals as goal

pub returns-clause-ok : goal.returns-clause-ok
returns-clause-ok c =
    let name = c.args.name.now in
    let comma = separator c.args.after (key name) in
    on_ok_weaker c.put_quoted.result
    (λ e. e ∙ ap (λ xs. xs ++ quoted name) (c.in-Ok.ensures.ok name) ∙ append_assoc c.args.into.now comma (quoted name))
    c.put_quoted.ensures.ok
