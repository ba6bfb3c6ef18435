use Rattle.std.proofs.Common.{◌++◌, ap, sym, ◌∙◌}
use Rattle.std.proofs.lemmas.Result.{on_ok_weaker}
use Rattle.gr_event.proofs.Escapes.{plain_text}
use Rattle.gr_event.proofs.print.put_escaped.Goals as goal

pub returns-then-is_plain_text-clause-ok : goal.returns-then-is_plain_text-clause-ok
returns-then-is_plain_text-clause-ok c =
    on_ok_weaker c.append.result
    (λ e. e ∙ ap (λ xs. c.args.into.now ++ xs) (sym (plain_text c.args.text.now (sym c.is_plain_text.ensures ∙ c.if-is_plain_text.true))))
    c.append.ensures.ok
