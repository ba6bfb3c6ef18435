use Rattle.std.proofs.Common.{◌++◌, ◌∙◌, ap, sym}
use Rattle.std.proofs.lemmas.Option.{IfSome_then}
use Rattle.gr_event.proofs.Escapes.{plain_text}
use Rattle.gr_event.proofs.compare.behind_many.Goals as goal

pub returns : goal.returns
returns c =
    let plain = sym c.are_all_plain.ensures ∙ c.if-not-are_all_plain.false in
    IfSome_then c.behind_bytes.result c.behind_bytes.ensures (λ left found. found ∙ ap (λ xs. xs ++ left.now) (sym (plain_text c.args.inside.now plain)))
