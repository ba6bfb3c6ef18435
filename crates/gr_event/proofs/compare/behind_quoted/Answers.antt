use Rattle.std.proofs.lemmas.Option.{IfSome_then}
use Rattle.gr_event.proofs.Found.{found_quoted}
use Rattle.gr_event.proofs.compare.behind_quoted.Goals as goal

pub returns : goal.returns
returns c =
    IfSome_then c.behind_byte-2.result c.behind_byte-2.ensures
    (λ left closed. found_quoted c.args.inside.now c.args.text.now _ _ left.now c.in_ok-behind_byte.ensures c.in_ok-behind_plain.ensures closed)
