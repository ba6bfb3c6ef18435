use Rattle.std.proofs.lemmas.Option.{IfSome_then}
use Rattle.gr_event.proofs.Found.{found_whole}
use Rattle.gr_event.proofs.compare.behind_object.Goals as goal

pub returns : goal.returns
returns c =
    IfSome_then c.behind_members.result c.behind_members.ensures (λ left rest. λ ps h. found_whole ps _ _ left.now c.in_ok-behind_byte.ensures (rest ps h))
