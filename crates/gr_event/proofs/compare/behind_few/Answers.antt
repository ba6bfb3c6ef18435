use Rattle.std.proofs.Common.{sym, ◌∙◌, rules}
use Rattle.gr_event.proofs.Found.{found_plain}
use Rattle.gr_event.proofs.compare.behind_few.Goals as goal

pub bytes-preserved : goal.bytes-preserved
bytes-preserved c = λ end more.
    let plain = sym c.is_plain.ensures ∙ c.if-not-is_plain.false in
    c.bytes.invariant end (found_plain c.args.inside.now c.bytes.byte-index _ _ end (search rules) plain c.in_ok-left.ensures more)
