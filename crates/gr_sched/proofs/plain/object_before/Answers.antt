use Rattle.std.proofs.Common.{arith, ◌+◌, sym, ◌∙◌}
use Rattle.std.proofs.lemmas.List.{take_rest}
use Rattle.gr_sched.proofs.PlainLines.{object_found}
use Rattle.gr_sched.proofs.plain.object_before.Goals as goal

pub returns-then-text-end-eq125 : goal.returns-then-text-end-eq125
returns-then-text-end-eq125 c =
    object_found c.args.text.now c.in-Some.end _ (sym c.in-Some.is ∙ c.find_end.ensures) (omega arith) (omega arith) (omega arith) (take_rest c.args.text.now (c.in-Some.end + 1))
