use Rattle.std.proofs.Common.{◌++◌, codes, subst, sym}
use Rattle.gr_sched.specs.Plain.{Adds}
use Rattle.gr_sched.proofs.PlainLines.{deliver_adds}
use Rattle.gr_sched.proofs.plain.push_deliver.Goals as goal

pub returns : goal.returns
returns c names =
    subst (λ new. Adds names c.args.before (codes "deliver " ++ c.args.text.now) c.args.found.now 1 c.in-Some.rest.now new) (sym c.in_ok-push.ensures.pushed)
    (deliver_adds names c.args.before c.args.text.now c.in-Some.rest.now c.args.found.now c.in-Some.frame c.in-Some.ensures)
