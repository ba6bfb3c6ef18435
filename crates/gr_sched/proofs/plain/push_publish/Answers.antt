use Rattle.std.proofs.Common.{◌++◌, ◌∙◌, arith, codes, rules, subst, sym}
use Rattle.gr_sched.specs.Plain.{Adds}
use Rattle.gr_sched.proofs.PlainLines.{publish_adds}
use Rattle.gr_sched.proofs.plain.push_publish.Goals as goal

pub returns : goal.returns
returns g c =
    subst (λ new. Adds (g.N.Names.naming c.args.names.now) c.args.before (codes "publish " ++ c.args.text.now) c.args.found.now 1 c.in-Some-object_before.rest.now new) (sym c.in_ok-push.ensures.pushed)
    (publish_adds (g.N.Names.naming c.args.names.now) c.args.before c.args.text.now c.in-Some.name.now c.in-Some.behind.now c.in-Some-number_before.behind.now c.in-Some-object_before.object.now c.in-Some-object_before.rest.now c.args.found.now c.in-Some-publisher.publisher c.in-Some-number_before.number c.in-Ok.event
    c.in-Some.ensures (sym c.publisher.ensures ∙ c.in-Some-publisher.is) c.in-Some-number_before.ensures (omega arith) c.in-Some-object_before.ensures c.in-Ok.ensures (search rules))
