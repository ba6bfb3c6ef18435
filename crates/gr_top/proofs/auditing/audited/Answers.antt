use Rattle.std.proofs.Common.{arith}
use Rattle.gr_top.proofs.AuditLemmas.{few_bytes}
use Rattle.gr_top.proofs.auditing.audited.Goals as goal

pub audit-requires-clause-short : goal.audit-requires-clause-short
audit-requires-clause-short c =
    let few = few_bytes c.args.bytes.now c.args.topo.now c.args.steps.now c.requires.asked in
    omega (arith, few, c.split.ensures.within)
