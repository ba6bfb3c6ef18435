use Rattle.std.proofs.Common.{ap, arith}
use Rattle.gr_curio.specs.Wants.{runs_of}
use Rattle.gr_broker_relay.specs.Branch.{Branch}
use Rattle.gr_broker.proofs.Fresh.{fresh_is}
use Rattle.gr_broker.proofs.starting.fresh_held.Goals as goal

pub returns-clause-view : goal.returns-clause-view
returns-clause-view c =
    let s = c.args.site.now in
    fresh_is s.topo.now s.publisher s.broker c.len.result c.args.know.runs c.args.joins (runs_of c.in_ok-wants.wants) c.new-2.result.runs c.new-3.result s.position.now.children.items
    c.in_ok-wants.ensures (omega (arith, c.len.ensures)) (ap (λ (x : Branch). x.children) c.requires.branch) c.new-2.ensures.runs c.new-3.ensures
