use Rattle.std.proofs.Common.{sym, ◌∙◌, length, arith}
use Rattle.gr_topo.specs.Topology.{address_of}
use Rattle.gr_top.specs.Hosting.{is_unaddressed}
use Rattle.gr_top.proofs.HostingLemmas.{find_later, addressed}
use Rattle.gr_top.proofs.hosting.unaddressed_in.Goals as goal

pub brokers-preserved : goal.brokers-preserved
brokers-preserved c =
    let here = addressed (λ a. a.now) c.address.result (address_of c.args.topo.now c.brokers.b) c.is_none.result c.address.ensures c.is_none.ensures c.if-is_none.false in
    sym (find_later (is_unaddressed c.args.topo.now) c.brokers.b (length c.args.topo.now.brokers) (omega arith) here) ∙ c.brokers.invariant
