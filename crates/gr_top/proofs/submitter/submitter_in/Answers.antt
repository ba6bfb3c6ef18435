use Rattle.std.proofs.Common.{ℕ, IsSome, sym, subst}
use Rattle.gr_topo.specs.Topology.{address_of}
use Rattle.gr_top.proofs.HostingLemmas.{all_addressed}
use Rattle.gr_top.proofs.submitter.submitter_in.Goals as goal

pub returns-clause-able : goal.returns-clause-able
returns-clause-able c = record {
  publisher = c.in-Some.ensures.publisher;
  client = c.in-Some.ensures.client;
  addressed =
      subst (λ (b : ℕ). IsSome (address_of c.args.topo.now b)) c.host.ensures.host
      (all_addressed c.args.topo.now (sym c.in_default-unaddressed_in.ensures.first) c.host.result c.host.ensures.broker);
}
