use Rattle.std.proofs.Common.{◌∙◌, sym, ap, subst, Err, option_map}
use Rattle.gr_topo.specs.declared.fault.TopoFault.TheVariants.{Missing}
use Rattle.gr_topo.specs.Draft.{draft_lists}
use Rattle.gr_topo.specs.Gives.{Gives}
use Rattle.gr_topo.proofs.Documents.{without_brokers, named, unnamed}
use Rattle.gr_topo.proofs.read.draft_topology.Goals as goal

pub returns-in-Some : goal.returns-in-Some
returns-in-Some c =
    let said = ap (option_map (λ v. v.items)) (sym c.take.ensures.value ∙ c.in-Some.is) in
    subst (λ r. Gives (λ t. t) c.topology_of.result r) (without_brokers c.in-Some.brokers.items (draft_lists c.args.draft) _ ∙ sym (named (draft_lists c.args.draft) c.in-Some.brokers.items said)) c.topology_of.ensures

pub returns-in_ok-from_slice-in-None : goal.returns-in_ok-from_slice-in-None
returns-in_ok-from_slice-in-None c =
    unnamed (draft_lists c.args.draft) (ap (option_map (λ v. v.items)) (sym c.take.ensures.value ∙ c.in-None.is)) ∙ ap (λ k. Err (Missing k)) (sym c.in_ok-from_slice-in-None.ensures)
