use Rattle.std.proofs.Common.{◌∙◌, ap, sym}
use Rattle.gr_topo.specs.Topology.{is_this}
use Rattle.gr_topo.proofs.Children.{child_test}
use Rattle.gr_topo.proofs.topology.Topology.is_child.Goals as goal

pub returns-in-Some : goal.returns-in-Some
returns-in-Some c = ap (λ o. is_this o c.args.b) (sym c.in-Some.is ∙ c.place.ensures.up) ∙ child_test c.args.self.now c.args.p c.args.b c.args.c c.place.ensures.topology c.requires.publisher c.requires.child

pub returns-in-None : goal.returns-in-None
returns-in-None c = ap (λ o. is_this o c.args.b) (sym c.in-None.is ∙ c.place.ensures.up) ∙ child_test c.args.self.now c.args.p c.args.b c.args.c c.place.ensures.topology c.requires.publisher c.requires.child
