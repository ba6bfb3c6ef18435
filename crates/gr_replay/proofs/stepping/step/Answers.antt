use Rattle.std.proofs.Common.{◌≡◌, subst, ◌∙◌}
use Rattle.gr_model.specs.NetOf.{net_of, IsOrderly}
use Rattle.gr_model.specs.Tree.{IsNet}
use Rattle.gr_replay.proofs.AnswerNamed.{answer_named}
use Rattle.gr_replay.proofs.stepping.step.Goals as goal

pub returns-in-Ok-clause-named : goal.returns-in-Ok-clause-named
returns-in-Ok-clause-named g c =
    let topo : c.topology.result.now ≡ c.args.world.now.topo = c.topology.ensures ∙ c.call-answer.ensures.stays.topo in
    answer_named c.args.world.now c.call-answer.new.world c.args.line.now c.call-answer.result c.in-Ok.lines
    (subst (λ x. IsNet (net_of x)) topo c.every_topology_is_a_tree.ensures.tree) (subst (λ x. IsOrderly (net_of x)) topo c.every_topology_is_a_tree.ensures.orderly)
    c.requires.going.fits c.requires.step c.call-answer.ensures.makes c.in-Ok.ensures.lines
