use Rattle.std.proofs.Common.{◌∙◌, subst}
use Rattle.gr_model.specs.Tree.{IsNet}
use Rattle.gr_world.specs.Seen.{WorldView, net_in}
use Rattle.gr_world.proofs.Onward.{order_in, sweep_for_does}
use Rattle.gr_world.proofs.Barring.{host_inwards}
use Rattle.gr_world.proofs.Ending.{ends_sweep}
use Rattle.gr_world.proofs.ByCalls.{lanes_none}
use Rattle.gr_world.proofs.world.World.sweep_for.Goals as goal

pub phases-requires-clause-brokers : goal.phases-requires-clause-brokers
phases-requires-clause-brokers g c = order_in c.args.self.now c.args.p c.as_slice.result.now (c.as_slice.ensures ∙ c.in-Ok.ensures)

pub returns-clause-does : goal.returns-clause-does
returns-clause-does g c =
    sweep_for_does c.args.self.now c.phases.new.self c.args.p c.as_slice.result.now c.as_slice-2.result.now c.phases.result (c.as_slice.ensures ∙ c.in-Ok.ensures) (c.as_slice-2.ensures ∙ c.in-Ok-outwards.ensures) c.phases.ensures.does

pub returns-clause-bars : goal.returns-clause-bars
returns-clause-bars g c = λ d.
    c.phases.ensures.bars d (host_inwards c.args.self.now c.args.p c.as_slice.result.now (subst (λ (w : WorldView). IsNet (net_in w)) c.self.view_is c.every_topology_is_a_tree.ensures.tree) c.requires.publisher (c.as_slice.ensures ∙ c.in-Ok.ensures))

pub returns-clause-ends : goal.returns-clause-ends
returns-clause-ends g c = λ e.
    ends_sweep c.args.self.now c.phases.new.self c.args.p c.as_slice.result.now c.as_slice-2.result.now c.phases.result (c.as_slice.ensures ∙ c.in-Ok.ensures) (c.as_slice-2.ensures ∙ c.in-Ok-outwards.ensures) (c.phases.ensures.ends e)

-- a call that does not come to the disk

pub returns-in-Err-clause-calls : goal.returns-in-Err-clause-calls
returns-in-Err-clause-calls g c = lanes_none c.args.self.now.topo (g.D.Disk.lane_of c.args.disk.now)

pub returns-in-Err-outwards-clause-calls : goal.returns-in-Err-outwards-clause-calls
returns-in-Err-outwards-clause-calls g c = lanes_none c.args.self.now.topo (g.D.Disk.lane_of c.args.disk.now)
