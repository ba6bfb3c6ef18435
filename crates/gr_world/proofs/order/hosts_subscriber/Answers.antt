use Rattle.std.proofs.Common.{[], refl, ◌∙◌, sym, nat_eq, length, arith, eq-eqb, ne_eqb}
use Rattle.gr_topo.specs.Topology.{home_of, subscribers_of}
use Rattle.gr_topo.proofs.TreeLists.{starts, some_passes, none_passes, skips_here}
use Rattle.gr_world.proofs.order.hosts_subscriber.Goals as goal

pub loop-s-init : goal.loop-s-init
loop-s-init c = starts (λ s. nat_eq (home_of c.args.topology.now s) c.args.b) [] (length c.args.topology.now.subscribers) refl

pub returns-then-at-b : goal.returns-then-at-b
returns-then-at-b c = some_passes (λ s. nat_eq (home_of c.args.topology.now s) c.args.b) (subscribers_of c.args.topology.now c.args.b) c.loop-s.s (length c.args.topology.now.subscribers) c.loop-s.invariant (omega arith)
    (eq-eqb (home_of c.args.topology.now c.loop-s.s) c.args.b (sym c.at.ensures.home ∙ c.if-at-b.true))

pub loop-s-preserved : goal.loop-s-preserved
loop-s-preserved c = skips_here (λ s. nat_eq (home_of c.args.topology.now s) c.args.b) (subscribers_of c.args.topology.now c.args.b) c.loop-s.s (length c.args.topology.now.subscribers) c.loop-s.invariant (omega arith)
    (ne_eqb (home_of c.args.topology.now c.loop-s.s) c.args.b (λ e. c.if-at-b.false (c.at.ensures.home ∙ e)))

pub returns : goal.returns
returns c = none_passes (λ s. nat_eq (home_of c.args.topology.now s) c.args.b) (subscribers_of c.args.topology.now c.args.b) c.loop-s.s (length c.args.topology.now.subscribers) c.loop-s.invariant (omega arith)
