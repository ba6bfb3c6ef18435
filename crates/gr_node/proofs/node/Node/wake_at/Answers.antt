-- The broker is woken at its place
use Rattle.std.proofs.Common.{◌<◌, ap, subst, sym}
use Rattle.gr_broker.specs.Told.{log_answer}
use Rattle.gr_node.specs.Seen.{seen}
use Rattle.gr_node.proofs.Exchanged.{Place, placed}
use Rattle.gr_node.proofs.Called.{Wakes, makes_wake, fits_wake, stands_wake, others_wake}
use Rattle.gr_node.proofs.Kept.{wake_keeps}
use Rattle.gr_node.proofs.node.Node.wake_at.Given.{Over}
use Rattle.gr_node.proofs.node.Node.wake_at.Goals as goal

pub wake-answer-requires-clause-fits : goal.wake-answer-requires-clause-fits
wake-answer-requires-clause-fits g c = c.requires.fits.fits c.args.b c.take_out-broker.result c.take_out-broker.ensures.was

pub wake-answer-requires-clause-publisher : goal.wake-answer-requires-clause-publisher
wake-answer-requires-clause-publisher g c =
    let fits = c.requires.fits.fits c.args.b c.take_out-broker.result c.take_out-broker.ensures.was in
    subst (λ k. c.args.p < k) (sym fits.views) c.requires.publisher

pub wake-answer-requires-clause-stands : goal.wake-answer-requires-clause-stands
wake-answer-requires-clause-stands g c = λ tells. c.requires.stands tells c.args.b c.take_out-broker.result c.take_out-broker.ensures.was

place : (g : Over) (c : goal.After-answered g) → Place c.args.topo.now (seen c.args.self.now) c.args.b c.take_out-broker.result c.wake-answer.new.self c.put_back.new.brokers.items
place g c =
    placed c.args.topo.now (seen c.args.self.now) c.args.b c.take_out-broker.result c.wake-answer.new.self c.take_out-broker.new.brokers.items c.put_back.new.brokers.items
    c.requires.fits c.take_out-broker.ensures.was c.take_out-broker.ensures.left c.put_back.ensures

gives : (g : Over) (c : goal.After-answered g) → Wakes c.args.topo.now c.take_out-broker.result c.args.p c.args.self.now.now c.wake-answer.new.self c.wake-answer.result
gives g c = let e = c.wake-answer.ensures in record { told = e.told; leaves = e.leaves; fits = e.fits }

pub returns-clause-makes : goal.returns-clause-makes
returns-clause-makes g c =
    makes_wake c.args.topo.now (seen c.args.self.now) c.args.b c.args.p c.take_out-broker.result c.wake-answer.new.self c.put_back.new.brokers.items
    (place g c) c.requires.publisher c.wake-answer.result c.answered.result c.answered.ensures (gives g c) c.every_topology_is_a_tree.ensures.tree c.every_topology_is_a_tree.ensures.orderly

pub returns-clause-fits : goal.returns-clause-fits
returns-clause-fits g c =
    fits_wake c.args.topo.now (seen c.args.self.now) c.args.b c.args.p c.take_out-broker.result c.wake-answer.new.self c.put_back.new.brokers.items
    (place g c) c.requires.publisher c.wake-answer.result c.answered.result c.answered.ensures (gives g c)

pub returns-clause-stands : goal.returns-clause-stands
returns-clause-stands g c = λ tells.
    let e = c.wake-answer.ensures in
    stands_wake c.args.topo.now (seen c.args.self.now) c.args.b c.args.p c.take_out-broker.result c.wake-answer.new.self c.put_back.new.brokers.items
    (place g c) c.requires.publisher c.wake-answer.result c.answered.result c.answered.ensures (gives g c)
    (g.D.Disk.lane_of c.args.disk.now) (g.D.Disk.lane_of c.wake-answer.new.disk) (λ none m. ap (λ d. g.D.Disk.lane_of d m) (e.below none)) (e.uses.disk.others tells) (c.requires.stands tells) (e.stands tells)

pub returns-clause-others : goal.returns-clause-others
returns-clause-others g c = λ tells.
    let e = c.wake-answer.ensures in
    others_wake c.args.topo.now (seen c.args.self.now) c.args.b c.args.p c.take_out-broker.result c.wake-answer.new.self c.put_back.new.brokers.items
    (place g c) c.requires.publisher c.wake-answer.result c.answered.result c.answered.ensures (gives g c)
    (g.D.Disk.lane_of c.args.disk.now) (g.D.Disk.lane_of c.wake-answer.new.disk) (λ none m. ap (λ d. g.D.Disk.lane_of d m) (e.below none)) (e.uses.disk.others tells)

pub returns-clause-kept : goal.returns-clause-kept
returns-clause-kept g c = λ tells.
    let e = c.wake-answer.ensures in
    wake_keeps c.args.topo.now (seen c.args.self.now) c.requires.fits c.args.b c.args.p c.take_out-broker.result c.take_out-broker.ensures.was c.requires.publisher
    (g.D.Disk.lane_of c.args.disk.now) (g.D.Disk.lane_of c.wake-answer.new.disk) (log_answer c.wake-answer.result)
    (e.uses.goes_on tells) (e.uses.disk.others tells) (λ none m. ap (λ d. g.D.Disk.lane_of d m) (e.below none)) (e.lane tells)
