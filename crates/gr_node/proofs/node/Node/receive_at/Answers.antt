-- The broker gets the datagram at its place
use Rattle.gr_frame.specs.Decode.{frame_decoded}
use Rattle.gr_node.specs.Seen.{seen}
use Rattle.gr_node.proofs.Exchanged.{Place, placed}
use Rattle.gr_node.proofs.Receipts.{Receives, makes_receive, fits_receive, stands_receive}
use Rattle.gr_node.proofs.node.Node.receive_at.Goals as goal

pub receive-answer-requires : goal.receive-answer-requires
receive-answer-requires c = record { fits = c.requires.fits.fits c.args.b c.take_out-broker.result c.take_out-broker.ensures.was }

place : (c : goal.After-received) → Place c.args.topo.now (seen c.args.self.now) c.args.b c.take_out-broker.result c.receive-answer.new.self c.put_back.new.brokers.items
place c =
    placed c.args.topo.now (seen c.args.self.now) c.args.b c.take_out-broker.result c.receive-answer.new.self c.take_out-broker.new.brokers.items c.put_back.new.brokers.items
    c.requires.fits c.take_out-broker.ensures.was c.take_out-broker.ensures.left c.put_back.ensures

gives : (c : goal.After-received) → Receives c.args.topo.now c.args.self.now.now c.take_out-broker.result (frame_decoded c.args.bytes.now) c.receive-answer.new.self c.receive-answer.result
gives c = let e = c.receive-answer.ensures in record { says = e.says; after_is = e.after; fits = e.fits }

pub returns-clause-makes : goal.returns-clause-makes
returns-clause-makes c =
    makes_receive c.args.topo.now (seen c.args.self.now) c.args.b (frame_decoded c.args.bytes.now) c.take_out-broker.result c.receive-answer.new.self c.put_back.new.brokers.items
    (place c) c.receive-answer.result c.received.result c.received.ensures (gives c) c.every_topology_is_a_tree.ensures.tree c.every_topology_is_a_tree.ensures.orderly

pub returns-clause-fits : goal.returns-clause-fits
returns-clause-fits c =
    fits_receive c.args.topo.now (seen c.args.self.now) c.args.b (frame_decoded c.args.bytes.now) c.take_out-broker.result c.receive-answer.new.self c.put_back.new.brokers.items
    (place c) c.receive-answer.result c.received.result c.received.ensures (gives c)

pub returns-clause-stands : goal.returns-clause-stands
returns-clause-stands c =
    stands_receive c.args.topo.now (seen c.args.self.now) c.args.b (frame_decoded c.args.bytes.now) c.take_out-broker.result c.receive-answer.new.self c.put_back.new.brokers.items
    (place c) c.receive-answer.result c.received.result c.received.ensures (gives c)
