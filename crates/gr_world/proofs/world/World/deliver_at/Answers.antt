-- The call is one of the frame's receiver, taken up by the world
use Rattle.std.proofs.Common.{◌<◌, length, arith}
use Rattle.gr_world.specs.contracts.world.World.{the_view}
use Rattle.gr_world.specs.Seen.{frame_said}
use Rattle.gr_world.proofs.Called.{read_fits}
use Rattle.gr_world.proofs.Received.{Place, deliver_in, place_spelled, place_to, place_broker, place_received, does_deliver, ran_deliver, logs_deliver}
use Rattle.gr_world.proofs.world.World.deliver_at.Goals as goal

pub receiver-to-requires : goal.receiver-to-requires
receiver-to-requires c =
    place_spelled (the_view c.self.inside) c.args.self.now c.args.i c.frame-bytes.result.now (record { same = c.self.view_is; fits = c.requires.fits; is_open = c.requires.«open»; there = c.frame-bytes.ensures })

pub index_mut-requires : goal.index_mut-requires
index_mut-requires c =
    let within : c.receiver-to.result < length c.self.inside.brokers.items =
    place_broker (the_view c.self.inside) c.args.self.now c.args.i c.frame-bytes.result.now (record { same = c.self.view_is; fits = c.requires.fits; is_open = c.requires.«open»; there = c.frame-bytes.ensures })
    c.receiver-to.result c.receiver-to.ensures in
    omega (arith, within)

pub receive-answer-requires : goal.receive-answer-requires
receive-answer-requires c =
    let within : c.receiver-to.result < length c.self.inside.topology.brokers =
    place_to (the_view c.self.inside) c.args.self.now c.args.i c.frame-bytes.result.now (record { same = c.self.view_is; fits = c.requires.fits; is_open = c.requires.«open»; there = c.frame-bytes.ensures })
    c.receiver-to.result c.receiver-to.ensures in
    record { fits = read_fits (the_view c.self.inside) c.args.self.now c.receiver-to.result c.index_mut.result.now c.self.view_is c.requires.fits within c.index_mut.ensures.value }

pub take_receipt-requires : goal.take_receipt-requires
take_receipt-requires c = (
  deliver_in (the_view c.self.inside) (frame_said c.frame-bytes.result.now),
  place_received (the_view c.self.inside) c.args.self.now c.args.i c.frame-bytes.result.now (record { same = c.self.view_is; fits = c.requires.fits; is_open = c.requires.«open»; there = c.frame-bytes.ensures }) c.receiver-to.result c.index_mut.result.now c.receive-answer.new.self c.receive-answer.result
      c.receiver-to.ensures c.index_mut.ensures.value c.frames_pass_the_log.ensures.log c.frames_pass_the_log.ensures.rest c.clashes_have_a_least_tick.ensures c.receive-answer.ensures.says,
)

-- What the world answers and leaves

place : (c : goal.After-take_receipt) → Place (the_view c.self.inside) c.args.self.now c.args.i c.frame-bytes.result.now
place c = record { same = c.self.view_is; fits = c.requires.fits; is_open = c.requires.«open»; there = c.frame-bytes.ensures }

pub returns-clause-does : goal.returns-clause-does
returns-clause-does c =
    does_deliver (the_view c.self.inside) c.args.self.now c.args.i c.frame-bytes.result.now (place c) c.receiver-to.result c.index_mut.result.now c.receive-answer.new.self c.receive-answer.result
    c.receiver-to.ensures c.index_mut.ensures.value c.frames_pass_the_log.ensures.log c.frames_pass_the_log.ensures.rest c.clashes_have_a_least_tick.ensures c.receive-answer.ensures.says
    c.take_receipt.new.frames c.take_receipt.result c.every_topology_is_a_tree.ensures.tree c.receive-answer.ensures.after c.receive-answer.ensures.err c.receive-answer.ensures.fits
    c.take_receipt.ensures.follows c.take_receipt.ensures.takes

pub returns-clause-ran : goal.returns-clause-ran
returns-clause-ran c =
    ran_deliver (the_view c.self.inside) c.args.self.now c.args.i c.frame-bytes.result.now (place c) c.receiver-to.result c.index_mut.result.now c.receive-answer.new.self c.receive-answer.result
    c.receiver-to.ensures c.index_mut.ensures.value c.frames_pass_the_log.ensures.log c.frames_pass_the_log.ensures.rest c.clashes_have_a_least_tick.ensures c.receive-answer.ensures.says
    c.take_receipt.new.frames c.take_receipt.result c.every_topology_is_a_tree.ensures.tree c.receive-answer.ensures.after c.receive-answer.ensures.err c.receive-answer.ensures.fits
    c.take_receipt.ensures.follows c.take_receipt.ensures.takes

pub returns-clause-logs : goal.returns-clause-logs
returns-clause-logs c = λ p below.
    logs_deliver (the_view c.self.inside) c.args.self.now c.args.i c.frame-bytes.result.now (place c) c.receiver-to.result c.index_mut.result.now c.receive-answer.new.self c.receive-answer.result
    c.receiver-to.ensures c.index_mut.ensures.value c.frames_pass_the_log.ensures.log c.frames_pass_the_log.ensures.rest c.clashes_have_a_least_tick.ensures c.receive-answer.ensures.says
    c.take_receipt.new.frames c.take_receipt.result c.every_topology_is_a_tree.ensures.tree c.receive-answer.ensures.after c.receive-answer.ensures.err c.receive-answer.ensures.fits
    c.take_receipt.ensures.follows c.take_receipt.ensures.takes p
