use Rattle.std.proofs.Common.{refl}
use Rattle.gr_broker_relay.proofs.Whole.{taken_whole, taken_joined}
use Rattle.gr_broker_relay.proofs.learning.take_in.Goals as goal

pub returns-then-is_whole : goal.returns-then-is_whole
returns-then-is_whole c =
    taken_whole c.args.know.now.runs c.args.piece.now c.finish_each.new.know.runs c.args.done.now (c.if-is_whole.ensures refl) c.finish_each.ensures.finished

pub returns : goal.returns
returns c =
    taken_joined c.args.know.now.runs c.args.piece.now c.join.new.self.runs c.finish_each-2.new.know.runs c.args.done.now c.join.ensures.joined c.finish_each-2.ensures.finished
