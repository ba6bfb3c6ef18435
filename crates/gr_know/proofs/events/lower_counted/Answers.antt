use Rattle.std.proofs.Common.{arith}
use Rattle.gr_know.proofs.Counting.{count_part, count_lowered}
use Rattle.gr_know.proofs.events.lower_counted.Goals as goal

pub overflow_sub-result : goal.overflow_sub-result
overflow_sub-result c =
    omega (arith, c.requires.counted, c.events_at-before.ensures, count_part c.args.stream.now.runs c.args.piece.now c.len.ensures.canonical c.len.ensures.in_range c.len-2.ensures.canonical c.len-2.ensures.in_range)

pub returns-clause-counted : goal.returns-clause-counted
returns-clause-counted c =
    omega (arith, c.requires.counted, c.events_at-before.ensures, count_lowered c.args.stream.now.runs c.lower_piece.new.self.runs c.args.piece.now c.len.ensures.canonical c.len.ensures.in_range c.len-2.ensures.canonical c.len-2.ensures.in_range c.lower_piece.ensures.lowered)
