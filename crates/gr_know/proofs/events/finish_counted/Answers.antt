use Rattle.std.proofs.Common.{arith}
use Rattle.gr_know.proofs.Counting.{count_finished}
use Rattle.gr_know.proofs.events.finish_counted.Goals as goal

pub overflow_sub-result : goal.overflow_sub-result
overflow_sub-result c =
    omega (arith, c.requires.counted, c.events_in-before.ensures, count_finished c.args.stream.now.runs c.set_range.new.self.runs c.args.first c.args.last c.requires.from_one c.requires.ordered c.requires.upto c.len.ensures.canonical c.len.ensures.in_range c.set_range.ensures.put)

pub returns-clause-counted : goal.returns-clause-counted
returns-clause-counted c =
    omega (arith, c.requires.counted, c.events_in-before.ensures, count_finished c.args.stream.now.runs c.set_range.new.self.runs c.args.first c.args.last c.requires.from_one c.requires.ordered c.requires.upto c.len.ensures.canonical c.len.ensures.in_range c.set_range.ensures.put)
