use Rattle.std.proofs.Common.{arith}
use Rattle.gr_know.proofs.Counting.{count_past, count_fits}
use Rattle.gr_know.proofs.events.join_past.Goals as goal

pub overflow_add-result : goal.overflow_add-result
overflow_add-result c =
    let w = c.requires.past in
    let joined = count_past c.args.stream.now.runs c.join_ready.new.self.runs c.args.piece.now w.first c.len.ensures.canonical c.len.ensures.in_range c.len-2.ensures.canonical c.len-2.ensures.in_range c.join_ready.ensures.joined w.runs w.unknown in
    omega (arith, c.requires.counted, c.events_of.ensures, joined, count_fits c.join_ready.new.self.runs c.join_ready.ensures.joined.canonical c.join_ready.ensures.joined.in_range)

pub returns-clause-counted : goal.returns-clause-counted
returns-clause-counted c =
    let w = c.requires.past in
    let joined = count_past c.args.stream.now.runs c.join_ready.new.self.runs c.args.piece.now w.first c.len.ensures.canonical c.len.ensures.in_range c.len-2.ensures.canonical c.len-2.ensures.in_range c.join_ready.ensures.joined w.runs w.unknown in
    omega (arith, c.requires.counted, c.events_of.ensures, joined)
