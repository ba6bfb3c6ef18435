use Rattle.std.proofs.Common.{arith}
use Rattle.gr_know.proofs.Counting.{count_part, count_joined, count_fits}
use Rattle.gr_know.proofs.events.join_counted.Goals as goal

pub overflow_sub-result : goal.overflow_sub-result
overflow_sub-result c =
    omega (arith, c.requires.counted, c.events_at-before.ensures, count_part c.args.stream.now.runs c.args.piece.now c.len.ensures.canonical c.len.ensures.in_range c.len-2.ensures.canonical c.len-2.ensures.in_range)

pub overflow_add-result : goal.overflow_add-result
overflow_add-result c =
    let joined = count_joined c.args.stream.now.runs c.join_ready.new.self.runs c.args.piece.now c.len.ensures.canonical c.len.ensures.in_range c.len-2.ensures.canonical c.len-2.ensures.in_range c.join_ready.ensures.joined in
    omega (
      arith,
      c.requires.counted,
      c.events_at-before.ensures,
      c.events_at-after.ensures,
      joined,
      count_fits c.join_ready.new.self.runs c.join_ready.ensures.joined.canonical c.join_ready.ensures.joined.in_range,
      count_part c.args.stream.now.runs c.args.piece.now c.len.ensures.canonical c.len.ensures.in_range c.len-2.ensures.canonical c.len-2.ensures.in_range,
    )

pub returns-clause-counted : goal.returns-clause-counted
returns-clause-counted c =
    let joined = count_joined c.args.stream.now.runs c.join_ready.new.self.runs c.args.piece.now c.len.ensures.canonical c.len.ensures.in_range c.len-2.ensures.canonical c.len-2.ensures.in_range c.join_ready.ensures.joined in
    omega (
      arith,
      c.requires.counted,
      c.events_at-before.ensures,
      c.events_at-after.ensures,
      joined,
      count_part c.args.stream.now.runs c.args.piece.now c.len.ensures.canonical c.len.ensures.in_range c.len-2.ensures.canonical c.len-2.ensures.in_range,
    )
