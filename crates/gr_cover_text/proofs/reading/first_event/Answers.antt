use Rattle.std.proofs.Common.{arith}
use Rattle.gr_match_text.proofs.Lines.{few_pieces}
use Rattle.gr_cover_text.proofs.reading.first_event.Goals as goal

pub overflow_add-line_count : goal.overflow_add-line_count
overflow_add-line_count c = omega (arith, few_pieces c.split.result.0.now, c.line_count.ensures, c.split.ensures.within, c.requires)

pub next_counted-requires : goal.next_counted-requires
next_counted-requires c = omega (arith, few_pieces c.split.result.0.now, c.line_count.ensures, c.split.ensures.within, c.requires)
