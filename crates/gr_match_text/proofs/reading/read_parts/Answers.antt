use Rattle.std.proofs.Common.{arith}
use Rattle.gr_match_text.proofs.Lines.{few_pieces}
use Rattle.gr_match_text.proofs.reading.read_parts.Goals as goal

pub overflow_add-line_count : goal.overflow_add-line_count
overflow_add-line_count c = omega (arith, few_pieces c.args.front.now, c.line_count.ensures, c.requires)

pub read_behind-requires : goal.read_behind-requires
read_behind-requires c = omega (arith, few_pieces c.args.front.now, c.line_count.ensures, c.requires)
