use Rattle.std.proofs.Common.{arith}
use Rattle.gr_event.proofs.Decoding.{told_text}
use Rattle.gr_event.proofs.decode.text_value_at.Goals as goal

pub returns-clause-value : goal.returns-clause-value
returns-clause-value c = (omega (arith, c.in_ok-text.ensures.whole), told_text c.is_text.result c.in_ok-text.text.now c.if-not-is_text.false c.is_text.ensures)
