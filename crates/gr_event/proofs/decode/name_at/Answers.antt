use Rattle.std.proofs.Common.{arith}
use Rattle.gr_event.proofs.Decoding.{told_text}
use Rattle.gr_event.proofs.decode.name_at.Goals as goal

pub returns-in-Less-clause-name : goal.returns-in-Less-clause-name
returns-in-Less-clause-name c = (omega (arith, c.in_ok-name.ensures.whole), omega (arith, c.in_ok-name.ensures.whole), told_text c.is_text.result c.in_ok-name.name.now c.if-not-is_text.false c.is_text.ensures)
