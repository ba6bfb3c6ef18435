use Rattle.std.proofs.Common.{refl, arith}
use Rattle.gr_journal.proofs.Cuts.{word_cut, word_only}
use Rattle.gr_journal.proofs.words.cut.Goals as goal

pub returns-then-end-text-clause-words : goal.returns-then-end-text-clause-words
returns-then-end-text-clause-words c = word_cut c.args.text.now _ _ c.word_len-end.result c.word_len-end.ensures (omega arith) refl refl

pub returns-clause-words : goal.returns-clause-words
returns-clause-words c = word_only c.args.text.now c.word_len-end.result c.word_len-end.ensures (omega arith)
