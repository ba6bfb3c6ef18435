use Rattle.gr_note.proofs.Told.{spells}
use Rattle.gr_note.proofs.laws.decodes_its_spelling.Goals as goal

pub returns : goal.returns
returns c = λ n h. spells c.args.bytes.now n (λ i. (c.type_inv.bytes i).fits) h
