-- Reading and spelling are two ways to say the same
use Rattle.gr_frame.proofs.Told.{decoded_spells}
use Rattle.gr_frame.proofs.Spelled.{spelled_decodes}
use Rattle.gr_frame.proofs.laws.decodes_what_is_spelled.Goals as goal

pub returns : goal.returns
returns c = λ f. ((λ h. decoded_spells c.args.bytes.now f (λ i. (c.type_inv.bytes i).fits) h), (λ h. spelled_decodes c.args.bytes.now f h))
