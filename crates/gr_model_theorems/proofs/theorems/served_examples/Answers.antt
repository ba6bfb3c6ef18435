use Rattle.gr_model_theorems.proofs.server.ServedExample.{served_examples}
use Rattle.gr_model_theorems.proofs.theorems.served_examples.Goals as goal

pub returns : goal.returns
returns c = served_examples
