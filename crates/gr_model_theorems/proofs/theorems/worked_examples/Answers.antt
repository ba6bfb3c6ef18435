use Rattle.gr_model_theorems.proofs.headline.Examples.{examples}
use Rattle.gr_model_theorems.proofs.theorems.worked_examples.Goals as goal

pub returns : goal.returns
returns c = examples
