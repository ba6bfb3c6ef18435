use Rattle.gr_model_calls.proofs.rules.Determined.{determined}
use Rattle.gr_model_theorems.proofs.theorems.rules_determine.Goals as goal

pub returns : goal.returns
returns c = λ net p b n i j. determined net p b n i j
