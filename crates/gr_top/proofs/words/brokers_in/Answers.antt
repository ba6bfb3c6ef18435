use Rattle.std.proofs.Common.{ap, ◌∙◌, Option, List, ℕ, unwrap_or, [], codes}
use Rattle.std.proofs.lemmas.Result.{IfOk-weaker}
use Rattle.clap.specs.Words.{found_of}
use Rattle.clap.proofs.WalkLemmas.{raw_values-rows}
use Rattle.gr_top.proofs.words.brokers_in.Goals as goal

abbrev or_none : Option (List (List ℕ)) → List (List ℕ)
or_none o = unwrap_or o []

pub returns-in-Some : goal.returns-in-Some
returns-in-Some c =
    IfOk-weaker c.from_slice.result _ _ (λ b e. e ∙ ap or_none (c.in-Some.ensures ∙ raw_values-rows (found_of c.args.matches.now) (codes "brokers"))) c.from_slice.ensures

pub returns-in-None : goal.returns-in-None
returns-in-None c =
    IfOk-weaker c.from_slice-in-None.result _ _ (λ b e. e ∙ ap or_none (c.in-None.ensures ∙ raw_values-rows (found_of c.args.matches.now) (codes "brokers"))) c.from_slice-in-None.ensures
