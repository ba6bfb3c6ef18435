use Rattle.std.proofs.Common.{ap, ◌∙◌, Option, List, ℕ, unwrap_or, [], codes}
use Rattle.clap.specs.Words.{found_of}
use Rattle.clap.proofs.WalkLemmas.{first_value-rows}
use Rattle.gr_top.proofs.words.publisher_in.Goals as goal

abbrev or_none : Option (List ℕ) → List ℕ
or_none o = unwrap_or o []

pub returns-in-Some : goal.returns-in-Some
returns-in-Some c = c.new.ensures ∙ ap or_none (c.in-Some.ensures ∙ first_value-rows (found_of c.args.matches.now) (codes "publisher"))

pub returns-in-None : goal.returns-in-None
returns-in-None c = c.new-in-None.ensures ∙ ap or_none (c.in-None.ensures ∙ first_value-rows (found_of c.args.matches.now) (codes "publisher"))
