-- The lines of one process among those of several: its frames are numbered by itself
use Rattle.std.specs.Prelude.{ℕ, suc, ◌+◌, if◌then◌else◌, List, [], ◌∷◌}
use Rattle.gr_model.specs.declared.report.Report.{Report}
use Rattle.gr_model.specs.declared.report.Report.TheVariants as line
use Rattle.gr_model.specs.Headline.{is_sent, sent_count}

-- the line of a frame with this number; any other line as it is
abbrev pub renumbered : ℕ → Report → Report
renumbered n (line.SentKnow k from to p runs js) = line.SentKnow n from to p runs js
renumbered n (line.SentWant k from to p runs) = line.SentWant n from to p runs
renumbered n (line.SentExpect k from to p tick) = line.SentExpect n from to p tick
renumbered n l = l

-- lines with their frames numbered from n on
abbrev pub numbered_on : ℕ → List Report → List Report
numbered_on n [] = []
numbered_on n (l ∷ ls) = renumbered n l ∷ numbered_on (if is_sent l then suc n else n) ls

-- groups of lines with their frames numbered from n on, one group after another
abbrev pub numbered_groups : ℕ → List (List Report) → List (List Report)
numbered_groups n [] = []
numbered_groups n (g ∷ gs) = numbered_on n g ∷ numbered_groups (n + sent_count g) gs
