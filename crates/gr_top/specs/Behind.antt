-- What is printed of a step, as its lines and more behind them
use Rattle.std.specs.Prelude.{◌≡◌, List, [], ◌∷◌, ◌++◌}
use Rattle.gr_model.specs.declared.report.Report.{Report}

-- step by step: what is printed are the lines of the step, and behind them more
abbrev pub AreBehind : List (List Report) → List (List Report) → List (List Report) → Type 0
AreBehind [] [] [] = Unit {0}
AreBehind (p ∷ printed) (l ∷ lines) (m ∷ more) = (p ≡ l ++ m) × AreBehind printed lines more
AreBehind _ _ _ = ⊥
