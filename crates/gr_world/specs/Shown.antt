-- The lines of what is shown, one by one
use Rattle.std.specs.Prelude.{ℕ, if◌then◌else◌, List, [], ◌∷◌, flat_map}
use Rattle.gr_model.specs.declared.report.Report.{Report}
use Rattle.gr_model.specs.declared.report.Report.TheVariants as line
use Rattle.gr_model.specs.Net.{Net, keeps_horizon, numbers}
use Rattle.gr_model.specs.World.{World, log_of, view_of, kept_events}

-- the line of a publisher's log
abbrev pub log_shown : World → ℕ → Report
log_shown w p = let l = log_of w p in line.LogOf p l.last l.settled l.cut (kept_events l)

-- the line of a broker's horizon for a publisher, where it keeps one
abbrev pub horizon_shown : Net → World → ℕ → ℕ → List Report
horizon_shown net w b p = if keeps_horizon net p b then line.Doubt b p (view_of w b p).horizon ∷ [] else []

-- the lines of all horizons that a broker keeps
abbrev pub horizons_shown : Net → World → ℕ → List Report
horizons_shown net w b = flat_map (horizon_shown net w b) (numbers net.publishers)
