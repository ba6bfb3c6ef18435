-- What a host's wake logs and tells: the tick of its mark, the lines of mark and cut, and what children are to expect
use Rattle.std.specs.Prelude.{ℕ, suc, nat_lt, if◌then◌else◌, List, [], ◌∷◌, Option, Some, None}
use Rattle.gr_frame.specs.declared.Frame.{Frame}
use Rattle.gr_curio.specs.Values.{Wanted}
use Rattle.gr_publog.specs.Views.{LogView}
use Rattle.gr_pubend.specs.declared.answers.Quieted.{Quieted}
use Rattle.gr_pubend.specs.declared.answers.Quieted.TheVariants.{NotYet, Marked}
use Rattle.gr_pubend.specs.Log.{Log, reclaims}
use Rattle.gr_model.specs.declared.report.Report.{Report}
use Rattle.gr_model.specs.declared.report.Report.TheVariants as line
use Rattle.gr_model.specs.Broker.{View, expect_frames}

-- the tick at which a time of silence is marked
abbrev pub tick_marked : Quieted → Option ℕ
tick_marked (Marked tick fresh) = Some tick
tick_marked NotYet = None

-- the line of a mark
abbrev pub mark_lines : ℕ → Option ℕ → List Report
mark_lines p None = []
mark_lines p (Some tick) = line.Mark p tick ∷ []

-- the lines of a cut of a log: where it is cut, and directly behind that where it is written anew
abbrev pub cut_lines : ℕ → ℕ → Option ℕ → Log → List Report
cut_lines p reclaim None log = []
cut_lines p reclaim (Some tick) log = line.Cut p tick
    ∷ (if reclaims reclaim log.size log.generation then line.Reclaimed p (suc log.generation) ∷ [] else [])

-- what the children are to expect, once something is settled
abbrev pub expected_frames : ℕ → ℕ → ℕ → List ℕ → List Wanted → List Frame
expected_frames p b settled cs ws = if nat_lt 0 settled then expect_frames p b settled cs ws else []

-- what is kept of a publisher that is here
pub record HostView : Type 0 where
  pub view : View
  pub log : LogView

abbrev pub host_with : View → LogView → HostView
host_with v l = record { view = v; log = l }
