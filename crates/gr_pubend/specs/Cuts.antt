-- A cut of a log: a record, or, where the text has grown long enough, the log written anew
use Rattle.std.specs.Prelude.{◌≡◌, ℕ, suc, Bool, true, false, not, if◌then◌else◌, Option, Some, None, Result}
use Rattle.gr_publog.specs.declared.record.Record.TheVariants as entry
use Rattle.gr_publog.specs.declared.record.LogFault.{LogFault}
use Rattle.gr_publog.specs.State.{LogState, after_record}
use Rattle.gr_publog.specs.Views.{LogView, Lanes, appended, reclaimed, number_of}
use Rattle.gr_publog.specs.Calls.{Appends, Reclaims}
use Rattle.gr_pubend.specs.declared.cutting.Cutting.{Cutting}
use Rattle.gr_pubend.specs.declared.cutting.Cutting.TheVariants.{Recorded, Reclaimed}
use Rattle.gr_pubend.specs.Log.{reclaims}

-- whether a cut writes the log anew: from so many bytes of its text on, before the cut
abbrev pub cut_reclaims : LogView → ℕ → Bool
cut_reclaims l reclaim = reclaims reclaim l.size l.generation

-- the log cut at a tick
abbrev pub cut_view : ℕ → ℕ → LogView → LogView
cut_view reclaim tick l = if cut_reclaims l reclaim then reclaimed tick l else appended (entry.Cut tick) l

-- what a cut is answered
abbrev pub cutting_of : LogView → ℕ → Cutting
cutting_of l reclaim = if cut_reclaims l reclaim then Reclaimed (suc l.generation) else Recorded

-- the number of the lane that a cut calls: a record goes into the present one
abbrev pub cut_lane : LogView → ℕ → ℕ
cut_lane l reclaim = number_of l.lane (if cut_reclaims l reclaim then not l.second else l.second)

-- the log, and what it holds, cut at a tick or not
abbrev pub cut_if : Option ℕ → ℕ → LogView → LogView
cut_if None reclaim l = l
cut_if (Some tick) reclaim l = cut_view reclaim tick l

abbrev pub cut_state : Option ℕ → LogState → LogState
cut_state None s = s
cut_state (Some tick) s = after_record s (entry.Cut tick)

-- What a call that cuts a log at a tick, or does not, does to its lanes.
pub record Cuts {T : Type 0} (l : LogView) (cut : Option ℕ) (reclaim : ℕ) (before after : Lanes)
    (result : Result T LogFault) : Type 0 where
  pub none : cut ≡ None → after ≡ before
  pub recorded : (tick : ℕ) → cut ≡ Some tick → cut_reclaims l reclaim ≡ false
      → Appends l (Some (entry.Cut tick)) before after result
  pub reclaimed : (tick : ℕ) → cut ≡ Some tick → cut_reclaims l reclaim ≡ true → Reclaims l tick before after result
