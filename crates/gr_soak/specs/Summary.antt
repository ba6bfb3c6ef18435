-- What a soak counts over a report
use Rattle.std.specs.Prelude.{ℕ, Bool, true, false, ◌&&◌, not, nat_eq, List, [], None, unwrap_or}
use Rattle.std.specs.List.{count_by, sum_by, list_any, last_or}
use Rattle.gr_model.specs.declared.report.Report.{Report}
use Rattle.gr_model.specs.declared.report.Report.TheVariants.{Logged, Got, Frames, LogOf, Doubt}
use Rattle.gr_replay.specs.Replayed.{all_lines}
use Rattle.gr_soak.specs.declared.summary.Summary.{Summary}

unfoldable pub is_logged : Report → Bool
is_logged (Logged publisher number tick) = true
is_logged _ = false

unfoldable pub is_got : Report → Bool
is_got (Got subscriber publisher tick event) = true
is_got _ = false

-- how many frames a line says were sent so far; how many events it says a log keeps
unfoldable pub frames_told : Report → ℕ
frames_told (Frames count) = count
frames_told _ = 0

unfoldable pub kept_told : Report → ℕ
kept_told (LogOf publisher last settled cut kept) = kept
kept_told _ = 0

-- the line says that the log of p is settled up to h
unfoldable pub is_settled : ℕ → ℕ → Report → Bool
is_settled p h (LogOf publisher last settled cut kept) = nat_eq publisher p && nat_eq settled h
is_settled p h _ = false

-- a horizon other than what its publisher's log is settled up to, as it is shown beside it
unfoldable pub is_behind : List Report → Report → Bool
is_behind shown (Doubt broker publisher tick) = not (list_any (is_settled publisher tick) shown)
is_behind shown _ = false

-- the lines of the last step
abbrev pub last_lines : List (List Report) → List Report
last_lines steps = unwrap_or (last_or None steps) []

-- the counts over a report, its lines given step by step: over all of them, and over what the last step shows
abbrev pub summary_of : List (List Report) → Summary
summary_of steps =
    let shown = last_lines steps in
    record {
      logged = count_by is_logged (all_lines steps);
      frames = sum_by frames_told shown;
      got = count_by is_got (all_lines steps);
      behind = count_by (is_behind shown) shown;
      kept = sum_by kept_told shown;
    }
