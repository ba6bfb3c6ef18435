-- A row has a blank before a line: each line has a word.
use Rattle.std.proofs.Common.{◌≡◌, ℕ, List, [], ◌∷◌, ◌++◌, length, set, refl, ap, sym, ◌∙◌}
use Rattle.std.proofs.Math.Seq.{set-append_seam}
use Rattle.std.proofs.lemmas.List.{append_assoc}
use Rattle.gr_topo.specs.Topology.{TopologyView}
use Rattle.gr_model.specs.declared.report.Report.{Report}
use Rattle.gr_model.specs.declared.report.Report.TheVariants.{Opened, Logged, Already, Gap, Exhausted, Joined, AlreadyJoined, ExhaustedJoin, Kept, Lost, Mark, Cut, Reclaimed, Got, Horizon, Ordered, SentKnow, SentWant, SentExpect, Crashed, Swept, RefusedHosts, RefusedFrame, RefusedClock, DroppedNotFrame, DroppedStray, DroppedSplit, DroppedClash, DroppedBadNote, DroppedStrayNote, Damaged, Frames, LogOf, Doubt, BytesOf}
use Rattle.gr_model.specs.Text.{labels_of, row_of, whole_line}

-- a row with the line's end is a blank and the line
pub line_in_row : (t : TopologyView) (report : Report) → row_of t report ++ 10 ∷ [] ≡ 32 ∷ whole_line (labels_of t) report
line_in_row t (Opened publisher last settled cut) = refl
line_in_row t (Logged publisher number tick) = refl
line_in_row t (Already publisher number) = refl
line_in_row t (Gap publisher number next) = refl
line_in_row t (Exhausted publisher number) = refl
line_in_row t (Joined subscriber publisher tick) = refl
line_in_row t (AlreadyJoined subscriber publisher) = refl
line_in_row t (ExhaustedJoin subscriber publisher) = refl
line_in_row t (Kept publisher number tick) = refl
line_in_row t (Lost publisher number tick) = refl
line_in_row t (Mark publisher tick) = refl
line_in_row t (Cut publisher tick) = refl
line_in_row t (Reclaimed publisher generation) = refl
line_in_row t (Got subscriber publisher tick event) = refl
line_in_row t (Horizon subscriber publisher tick) = refl
line_in_row t (Ordered subscriber publisher tick event) = refl
line_in_row t (SentKnow number from to publisher runs js) = refl
line_in_row t (SentWant number from to publisher runs) = refl
line_in_row t (SentExpect number from to publisher tick) = refl
line_in_row t (Crashed broker) = refl
line_in_row t (Swept moment) = refl
line_in_row t (RefusedHosts line broker) = refl
line_in_row t (RefusedFrame line frame sent) = refl
line_in_row t (RefusedClock line moment) = refl
line_in_row t (DroppedNotFrame broker fault at) = refl
line_in_row t (DroppedStray broker from to publisher) = refl
line_in_row t (DroppedSplit broker at kept came) = refl
line_in_row t (DroppedClash broker tick kept came) = refl
line_in_row t (DroppedBadNote broker fault at) = refl
line_in_row t (DroppedStrayNote broker publisher) = refl
line_in_row t (Damaged publisher at) = refl
line_in_row t (Frames count) = refl
line_in_row t (LogOf publisher last settled cut kept) = refl
line_in_row t (Doubt broker publisher tick) = refl
line_in_row t (BytesOf frame bytes) = refl

-- a line's words and the line's end put a blank and the line behind what a row has
pub line_behind : (t : TopologyView) (report : Report) (start row ended : List ℕ) → row ≡ start ++ row_of t report → ended ≡ row ++ 10 ∷ [] → ended ≡ start ++ 32 ∷ whole_line (labels_of t) report
line_behind t report start row ended words end =
    end ∙ ap (λ xs. xs ++ 10 ∷ []) words ∙ append_assoc start (row_of t report) (10 ∷ []) ∙ ap (λ xs. start ++ xs) (line_in_row t report)

-- a line behind the bytes before, its blank in the place of the last of them
pub behind_last : (held init row bytes line : List ℕ) (last : ℕ) → held ≡ init ++ last ∷ [] → row ≡ init ++ 32 ∷ line → bytes ≡ set row (length init) last → bytes ≡ held ++ line
behind_last held init row bytes line last h r b = b ∙ ap (λ xs. set xs (length init) last) r ∙ set-append_seam init 32 line last ∙ sym (append_assoc init (last ∷ []) line) ∙ ap (λ xs. xs ++ line) (sym h)
