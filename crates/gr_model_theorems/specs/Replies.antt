-- The refusals of a schedule's steps, the bytes that it shows and the numbers of its frames, read off the schedule and
-- the lines alone
use Rattle.std.specs.Prelude.{◌≡◌, ℕ, suc, Bool, true, false, if◌then◌else◌, List, [], ◌∷◌, map, filter, Option, Some}
use Rattle.std.specs.Prelude.{None}
use Rattle.gr_frame.specs.declared.Body.TheVariants as body
use Rattle.gr_frame.specs.declared.Frame.{Frame}
use Rattle.gr_frame.specs.Bytes.{frame_bytes}
use Rattle.gr_sched.specs.declared.step.Step.TheVariants as step
use Rattle.gr_sched.specs.declared.step.Line.{Line}
use Rattle.gr_model.specs.declared.report.Report.{Report}
use Rattle.gr_model.specs.declared.report.Report.TheVariants as line
use Rattle.gr_model.specs.Net.{Net, numbers_from}
use Rattle.gr_model.specs.Headline.{History, begin, history_after, may_crash, is_swept, sweep_at, is_sent, sent_number}
use Rattle.gr_model.specs.Headline.{sent_count, line_of_frame}

-- the line refuses its step, or shows the bytes of a frame
abbrev pub is_reply : Report → Bool
is_reply (line.RefusedHosts n b) = true
is_reply (line.RefusedFrame n k sent) = true
is_reply (line.RefusedClock n m) = true
is_reply (line.BytesOf k bytes) = true
is_reply _ = false

-- the frame that a sent line tells
abbrev pub frame_of_line : Report → Option Frame
frame_of_line (line.SentKnow n from to p runs js) =
    Some (record { head = record { from = from; to = to; publisher = p }; body = body.Knowledge runs js })
frame_of_line (line.SentWant n from to p runs) =
    Some (record { head = record { from = from; to = to; publisher = p }; body = body.Curiosity runs })
frame_of_line (line.SentExpect n from to p tick) =
    Some (record { head = record { from = from; to = to; publisher = p }; body = body.Expect tick })
frame_of_line _ = None

-- the bytes of the frame that a sent line tells
abbrev pub shown_bytes : ℕ → Report → List Report
shown_bytes k s = elim (frame_of_line s) [ Some f ↦ line.BytesOf k (frame_bytes f) ∷ [] | None ↦ [] ]

-- What a step is replied. A broker with a subscriber is not crashed, nor its publisher stopped; a frame that was not
-- sent is neither delivered nor shown; a sweep does not move the clock past the last tick. A frame that was sent is
-- shown as the bytes of what its sent line tells.
unfoldable pub replies : Net → History → Line → List Report
replies net h l =
    elim l.step [
      | step.Publish p number stop e ↦ elim stop [
        | None ↦ []
        | Some s ↦ if may_crash net (net.host p) then []
            else line.RefusedHosts l.number (net.host p) ∷ []
      ]
      | step.Crash b ↦ if may_crash net b then [] else line.RefusedHosts l.number b ∷ []
      | step.Deliver k ↦ elim (line_of_frame k h.lines) [
        | None ↦ line.RefusedFrame l.number k (sent_count h.lines) ∷ []
        | Some s ↦ []
      ]
      | step.Bytes k ↦ elim (line_of_frame k h.lines) [
        | None ↦ line.RefusedFrame l.number k (sent_count h.lines) ∷ []
        | Some s ↦ shown_bytes k s
      ]
      | step.Sweep ↦ if is_swept net h then [] else line.RefusedClock l.number (sweep_at net h) ∷ []
      | _ ↦ []
    ]

-- of one step: its replies, and frames numbered on from those sent before
pub record StepReplied (net : Net) (h : History) (l : Line) (ls : List Report) : Type 0 where
  pub replied : filter is_reply ls ≡ replies net h l
  pub numbered : map sent_number (filter is_sent ls) ≡ numbers_from (suc (sent_count h.lines)) (sent_count ls)

-- the same of each step
abbrev pub Replied_from : Net → History → List Line → List (List Report) → Type 0
Replied_from net h [] [] = Unit {0}
Replied_from net h (l ∷ ls) (r ∷ rs) = StepReplied net h l r × Replied_from net (history_after net h l r) ls rs
Replied_from net h [] (r ∷ rs) = ⊥
Replied_from net h (l ∷ ls) [] = ⊥

-- the replies of every step of a report, whose first list is of the start and empty
abbrev pub Replied : Net → List Line → List (List Report) → Type 0
Replied net steps [] = ⊥
Replied net steps (r ∷ rs) = (r ≡ []) × Replied_from net (begin net) steps rs
