-- The headline of a run over a journal: an arrival is a few steps of a schedule, and of those the headline holds
use Rattle.std.specs.Prelude.{◌≡◌, ◌⊎◌, ℕ, suc, ◌<◌, min, Bool, true, false, ◌&&◌, nat_eq, bytes_eq, if◌then◌else◌}
use Rattle.std.specs.Prelude.{List, [], ◌∷◌, ◌++◌, map, filter, Option, Some, None, Result, Ok, Err, flat_map, get_or}
use Rattle.gr_frame.specs.declared.Frame.{Frame}
use Rattle.gr_frame.specs.declared.fault.FrameFault.{FrameFault}
use Rattle.gr_frame.specs.Bytes.{frame_bytes}
use Rattle.gr_frame.specs.Decode.{frame_decoded}
use Rattle.gr_note.specs.declared.note.Note.{Note}
use Rattle.gr_note.specs.declared.fault.NoteFault.{NoteFault}
use Rattle.gr_note.specs.Fault as note
use Rattle.gr_note.specs.Bytes.{begins_note}
use Rattle.gr_note.specs.Decode.{note_decoded}
use Rattle.gr_sched.specs.declared.step.Line.{Line}
use Rattle.gr_sched.specs.declared.step.Step.{Step}
use Rattle.gr_sched.specs.declared.step.Step.TheVariants as step
use Rattle.gr_model.specs.declared.report.Report.{Report}
use Rattle.gr_model.specs.declared.report.Report.TheVariants as line
use Rattle.gr_model.specs.Net.{Net, numbers, numbers_from}
use Rattle.gr_model.specs.Broker.{Log, max_tick}
use Rattle.gr_model.specs.Opening.{publishers_at, begin_over}
use Rattle.gr_model_theorems.specs.Found.{told_at_opening}
use Rattle.gr_model.specs.World.{World, Transition, sent_lines}
use Rattle.gr_model_calls.specs.OneNet.{run_from, run_all, comes}
use Rattle.gr_model_theorems.specs.Obeys.{StepsObey}
use Rattle.gr_model_theorems.specs.ByRules.{RunByRules}
use Rattle.gr_model.specs.Arrivals.{Arrival, datagram, quiet, Publish, Request, asks_publish, asks_join, requests_of}
use Rattle.gr_model.specs.Arrivals.{left_after, fault_number}
use Rattle.gr_model.specs.Arrivals.{publisher_of, submitted_in}
use Rattle.gr_model.specs.Headline.{History, history, is_record_line, is_doubt_line, is_sent, sent_number}
use Rattle.gr_model.specs.Headline.{Holds_from_by}
use Rattle.gr_model.specs.Headline.{sent_count}
use Rattle.gr_model_theorems.specs.Replies.{frame_of_line, is_reply}

-- what came is bytes
abbrev pub IsOfBytes : Arrival → Type 0
IsOfBytes (datagram b bytes moment) = (i : ℕ) → get_or bytes i 0 < 256
IsOfBytes (quiet moment) = Unit {0}

-- An honest journal

-- the line says that a frame with these bytes was sent to the broker
abbrev pub tells_bytes : ℕ → List ℕ → Report → Bool
tells_bytes b bytes l = is_sent l && elim (frame_of_line l) [
  | Some f ↦ nat_eq f.head.to b
      && bytes_eq (frame_bytes f) bytes
  | None ↦ false
]

-- the number of the first frame of these bytes that was sent to the broker
abbrev pub number_of_bytes : ℕ → List ℕ → List Report → Option ℕ
number_of_bytes b bytes [] = None
number_of_bytes b bytes (l ∷ ls) = if tells_bytes b bytes l then Some (sent_number l) else number_of_bytes b bytes ls

-- a datagram that came is no frame, as notes are none, or has the bytes of a frame that was sent to the same broker
-- before; it may come again
abbrev pub IsHonestAt : List Report → Arrival → Type 0
IsHonestAt lines (datagram b bytes moment) = ((fault : FrameFault) × (frame_decoded bytes ≡ Err fault))
    ⊎ ((k : ℕ) × (number_of_bytes b bytes lines ≡ Some k))
IsHonestAt lines (quiet moment) = Unit {0}

-- each arrival, after the lines told so far; the reports are those of the arrivals
abbrev pub IsHonest : List Report → List Arrival → List (List Report) → Type 0
IsHonest lines [] rs = Unit {0}
IsHonest lines (a ∷ arrivals) [] = ⊥
IsHonest lines (a ∷ arrivals) (r ∷ rs) = IsHonestAt lines a × IsHonest (lines ++ r) arrivals rs

-- An arrival as steps of a schedule

abbrev pub as_line : Step → Line
as_line s = record { number = 0; step = s }

-- the publish or join that a quiet moment takes
abbrev pub request_step : List Request → List Line
request_step [] = []
request_step (asks_publish p number e ∷ left) = as_line (step.Publish p number None e) ∷ []
request_step (asks_join s p ∷ left) = as_line (step.Join s p) ∷ []

-- the datagram as the delivery of a frame; one that is no frame is none
abbrev pub delivery_step : Option ℕ → List Line
delivery_step None = []
delivery_step (Some k) = as_line (step.Deliver k) ∷ []

abbrev pub is_frame : Result Frame FrameFault → Bool
is_frame (Ok f) = true
is_frame (Err fault) = false

-- a note as the publish that it submits; any other is none
abbrev pub submitted_step : Option Publish → List Line
submitted_step None = []
submitted_step (Some x) = request_step (asks_publish x.0 x.1.0 x.1.1 ∷ [])

abbrev pub note_step : Net → ℕ → Result Note NoteFault → List Line
note_step net b (Err fault) = []
note_step net b (Ok n) = submitted_step (submitted_in net b n)

abbrev pub datagram_step : Net → List Report → ℕ → List ℕ → List Line
datagram_step net lines b bytes =
    elim (begins_note bytes) [
      | true ↦ note_step net b (note_decoded bytes)
      | false ↦ if is_frame (frame_decoded bytes) then delivery_step (number_of_bytes b bytes lines) else []
    ]

-- The clock moves to the moment of the arrival. A note is the publish that it submits, a datagram with the bytes of a
-- frame that was sent is the delivery of that frame, and a quiet moment is a publish or join, where one is left, and
-- then a wake of each of these brokers in order.
abbrev pub steps_at : Net → List ℕ → List Report → List Request → Arrival → List Line
steps_at net hosted lines left (datagram b bytes moment) =
    as_line (step.Clock (min moment max_tick)) ∷ datagram_step net lines b bytes
steps_at net hosted lines left (quiet moment) =
    as_line (step.Clock (min moment max_tick)) ∷ (request_step left ++ map (λ b. as_line (step.Wake b)) hosted)

-- where all brokers are hosted
abbrev pub steps_of_arrival : Net → List Report → List Request → Arrival → List Line
steps_of_arrival net lines left a = steps_at net (numbers net.brokers) lines left a

-- the line of a datagram that is no frame; it belongs to none of the steps
abbrev pub dropped_as : ℕ → Result Frame FrameFault → List Report
dropped_as b (Ok f) = []
dropped_as b (Err fault) = line.DroppedNotFrame b (fault_number fault.kind) fault.at ∷ []

-- that of a note that is none, or submits nothing
abbrev pub unsubmitted_as : ℕ → ℕ → Option Publish → List Report
unsubmitted_as b p None = line.DroppedStrayNote b p ∷ []
unsubmitted_as b p (Some x) = []

abbrev pub note_dropped_as : Net → ℕ → Result Note NoteFault → List Report
note_dropped_as net b (Err fault) = line.DroppedBadNote b (note.fault_number fault.kind) fault.at ∷ []
note_dropped_as net b (Ok n) = unsubmitted_as b (publisher_of n) (submitted_in net b n)

abbrev pub datagram_dropped : Net → ℕ → List ℕ → List Report
datagram_dropped net b bytes =
    elim (begins_note bytes) [
      | true ↦ note_dropped_as net b (note_decoded bytes)
      | false ↦ dropped_as b (frame_decoded bytes)
    ]

abbrev pub dropped_line : Net → Arrival → List Report
dropped_line net (datagram b bytes moment) = datagram_dropped net b bytes
dropped_line net (quiet moment) = []

-- lists one after another
abbrev pub joined : List (List Report) → List Report
joined parts = flat_map (λ r. r) parts

-- the line drops a datagram
abbrev pub is_dropped : Report → Bool
is_dropped (line.DroppedNotFrame b fault at) = true
is_dropped (line.DroppedStray b from to p) = true
is_dropped (line.DroppedSplit b at kept came) = true
is_dropped (line.DroppedClash b t kept came) = true
is_dropped (line.DroppedBadNote b fault at) = true
is_dropped (line.DroppedStrayNote b p) = true
is_dropped _ = false

-- An arrival at these brokers leaves the world of its steps and tells their lines, and then that of a datagram that is
-- dropped. Each call of the steps obeys its rule, and all that the steps leave and tell is by the rules
pub record DoesStepsAt (net : Net) (hosted : List ℕ) (w : World) (left : List Request) (a : Arrival)
    (steps : List Line) : Type 0 where
  pub world : (comes net hosted w left a).world ≡ (run_all net w steps).world
  pub lines : (comes net hosted w left a).lines ≡ (run_all net w steps).lines ++ dropped_line net a
  pub obey : StepsObey net w steps (run_from net w steps)
  pub by_rules : RunByRules net w steps (run_from net w steps) (run_all net w steps).world

-- where all brokers are hosted
abbrev pub DoesSteps : Net → World → List Request → Arrival → List Line → Type 0
DoesSteps net w left a steps = DoesStepsAt net (numbers net.brokers) w left a steps

-- So does each, in the world that those before it leave and after the lines told so far. The lines of frames tell all
-- frames of that world, numbered 1, 2, 3 and so on
abbrev pub AllDoSteps : Net → World → List Report → List Request → List Arrival → Type 0
AllDoSteps net w lines left [] = filter is_sent lines ≡ sent_lines 1 w.frames
AllDoSteps net w lines left (a ∷ arrivals) =
    (filter is_sent lines ≡ sent_lines 1 w.frames)
    × DoesSteps net w left a (steps_of_arrival net lines left a)
    × (let t : Transition = comes net (numbers net.brokers) w left a in
    AllDoSteps net t.world (lines ++ t.lines) (left_after left a) arrivals)

-- Of an arrival's lines as a whole: none drops a datagram but one that is no frame and submits nothing, none refuses or
-- shows bytes, and frames are numbered on from those sent before
pub record ArrivalTold (net : Net) (h : History) (a : Arrival) (ls : List Report) : Type 0 where
  pub dropped : filter is_dropped ls ≡ dropped_line net a
  pub unreplied : filter is_reply ls ≡ []
  pub numbered : map sent_number (filter is_sent ls) ≡ numbers_from (suc (sent_count h.lines)) (sent_count ls)

-- Of one arrival at these brokers, where Rest is to hold of the history after its steps; whom an event concerns is
-- asked of a net that the history shows
pub record ArrivalHoldsAt_by (at : History → Net) (net : Net) (hosted : List ℕ) (h : History) (left : List Request)
    (a : Arrival) (r : List Report) (Rest : History → Type 0) : Type 0 where
  pub told : ArrivalTold net h a r
  -- its lines are those of its steps, and then that of a datagram that is dropped
  pub parts : List (List Report)
  pub lines : r ≡ joined parts ++ dropped_line net a
  -- of its steps the headline holds
  pub steps : Holds_from_by at net h (steps_at net hosted h.lines left a) parts
  pub rest : Rest (history net h (steps_at net hosted h.lines left a) parts)

-- At the end all is shown, and nothing else is told
pub record ShowHolds_by (at : History → Net) (net : Net) (h : History) (r : List Report) : Type 0 where
  pub shown : r ≡ filter is_record_line r ++ filter is_doubt_line r
  pub steps : Holds_from_by at net h (as_line step.Show ∷ []) (r ∷ [])

-- So it is of each arrival, and of the end
abbrev pub HoldsServed_by : (History → Net) → Net → History → List Request → List Arrival → List (List Report) → Type 0
HoldsServed_by at net h left [] [] = ⊥
HoldsServed_by at net h left [] (r ∷ []) = ShowHolds_by at net h r
HoldsServed_by at net h left [] (r ∷ (s ∷ rs)) = ⊥
HoldsServed_by at net h left (a ∷ arrivals) [] = ⊥
HoldsServed_by at net h left (a ∷ arrivals) (r ∷ rs) =
    ArrivalHoldsAt_by at net (numbers net.brokers) h left a r (λ g.
    HoldsServed_by at net g (left_after left a) arrivals rs)

-- The headline of a run of all brokers over a journal. The opening tells each log that is not empty and what the
-- subscribers at its host get at once by a net of its own, and nothing else; then all of the above. The record begins
-- with what the logs say, and each subscriber starts at the cut that was found.
abbrev pub HeadlineServed_by : (History → Net) → Net → Net → List Log → List Line → List Arrival → List (List Report)
    → Type 0
HeadlineServed_by at first net logs steps arrivals [] = ⊥
HeadlineServed_by at first net logs steps arrivals (r ∷ rs) =
    (r ≡ flat_map (told_at_opening first logs) (publishers_at net (numbers net.brokers)))
    × HoldsServed_by at net (begin_over net logs r) (requests_of net (numbers net.brokers) steps) arrivals rs

-- The same where it is asked of one net

abbrev pub ArrivalHoldsAt : Net → List ℕ → History → List Request → Arrival → List Report → (History → Type 0)
    → Type 0
ArrivalHoldsAt net = ArrivalHoldsAt_by (λ _. net) net

-- where all brokers are hosted
abbrev pub ArrivalHolds : Net → History → List Request → Arrival → List Report → (History → Type 0) → Type 0
ArrivalHolds net h left a r Rest = ArrivalHoldsAt net (numbers net.brokers) h left a r Rest

abbrev pub ShowHolds : Net → History → List Report → Type 0
ShowHolds net = ShowHolds_by (λ _. net) net

abbrev pub HoldsServed : Net → History → List Request → List Arrival → List (List Report) → Type 0
HoldsServed net = HoldsServed_by (λ _. net) net

-- the journal of such a run is honest; the first of its reports is the opening
abbrev pub IsHonestRun : List Arrival → List (List Report) → Type 0
IsHonestRun arrivals [] = ⊥
IsHonestRun arrivals (r ∷ rs) = IsHonest r arrivals rs
