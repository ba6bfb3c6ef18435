-- The steps of a schedule, by the grammar of its lines, or the first fault in reading order
use Rattle.std.specs.Prelude.{ℕ, if◌then◌else◌, List, [], ◌∷◌, codes, bytes_eq, Option, None, Some, Result, Ok, Err}
use Rattle.std.specs.List.{slice_get}
use Rattle.gr_event.specs.declared.event.Event.{Event}
use Rattle.gr_event.specs.declared.event.EventFault.{EventFault}
use Rattle.gr_event.specs.Json.{event_text}
use Rattle.gr_sched.specs.declared.fault.StepFault.{StepFault}
use Rattle.gr_sched.specs.declared.fault.StepFault.TheVariants.{BadWord, BadEvent, TooMany}
use Rattle.gr_sched.specs.declared.step.TheConstants.{MAX_NUMBER, MAX_STEPS}
use Rattle.gr_sched.specs.declared.step.Step.{Step}
use Rattle.gr_sched.specs.declared.step.Step.TheVariants.{Clock, Publish, Wake, Deliver, Crash, Sweep, Show, Bytes}
use Rattle.gr_sched.specs.declared.step.Step.TheVariants.{Join}
use Rattle.gr_sched.specs.declared.step.Stop.{Stop}
use Rattle.gr_sched.specs.declared.step.Line.{Line}
use Rattle.gr_sched.specs.declared.verb.Verb.{Verb}
use Rattle.gr_sched.specs.declared.verb.Verb.TheVariants as verb
use Rattle.gr_sched.specs.Naming.{Naming}
use Rattle.gr_sched.specs.Text.{counted_lines}
use Rattle.gr_sched.specs.Words.{◌>>=◌, trimmed, first_word, after_word, next_word, ended, known, next_number}

-- the nine step words
abbrev pub verb_of : List ℕ → Option Verb
verb_of word =
    if bytes_eq word (codes "clock") then Some verb.Clock
    else if bytes_eq word (codes "publish") then Some verb.Publish
    else if bytes_eq word (codes "wake") then Some verb.Wake
    else if bytes_eq word (codes "deliver") then Some verb.Deliver
    else if bytes_eq word (codes "crash") then Some verb.Crash
    else if bytes_eq word (codes "sweep") then Some verb.Sweep
    else if bytes_eq word (codes "show") then Some verb.Show
    else if bytes_eq word (codes "bytes") then Some verb.Bytes
    else if bytes_eq word (codes "join") then Some verb.Join
    else None

-- the next word as a name that is known, with what follows it
abbrev pub next_name : (List ℕ → Option ℕ) → ℕ → List ℕ → Result (ℕ × List ℕ) StepFault
next_name number_of n text = do
  word ← next_word n text
  number ← known n (number_of word.0)
  Ok (number, word.1)

-- `pick` in its place, with what follows it
abbrev pub after_pick : ℕ → List ℕ → Result (List ℕ) StepFault
after_pick n text = do
  word ← next_word n text
  if bytes_eq word.0 (codes "pick") then Ok word.1 else Err (BadWord n)

-- `K pick J`, with what follows it
abbrev pub stop_of : ℕ → List ℕ → Result (Stop × List ℕ) StepFault
stop_of n text = do
  call ← next_number n 1 4 text
  rest ← after_pick n call.1
  pick ← next_number n 0 255 rest
  Ok (record { call = call.0; pick = pick.0 }, pick.1)

-- `stop K pick J` where the next word is `stop`, else nothing, with what follows it
abbrev pub next_stop : ℕ → List ℕ → Result (Option Stop × List ℕ) StepFault
next_stop n text = if bytes_eq (first_word text) (codes "stop")
    then (stop_of n (after_word text) >>= λ stop. Ok (Some stop.0, stop.1)) else Ok (None, text)

-- the event of line n, or its fault
abbrev pub event_or_fault : ℕ → Result Event EventFault → Result Event StepFault
event_or_fault n (Ok event) = Ok event
event_or_fault n (Err fault) = Err (BadEvent n fault)

-- the rest of a line as an event; a missing event is a missing word
abbrev pub event_of : ℕ → List ℕ → Result Event StepFault
event_of n [] = Err (BadWord n)
event_of n (b ∷ bs) = event_or_fault n (event_text (b ∷ bs))

-- `P N EVENT` or `P N stop K pick J EVENT`
abbrev pub publish_of : Naming → ℕ → List ℕ → Result Step StepFault
publish_of names n text = do
  publisher ← next_name names.publisher n text
  number ← next_number n 1 MAX_NUMBER publisher.1
  stop ← next_stop n number.1
  event ← event_of n stop.1
  Ok (Publish publisher.0 number.0 stop.0 event)

-- what a step word asks for after it
abbrev pub step_by : Naming → ℕ → Verb → List ℕ → Result Step StepFault
step_by names n verb.Clock text = next_number n 0 MAX_NUMBER text >>= λ now.
    ended n now.1 (Clock now.0)
step_by names n verb.Publish text = publish_of names n text
step_by names n verb.Wake text = next_name names.broker n text >>= λ broker.
    ended n broker.1 (Wake broker.0)
step_by names n verb.Deliver text = next_number n 0 MAX_NUMBER text >>= λ frame.
    ended n frame.1 (Deliver frame.0)
step_by names n verb.Crash text = next_name names.broker n text >>= λ broker.
    ended n broker.1 (Crash broker.0)
step_by names n verb.Sweep text = ended n text Sweep
step_by names n verb.Show text = ended n text Show
step_by names n verb.Bytes text = next_number n 0 MAX_NUMBER text >>= λ frame.
    ended n frame.1 (Bytes frame.0)
step_by names n verb.Join text = do
  subscriber ← next_name names.joiner n text
  publisher ← next_name names.publisher n subscriber.1
  ended n publisher.1 (Join subscriber.0 publisher.0)

-- the step of line n
abbrev pub step_of : Naming → ℕ → List ℕ → Result Step StepFault
step_of names n line = do
  word ← next_word n (trimmed line)
  verb ← known n (verb_of word.0)
  step_by names n verb word.1

-- these lines, each with its step
abbrev pub lines_of : Naming → List (ℕ × List ℕ) → Result (List Line) StepFault
lines_of names [] = Ok []
lines_of names (counted ∷ more) = do
  step ← step_of names counted.0 counted.1
  lines ← lines_of names more
  Ok (record { number = counted.0; step = step } ∷ lines)

-- too many lines where there is one past the limit, and otherwise what reading gives
abbrev pub limited : Option (ℕ × List ℕ) → Result (List Line) StepFault → Result (List Line) StepFault
limited None read = read
limited (Some counted) read = Err (TooMany counted.0)

-- the steps of a schedule
abbrev pub steps_of : Naming → List ℕ → Result (List Line) StepFault
steps_of names bytes =
    limited (slice_get (counted_lines bytes) MAX_STEPS) (lines_of names (counted_lines bytes))
