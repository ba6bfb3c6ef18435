-- The text of a step: its word and what follows it, with one space between
use Rattle.std.specs.Prelude.{◌≡◌, ℕ, ◌<◌, ◌≤◌, true, not, List, [], ◌∷◌, ◌++◌, length, codes, Option, None, Some, Ok}
use Rattle.std.specs.Prelude.{IfSome}
use Rattle.std.specs.List.{list_all}
use Rattle.std.specs.Fmt.{decimal}
use Rattle.gr_event.specs.declared.event.Event.{Event}
use Rattle.gr_event.specs.Json.{event_text}
use Rattle.gr_sched.specs.declared.step.TheConstants.{MAX_NUMBER}
use Rattle.gr_sched.specs.declared.step.Step.{Step}
use Rattle.gr_sched.specs.declared.step.Step.TheVariants.{Clock, Publish, Wake, Deliver, Crash, Sweep, Show, Bytes}
use Rattle.gr_sched.specs.declared.step.Step.TheVariants.{Join}
use Rattle.gr_sched.specs.declared.step.Stop.{Stop}
use Rattle.gr_sched.specs.Naming.{Naming}
use Rattle.gr_sched.specs.Text.{is_gap}
use Rattle.gr_sched.specs.Ranges.{IsStop}

-- how brokers, publishers, late subscribers and events are written
pub record Writing : Type 0 where
  pub broker : ℕ → List ℕ
  pub publisher : ℕ → List ℕ
  pub subscriber : ℕ → List ℕ
  pub event : Event → List ℕ

-- a stop, if there is one, before what follows it
abbrev pub stop_text : Option Stop → List ℕ → List ℕ
stop_text None more = more
stop_text (Some stop) more = codes "stop " ++ (decimal stop.call
    ++ (codes " pick " ++ (decimal stop.pick ++ (codes " " ++ more))))

abbrev pub step_text : Writing → Step → List ℕ
step_text w (Clock now) = codes "clock " ++ decimal now
step_text w (Publish publisher number stop event) = codes "publish "
    ++ (w.publisher publisher ++ (codes " " ++ (decimal number ++ (codes " " ++ stop_text stop (w.event event)))))
step_text w (Wake broker) = codes "wake " ++ w.broker broker
step_text w (Deliver frame) = codes "deliver " ++ decimal frame
step_text w (Crash broker) = codes "crash " ++ w.broker broker
step_text w Sweep = codes "sweep"
step_text w Show = codes "show"
step_text w (Bytes frame) = codes "bytes " ++ decimal frame
step_text w (Join subscriber publisher) = codes "join "
    ++ (w.subscriber subscriber ++ (codes " " ++ w.publisher publisher))

-- some bytes, and neither a space nor a tab among them
pub record IsWord (word : List ℕ) : Type 0 where
  pub some : 0 < length word
  pub whole : list_all (λ b. not (is_gap b)) word ≡ true

-- the word by which a number is written, and which is known as it
pub record Names (number_of : List ℕ → Option ℕ) (word : List ℕ) (number : ℕ) : Type 0 where
  pub is_word : IsWord word
  pub known : number_of word ≡ Some number

-- a text that reads as the event, from '{' to '}'
pub record IsEventText (text : List ℕ) (event : Event) : Type 0 where
  pub inside : List ℕ
  pub braces : text ≡ 123 ∷ (inside ++ 125 ∷ [])
  pub reads : event_text text ≡ Ok event

-- the numbers of a step are in their ranges, and what it names is written so that it is known again
abbrev pub IsWritten : Naming → Writing → Step → Type 0
IsWritten names w (Clock now) = now ≤ MAX_NUMBER
IsWritten names w (Publish publisher number stop event) =
    Names names.publisher (w.publisher publisher) publisher × (1 ≤ number) × (number ≤ MAX_NUMBER) × IfSome stop IsStop
    × IsEventText (w.event event) event
IsWritten names w (Wake broker) = Names names.broker (w.broker broker) broker
IsWritten names w (Deliver frame) = frame ≤ MAX_NUMBER
IsWritten names w (Crash broker) = Names names.broker (w.broker broker) broker
IsWritten names w Sweep = Unit {0}
IsWritten names w Show = Unit {0}
IsWritten names w (Bytes frame) = frame ≤ MAX_NUMBER
IsWritten names w (Join subscriber publisher) =
    Names names.joiner (w.subscriber subscriber) subscriber × Names names.publisher (w.publisher publisher) publisher
