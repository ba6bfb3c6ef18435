-- Reading a frame field by field, with the place of the first fault
use Rattle.std.specs.Prelude.{ℕ, zero, suc, ◌+◌, ◌++◌, ◌==◌, ◌||◌, ◌&&◌, Bool, true, false, not, nat_lt, nat_le}
use Rattle.std.specs.Prelude.{bytes_eq, if◌then◌else◌, List, [], ◌∷◌, length, slice_index, slice_range, Option, Some, None}
use Rattle.std.specs.Prelude.{Result, Ok, Err}
use Rattle.std.specs.Int.{from_be_bytes, w16, w64}
use Rattle.gr_event.specs.declared.event.Event.{Event}
use Rattle.gr_event.specs.declared.event.EventFault.{EventFault}
use Rattle.gr_event.specs.declared.event.EventFault.TheVariants as event_fault
use Rattle.gr_event.specs.Decode.{event_decoded}
use Rattle.gr_event.specs.declared.limits.TheConstants.{MAX_JOINS}
use Rattle.gr_event.specs.declared.join.Join.{Join}
use Rattle.gr_event.specs.Joins.{Joins, has_joined, last_join_tick}
use Rattle.gr_tick.specs.declared.TheConstants.{MAX_TICK}
use Rattle.gr_tick.specs.declared.run.Run.{Run}
use Rattle.gr_know.specs.declared.values.K.{K}
use Rattle.gr_know.specs.declared.values.K.TheVariants.{S, D, F}
use Rattle.gr_know.specs.Values.{same_K}
use Rattle.gr_curio.specs.declared.values.Q3.{Q3}
use Rattle.gr_curio.specs.declared.values.Q3.TheVariants.{C, A}
use Rattle.gr_curio.specs.Values.{same_Q3}
use Rattle.gr_frame.specs.declared.TheConstants.{MAX_FRAME_BYTES, HEAD_BYTES, EXPECT_BYTES}
use Rattle.gr_frame.specs.declared.Body.{Body}
use Rattle.gr_frame.specs.declared.Body.TheVariants as body
use Rattle.gr_frame.specs.declared.Head.{Head}
use Rattle.gr_frame.specs.declared.Frame.{Frame}
use Rattle.gr_frame.specs.declared.value.BodyKind.{BodyKind}
use Rattle.gr_frame.specs.declared.value.BodyKind.TheVariants.{Knowledge, JoinedKnowledge, Curiosity, Expect}
use Rattle.gr_frame.specs.declared.fault.FrameKind.TheVariants.{TooLong, Short, BadMagic, BadVersion, BadKind, BadRange}
use Rattle.gr_frame.specs.declared.fault.FrameKind.TheVariants.{BadOrder, BadEvent, Trailing, BadJoins}
use Rattle.gr_frame.specs.declared.fault.FrameFault.{FrameFault}
use Rattle.gr_frame.specs.Bytes.{known_bytes, wanted_bytes, known_run_size, wanted_run_size, head_size}
use Rattle.gr_frame.specs.Form.{Form}
use Rattle.gr_frame.specs.Gives.{fault, out_of_memory, ◌>>=◌}

-- Fields

-- n bytes from a place on
abbrev pub field_at : List ℕ → ℕ → ℕ → Result (List ℕ) FrameFault
field_at bytes at n = if nat_le (at + n) (length bytes) then Ok (slice_range bytes at (at + n))
    else Err (fault Short (length bytes))

-- the byte at a place
abbrev pub byte_at : List ℕ → ℕ → Result ℕ FrameFault
byte_at bytes at = if nat_lt at (length bytes) then Ok (slice_index bytes at) else Err (fault Short (length bytes))

-- the number of two bytes at a place
abbrev pub u16_at : List ℕ → ℕ → Result ℕ FrameFault
u16_at bytes at = field_at bytes at 2 >>= λ f. Ok (from_be_bytes w16 f)

-- the number of eight bytes at a place
abbrev pub u64_at : List ℕ → ℕ → Result ℕ FrameFault
u64_at bytes at = field_at bytes at 8 >>= λ f. Ok (from_be_bytes w64 f)

-- the tick at a place, none below the least one
unfoldable pub tick_at : List ℕ → ℕ → ℕ → Result ℕ FrameFault
tick_at bytes at least = u64_at bytes at >>= λ t. if nat_lt t least || nat_lt MAX_TICK t then Err (fault BadRange at)
    else Ok t

-- Values

-- the fault of a frame whose event at a place does not decode
abbrev pub event_refused : ℕ → EventFault → FrameFault
event_refused at event_fault.Memory = out_of_memory
event_refused at _ = fault BadEvent at

-- the event that stood at a place
abbrev pub event_of : ℕ → Result Event EventFault → Result Event FrameFault
event_of at (Ok e) = Ok e
event_of at (Err f) = Err (event_refused at f)

-- the event behind its length of two bytes
unfoldable pub event_at : List ℕ → ℕ → Result Event FrameFault
event_at bytes at = do
  size ← u16_at bytes at
  form ← field_at bytes (at + 2) size
  event_of (at + 2) (event_decoded form)

-- what is known, by its kind
unfoldable pub known_of_kind : List ℕ → ℕ → ℕ → Result K FrameFault
known_of_kind bytes at k =
    if k == 1 then Ok S
    else (if k == 2 then (event_at bytes (at + 1) >>= λ e. Ok (D e))
    else (if k == 3 then Ok F
    else Err (fault BadKind at)))

-- what is known, behind its kind
unfoldable pub known_value_at : List ℕ → ℕ → Result K FrameFault
known_value_at bytes at = byte_at bytes at >>= known_of_kind bytes at

-- what is asked, by its kind
abbrev pub wanted_of_kind : ℕ → ℕ → Result Q3 FrameFault
wanted_of_kind at k = if k == 1 then Ok C else (if k == 2 then Ok A else Err (fault BadKind at))

unfoldable pub wanted_value_at : List ℕ → ℕ → Result Q3 FrameFault
wanted_value_at bytes at = byte_at bytes at >>= wanted_of_kind at

abbrev pub known_form : Form K
known_form = record { bytes = known_bytes; size = known_run_size; read = known_value_at; same = same_K }

abbrev pub wanted_form : Form Q3
wanted_form = record { bytes = wanted_bytes; size = wanted_run_size; read = wanted_value_at; same = same_Q3 }

-- Runs

-- the last of the runs, if there is one
abbrev pub last_run : {V : Type 0} → List (Run V) → Option (Run V)
last_run [] = None
last_run (r ∷ []) = Some r
last_run (r ∷ (s ∷ ss)) = last_run (s ∷ ss)

-- whether a run that begins at a tick lies above the one before
abbrev pub is_above : {V : Type 0} → Option (Run V) → ℕ → Bool
is_above None first = true
is_above (Some r) first = nat_lt r.last first

-- whether it only goes on with the one before: it touches that, and has the same value
abbrev pub goes_on : {V : Type 0} → (V → V → Bool) → Option (Run V) → ℕ → V → Bool
goes_on same None first v = false
goes_on same (Some r) first v = (suc r.last == first) && same r.value v

-- the value of a run from first to last, which stands at a place
unfoldable pub run_with_ticks : {V : Type 0} → Form V → List ℕ → ℕ → Option (Run V) → ℕ → ℕ → Result (Run V) FrameFault
run_with_ticks form bytes at before first last = form.read bytes (at + 16) >>= λ v.
    if goes_on form.same before first v then Err (fault BadOrder at)
    else Ok (record { first = first; last = last; value = v })

-- a run: its first tick, its last tick and its value
unfoldable pub run_at : {V : Type 0} → Form V → List ℕ → ℕ → Option (Run V) → Result (Run V) FrameFault
run_at form bytes at before = do
  first ← tick_at bytes at 1
  last ← tick_at bytes (at + 8) first
  if is_above before first then run_with_ticks form bytes at before first last else Err (fault BadOrder at)

-- how many bytes a run takes
abbrev pub run_size : {V : Type 0} → Form V → Run V → ℕ
run_size form r = 16 + length (form.bytes r.value)

-- n runs from a place on, each above the one before, and then nothing
unfoldable pub runs_at : {V : Type 0} → Form V → List ℕ → ℕ → ℕ → Option (Run V) → Result (List (Run V)) FrameFault
runs_at form bytes zero at before = if at == length bytes then Ok [] else Err (fault Trailing at)
runs_at form bytes (suc n) at before = do
  run ← run_at form bytes at before
  rest ← runs_at form bytes n (at + run_size form run) (Some run)
  Ok (run ∷ rest)

-- Joins

-- the join of a subscriber whose tick stands behind its number, past the ticks of those before it
unfoldable pub join_of : List ℕ → ℕ → Joins → ℕ → Result Join FrameFault
join_of bytes at before subscriber = u64_at bytes (at + 2) >>= λ tick.
    if nat_le tick (last_join_tick before) || nat_lt MAX_TICK tick then Err (fault BadJoins (at + 2))
    else Ok (record { subscriber = subscriber; tick = tick })

-- a join, of a subscriber that has none before it
unfoldable pub join_at : List ℕ → ℕ → Joins → Result Join FrameFault
join_at bytes at before = u16_at bytes at >>= λ subscriber.
    if has_joined before subscriber then Err (fault BadJoins at) else join_of bytes at before subscriber

-- so many joins from a place on, each behind those before it
unfoldable pub joins_at : List ℕ → ℕ → ℕ → Joins → Result Joins FrameFault
joins_at bytes zero at before = Ok before
joins_at bytes (suc n) at before = do
  join ← join_at bytes at before
  joins_at bytes n (at + 10) (before ++ join ∷ [])

-- the list of a frame of version 2, behind its number
unfoldable pub list_at : List ℕ → Result Joins FrameFault
list_at bytes = u16_at bytes HEAD_BYTES >>= λ n. if n == 0 || nat_lt MAX_JOINS n then Err (fault BadJoins HEAD_BYTES)
    else joins_at bytes n (HEAD_BYTES + 2) []

-- Frames

-- what is known has version 2 where joins stand before it, and all else version 1
abbrev pub version_number : BodyKind → ℕ
version_number JoinedKnowledge = 2
version_number _ = 1

abbrev pub kind_number : BodyKind → ℕ
kind_number Knowledge = 1
kind_number JoinedKnowledge = 1
kind_number Curiosity = 2
kind_number Expect = 3

-- the kinds of version 1, and that of version 2
abbrev pub kind_of : ℕ → Result BodyKind FrameFault
kind_of k = if k == 1 then Ok Knowledge else (if k == 2 then Ok Curiosity
    else (if k == 3 then Ok Expect else Err (fault BadKind 3)))

abbrev pub joined_kind_of : ℕ → Result BodyKind FrameFault
joined_kind_of k = if k == 1 then Ok JoinedKnowledge else Err (fault BadKind 3)

-- the kind that a version has
abbrev pub kind_in : List ℕ → ℕ → Result BodyKind FrameFault
kind_in bytes version = if version == 1 then (byte_at bytes 3 >>= kind_of)
    else (if version == 2 then (byte_at bytes 3 >>= joined_kind_of) else Err (fault BadVersion 2))

-- the letters GK, the version and the kind
unfoldable pub kind_at : List ℕ → Result BodyKind FrameFault
kind_at bytes = do
  letters ← field_at bytes 0 2
  version ← if bytes_eq letters (71 ∷ (75 ∷ [])) then byte_at bytes 2 else Err (fault BadMagic 0)
  kind_in bytes version

-- who sends to whom, of which publisher
unfoldable pub head_at : List ℕ → Result Head FrameFault
head_at bytes = do
  from ← u16_at bytes 4
  to ← u16_at bytes 6
  publisher ← u16_at bytes 8
  Ok (record { from = from; to = to; publisher = publisher })

abbrev pub is_Expect : BodyKind → Bool
is_Expect Expect = true
is_Expect _ = false

-- how many runs follow; an Expect has the count 1
unfoldable pub count_at : List ℕ → BodyKind → Result ℕ FrameFault
count_at bytes k = u16_at bytes 10 >>= λ n. if n == 0 || (is_Expect k && not (n == 1)) then Err (fault BadRange 10)
    else Ok n

-- the tick of an Expect, and then nothing
unfoldable pub expect_at : List ℕ → Result Body FrameFault
expect_at bytes = tick_at bytes HEAD_BYTES 1 >>= λ t.
    if EXPECT_BYTES == length bytes then Ok (body.Expect t) else Err (fault Trailing EXPECT_BYTES)

-- what is known, behind its joins
unfoldable pub knowledge_behind : List ℕ → ℕ → Joins → Result Body FrameFault
knowledge_behind bytes n js = runs_at known_form bytes n (head_size js) None >>= λ rs. Ok (body.Knowledge rs js)

unfoldable pub body_at : List ℕ → BodyKind → ℕ → Result Body FrameFault
body_at bytes Knowledge n = runs_at known_form bytes n HEAD_BYTES None >>= λ rs. Ok (body.Knowledge rs [])
body_at bytes JoinedKnowledge n = list_at bytes >>= knowledge_behind bytes n
body_at bytes Curiosity n = runs_at wanted_form bytes n HEAD_BYTES None >>= λ rs. Ok (body.Curiosity rs)
body_at bytes Expect n = expect_at bytes

-- the fields of a frame in their order
unfoldable pub fields_of : List ℕ → Result Frame FrameFault
fields_of bytes = do
  k ← kind_at bytes
  head ← head_at bytes
  count ← count_at bytes k
  body ← body_at bytes k count
  Ok (record { head = head; body = body })

-- the frame that the bytes spell, or the first fault
unfoldable pub frame_decoded : List ℕ → Result Frame FrameFault
frame_decoded bytes = if nat_lt MAX_FRAME_BYTES (length bytes) then Err (fault TooLong MAX_FRAME_BYTES) else fields_of bytes
