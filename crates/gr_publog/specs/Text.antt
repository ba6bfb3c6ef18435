-- The text of a lane: what a base and records spell, and what bytes stand for
use Rattle.std.specs.Prelude.{◌≡◌, ◌≢◌, ℕ, zero, suc, ◌+◌, ◌-◌, ◌<◌, ◌≤◌, Bool, true, false, ◌==◌, ◌&&◌, nat_le, nat_lt, not}
use Rattle.std.specs.Prelude.{if◌then◌else◌, List, [], ◌∷◌, ◌++◌, length, get_or, take, drop, Result, Ok, Err}
use Rattle.std.specs.Int.{Width, from_be_bytes, to_be_bytes, w16, w32, w64}
use Rattle.gr_event.specs.declared.event.Event.{Event as EventPairs}
use Rattle.gr_event.specs.declared.event.EventFault.{EventFault}
use Rattle.gr_event.specs.Event.{event_size, event_bytes}
use Rattle.gr_event.specs.Decode.{event_decoded}
use Rattle.gr_event.specs.declared.limits.TheConstants.{MAX_EVENT_BYTES, MAX_JOINS}
use Rattle.gr_event.specs.Joins.{Joins, last_join_tick}
use Rattle.gr_publog.specs.declared.record.Record.{Record}
use Rattle.gr_publog.specs.declared.record.Record.TheVariants.{Event, Mark, Cut, Join}
use Rattle.gr_publog.specs.declared.record.Base.{Base}
use Rattle.gr_publog.specs.declared.head.Standing.{Standing}
use Rattle.gr_publog.specs.declared.head.Standing.TheVariants.{Shut, Old, New}
use Rattle.gr_publog.specs.declared.record.State.{State}
use Rattle.gr_publog.specs.State.{LogState, Footing, empty_state, state_from, after_record, footing, may_settle, may_cut}
use Rattle.gr_publog.specs.State.{is_new, may_enter, Follow, AreHeld, max_tick}

-- Writing

-- a record: its kind, its tick and, of an event, its number, its size and its bytes, and of a join its subscriber
abbrev pub record_bytes : Record → List ℕ
record_bytes (Event tick number event) = 1 ∷ (to_be_bytes w64 tick
    ++ (to_be_bytes w64 number ++ (to_be_bytes w32 (event_size event) ++ event_bytes event)))
record_bytes (Mark tick) = 2 ∷ to_be_bytes w64 tick
record_bytes (Cut tick) = 3 ∷ to_be_bytes w64 tick
record_bytes (Join tick subscriber) = 4 ∷ (to_be_bytes w64 tick ++ to_be_bytes w16 subscriber)

-- how many bytes a record has
abbrev pub record_size : Record → ℕ
record_size (Event tick number event) = 21 + event_size event
record_size (Mark tick) = 9
record_size (Cut tick) = 9
record_size (Join tick subscriber) = 11

-- each record behind an open gate
abbrev pub blocks : List Record → List ℕ
blocks [] = []
blocks (r ∷ rs) = 1 ∷ (record_bytes r ++ blocks rs)

-- GLOG
abbrev pub glog : List ℕ
glog = 71 ∷ (76 ∷ (79 ∷ (71 ∷ [])))

-- GLOG, and the version 1, behind which the first record gate stands
abbrev pub old_stamp : List ℕ
old_stamp = 71 ∷ (76 ∷ (79 ∷ (71 ∷ (1 ∷ []))))

-- GLOG, and the version 2, behind which the lane gate stands
abbrev pub stamp : List ℕ
stamp = 71 ∷ (76 ∷ (79 ∷ (71 ∷ (2 ∷ []))))

-- a generation, from 1 to 2^62
abbrev pub is_generation : ℕ → Bool
is_generation g = nat_le 1 g && nat_le g max_tick

-- joins in front of the first record: the subscriber of each, and its tick
abbrev pub joins_bytes : Joins → List ℕ
joins_bytes [] = []
joins_bytes (j ∷ js) = to_be_bytes w16 j.subscriber ++ (to_be_bytes w64 j.tick ++ joins_bytes js)

-- what a lane of the second version begins with, from place 6 on: generation, last, cut, and the joins with their
-- number
abbrev pub base_bytes : Base → List ℕ
base_bytes b = to_be_bytes w64 b.generation ++ (to_be_bytes w64 b.last
    ++ (to_be_bytes w64 b.cut ++ (to_be_bytes w16 (length b.joins) ++ joins_bytes b.joins)))

-- everything up to the first record gate, with the lane gate open
abbrev pub front_of : Base → List ℕ
front_of b = stamp ++ 1 ∷ base_bytes b

-- what a lane holds before its first record, where these subscribers may join
abbrev pub begun : List ℕ → Base → LogState
begun late b = record { last = b.last; settled = b.cut; cut = b.cut; events = []; joins = b.joins; late = late }

-- What may stand there.
pub record IsBase (late : List ℕ) (b : Base) : Type 0 where
  pub low : 1 ≤ b.generation
  pub high : b.generation ≤ max_tick
  pub last : b.last ≤ b.cut
  pub cut : b.cut ≤ max_tick
  pub held : AreHeld late b.joins b.cut

-- bytes that are these, a closed gate, and anything behind it
pub record Closes (bytes front : List ℕ) : Type 0 where
  pub gate : ℕ
  pub tail : List ℕ
  pub closed : gate ≢ 1
  pub whole : bytes ≡ front ++ gate ∷ tail

-- A text: a front, the records that follow on a state, and a closed gate; anything may stand behind that.
pub record Spells (front : List ℕ) (start : LogState) (rs : List Record) (bytes : List ℕ) : Type 0 where
  pub text : Closes bytes (front ++ blocks rs)
  pub follow : Follow start rs

-- A lane of the second version whose text has this base and these records, where these subscribers may join.
pub record IsText (late : List ℕ) (bytes : List ℕ) (b : Base) (rs : List Record) : Type 0 where
  pub spells : Spells (front_of b) (begun late b) rs bytes
  pub base : IsBase late b

-- Reading, field by field. What is left is read; a fault carries the place, in a lane of so many bytes, of the field

infixl 10 ◌>>=◌
abbrev pub ◌>>=◌ : {A B : Type 0} → Result A ℕ → (A → Result B ℕ) → Result B ℕ
(Ok x) >>= f = f x
(Err at) >>= f = Err at

-- n bytes, and what is left
abbrev pub field_in : ℕ → ℕ → List ℕ → Result (List ℕ × List ℕ) ℕ
field_in total n rest = if nat_le n (length rest) then Ok (take n rest, drop n rest) else Err total

-- a number of n bytes that passes a test
abbrev pub number_in : ℕ → ℕ → Width → (ℕ → Bool) → List ℕ → Result (ℕ × List ℕ) ℕ
number_in total n w passes rest = field_in total n rest >>= λ x. if passes (from_be_bytes w x.0)
    then Ok (from_be_bytes w x.0, x.1) else Err (total - length rest)

-- the event that so many bytes spell
abbrev pub event_of : ℕ → Result EventPairs EventFault → Result EventPairs ℕ
event_of at (Ok e) = Ok e
event_of at (Err f) = Err at

unfoldable pub event_in : ℕ → ℕ → List ℕ → Result (EventPairs × List ℕ) ℕ
event_in total n rest = do
  x ← field_in total n rest
  e ← event_of (total - length rest) (event_decoded x.0)
  Ok (e, x.1)

-- an Event behind its kind
unfoldable pub logged_in : ℕ → State → List ℕ → Result (Record × List ℕ) ℕ
logged_in total n rest = do
  tick ← number_in total 8 w64 (may_settle n) rest
  number ← number_in total 8 w64 (λ x. x == n.last + 1) tick.1
  size ← number_in total 4 w32 (λ x. nat_le x MAX_EVENT_BYTES) number.1
  event ← event_in total size.0 size.1
  Ok (Event tick.0 number.0 event.0, event.1)

unfoldable pub mark_in : ℕ → State → List ℕ → Result (Record × List ℕ) ℕ
mark_in total n rest = number_in total 8 w64 (may_settle n) rest >>= λ x. Ok (Mark x.0, x.1)

unfoldable pub cut_in : ℕ → State → List ℕ → Result (Record × List ℕ) ℕ
cut_in total n rest = number_in total 8 w64 (may_cut n) rest >>= λ x. Ok (Cut x.0, x.1)

unfoldable pub join_in : ℕ → Footing → List ℕ → Result (Record × List ℕ) ℕ
join_in total f rest = do
  tick ← number_in total 8 w64 (may_settle f.state) rest
  subscriber ← number_in total 2 w16 (may_enter f) tick.1
  Ok (Join tick.0 subscriber.0, subscriber.1)

-- a record
unfoldable pub record_in : ℕ → Footing → List ℕ → Result (Record × List ℕ) ℕ
record_in total f [] = Err total
record_in total f (kind ∷ rest) =
    if kind == 1 then logged_in total f.state rest
    else (if kind == 2 then mark_in total f.state rest
    else (if kind == 3 then cut_in total f.state rest
    else (if kind == 4 then join_in total f rest
    else Err (total - length (kind ∷ rest)))))

-- gates and records in turn, at most n gates: what is held then, and what is left from the closed gate on
unfoldable pub records_in : ℕ → ℕ → LogState → List ℕ → Result (LogState × List ℕ) ℕ
records_in zero total s rest = Err total
records_in (suc n) total s [] = Err total
records_in (suc n) total s (gate ∷ rest) =
    elim (gate == 1) [
      | true ↦ (record_in total (footing s) rest >>= λ x. records_in n total (after_record s x.0) x.1)
      | false ↦ Ok (s, gate ∷ rest)
    ]

abbrev pub based : ℕ → ℕ → ℕ → Joins → Base
based generation last cut joins = record { generation = generation; last = last; cut = cut; joins = joins }

-- the tick of a join in front of the first record, behind these
abbrev pub may_begin : Joins → ℕ → ℕ → Bool
may_begin js cut tick = nat_lt (last_join_tick js) tick && nat_le tick cut

-- so many joins of these subscribers up to a cut, behind those that were read
unfoldable pub joins_in : ℕ → ℕ → List ℕ → ℕ → Joins → List ℕ → Result (Joins × List ℕ) ℕ
joins_in zero total late cut js rest = Ok (js, rest)
joins_in (suc n) total late cut js rest =
    number_in total 2 w16 (is_new late js) rest >>= λ x. number_in total 8 w64 (may_begin js cut) x.1 >>= λ t.
    joins_in n total late cut (js ++ record { subscriber = x.0; tick = t.0 } ∷ []) t.1

-- a base, of what stands from place 6 on, where these subscribers may join
unfoldable pub base_in : ℕ → List ℕ → List ℕ → Result (Base × List ℕ) ℕ
base_in total late rest = do
  generation ← number_in total 8 w64 is_generation rest
  last ← number_in total 8 w64 (λ n. nat_le n max_tick) generation.1
  cut ← number_in total 8 w64 (λ n. nat_le last.0 n && nat_le n max_tick) last.1
  count ← number_in total 2 w16 (λ n. nat_le n MAX_JOINS) cut.1
  joins ← joins_in count.0 total late cut.0 [] count.1
  Ok (based generation.0 last.0 cut.0 joins.0, joins.1)

-- The head of a lane

-- the place of the first byte that differs from these, if one does
abbrev pub header_fault : ℕ → List ℕ → List ℕ → ℕ
header_fault at (h ∷ hs) (b ∷ bs) = if h == b then header_fault (at + 1) hs bs else at
header_fault at _ _ = at

-- a lane of so many bytes is read where it has more than 6, and its byte 5 is 1
abbrev pub is_open : ℕ → List ℕ → Bool
is_open total bytes = nat_lt 6 total && (get_or bytes 5 0 == 1)

-- the generation behind the lane gate
abbrev pub generation_in : ℕ → List ℕ → Result Standing ℕ
generation_in total bytes = if nat_le 14 total
    then (if is_generation (from_be_bytes w64 (take 8 (drop 6 bytes)))
    then Ok (New (from_be_bytes w64 (take 8 (drop 6 bytes)))) else Err 6)
    else Err total

-- how a lane of so many bytes stands, the first one of two or the second: at most its first 14 bytes are looked at
unfoldable pub head_in : Bool → ℕ → List ℕ → Result Standing ℕ
head_in first total bytes =
    if not (is_open total bytes) then Ok Shut
    else (if nat_lt (header_fault 0 glog bytes) 4 then Err (header_fault 0 glog bytes)
    else (if get_or bytes 4 0 == 2 then generation_in total bytes
    else (if first && (get_or bytes 4 0 == 1) then Ok Old else Err 4)))

-- an open lane has more than 6 bytes, and its generation is one
abbrev pub IsStanding : ℕ → Standing → Type 0
IsStanding total Shut = Unit {0}
IsStanding total Old = 6 < total
IsStanding total (New g) = (6 < total) × (1 ≤ g) × (g ≤ max_tick)

abbrev pub standing_of : Bool → List ℕ → Result Standing ℕ
standing_of first bytes = head_in first (length bytes) bytes

-- What a lane stands for that is read, where these subscribers may join: of the first version from the empty state on,
-- else from its base on
unfoldable pub text_in : List ℕ → Standing → List ℕ → Result (LogState × List ℕ) ℕ
text_in late Shut bytes = Ok (empty_state late, [])
text_in late Old bytes = records_in (length bytes + 1) (length bytes) (empty_state late) (drop 5 bytes)
text_in late (New g) bytes = base_in (length bytes) late (drop 6 bytes)
    >>= λ b. records_in (length bytes + 1) (length bytes) (begun late b.0) b.1

-- with the place of the closed gate, in a lane of so many bytes
abbrev pub placed : ℕ → Result (LogState × List ℕ) ℕ → Result (LogState × ℕ) ℕ
placed total read = read >>= λ r. Ok (r.0, total - length r.1)

abbrev pub placed_in : List ℕ → Standing → List ℕ → Result (LogState × ℕ) ℕ
placed_in late x bytes = placed (length bytes) (text_in late x bytes)

-- The laws, of each list of subscribers that may join

-- each is a byte
abbrev pub AreBytes : List ℕ → Type 0
AreBytes bytes = (i : ℕ) → get_or bytes i 0 < 256

-- what is left of bytes behind a front
abbrev pub left_of : {front bytes : List ℕ} → Closes bytes front → List ℕ
left_of c = c.gate ∷ c.tail

-- what is spelled is read, whatever stands behind the closed gate
pub record ReadsAsSpelled : Type 0 where
  pub new : (late bytes : List ℕ) (b : Base) (rs : List Record) (first : Bool) → (t : IsText late bytes b rs)
      → (standing_of first bytes ≡ Ok (New b.generation))
      × (text_in late (New b.generation) bytes ≡ Ok (state_from (begun late b) rs, left_of t.spells.text))
  pub old : (late bytes : List ℕ) (rs : List Record) → (t : Spells old_stamp (empty_state late) rs bytes)
      → get_or bytes 5 0 ≡ 1
      → (standing_of true bytes ≡ Ok Old)
      × (text_in late Old bytes ≡ Ok (state_from (empty_state late) rs, left_of t.text))

-- what was read, as records: they stand behind this front, and a closed gate behind them
pub record WasRead (front : List ℕ) (start : LogState) (bytes : List ℕ) (s : LogState) (left : List ℕ) : Type 0 where
  pub records : List Record
  pub spells : Spells front start records bytes
  pub state : state_from start records ≡ s
  pub left_is : left_of spells.text ≡ left

-- what is read is spelled, where not more subscribers may join than a log has room for
pub record SpellsWhatIsRead : Type 0 where
  pub new : (late bytes : List ℕ) (g : ℕ) (first : Bool) (s : LogState) (left : List ℕ) → length late ≤ MAX_JOINS
      → AreBytes bytes → standing_of first bytes ≡ Ok (New g) → text_in late (New g) bytes ≡ Ok (s, left)
      → (b : Base) × (b.generation ≡ g) × IsBase late b × WasRead (front_of b) (begun late b) bytes s left
  pub old : (late bytes : List ℕ) (s : LogState) (left : List ℕ) → AreBytes bytes
      → standing_of true bytes ≡ Ok Old → text_in late Old bytes ≡ Ok (s, left)
      → WasRead old_stamp (empty_state late) bytes s left
