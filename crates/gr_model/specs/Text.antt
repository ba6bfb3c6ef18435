-- The text of a report: what each line reads. A line is words with one blank between each two.
use Rattle.std.specs.Prelude.{ℕ, ◌/◌, ◌%◌, ◌<◌, ◌≤◌, List, [], ◌∷◌, ◌++◌, length, map, slice_get, slice_index, codes}
use Rattle.std.specs.Prelude.{Option, Some, None}
use Rattle.std.specs.List.{flat_map, join_by}
use Rattle.std.specs.Fmt.{decimal}
use Rattle.gr_tick.specs.declared.run.Run.{Run}
use Rattle.gr_know.specs.declared.values.K.{K}
use Rattle.gr_know.specs.declared.values.K.TheVariants.{Q, S, D, F}
use Rattle.gr_curio.specs.declared.values.Q3.{Q3}
use Rattle.gr_curio.specs.declared.values.Q3.TheVariants.{N, C, A}
use Rattle.gr_event.specs.Joins.{Joins}
use Rattle.gr_event.specs.Json.{json_text}
use Rattle.gr_frame.specs.declared.fault.FrameKind.{FrameKind}
use Rattle.gr_frame.specs.Fault.{fault_word, fault_kinds}
use Rattle.gr_note.specs.declared.fault.NoteKind.{NoteKind}
use Rattle.gr_note.specs.Fault as note
use Rattle.gr_topo.specs.Topology.{TopologyView, name_at}
use Rattle.gr_model.specs.declared.report.Report.{Report}
use Rattle.gr_model.specs.declared.report.Report.TheVariants.{Opened, Logged, Already, Gap, Exhausted, Kept, Lost, Mark}
use Rattle.gr_model.specs.declared.report.Report.TheVariants.{Cut, Got, Horizon, SentKnow, SentWant, SentExpect}
use Rattle.gr_model.specs.declared.report.Report.TheVariants.{Crashed, Swept, RefusedHosts, RefusedFrame, RefusedClock}
use Rattle.gr_model.specs.declared.report.Report.TheVariants.{DroppedNotFrame, DroppedStray, DroppedSplit, DroppedClash}
use Rattle.gr_model.specs.declared.report.Report.TheVariants.{DroppedBadNote, DroppedStrayNote, Damaged, Frames, LogOf}
use Rattle.gr_model.specs.declared.report.Report.TheVariants.{Doubt, BytesOf, Ordered, Reclaimed}
use Rattle.gr_model.specs.declared.report.Report.TheVariants.{Joined, AlreadyJoined, ExhaustedJoin}

-- The names of brokers, publishers and subscribers by their numbers.
pub record Labels : Type 0 where
  pub broker : ℕ → List ℕ
  pub publisher : ℕ → List ℕ
  pub subscriber : ℕ → List ℕ

-- the names of a topology
abbrev pub labels_of : TopologyView → Labels
labels_of t = record {
  broker = name_at t.brokers;
  publisher = name_at t.publishers;
  subscriber = name_at t.subscribers;
}

-- words with one blank between each two
abbrev pub spaced : List (List ℕ) → List ℕ
spaced words = join_by (λ word. word) (32 ∷ []) words

-- words in a row, with one blank before each
abbrev pub behind_blanks : List (List ℕ) → List ℕ
behind_blanks words = flat_map (λ word. 32 ∷ word) words

-- the letter of what is known
abbrev pub know_letter : K → List ℕ
know_letter Q = codes "Q"
know_letter S = codes "S"
know_letter (D event) = codes "D"
know_letter F = codes "F"

-- the letter of what is asked
abbrev pub want_letter : Q3 → List ℕ
want_letter N = codes "N"
want_letter C = codes "C"
want_letter A = codes "A"

-- a run of ticks: its value's letter, its first tick, a dash and its last tick
abbrev pub run_word : {V : Type 0} → (V → List ℕ) → Run V → List ℕ
run_word letter run = letter run.value ++ (decimal run.first ++ (codes "-" ++ decimal run.last))

-- why bytes are no frame, by its number from 1 to 10
abbrev pub kind_word : Option FrameKind → List ℕ
kind_word None = []
kind_word (Some kind) = fault_word kind

abbrev pub frame_fault_word : ℕ → List ℕ
frame_fault_word fault = kind_word (slice_get fault_kinds fault)

-- why bytes are no note, by its number from 1 to 7
abbrev pub note_kind_word : Option NoteKind → List ℕ
note_kind_word None = []
note_kind_word (Some kind) = note.fault_word kind

abbrev pub note_fault_word : ℕ → List ℕ
note_fault_word fault = note_kind_word (slice_get note.fault_kinds fault)

-- a byte as two hexadecimal digits
abbrev pub hex_pair : ℕ → List ℕ
hex_pair byte =
    slice_index (codes "0123456789abcdef") (byte / 16) ∷ slice_index (codes "0123456789abcdef") (byte % 16) ∷ []

-- a line that begins with this word and goes on with a publisher and numbers
abbrev pub publisher_words : Labels → List ℕ → ℕ → List ℕ → List (List ℕ)
publisher_words labels first publisher numbers = first ∷ labels.publisher publisher ∷ map decimal numbers

-- what is told of a log
abbrev pub log_words : Labels → List ℕ → ℕ → ℕ → ℕ → ℕ → List (List ℕ)
log_words labels first publisher last settled cut =
    first ∷ labels.publisher publisher ∷ codes "last" ∷ decimal last ∷ codes "settled" ∷ decimal settled ∷ codes "cut" ∷
    decimal cut ∷ []

-- which frame was sent, from where, to whom, of which kind and for which publisher
abbrev pub sent_words : Labels → ℕ → ℕ → ℕ → List ℕ → ℕ → List (List ℕ)
sent_words labels number from to kind publisher =
    codes "sent" ∷ decimal number ∷ labels.broker from ∷ labels.broker to ∷ kind ∷ labels.publisher publisher ∷ []

-- how many joins a frame has, where it has any
abbrev pub joins_words : Joins → List (List ℕ)
joins_words [] = []
joins_words (j ∷ js) = codes "joins" ∷ decimal (length (j ∷ js)) ∷ []

-- the words of a line
abbrev pub line_words : Labels → Report → List (List ℕ)
line_words labels (Opened publisher last settled cut) = log_words labels (codes "opened") publisher last settled cut
line_words labels (Logged publisher number tick) =
    publisher_words labels (codes "logged") publisher (number ∷ tick ∷ [])
line_words labels (Already publisher number) = publisher_words labels (codes "already") publisher (number ∷ [])
line_words labels (Gap publisher number next) =
    codes "gap" ∷ labels.publisher publisher ∷ decimal number ∷ codes "next" ∷ decimal next ∷ []
line_words labels (Exhausted publisher number) = publisher_words labels (codes "exhausted") publisher (number ∷ [])
line_words labels (Joined subscriber publisher tick) =
    codes "joined" ∷ labels.subscriber subscriber ∷ labels.publisher publisher ∷ decimal tick ∷ []
line_words labels (AlreadyJoined subscriber publisher) =
    codes "already-joined" ∷ labels.subscriber subscriber ∷ labels.publisher publisher ∷ []
line_words labels (ExhaustedJoin subscriber publisher) =
    codes "exhausted-join" ∷ labels.subscriber subscriber ∷ labels.publisher publisher ∷ []
line_words labels (Kept publisher number tick) = publisher_words labels (codes "kept") publisher (number ∷ tick ∷ [])
line_words labels (Lost publisher number tick) = publisher_words labels (codes "lost") publisher (number ∷ tick ∷ [])
line_words labels (Mark publisher tick) = publisher_words labels (codes "mark") publisher (tick ∷ [])
line_words labels (Cut publisher tick) = publisher_words labels (codes "cut") publisher (tick ∷ [])
line_words labels (Reclaimed publisher generation) =
    publisher_words labels (codes "reclaimed") publisher (generation ∷ [])
line_words labels (Got subscriber publisher tick event) =
    codes "got" ∷ labels.subscriber subscriber ∷ labels.publisher publisher ∷ decimal tick ∷ json_text event ∷ []
line_words labels (Horizon subscriber publisher tick) =
    codes "horizon" ∷ labels.subscriber subscriber ∷ labels.publisher publisher ∷ decimal tick ∷ []
line_words labels (Ordered subscriber publisher tick event) =
    codes "ordered" ∷ labels.subscriber subscriber ∷ labels.publisher publisher ∷ decimal tick ∷ json_text event ∷ []
line_words labels (SentKnow number from to publisher runs js) =
    sent_words labels number from to (codes "know") publisher ++ (joins_words js ++ map (run_word know_letter) runs)
line_words labels (SentWant number from to publisher runs) = sent_words labels number from to (codes "want") publisher
    ++ map (run_word want_letter) runs
line_words labels (SentExpect number from to publisher tick) =
    sent_words labels number from to (codes "expect") publisher ++ decimal tick ∷ []
line_words labels (Crashed broker) = codes "crashed" ∷ labels.broker broker ∷ []
line_words labels (Swept moment) = codes "swept" ∷ decimal moment ∷ []
line_words labels (RefusedHosts line broker) =
    codes "refused" ∷ codes "line" ∷ decimal line ∷ codes "hosts-subscriber" ∷ labels.broker broker ∷ []
line_words labels (RefusedFrame line frame sent) =
    codes "refused" ∷ codes "line" ∷ decimal line ∷ codes "no-frame" ∷ decimal frame ∷ codes "of" ∷ decimal sent ∷ []
line_words labels (RefusedClock line moment) =
    codes "refused" ∷ codes "line" ∷ decimal line ∷ codes "clock-range" ∷ decimal moment ∷ []
line_words labels (DroppedNotFrame broker fault at) =
    codes "dropped" ∷ labels.broker broker ∷ codes "not-frame" ∷ frame_fault_word fault ∷ decimal at ∷ []
line_words labels (DroppedStray broker from to publisher) =
    codes "dropped" ∷ labels.broker broker ∷ codes "stray" ∷ decimal from ∷ decimal to ∷ decimal publisher ∷ []
line_words labels (DroppedSplit broker at kept came) =
    codes "dropped" ∷ labels.broker broker ∷ codes "split" ∷ decimal at ∷ decimal kept.subscriber ∷
    decimal kept.tick ∷ decimal came.subscriber ∷ decimal came.tick ∷ []
line_words labels (DroppedClash broker tick kept came) =
    codes "dropped" ∷ labels.broker broker ∷ codes "clash" ∷ decimal tick ∷ know_letter kept ∷ know_letter came ∷ []
line_words labels (DroppedBadNote broker fault at) =
    codes "dropped" ∷ labels.broker broker ∷ codes "bad-note" ∷ note_fault_word fault ∷ decimal at ∷ []
line_words labels (DroppedStrayNote broker publisher) =
    codes "dropped" ∷ labels.broker broker ∷ codes "stray-note" ∷ decimal publisher ∷ []
line_words labels (Damaged publisher at) = publisher_words labels (codes "damaged") publisher (at ∷ [])
line_words labels (Frames count) = codes "frames" ∷ decimal count ∷ []
line_words labels (LogOf publisher last settled cut kept) = log_words labels (codes "log") publisher last settled cut
    ++ codes "kept" ∷ decimal kept ∷ []
line_words labels (Doubt broker publisher tick) =
    codes "doubt" ∷ labels.broker broker ∷ labels.publisher publisher ∷ decimal tick ∷ []
line_words labels (BytesOf frame bytes) = codes "bytes" ∷ decimal frame ∷ flat_map hex_pair bytes ∷ []

-- the words of a line in a row, with one blank before each
abbrev pub row_of : TopologyView → Report → List ℕ
row_of t report = behind_blanks (line_words (labels_of t) report)

-- a line without its end
abbrev pub line_text : Labels → Report → List ℕ
line_text labels report = spaced (line_words labels report)

-- a line with its end
abbrev pub whole_line : Labels → Report → List ℕ
whole_line labels report = line_text labels report ++ 10 ∷ []

-- the lines in order, each with its end
abbrev pub report_text : Labels → List Report → List ℕ
report_text labels lines = flat_map (whole_line labels) lines

-- there are such a subscriber and such a publisher
abbrev pub AreNamed : TopologyView → ℕ → ℕ → Type 0
AreNamed t subscriber publisher = (subscriber < length t.subscribers) × (publisher < length t.publishers)

-- there are such brokers and such a publisher
abbrev pub IsSentNamed : TopologyView → ℕ → ℕ → ℕ → Type 0
IsSentNamed t from to publisher = (from < length t.brokers) × (to < length t.brokers)
    × (publisher < length t.publishers)

-- each number for which the line has a name or a word is in range
abbrev pub IsNamed : TopologyView → Report → Type 0
IsNamed t (Opened publisher last settled cut) = publisher < length t.publishers
IsNamed t (Logged publisher number tick) = publisher < length t.publishers
IsNamed t (Already publisher number) = publisher < length t.publishers
IsNamed t (Gap publisher number next) = publisher < length t.publishers
IsNamed t (Exhausted publisher number) = publisher < length t.publishers
IsNamed t (Joined subscriber publisher tick) = AreNamed t subscriber publisher
IsNamed t (AlreadyJoined subscriber publisher) = AreNamed t subscriber publisher
IsNamed t (ExhaustedJoin subscriber publisher) = AreNamed t subscriber publisher
IsNamed t (Kept publisher number tick) = publisher < length t.publishers
IsNamed t (Lost publisher number tick) = publisher < length t.publishers
IsNamed t (Mark publisher tick) = publisher < length t.publishers
IsNamed t (Cut publisher tick) = publisher < length t.publishers
IsNamed t (Reclaimed publisher generation) = publisher < length t.publishers
IsNamed t (Got subscriber publisher tick event) = AreNamed t subscriber publisher
IsNamed t (Horizon subscriber publisher tick) = AreNamed t subscriber publisher
IsNamed t (Ordered subscriber publisher tick event) = AreNamed t subscriber publisher
IsNamed t (SentKnow number from to publisher runs js) = IsSentNamed t from to publisher
IsNamed t (SentWant number from to publisher runs) = IsSentNamed t from to publisher
IsNamed t (SentExpect number from to publisher tick) = IsSentNamed t from to publisher
IsNamed t (Crashed broker) = broker < length t.brokers
IsNamed t (Swept moment) = Unit {0}
IsNamed t (RefusedHosts line broker) = broker < length t.brokers
IsNamed t (RefusedFrame line frame sent) = Unit {0}
IsNamed t (RefusedClock line moment) = Unit {0}
IsNamed t (DroppedNotFrame broker fault at) = (broker < length t.brokers) × (1 ≤ fault) × (fault ≤ 10)
IsNamed t (DroppedStray broker from to publisher) = broker < length t.brokers
IsNamed t (DroppedSplit broker at kept came) = broker < length t.brokers
IsNamed t (DroppedClash broker tick kept came) = broker < length t.brokers
IsNamed t (DroppedBadNote broker fault at) = (broker < length t.brokers) × (1 ≤ fault) × (fault ≤ 7)
IsNamed t (DroppedStrayNote broker publisher) = broker < length t.brokers
IsNamed t (Damaged publisher at) = publisher < length t.publishers
IsNamed t (Frames count) = Unit {0}
IsNamed t (LogOf publisher last settled cut kept) = publisher < length t.publishers
IsNamed t (Doubt broker publisher tick) = (broker < length t.brokers) × (publisher < length t.publishers)
IsNamed t (BytesOf frame bytes) = Unit {0}
