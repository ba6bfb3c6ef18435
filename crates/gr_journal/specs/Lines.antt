-- The journals that bytes are, or the first line that is none of a journal
use Rattle.std.specs.Prelude.{ℕ, ◌+◌, Bool, nat_eq, if◌then◌else◌, List, [], ◌∷◌, ◌++◌, codes, length, take, Option}
use Rattle.std.specs.Prelude.{Some, None, option_map, is_some, Result, Ok, Err, bytes_eq}
use Rattle.std.specs.Fmt.{decimal}
use Rattle.std.specs.List.{list_any, filter, flat_map}
use Rattle.gr_tree.specs.Walks.{numbers}
use Rattle.gr_topo.specs.Topology.{TopologyView, name_at, number_of}
use Rattle.gr_journal.specs.declared.arrival.TheConstants.{MAX_DATAGRAM}
use Rattle.gr_journal.specs.declared.arrival.Arrival.{Arrival}
use Rattle.gr_journal.specs.declared.arrival.Arrival.TheVariants.{Quiet, Datagram}
use Rattle.gr_journal.specs.declared.form.Form.{Form}
use Rattle.gr_journal.specs.declared.form.Form.TheVariants.{Process, Arrives, Follows}
use Rattle.gr_journal.specs.declared.journal.Journal.{Journal}
use Rattle.gr_journal.specs.declared.fault.AuditFault.{AuditFault}
use Rattle.gr_journal.specs.declared.fault.AuditFault.TheVariants.{BadLine}
use Rattle.gr_journal.specs.Gives.{◌>>=◌}
use Rattle.gr_journal.specs.Parts.{lines_of}
use Rattle.gr_journal.specs.Words.{words_of, only_word, moment_of, is_hex, datagram_of, datagram_word}

-- Forms

abbrev pub is_among : List ℕ → ℕ → Bool
is_among brokers b = list_any (λ x. nat_eq x b) brokers

abbrev pub if_among : List ℕ → Option ℕ → Option ℕ
if_among brokers None = None
if_among brokers (Some b) = if is_among brokers b then Some b else None

-- the broker of a process that a word names
abbrev pub hosted_by : TopologyView → List ℕ → List ℕ → Option ℕ
hosted_by t hosted word = if_among hosted (number_of t.brokers word)

-- the brokers that words name, behind those so far: each word has to name one
abbrev pub brokers_named : TopologyView → List ℕ → List (List ℕ) → Option (List ℕ)
brokers_named t found [] = Some found
brokers_named t found (word ∷ words) =
    elim (number_of t.brokers word) [ None ↦ None | Some b ↦ brokers_named t (found ++ b ∷ []) words ]

-- `process B...`, one broker or more
abbrev pub process_form : TopologyView → List (List ℕ) → Option Form
process_form t [] = None
process_form t (word ∷ words) = option_map (λ brokers. Process brokers) (brokers_named t [] (word ∷ words))

-- `quiet M`
abbrev pub quiet_form : Option (List ℕ) → Option Form
quiet_form None = None
quiet_form (Some word) = option_map (λ moment. Arrives (Quiet moment)) (moment_of word)

-- a datagram to a broker, of which the moment and the bytes are words
abbrev pub came_form : ℕ → Option ℕ → Option (List ℕ) → Option Form
came_form broker None bytes = None
came_form broker (Some moment) None = None
came_form broker (Some moment) (Some bytes) = Some (Arrives (Datagram broker moment bytes))

abbrev pub datagram_words : Option ℕ → List (List ℕ) → Option Form
datagram_words None words = None
datagram_words (Some broker) [] = None
datagram_words (Some broker) (moment ∷ words) =
    elim (only_word words) [ None ↦ None | Some bytes ↦ came_form broker (moment_of moment) (datagram_of bytes) ]

-- `in B M HEX`, B being of the process
abbrev pub datagram_form : TopologyView → List ℕ → List (List ℕ) → Option Form
datagram_form t hosted [] = None
datagram_form t hosted (broker ∷ words) = datagram_words (hosted_by t hosted broker) words

-- `say` and anything behind a space
abbrev pub say_form : List (List ℕ) → Option Form
say_form [] = None
say_form (word ∷ words) = Some Follows

abbrev pub bytes_form : Option (List ℕ) → Option Form
bytes_form None = None
bytes_form (Some word) = if is_hex word then Some Follows else None

abbrev pub offer_words : TopologyView → Option ℕ → List (List ℕ) → Option Form
offer_words t None words = None
offer_words t (Some from) [] = None
offer_words t (Some from) (to ∷ words) = if is_some (number_of t.brokers to) then bytes_form (only_word words) else None

-- `out FROM TO HEX`, FROM being of the process
abbrev pub offer_form : TopologyView → List ℕ → List (List ℕ) → Option Form
offer_form t hosted [] = None
offer_form t hosted (from ∷ words) = offer_words t (hosted_by t hosted from) words

-- the form of a line behind its first word, in a process of these brokers
abbrev pub group_form : TopologyView → List ℕ → List ℕ → List (List ℕ) → Option Form
group_form t hosted word words =
    if bytes_eq word (codes "quiet") then quiet_form (only_word words)
    else if bytes_eq word (codes "in") then datagram_form t hosted words
    else if bytes_eq word (codes "say") then say_form words
    else if bytes_eq word (codes "out") then offer_form t hosted words
    else None

abbrev pub form_of_words : TopologyView → Option (List ℕ) → List (List ℕ) → Option Form
form_of_words t process [] = None
form_of_words t process (word ∷ words) =
    if bytes_eq word (codes "process") then process_form t words
    else elim process [ None ↦ None | Some hosted ↦ group_form t hosted word words ]

-- the form of a line within a process of these brokers, None before any. A line of no form is a bad one
abbrev pub form_of : TopologyView → Option (List ℕ) → List ℕ → Option Form
form_of t process line = form_of_words t process (words_of line)

-- In one spelling

-- the brokers of a process, rising
abbrev pub rising : TopologyView → List ℕ → List ℕ
rising t brokers = filter (is_among brokers) (numbers (length t.brokers))

abbrev pub behind_space : List ℕ → List ℕ
behind_space word = codes " " ++ word

abbrev pub name_if_among : TopologyView → List ℕ → ℕ → List ℕ
name_if_among t brokers b = if is_among brokers b then behind_space (name_at t.brokers b) else []

abbrev pub process_text : TopologyView → List ℕ → List ℕ
process_text t brokers =
    codes "process" ++ (flat_map (λ b. behind_space (name_at t.brokers b)) (rising t brokers) ++ codes "\n")

abbrev pub arrival_text : TopologyView → Arrival → List ℕ
arrival_text t (Quiet moment) = codes "quiet" ++ (behind_space (decimal moment) ++ codes "\n")
arrival_text t (Datagram broker moment bytes) = codes "in" ++ (behind_space (name_at t.brokers broker)
    ++ (behind_space (decimal moment) ++ (behind_space (datagram_word bytes) ++ codes "\n")))

-- Journals

-- of a datagram what a process takes of it
abbrev pub taken_of : Arrival → Arrival
taken_of (Quiet moment) = Quiet moment
taken_of (Datagram broker moment bytes) = Datagram broker moment (take MAX_DATAGRAM bytes)

-- a journal that begins with line n
abbrev pub begun_journal : TopologyView → ℕ → List ℕ → Journal
begun_journal t n brokers = record { first = n; brokers = brokers; text = process_text t brokers; came = [] }

abbrev pub with_text : Journal → List ℕ → Journal
with_text j text = record { first = j.first; brokers = j.brokers; text = j.text ++ text; came = j.came }

-- with an arrival of line n
abbrev pub with_arrival : TopologyView → ℕ → Arrival → Journal → Journal
with_arrival t n a j = record {
  first = j.first;
  brokers = j.brokers;
  text = j.text ++ arrival_text t a;
  came = j.came ++ record { line = n; arrival = taken_of a } ∷ [];
}

-- journals that are read, and the one that goes on
abbrev pub Reading : Type 0
Reading = List Journal × Option Journal

abbrev pub closed : Reading → List Journal
closed r = elim r.1 [ None ↦ r.0 | Some j ↦ r.0 ++ j ∷ [] ]

-- the brokers of the process whose journal goes on
abbrev pub process_of : Reading → Option (List ℕ)
process_of r = option_map (λ (j : Journal). j.brokers) r.1

-- with line n, of this form. A line of a group stands as it is
abbrev pub with_form : TopologyView → Reading → ℕ → List ℕ → Form → Reading
with_form t r n line (Process brokers) = (closed r, Some (begun_journal t n brokers))
with_form t r n line (Arrives a) = (r.0, option_map (with_arrival t n a) r.1)
with_form t r n line Follows = (r.0, option_map (λ j. with_text j (line ++ codes "\n")) r.1)

abbrev pub with_line : TopologyView → Reading → ℕ → List ℕ → Result Reading AuditFault
with_line t r n line =
    elim (form_of t (process_of r) line) [ None ↦ Err (BadLine n) | Some form ↦ Ok (with_form t r n line form) ]

-- behind n lines, with these to come
abbrev pub journals_from : TopologyView → Reading → ℕ → List (List ℕ) → Result (List Journal) AuditFault
journals_from t r n [] = Ok (closed r)
journals_from t r n (line ∷ lines) = with_line t r (n + 1) line >>= λ next. journals_from t next (n + 1) lines

-- the journals of bytes, lines counting from 1, or the first bad line
abbrev pub journals_of : TopologyView → List ℕ → Result (List Journal) AuditFault
journals_of t bytes = journals_from t ([], None) 0 (lines_of bytes)
