-- What journals that are read say came is bytes
use Rattle.std.proofs.Common.{◌≡◌, ℕ, zero, suc, ◌+◌, ◌-◌, ◌<◌, Bool, true, false, ◌&&◌, List, [], ◌∷◌, ◌++◌, Option, Some, None, Result, Ok, Err, take, get_or, map, option_map, refl, ap, subst, arith}
use Rattle.std.specs.Prelude.{nat_le, if◌then◌else◌, IfSome, bytes_eq, codes, is_some}
use Rattle.std.specs.List.{AllByRecursion}
use Rattle.std.proofs.lemmas.Bool.{and_parts, leb-true}
use Rattle.gr_topo.specs.Topology.{TopologyView, number_of}
use Rattle.gr_model_theorems.specs.Served.{IsOfBytes}
use Rattle.gr_journal.specs.declared.arrival.TheConstants.{MAX_DATAGRAM}
use Rattle.gr_journal.specs.declared.arrival.Arrival.{Arrival}
use Rattle.gr_journal.specs.declared.arrival.Arrival.TheVariants.{Quiet, Datagram}
use Rattle.gr_journal.specs.declared.arrival.Came.{Came}
use Rattle.gr_journal.specs.declared.form.Form.{Form}
use Rattle.gr_journal.specs.declared.form.Form.TheVariants.{Process, Arrives, Follows}
use Rattle.gr_journal.specs.declared.journal.Journal.{Journal}
use Rattle.gr_journal.specs.declared.fault.AuditFault.{AuditFault}
use Rattle.gr_journal.specs.declared.fault.AuditFault.TheVariants.{BadLine}
use Rattle.gr_journal.specs.Gives.{◌>>=◌}
use Rattle.gr_journal.specs.Parts.{lines_of}
use Rattle.gr_journal.specs.Words.{words_of, only_word, moment_of, is_hex, datagram_of, hex_bytes, digit_value}
use Rattle.gr_journal.specs.Lines.{hosted_by, brokers_named, process_form, quiet_form, came_form, datagram_words, datagram_form, say_form, bytes_form, offer_words, offer_form, group_form, form_of_words, form_of, taken_of, Reading, closed, process_of, with_form, with_line, journals_from, journals_of}
use Rattle.gr_audit.specs.Audited.{arrivals}
use Rattle.gr_audit_theorems.specs.Behaves.{arrival_of}

-- Bytes of digits

abbrev AreBytes : List ℕ → Type 0
AreBytes bytes = AllByRecursion (λ b. b < 256) bytes

digit_small : (b : ℕ) → digit_value b < 16
digit_small b = go (nat_le 48 b && nat_le b 57) (nat_le 97 b && nat_le b 102) refl refl
  where
    go : (c d : Bool) → (nat_le 48 b && nat_le b 57) ≡ c → (nat_le 97 b && nat_le b 102) ≡ d → (if c then b - 48 else if d then b - 87 else 0) < 16
    go true d e f = let h = leb-true b 57 (and_parts (nat_le 48 b) (nat_le b 57) e).1 in omega (arith, h)
    go false true e f = let h = leb-true b 102 (and_parts (nat_le 97 b) (nat_le b 102) f).1 in omega (arith, h)
    go false false e f = omega arith

hex_small : (word : List ℕ) → AreBytes (hex_bytes word)
hex_small [] = tt
hex_small (high ∷ []) = tt
hex_small (high ∷ low ∷ word) = ((let h = digit_small high in let l = digit_small low in omega (arith, h, l)), hex_small word)

take_small : (n : ℕ) (xs : List ℕ) → AreBytes xs → AreBytes (take n xs)
take_small zero [] h = tt
take_small zero (x ∷ xs) h = tt
take_small (suc n) [] h = tt
take_small (suc n) (x ∷ xs) h = (h.0, take_small n xs h.1)

abbrev BytesIn : Arrival → Type 0
BytesIn (Quiet moment) = Unit {0}
BytesIn (Datagram b moment bytes) = AreBytes bytes

abbrev FormIn : Form → Type 0
FormIn (Process brokers) = Unit {0}
FormIn (Arrives a) = BytesIn a
FormIn Follows = Unit {0}

abbrev In : Option Form → Type 0
In o = IfSome o FormIn

-- Forms

quiet_in : (word : Option (List ℕ)) → In (quiet_form word)
quiet_in None = tt
quiet_in (Some word) = go (moment_of word)
  where
    go : (o : Option ℕ) → In (option_map (λ moment. Arrives (Quiet moment)) o)
    go None = tt
    go (Some moment) = tt

word_in : (word : List ℕ) → IfSome (datagram_of word) AreBytes
word_in word = go (bytes_eq word (codes "-")) (is_hex word)
  where
    go : (c d : Bool) → IfSome (if c then Some [] else if d then Some (hex_bytes word) else None) AreBytes
    go true d = tt
    go false true = hex_small word
    go false false = tt

came_in : (b : ℕ) (moment : Option ℕ) (bytes : Option (List ℕ)) → IfSome bytes AreBytes → In (came_form b moment bytes)
came_in b None bytes h = tt
came_in b (Some moment) None h = tt
came_in b (Some moment) (Some bytes) h = h

words_in : (broker : Option ℕ) (words : List (List ℕ)) → In (datagram_words broker words)
words_in None words = tt
words_in (Some b) [] = tt
words_in (Some b) (moment ∷ words) = go (only_word words)
  where
    go : (o : Option (List ℕ)) → In (elim o [ None ↦ None | Some bytes ↦ came_form b (moment_of moment) (datagram_of bytes) ])
    go None = tt
    go (Some bytes) = came_in b (moment_of moment) (datagram_of bytes) (word_in bytes)

datagram_in : (t : TopologyView) (hosted : List ℕ) (words : List (List ℕ)) → In (datagram_form t hosted words)
datagram_in t hosted [] = tt
datagram_in t hosted (word ∷ words) = words_in (hosted_by t hosted word) words

say_in : (words : List (List ℕ)) → In (say_form words)
say_in [] = tt
say_in (word ∷ words) = tt

hex_in : (word : Option (List ℕ)) → In (bytes_form word)
hex_in None = tt
hex_in (Some word) = go (is_hex word)
  where
    go : (b : Bool) → In (if b then Some Follows else None)
    go true = tt
    go false = tt

offered_in : (t : TopologyView) (from : Option ℕ) (words : List (List ℕ)) → In (offer_words t from words)
offered_in t None words = tt
offered_in t (Some b) [] = tt
offered_in t (Some b) (to ∷ words) = go (is_some (number_of t.brokers to)) (only_word words)
  where
    go : (b : Bool) (word : Option (List ℕ)) → In (if b then bytes_form word else None)
    go true word = hex_in word
    go false word = tt

offer_in : (t : TopologyView) (hosted : List ℕ) (words : List (List ℕ)) → In (offer_form t hosted words)
offer_in t hosted [] = tt
offer_in t hosted (from ∷ words) = offered_in t (hosted_by t hosted from) words

choice : (b : Bool) (x y : Option Form) → In x → In y → In (if b then x else y)
choice true x y h k = h
choice false x y h k = k

group_in : (t : TopologyView) (hosted : List ℕ) (word : List ℕ) (words : List (List ℕ)) → In (group_form t hosted word words)
group_in t hosted word words =
    choice (bytes_eq word (codes "quiet")) (quiet_form (only_word words)) _ (quiet_in (only_word words))
    (choice (bytes_eq word (codes "in")) (datagram_form t hosted words) _ (datagram_in t hosted words)
    (choice (bytes_eq word (codes "say")) (say_form words) _ (say_in words)
    (choice (bytes_eq word (codes "out")) (offer_form t hosted words) None (offer_in t hosted words) tt)))

process_in : (t : TopologyView) (words : List (List ℕ)) → In (process_form t words)
process_in t [] = tt
process_in t (word ∷ words) = go (brokers_named t [] (word ∷ words))
  where
    go : (o : Option (List ℕ)) → In (option_map (λ brokers. Process brokers) o)
    go None = tt
    go (Some brokers) = tt

form_in : (t : TopologyView) (process : Option (List ℕ)) (words : List (List ℕ)) → In (form_of_words t process words)
form_in t process [] = tt
form_in t process (word ∷ words) =
    choice (bytes_eq word (codes "process")) (process_form t words) _ (process_in t words) (go process)
  where
    go : (o : Option (List ℕ)) → In (elim o [ None ↦ None | Some hosted ↦ group_form t hosted word words ])
    go None = tt
    go (Some hosted) = group_in t hosted word words

-- Journals, line by line

abbrev IsRead : Journal → Type 0
IsRead j = AllByRecursion (λ (c : Came). BytesIn c.arrival) j.came

all_end : {X : Type 0} (P : X → Type 0) (xs : List X) (x : X) → AllByRecursion P xs → P x → AllByRecursion P (xs ++ x ∷ [])
all_end P [] x h p = (p, tt)
all_end P (y ∷ xs) x h p = (h.0, all_end P xs x h.1 p)

abbrev Reads : Reading → Type 0
Reads r = AllByRecursion IsRead r.0 × IfSome r.1 IsRead

closed_reads : (js : List Journal) (o : Option Journal) → Reads (js, o) → AllByRecursion IsRead (closed (js, o))
closed_reads js None h = h.0
closed_reads js (Some j) h = all_end IsRead js j h.0 h.1

taken_in : (a : Arrival) → BytesIn a → BytesIn (taken_of a)
taken_in (Quiet moment) h = tt
taken_in (Datagram b moment bytes) h = take_small MAX_DATAGRAM bytes h

form_reads : (t : TopologyView) (js : List Journal) (o : Option Journal) (n : ℕ) (line : List ℕ) (form : Form) → Reads (js, o) → FormIn form → Reads (with_form t (js, o) n line form)
form_reads t js o n line (Process brokers) h f = (closed_reads js o h, tt)
form_reads t js None n line (Arrives a) h f = h
form_reads t js (Some j) n line (Arrives a) h f = (h.0, all_end (λ (c : Came). BytesIn c.arrival) j.came (record { line = n; arrival = taken_of a }) h.1 (taken_in a f))
form_reads t js None n line Follows h f = h
form_reads t js (Some j) n line Follows h f = h

ok_is : {A E : Type 0} (x y : A) → ◌≡◌ {A = Result A E} (Ok x) (Ok y) → x ≡ y
ok_is x y e = ap (λ r. elim r [ Ok z ↦ z | Err f ↦ x ]) e

line_reads : (t : TopologyView) (js : List Journal) (o : Option Journal) (n : ℕ) (line : List ℕ) (next : Reading) → Reads (js, o) → with_line t (js, o) n line ≡ Ok next → Reads next
line_reads t js o n line next h e = go (form_of t (process_of (js, o)) line) (form_in t (process_of (js, o)) (words_of line)) e
  where
    go : (f : Option Form) → In f → ◌≡◌ {A = Result Reading AuditFault} (elim f [ None ↦ Err (BadLine n) | Some form ↦ Ok (with_form t (js, o) n line form) ]) (Ok next) → Reads next
    go None k q = absurd (cc)
    go (Some form) k q = subst Reads (ok_is (with_form t (js, o) n line form) next q) (form_reads t js o n line form h k)

next_from : (t : TopologyView) (n : ℕ) (lines : List (List ℕ)) (all : List Journal) (w : Result Reading AuditFault) → ((next : Reading) → w ≡ Ok next → Reads next)
    → ((next : Reading) → Reads next → journals_from t next n lines ≡ Ok all → AllByRecursion IsRead all) → (w >>= λ next. journals_from t next n lines) ≡ Ok all → AllByRecursion IsRead all
next_from t n lines all (Ok next) one more e = more next (one next refl) e
next_from t n lines all (Err f) one more e = absurd (cc)

from_reads : (t : TopologyView) (js : List Journal) (o : Option Journal) (n : ℕ) (lines : List (List ℕ)) (all : List Journal) → Reads (js, o) → journals_from t (js, o) n lines ≡ Ok all → AllByRecursion IsRead all
from_reads t js o n [] all h e = subst (AllByRecursion IsRead) (ok_is (closed (js, o)) all e) (closed_reads js o h)
from_reads t js o n (line ∷ lines) all h e =
    next_from t (n + 1) lines all (with_line t (js, o) (n + 1) line) (λ next k. line_reads t js o (n + 1) line next h k)
    (λ next k q. from_reads t next.0 next.1 (n + 1) lines all k q) e

-- To the machine

byte_at : (xs : List ℕ) (i : ℕ) → AreBytes xs → get_or xs i 0 < 256
byte_at [] i h = omega arith
byte_at (x ∷ xs) zero h = h.0
byte_at (x ∷ xs) (suc i) h = byte_at xs i h.1

of_bytes : (came : List Came) → AllByRecursion (λ (c : Came). BytesIn c.arrival) came → AllByRecursion IsOfBytes (map arrival_of (arrivals came))
of_bytes [] h = tt
of_bytes (c ∷ came) h = (go c.arrival h.0, of_bytes came h.1)
  where
    go : (a : Arrival) → BytesIn a → IsOfBytes (arrival_of a)
    go (Quiet moment) k = tt
    go (Datagram b moment bytes) k = λ i. byte_at bytes i k

each_of_bytes : (js : List Journal) (k : ℕ) → AllByRecursion IsRead js → AllByRecursion IsOfBytes (get_or (map (λ (j : Journal). map arrival_of (arrivals j.came)) js) k [])
each_of_bytes [] k h = tt
each_of_bytes (j ∷ js) zero h = of_bytes j.came h.0
each_of_bytes (j ∷ js) (suc k) h = each_of_bytes js k h.1

pub come_of_bytes : (t : TopologyView) (bytes : List ℕ) (js : List Journal) → journals_of t bytes ≡ Ok js → (k : ℕ) → AllByRecursion IsOfBytes (get_or (map (λ (j : Journal). map arrival_of (arrivals j.came)) js) k [])
come_of_bytes t bytes js e k = each_of_bytes js k (from_reads t [] None 0 (lines_of bytes) js (tt, tt) e)
