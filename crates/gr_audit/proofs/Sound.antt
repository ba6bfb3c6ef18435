-- What journals that are read say came to their brokers, and can have come there
use Rattle.std.proofs.Common.{◌≡◌, ℕ, zero, suc, ◌+◌, ◌<◌, ◌≤◌, ◌||◌, Bool, true, false, cond, min, List, [], ◌∷◌, ◌++◌, length, take, get_or, Option, Some, None, option_map, refl, sym, ap, ◌∙◌, subst, arith, nat_eq}
use Rattle.std.specs.Prelude.{if◌then◌else◌, IfSome, Result, Ok, Err, bytes_eq, codes, is_some}
use Rattle.std.specs.List.{list_any, filter, AllByRecursion}
use Rattle.std.proofs.lemmas.Bool.{eqb-true, eq-eqb}
use Rattle.std.proofs.lemmas.List.Quantifiers.{position-Some}
use Rattle.gr_sched.specs.declared.step.TheConstants.{MAX_NUMBER}
use Rattle.gr_sched.specs.Words.{is_number, value_after}
use Rattle.gr_tree.specs.Walks.{numbers_from, numbers}
use Rattle.gr_topo.specs.Topology.{TopologyView, number_of}
use Rattle.gr_journal.specs.declared.arrival.TheConstants.{MAX_DATAGRAM}
use Rattle.gr_journal.specs.declared.arrival.Arrival.{Arrival}
use Rattle.gr_journal.specs.declared.arrival.Arrival.TheVariants.{Quiet, Datagram}
use Rattle.gr_journal.specs.declared.arrival.Came.{Came}
use Rattle.gr_journal.specs.declared.form.Form.{Form}
use Rattle.gr_journal.specs.declared.form.Form.TheVariants.{Process, Arrives, Follows}
use Rattle.gr_journal.specs.declared.journal.Journal.{Journal}
use Rattle.gr_journal.specs.declared.fault.AuditFault.{AuditFault}
use Rattle.gr_journal.specs.declared.fault.AuditFault.TheVariants.{BadLine}
use Rattle.gr_journal.specs.Gives.{◌>>=◌}
use Rattle.gr_journal.specs.Parts.{lines_of}
use Rattle.gr_journal.specs.Words.{words_of, only_word, moment_of, is_hex, datagram_of}
use Rattle.gr_journal.specs.Lines.{is_among, if_among, hosted_by, brokers_named, process_form, quiet_form, came_form, datagram_words, datagram_form, say_form, bytes_form, offer_words, offer_form, group_form, form_of_words, form_of, rising, taken_of, Reading, closed, with_form, with_line, journals_from, journals_of}
use Rattle.gr_audit.specs.Coming.{ComesTo, AllComeTo, AllCome}

-- A form names a broker of its process, and a moment that there is

abbrev IsTo : TopologyView → List ℕ → Arrival → Type 0
IsTo t hosted (Quiet moment) = moment ≤ MAX_NUMBER
IsTo t hosted (Datagram b moment bytes) = (is_among hosted b ≡ true) × ((b < length t.brokers) × (moment ≤ MAX_NUMBER))

abbrev FormTo : TopologyView → List ℕ → Form → Type 0
FormTo t hosted (Process brokers) = Unit {0}
FormTo t hosted (Arrives a) = IsTo t hosted a
FormTo t hosted Follows = Unit {0}

-- where there is a form, it is such a one
abbrev Fits : TopologyView → List ℕ → Option Form → Type 0
Fits t hosted o = IfSome o (FormTo t hosted)

moment_in : (word : List ℕ) (moment : ℕ) → moment_of word ≡ Some moment → moment ≤ MAX_NUMBER
moment_in word moment e = go (is_number word) e
  where
    go : (b : Bool) → (if b then Some (min (value_after 0 word) MAX_NUMBER) else None) ≡ Some moment → moment ≤ MAX_NUMBER
    go true h = subst (λ z. z ≤ MAX_NUMBER) (ap (λ (o : Option ℕ). elim o [ None ↦ moment | Some m ↦ m ]) h) (omega arith)
    go false h = absurd (cc)

quiet_fits : (t : TopologyView) (hosted : List ℕ) (word : Option (List ℕ)) → Fits t hosted (quiet_form word)
quiet_fits t hosted None = tt
quiet_fits t hosted (Some word) = go (moment_of word) refl
  where
    go : (o : Option ℕ) → moment_of word ≡ o → Fits t hosted (option_map (λ moment. Arrives (Quiet moment)) o)
    go None e = tt
    go (Some moment) e = moment_in word moment e

came_fits : (t : TopologyView) (hosted : List ℕ) (b : ℕ) (word : List ℕ) (bytes : Option (List ℕ)) → is_among hosted b ≡ true → b < length t.brokers → Fits t hosted (came_form b (moment_of word) bytes)
came_fits t hosted b word bytes among below = go (moment_of word) bytes refl
  where
    go : (o : Option ℕ) (bs : Option (List ℕ)) → moment_of word ≡ o → Fits t hosted (came_form b o bs)
    go None bs e = tt
    go (Some moment) None e = tt
    go (Some moment) (Some bs) e = (among, (below, moment_in word moment e))

words_fit : (t : TopologyView) (hosted : List ℕ) (b : ℕ) (words : List (List ℕ)) → is_among hosted b ≡ true → b < length t.brokers → Fits t hosted (datagram_words (Some b) words)
words_fit t hosted b [] among below = tt
words_fit t hosted b (moment ∷ words) among below = go (only_word words)
  where
    go : (o : Option (List ℕ)) → Fits t hosted (elim o [ None ↦ None | Some bytes ↦ came_form b (moment_of moment) (datagram_of bytes) ])
    go None = tt
    go (Some bytes) = came_fits t hosted b moment (datagram_of bytes) among below

datagram_fits : (t : TopologyView) (hosted : List ℕ) (words : List (List ℕ)) → Fits t hosted (datagram_form t hosted words)
datagram_fits t hosted [] = tt
datagram_fits t hosted (word ∷ words) = go (number_of t.brokers word) refl
  where
    by : (b : ℕ) (c : Bool) → is_among hosted b ≡ c → b < length t.brokers → Fits t hosted (datagram_words (if c then Some b else None) words)
    by b true e below = words_fit t hosted b words e below
    by b false e below = tt

    go : (o : Option ℕ) → number_of t.brokers word ≡ o → Fits t hosted (datagram_words (if_among hosted o) words)
    go None e = tt
    go (Some b) e = by b (is_among hosted b) refl (position-Some (λ known. bytes_eq known word) t.brokers b [] e).0

say_fits : (t : TopologyView) (hosted : List ℕ) (words : List (List ℕ)) → Fits t hosted (say_form words)
say_fits t hosted [] = tt
say_fits t hosted (word ∷ words) = tt

bytes_fit : (t : TopologyView) (hosted : List ℕ) (word : Option (List ℕ)) → Fits t hosted (bytes_form word)
bytes_fit t hosted None = tt
bytes_fit t hosted (Some word) = go (is_hex word)
  where
    go : (b : Bool) → Fits t hosted (if b then Some Follows else None)
    go true = tt
    go false = tt

offer_fits : (t : TopologyView) (hosted : List ℕ) (words : List (List ℕ)) → Fits t hosted (offer_form t hosted words)
offer_fits t hosted [] = tt
offer_fits t hosted (from ∷ words) = go (hosted_by t hosted from) words
  where
    by : (b : Bool) (word : Option (List ℕ)) → Fits t hosted (if b then bytes_form word else None)
    by true word = bytes_fit t hosted word
    by false word = tt

    go : (o : Option ℕ) (ws : List (List ℕ)) → Fits t hosted (offer_words t o ws)
    go None ws = tt
    go (Some b) [] = tt
    go (Some b) (to ∷ ws) = by (is_some (number_of t.brokers to)) (only_word ws)

choice : (t : TopologyView) (hosted : List ℕ) (b : Bool) (x y : Option Form) → Fits t hosted x → Fits t hosted y → Fits t hosted (if b then x else y)
choice t hosted true x y h k = h
choice t hosted false x y h k = k

group_fits : (t : TopologyView) (hosted : List ℕ) (word : List ℕ) (words : List (List ℕ)) → Fits t hosted (group_form t hosted word words)
group_fits t hosted word words =
    choice t hosted (bytes_eq word (codes "quiet")) (quiet_form (only_word words)) _ (quiet_fits t hosted (only_word words))
    (choice t hosted (bytes_eq word (codes "in")) (datagram_form t hosted words) _ (datagram_fits t hosted words)
    (choice t hosted (bytes_eq word (codes "say")) (say_form words) _ (say_fits t hosted words)
    (choice t hosted (bytes_eq word (codes "out")) (offer_form t hosted words) None (offer_fits t hosted words) tt)))

process_fits : (t : TopologyView) (hosted : List ℕ) (words : List (List ℕ)) → Fits t hosted (process_form t words)
process_fits t hosted [] = tt
process_fits t hosted (word ∷ words) = go (brokers_named t [] (word ∷ words))
  where
    go : (o : Option (List ℕ)) → Fits t hosted (option_map (λ brokers. Process brokers) o)
    go None = tt
    go (Some brokers) = tt

form_fits : (t : TopologyView) (hosted : List ℕ) (words : List (List ℕ)) → Fits t hosted (form_of_words t (Some hosted) words)
form_fits t hosted [] = tt
form_fits t hosted (word ∷ words) =
    choice t hosted (bytes_eq word (codes "process")) (process_form t words) (group_form t hosted word words) (process_fits t hosted words) (group_fits t hosted word words)

-- What a process takes of it can have come to its brokers

abbrev Good : TopologyView → List ℕ → Arrival → Type 0
Good t hosted (Quiet moment) = moment ≤ MAX_NUMBER
Good t hosted (Datagram b moment bytes) =
    (is_among hosted b ≡ true) × ((b < length t.brokers) × ((moment ≤ MAX_NUMBER) × (length bytes ≤ MAX_DATAGRAM)))

short : {X : Type 0} (n : ℕ) (xs : List X) → length (take n xs) ≤ n
short zero [] = omega arith
short zero (x ∷ xs) = omega arith
short (suc n) [] = omega arith
short (suc n) (x ∷ xs) = let e = short n xs in omega (arith, e)

taken_good : (t : TopologyView) (hosted : List ℕ) (a : Arrival) → IsTo t hosted a → Good t hosted (taken_of a)
taken_good t hosted (Quiet moment) h = h
taken_good t hosted (Datagram b moment bytes) h = (h.0, (h.1.0, (h.1.1, short MAX_DATAGRAM bytes)))

-- a broker of a process is one of its brokers in rising order

passed_by : (b x : ℕ) (p : ℕ → Bool) (xs : List ℕ) (c d : Bool) → p x ≡ c → nat_eq x b ≡ d → p b ≡ true → (list_any (λ y. nat_eq y b) xs ≡ true → list_any (λ y. nat_eq y b) (filter p xs) ≡ true) → d || list_any (λ y. nat_eq y b) xs ≡ true
    → list_any (λ y. nat_eq y b) (cond c (x ∷ filter p xs) (filter p xs)) ≡ true
passed_by b x p xs true true pc e h more any = ap (λ v. v || list_any (λ y. nat_eq y b) (filter p xs)) e
passed_by b x p xs true false pc e h more any = ap (λ v. v || list_any (λ y. nat_eq y b) (filter p xs)) e ∙ more any
passed_by b x p xs false true pc e h more any =
    let same : x ≡ b = eqb-true x b e in
    let k : true ≡ false = sym h ∙ (ap p (sym same) ∙ pc) in
    absurd (cc)
passed_by b x p xs false false pc e h more any = more any

passed : (b : ℕ) (p : ℕ → Bool) (xs : List ℕ) → p b ≡ true → list_any (λ y. nat_eq y b) xs ≡ true → list_any (λ y. nat_eq y b) (filter p xs) ≡ true
passed b p [] h any = any
passed b p (x ∷ xs) h any = passed_by b x p xs (p x) (nat_eq x b) refl refl h (passed b p xs h) any

in_from : (b i k : ℕ) → i ≤ b → b < i + k → list_any (λ y. nat_eq y b) (numbers_from i k) ≡ true
in_from b i zero le lt = absurd (omega (arith, le, lt))
in_from b i (suc k) le lt = here_by (nat_eq i b) refl (λ more. in_from b (suc i) k more (omega (arith, lt)))
  where
    rest_by : (d : Bool) → nat_eq i b ≡ d → list_any (λ y. nat_eq y b) (numbers_from (suc i) k) ≡ true → d || list_any (λ y. nat_eq y b) (numbers_from (suc i) k) ≡ true
    rest_by true e h = refl
    rest_by false e h = h

    next : nat_eq i b ≡ false → suc i ≤ b
    next e = after (λ (same : i ≡ b). false_true (sym e ∙ eq-eqb i b same))
      where
        false_true : false ≡ true → ⊥
        false_true q = cc

        after : ((i ≡ b) → ⊥) → suc i ≤ b
        after apart = omega (arith, le, apart)

    here_by : (d : Bool) → nat_eq i b ≡ d → (suc i ≤ b → list_any (λ y. nat_eq y b) (numbers_from (suc i) k) ≡ true) → list_any (λ y. nat_eq y b) (numbers_from i (suc k)) ≡ true
    here_by true e more = ap (λ v. v || list_any (λ y. nat_eq y b) (numbers_from (suc i) k)) e
    here_by false e more = ap (λ v. v || list_any (λ y. nat_eq y b) (numbers_from (suc i) k)) e ∙ more (next e)

good_comes : (t : TopologyView) (hosted : List ℕ) (a : Arrival) → Good t hosted a → ComesTo (rising t hosted) a
good_comes t hosted (Quiet moment) h = h
good_comes t hosted (Datagram b moment bytes) h =
    (passed b (is_among hosted) (numbers (length t.brokers)) h.0 (in_from b 0 (length t.brokers) (omega arith) (omega (arith, h.1.0))), (h.1.1.0, h.1.1.1))

-- Journals, line by line

abbrev IsRead : TopologyView → Journal → Type 0
IsRead t j = AllByRecursion (λ (c : Came). Good t j.brokers c.arrival) j.came

all_end : {X : Type 0} (P : X → Type 0) (xs : List X) (x : X) → AllByRecursion P xs → P x → AllByRecursion P (xs ++ x ∷ [])
all_end P [] x h p = (p, tt)
all_end P (y ∷ xs) x h p = (h.0, all_end P xs x h.1 p)

abbrev Reads : TopologyView → List Journal → Option Journal → Type 0
Reads t js o = AllByRecursion (IsRead t) js × IfSome o (IsRead t)

closed_reads : (t : TopologyView) (js : List Journal) (o : Option Journal) → Reads t js o → AllByRecursion (IsRead t) (closed (js, o))
closed_reads t js None h = h.0
closed_reads t js (Some j) h = all_end (IsRead t) js j h.0 h.1

abbrev NextReads : TopologyView → Reading → Type 0
NextReads t r = Reads t r.0 r.1

form_reads : (t : TopologyView) (js : List Journal) (j : Journal) (n : ℕ) (line : List ℕ) (form : Form) → Reads t js (Some j) → FormTo t j.brokers form → NextReads t (with_form t (js, Some j) n line form)
form_reads t js j n line (Process brokers) h f = (closed_reads t js (Some j) h, tt)
form_reads t js j n line (Arrives a) h f =
    (h.0, all_end (λ (c : Came). Good t j.brokers c.arrival) j.came (record { line = n; arrival = taken_of a }) h.1 (taken_good t j.brokers a f))
form_reads t js j n line Follows h f = h

none_reads : (t : TopologyView) (js : List Journal) (n : ℕ) (line : List ℕ) (form : Form) → Reads t js None → NextReads t (with_form t (js, None) n line form)
none_reads t js n line (Process brokers) h = (h.0, tt)
none_reads t js n line (Arrives a) h = h
none_reads t js n line Follows h = h

ok_is : {A E : Type 0} (x y : A) → ◌≡◌ {A = Result A E} (Ok x) (Ok y) → x ≡ y
ok_is x y e = ap (λ r. elim r [ Ok z ↦ z | Err f ↦ x ]) e

line_reads : (t : TopologyView) (js : List Journal) (o : Option Journal) (n : ℕ) (line : List ℕ) (next : Reading) → Reads t js o → with_line t (js, o) n line ≡ Ok next → NextReads t next
line_reads t js None n line next h e = go (form_of t None line) e
  where
    go : (f : Option Form) → ◌≡◌ {A = Result Reading AuditFault} (elim f [ None ↦ Err (BadLine n) | Some form ↦ Ok (with_form t (js, None) n line form) ]) (Ok next) → NextReads t next
    go None q = absurd (cc)
    go (Some form) q = subst (NextReads t) (ok_is (with_form t (js, None) n line form) next q) (none_reads t js n line form h)
line_reads t js (Some j) n line next h e = go (form_of t (Some j.brokers) line) (form_fits t j.brokers (words_of line)) e
  where
    go : (f : Option Form) → Fits t j.brokers f → ◌≡◌ {A = Result Reading AuditFault} (elim f [ None ↦ Err (BadLine n) | Some form ↦ Ok (with_form t (js, Some j) n line form) ]) (Ok next) → NextReads t next
    go None k q = absurd (cc)
    go (Some form) k q = subst (NextReads t) (ok_is (with_form t (js, Some j) n line form) next q) (form_reads t js j n line form h k)

next_from : (t : TopologyView) (n : ℕ) (lines : List (List ℕ)) (all : List Journal) (w : Result Reading AuditFault) → ((next : Reading) → w ≡ Ok next → NextReads t next)
    → ((next : Reading) → NextReads t next → journals_from t next n lines ≡ Ok all → AllByRecursion (IsRead t) all) → (w >>= λ next. journals_from t next n lines) ≡ Ok all → AllByRecursion (IsRead t) all
next_from t n lines all (Ok next) one more e = more next (one next refl) e
next_from t n lines all (Err f) one more e = absurd (cc)

from_reads : (t : TopologyView) (js : List Journal) (o : Option Journal) (n : ℕ) (lines : List (List ℕ)) (all : List Journal) → Reads t js o → journals_from t (js, o) n lines ≡ Ok all → AllByRecursion (IsRead t) all
from_reads t js o n [] all h e = subst (AllByRecursion (IsRead t)) (ok_is (closed (js, o)) all e) (closed_reads t js o h)
from_reads t js o n (line ∷ lines) all h e =
    next_from t (n + 1) lines all (with_line t (js, o) (n + 1) line) (λ next k. line_reads t js o (n + 1) line next h k)
    (λ next k q. from_reads t next.0 next.1 (n + 1) lines all k q) e

all_come : (t : TopologyView) (hosted : List ℕ) (came : List Came) → AllByRecursion (λ (c : Came). Good t hosted c.arrival) came → AllComeTo (rising t hosted) came
all_come t hosted [] h = tt
all_come t hosted (c ∷ came) h = (good_comes t hosted c.arrival h.0, all_come t hosted came h.1)

each_comes : (t : TopologyView) (js : List Journal) → AllByRecursion (IsRead t) js → AllCome t js
each_comes t [] h = tt
each_comes t (j ∷ js) h = (all_come t j.brokers j.came h.0, each_comes t js h.1)

pub journals_come : (t : TopologyView) (bytes : List ℕ) (js : List Journal) → journals_of t bytes ≡ Ok js → AllCome t js
journals_come t bytes js e = each_comes t js (from_reads t [] None 0 (lines_of bytes) js (tt, tt) e)

all_at : {X : Type 0} (P : X → Type 0) (xs : List X) (i : ℕ) (d : X) → AllByRecursion P xs → i < length xs → P (get_or xs i d)
all_at P [] i d h lt = absurd (omega (arith, lt))
all_at P (x ∷ xs) zero d h lt = h.0
all_at P (x ∷ xs) (suc i) d h lt = all_at P xs i d h.1 (omega (arith, lt))

pub come_here : (t : TopologyView) (js : List Journal) (i : ℕ) (j : Journal) → AllCome t js → i < length js → j ≡ get_or js i j → AllComeTo (rising t j.brokers) j.came
come_here t js i j h lt is =
    subst (λ (z : Journal). AllComeTo (rising t z.brokers) z.came) (sym is) (all_at (λ (z : Journal). AllComeTo (rising t z.brokers) z.came) js i j h lt)
