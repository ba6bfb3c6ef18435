-- A line of a report is one line: no byte of it ends a line but its last
use Rattle.std.proofs.Common.{◌≡◌, ◌≢◌, inl, inr, ℕ, zero, suc, ◌+◌, ◌/◌, ◌%◌, ◌≤◌, Bool, true, false, ◌&&◌, nat_eq, nat_lt, List, [], ◌∷◌, ◌++◌, length, map, get_or, Option, Some, None, codes, flat_map, refl, sym, ap, ◌∙◌, subst, arith}
use Rattle.std.specs.Prelude.{ℤ, pos, negsuc, ◌==◌, ◌||◌, if◌then◌else◌, not, nat_le, slice_get}
use Rattle.std.specs.List.{AllByRecursion, list_all}
use Rattle.std.specs.Fmt.{decimal, digits, digits_onto, digit_glyph, signed_decimal}
use Rattle.std.specs.Char.{digit_char}
use Rattle.std.proofs.lemmas.Bool.{cases_eq, ne_eqb, and_parts, true≢false}
use Rattle.json.specs.Print.{escape_letter, escape_byte, quoted}
use Rattle.serde_json.specs.Written.{comma_if, compact_text, members_text}
use Rattle.gr_event.specs.declared.event.Event.{Event}
use Rattle.gr_event.specs.declared.value.Value.{Value}
use Rattle.gr_event.specs.declared.value.Value.TheVariants.{Int, Text, Bool as Truth}
use Rattle.gr_event.specs.Joins.{Joins}
use Rattle.gr_event.specs.Json.{data_of, members_of, json_text}
use Rattle.gr_frame.specs.declared.fault.FrameKind.{FrameKind}
use Rattle.gr_frame.specs.declared.fault.FrameKind.TheVariants as frame
use Rattle.gr_frame.specs.Fault.{fault_kinds}
use Rattle.gr_note.specs.declared.fault.NoteKind.{NoteKind}
use Rattle.gr_note.specs.declared.fault.NoteKind.TheVariants as note
use Rattle.gr_note.specs.Fault.{fault_kinds as note_kinds}
use Rattle.gr_tick.specs.declared.run.Run.{Run}
use Rattle.gr_know.specs.declared.values.K.{K}
use Rattle.gr_know.specs.declared.values.K.TheVariants.{Q, S, D, F}
use Rattle.gr_curio.specs.declared.values.Q3.{Q3}
use Rattle.gr_curio.specs.declared.values.Q3.TheVariants.{N, C, A}
use Rattle.gr_topo.specs.Names.{is_name_byte, is_name}
use Rattle.gr_topo.specs.Topology.{TopologyView, IsTopology, name_at}
use Rattle.gr_model.specs.declared.report.Report.{Report}
use Rattle.gr_model.specs.declared.report.Report.TheVariants as line
use Rattle.gr_model.specs.Text.{Labels, labels_of, spaced, know_letter, want_letter, run_word, kind_word, note_kind_word, hex_pair, publisher_words, log_words, sent_words, joins_words, line_words, line_text}

-- no byte ends a line
abbrev pub IsLine : List ℕ → Type 0
IsLine xs = AllByRecursion (λ b. nat_eq b 10 ≡ false) xs

past : (b : ℕ) → 11 ≤ b → nat_eq b 10 ≡ false
past b h = ne_eqb b 10 (λ e. omega (arith, e, h))

pub joined_line : (xs ys : List ℕ) → IsLine xs → IsLine ys → IsLine (xs ++ ys)
joined_line [] ys h k = k
joined_line (x ∷ xs) ys h k = (h.0, joined_line xs ys h.1 k)

pick : (c : Bool) (xs ys : List ℕ) → IsLine xs → IsLine ys → IsLine (if c then xs else ys)
pick true xs ys h k = h
pick false xs ys h k = k

pick_byte : (c : Bool) (a b : ℕ) → nat_eq a 10 ≡ false → nat_eq b 10 ≡ false → nat_eq (if c then a else b) 10 ≡ false
pick_byte true a b h k = h
pick_byte false a b h k = k

-- Numbers

glyph : (d : ℕ) → nat_eq (digit_glyph false d) 10 ≡ false
glyph d = pick_byte (nat_lt d 10) (48 + d) (87 + d) (past (48 + d) (omega arith)) (past (87 + d) (omega arith))

digits_in : (k n : ℕ) (acc : List ℕ) → IsLine acc → IsLine (digits_onto k 10 false n acc)
digits_in zero n acc h = h
digits_in (suc k) n acc h =
    let more : List ℕ = digit_glyph false (n % 10) ∷ acc in
    let next : IsLine more = (glyph (n % 10), h) in
    pick (n / 10 == 0) more (digits_onto k 10 false (n / 10) more) next (digits_in k (n / 10) more next)

number_line : (n : ℕ) → IsLine (decimal n)
unfolding digits
number_line n = digits_in 64 n [] tt

signed_line : (z : ℤ) → IsLine (signed_decimal z)
signed_line (pos n) = number_line n
signed_line (negsuc n) = (refl, number_line (suc n))

-- Events

char_line : (d : ℕ) → nat_eq (digit_char d) 10 ≡ false
char_line d = pick_byte (nat_lt d 10) (48 + d) (87 + d) (past (48 + d) (omega arith)) (past (87 + d) (omega arith))

letter_line : (x : ℕ) → x ≢ 10 → nat_eq (escape_letter x) 10 ≡ false
letter_line x ne =
    pick_byte ((x == 34) || (x == 92)) x _ (ne_eqb x 10 ne)
    (pick_byte (x == 8) 98 _ refl (pick_byte (x == 12) 102 _ refl (pick_byte (x == 10) 110 _ refl (pick_byte (x == 13) 114 _ refl (pick_byte (x == 9) 116 0 refl refl)))))

escaped_line : (x : ℕ) → IsLine (escape_byte x)
unfolding escape_byte
escaped_line x = elim (cases_eq x 10) [
  | inl e ↦ subst (λ (y : ℕ). IsLine (escape_byte y)) (sym e) (refl, (refl, tt))
  | inr ne ↦
      pick (nat_lt 0 (escape_letter x)) (92 ∷ escape_letter x ∷ []) _ (refl, (letter_line x ne, tt))
      (pick (nat_lt x 32) (92 ∷ 117 ∷ 48 ∷ 48 ∷ digit_char (x / 16) ∷ digit_char (x % 16) ∷ []) (x ∷ [])
      (refl, (refl, (refl, (refl, (char_line (x / 16), (char_line (x % 16), tt)))))) (ne_eqb x 10 ne, tt))
]

escapes_line : (s : List ℕ) → IsLine (flat_map escape_byte s)
escapes_line [] = tt
escapes_line (x ∷ s) = joined_line (escape_byte x) (flat_map escape_byte s) (escaped_line x) (escapes_line s)

quoted_line : (s : List ℕ) → IsLine (quoted s)
quoted_line s = (refl, joined_line (flat_map escape_byte s) (34 ∷ []) (escapes_line s) (refl, tt))

value_line : (v : Value) → IsLine (compact_text (data_of v))
value_line (Int (pos n)) = number_line n
value_line (Int (negsuc n)) = signed_line (negsuc n)
value_line (Text t) = quoted_line t
value_line (Truth true) = (refl, (refl, (refl, (refl, tt))))
value_line (Truth false) = (refl, (refl, (refl, (refl, (refl, tt)))))

members_line : (later : Bool) (e : Event) → IsLine (members_text later (members_of e))
members_line later [] = (refl, tt)
members_line later (p ∷ ps) =
    joined_line (comma_if later) _ (pick later (44 ∷ []) [] (refl, tt) tt)
    (joined_line (quoted p.0) _ (quoted_line p.0) (refl, joined_line (compact_text (data_of p.1)) _ (value_line p.1) (members_line true ps)))

event_line : (e : Event) → IsLine (json_text e)
unfolding json_text
event_line e = (refl, members_line false e)

-- Names

byte_line : (c : ℕ) → is_name_byte c ≡ true → nat_eq c 10 ≡ false
byte_line c h = elim (cases_eq c 10) [
  | inl e ↦ absurd (true≢false (sym h ∙ ap is_name_byte e))
  | inr ne ↦ ne_eqb c 10 ne
]

name_line : (name : List ℕ) → list_all is_name_byte name ≡ true → IsLine name
name_line [] h = tt
name_line (c ∷ name) h =
    let parts = and_parts (is_name_byte c) (list_all is_name_byte name) h in
    (byte_line c parts.0, name_line name parts.1)

names_line : (names : List (List ℕ)) (n : ℕ) → AllByRecursion (λ name. is_name name ≡ true) names → IsLine (name_at names n)
names_line [] n h = tt
names_line (name ∷ names) zero h =
    name_line name (and_parts (nat_lt 0 (length name) && nat_le (length name) 64) (list_all is_name_byte name) h.0).1
names_line (name ∷ names) (suc n) h = names_line names n h.1

-- labels that are lines
pub record AreLines (labels : Labels) : Type 0 where
  pub broker : (n : ℕ) → IsLine (labels.broker n)
  pub publisher : (n : ℕ) → IsLine (labels.publisher n)
  pub subscriber : (n : ℕ) → IsLine (labels.subscriber n)

pub names_are_lines : (t : TopologyView) → IsTopology t → AreLines (labels_of t)
names_are_lines t h = record {
  broker = λ n. names_line t.brokers n h.sound.broker_names.each;
  publisher = λ n. names_line t.publishers n h.sound.publisher_names.each;
  subscriber = λ n. names_line t.subscribers n h.sound.subscriber_names.each;
}

-- Words

abbrev AreWords : List (List ℕ) → Type 0
AreWords words = AllByRecursion IsLine words

more_words : (xs ys : List (List ℕ)) → AreWords xs → AreWords ys → AreWords (xs ++ ys)
more_words [] ys h k = k
more_words (x ∷ xs) ys h k = (h.0, more_words xs ys h.1 k)

behind_line : (words : List (List ℕ)) → AreWords words → IsLine (flat_map (λ (word : List ℕ). (32 ∷ []) ++ word) words)
behind_line [] h = tt
behind_line (word ∷ words) h = (refl, joined_line word _ h.0 (behind_line words h.1))

spaced_line : (words : List (List ℕ)) → AreWords words → IsLine (spaced words)
spaced_line [] h = tt
spaced_line (word ∷ words) h = joined_line word _ h.0 (behind_line words h.1)

know_line : (k : K) → IsLine (know_letter k)
know_line Q = (refl, tt)
know_line S = (refl, tt)
know_line (D event) = (refl, tt)
know_line F = (refl, tt)

want_line : (k : Q3) → IsLine (want_letter k)
want_line N = (refl, tt)
want_line C = (refl, tt)
want_line A = (refl, tt)

run_line : {V : Type 0} (letter : V → List ℕ) → ((v : V) → IsLine (letter v)) → (r : Run V) → IsLine (run_word letter r)
run_line letter each r =
    joined_line (letter r.value) _ (each r.value) (joined_line (decimal r.first) _ (number_line r.first) (refl, number_line r.last))

runs_line : {V : Type 0} (letter : V → List ℕ) → ((v : V) → IsLine (letter v)) → (rs : List (Run V)) → AreWords (map (run_word letter) rs)
runs_line letter each [] = tt
runs_line letter each (r ∷ rs) = (run_line letter each r, runs_line letter each rs)

joins_line : (js : Joins) → AreWords (joins_words js)
joins_line [] = tt
joins_line (j ∷ js) = ((refl, (refl, (refl, (refl, (refl, tt))))), (number_line (length (j ∷ js)), tt))

-- what is written out
literal : (xs : List ℕ) → list_all (λ b. not (nat_eq b 10)) xs ≡ true → IsLine xs
literal [] h = tt
literal (x ∷ xs) h =
    let parts = and_parts (not (nat_eq x 10)) (list_all (λ b. not (nat_eq b 10)) xs) h in
    (off (nat_eq x 10) parts.0, literal xs parts.1)
  where
    off : (c : Bool) → not c ≡ true → c ≡ false
    off false e = refl
    off true e = absurd (true≢false (sym e))

fault_line : (o : Option FrameKind) → IsLine (kind_word o)
fault_line None = tt
fault_line (Some frame.Memory) = literal (codes "memory") refl
fault_line (Some frame.Short) = literal (codes "short") refl
fault_line (Some frame.BadMagic) = literal (codes "bad-magic") refl
fault_line (Some frame.BadVersion) = literal (codes "bad-version") refl
fault_line (Some frame.BadKind) = literal (codes "bad-kind") refl
fault_line (Some frame.BadRange) = literal (codes "bad-range") refl
fault_line (Some frame.BadOrder) = literal (codes "bad-order") refl
fault_line (Some frame.BadEvent) = literal (codes "bad-event") refl
fault_line (Some frame.Trailing) = literal (codes "trailing") refl
fault_line (Some frame.TooLong) = literal (codes "too-long") refl
fault_line (Some frame.BadJoins) = literal (codes "bad-joins") refl

note_line : (o : Option NoteKind) → IsLine (note_kind_word o)
note_line None = tt
note_line (Some note.Memory) = literal (codes "memory") refl
note_line (Some note.Short) = literal (codes "short") refl
note_line (Some note.BadMagic) = literal (codes "bad-magic") refl
note_line (Some note.BadVersion) = literal (codes "bad-version") refl
note_line (Some note.BadKind) = literal (codes "bad-kind") refl
note_line (Some note.BadRange) = literal (codes "bad-range") refl
note_line (Some note.BadEvent) = literal (codes "bad-event") refl
note_line (Some note.Trailing) = literal (codes "trailing") refl

at_line : (xs : List ℕ) (k : ℕ) → IsLine xs → nat_eq (get_or xs k 0) 10 ≡ false
at_line [] k h = refl
at_line (x ∷ xs) zero h = h.0
at_line (x ∷ xs) (suc k) h = at_line xs k h.1

hex_line : (bytes : List ℕ) → IsLine (flat_map hex_pair bytes)
hex_line [] = tt
hex_line (byte ∷ bytes) =
    let digits_are : IsLine (codes "0123456789abcdef") = literal (codes "0123456789abcdef") refl in
    (at_line (codes "0123456789abcdef") (byte / 16) digits_are, (at_line (codes "0123456789abcdef") (byte % 16) digits_are, hex_line bytes))

-- The words of lines

module _ (labels : Labels) (l : AreLines labels) where
  numbered : (first : List ℕ) (p : ℕ) (ns : List ℕ) → IsLine first → AreWords (publisher_words labels first p ns)
  numbered first p ns h = (h, (l.publisher p, each ns))
    where
      each : (ns : List ℕ) → AreWords (map decimal ns)
      each [] = tt
      each (n ∷ ns) = (number_line n, each ns)

  logged : (first : List ℕ) (p last settled cut : ℕ) → IsLine first → AreWords (log_words labels first p last settled cut)
  logged first p last settled cut h =
      (h, (l.publisher p, (literal (codes "last") refl, (number_line last, (literal (codes "settled") refl, (number_line settled, (literal (codes "cut") refl, (number_line cut, tt))))))))

  sent : (number from to : ℕ) (kind : List ℕ) (p : ℕ) → IsLine kind → AreWords (sent_words labels number from to kind p)
  sent number from to kind p h =
      (literal (codes "sent") refl, (number_line number, (l.broker from, (l.broker to, (h, (l.publisher p, tt))))))

  words_are : (report : Report) → AreWords (line_words labels report)
  words_are (line.Opened p last settled cut) = logged (codes "opened") p last settled cut (literal (codes "opened") refl)
  words_are (line.Logged p number tick) = numbered (codes "logged") p (number ∷ tick ∷ []) (literal (codes "logged") refl)
  words_are (line.Already p number) = numbered (codes "already") p (number ∷ []) (literal (codes "already") refl)
  words_are (line.Gap p number next) =
      (literal (codes "gap") refl, (l.publisher p, (number_line number, (literal (codes "next") refl, (number_line next, tt)))))
  words_are (line.Exhausted p number) = numbered (codes "exhausted") p (number ∷ []) (literal (codes "exhausted") refl)
  words_are (line.Joined s p tick) = (literal (codes "joined") refl, (l.subscriber s, (l.publisher p, (number_line tick, tt))))
  words_are (line.AlreadyJoined s p) = (literal (codes "already-joined") refl, (l.subscriber s, (l.publisher p, tt)))
  words_are (line.ExhaustedJoin s p) = (literal (codes "exhausted-join") refl, (l.subscriber s, (l.publisher p, tt)))
  words_are (line.Kept p number tick) = numbered (codes "kept") p (number ∷ tick ∷ []) (literal (codes "kept") refl)
  words_are (line.Lost p number tick) = numbered (codes "lost") p (number ∷ tick ∷ []) (literal (codes "lost") refl)
  words_are (line.Mark p tick) = numbered (codes "mark") p (tick ∷ []) (literal (codes "mark") refl)
  words_are (line.Cut p tick) = numbered (codes "cut") p (tick ∷ []) (literal (codes "cut") refl)
  words_are (line.Reclaimed p number) = numbered (codes "reclaimed") p (number ∷ []) (literal (codes "reclaimed") refl)
  words_are (line.Got s p tick e) = (literal (codes "got") refl, (l.subscriber s, (l.publisher p, (number_line tick, (event_line e, tt)))))
  words_are (line.Horizon s p tick) = (literal (codes "horizon") refl, (l.subscriber s, (l.publisher p, (number_line tick, tt))))
  words_are (line.Ordered s p tick e) = (literal (codes "ordered") refl, (l.subscriber s, (l.publisher p, (number_line tick, (event_line e, tt)))))
  words_are (line.SentKnow number from to p runs js) =
      more_words (sent_words labels number from to (codes "know") p) _ (sent number from to (codes "know") p (literal (codes "know") refl))
      (more_words (joins_words js) _ (joins_line js) (runs_line know_letter know_line runs))
  words_are (line.SentWant number from to p runs) =
      more_words (sent_words labels number from to (codes "want") p) _ (sent number from to (codes "want") p (literal (codes "want") refl))
      (runs_line want_letter want_line runs)
  words_are (line.SentExpect number from to p tick) =
      more_words (sent_words labels number from to (codes "expect") p) (decimal tick ∷ []) (sent number from to (codes "expect") p (literal (codes "expect") refl))
      (number_line tick, tt)
  words_are (line.Crashed b) = (literal (codes "crashed") refl, (l.broker b, tt))
  words_are (line.Swept moment) = (literal (codes "swept") refl, (number_line moment, tt))
  words_are (line.RefusedHosts n b) =
      (literal (codes "refused") refl, (literal (codes "line") refl, (number_line n, (literal (codes "hosts-subscriber") refl, (l.broker b, tt)))))
  words_are (line.RefusedFrame n frame sent_so_far) =
      (literal (codes "refused") refl, (literal (codes "line") refl, (number_line n, (literal (codes "no-frame") refl, (number_line frame, (literal (codes "of") refl, (number_line sent_so_far, tt)))))))
  words_are (line.RefusedClock n moment) =
      (literal (codes "refused") refl, (literal (codes "line") refl, (number_line n, (literal (codes "clock-range") refl, (number_line moment, tt)))))
  words_are (line.DroppedNotFrame b fault at) =
      (literal (codes "dropped") refl, (l.broker b, (literal (codes "not-frame") refl, (fault_line (slice_get fault_kinds fault), (number_line at, tt)))))
  words_are (line.DroppedStray b from to p) =
      (literal (codes "dropped") refl, (l.broker b, (literal (codes "stray") refl, (number_line from, (number_line to, (number_line p, tt))))))
  words_are (line.DroppedSplit b at kept came) =
      (literal (codes "dropped") refl, (l.broker b, (literal (codes "split") refl, (number_line at, (number_line kept.subscriber, (number_line kept.tick, (number_line came.subscriber, (number_line came.tick, tt))))))))
  words_are (line.DroppedClash b tick kept came) =
      (literal (codes "dropped") refl, (l.broker b, (literal (codes "clash") refl, (number_line tick, (know_line kept, (know_line came, tt))))))
  words_are (line.DroppedBadNote b fault at) =
      (literal (codes "dropped") refl, (l.broker b, (literal (codes "bad-note") refl, (note_line (slice_get note_kinds fault), (number_line at, tt)))))
  words_are (line.DroppedStrayNote b p) = (literal (codes "dropped") refl, (l.broker b, (literal (codes "stray-note") refl, (number_line p, tt))))
  words_are (line.Damaged p at) = numbered (codes "damaged") p (at ∷ []) (literal (codes "damaged") refl)
  words_are (line.Frames count) = (literal (codes "frames") refl, (number_line count, tt))
  words_are (line.LogOf p last settled cut kept) =
      more_words (log_words labels (codes "log") p last settled cut) (codes "kept" ∷ decimal kept ∷ []) (logged (codes "log") p last settled cut (literal (codes "log") refl))
      (literal (codes "kept") refl, (number_line kept, tt))
  words_are (line.Doubt b p tick) = (literal (codes "doubt") refl, (l.broker b, (l.publisher p, (number_line tick, tt))))
  words_are (line.BytesOf frame bytes) = (literal (codes "bytes") refl, (number_line frame, (hex_line bytes, tt)))

  pub report_line : (report : Report) → IsLine (line_text labels report)
  report_line report = spaced_line (line_words labels report) (words_are report)
