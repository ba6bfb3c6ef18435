-- A plain line is its own line, reads as its step, and adds it
use Rattle.std.proofs.Common.{◌≡◌, ℕ, zero, suc, ◌+◌, ◌-◌, ◌*◌, ◌^◌, ◌<◌, ◌≤◌, Bool, true, false, not, ◌&&◌, cond, nat_eq, List, [], ◌∷◌, ◌++◌, length, take, drop, get_or, Some, None, Ok, Err, refl, sym, ap, subst, ◌∙◌, arith}
use Rattle.std.specs.Prelude.{◌==◌, nat_lt, nat_le, slice_index, codes, Result}
use Rattle.std.specs.List.{list_all, position, position_or_len, AllByRecursion}
use Rattle.std.specs.Io.BufRead.{ends_with_byte, strip_last}
use Rattle.std.proofs.lemmas.List.{take_at, take_more, append_assoc, length_push, length-append, length-take, get_or_push}
use Rattle.std.proofs.Math.Nat.{pow-le-pow_right}
use Rattle.std.proofs.lemmas.Bool.{and_parts, and_from, cond-true, cond-false, lt-ltb, le-leb, ltb-true, leb-true, eqb-true, ne_eqb, not_from_false, or_from}
use Rattle.gr_event.specs.declared.event.Event.{Event}
use Rattle.gr_event.specs.Json.{event_text}
use Rattle.gr_event.specs.Limits.{IsEvent}
use Rattle.gr_sched.specs.declared.fault.StepFault.{StepFault}
use Rattle.gr_sched.specs.declared.step.TheConstants.{MAX_NUMBER}
use Rattle.gr_sched.specs.declared.step.Step.{Step}
use Rattle.gr_sched.specs.declared.step.Step.TheVariants.{Clock, Publish, Deliver}
use Rattle.gr_sched.specs.declared.step.Line.{Line}
use Rattle.gr_sched.specs.declared.verb.Verb.{Verb}
use Rattle.gr_sched.specs.declared.verb.Verb.TheVariants as verb
use Rattle.gr_sched.specs.Naming.{Naming}
use Rattle.gr_sched.specs.Text.{is_gap, without_gaps, pieces_of, longer, line_of, is_counted, counted_after}
use Rattle.gr_sched.specs.Words.{◌>>=◌, ended, is_digit, is_number, value_after}
use Rattle.gr_sched.specs.Ranges.{IsInLimits}
use Rattle.gr_sched.specs.Grammar.{verb_of, step_by, step_of, lines_of}
use Rattle.gr_sched.specs.Printed.{IsWord}
use Rattle.gr_sched.specs.Plain.{IsNumberBefore, IsNameBefore, IsObjectBefore, behind, Adds}
use Rattle.gr_sched.proofs.ReadsBack.{EndsWhole, word_begins, ends_behind, word_rest, whole_word, line_is, digits_push, value_push, Spells, digits_word, digits_last, brace, brace_ends, publish_is}

-- ---- bytes past a space

all_of : (p q : ℕ → Bool) → ((b : ℕ) → p b ≡ true → q b ≡ true) → (xs : List ℕ) → list_all p xs ≡ true → list_all q xs ≡ true
all_of p q f [] h = refl
all_of p q f (x ∷ xs) h =
    let parts = and_parts (p x) (list_all p xs) h in
    and_from (q x) (list_all q xs) (f x parts.0) (all_of p q f xs parts.1)

both_all : (p : ℕ → Bool) (xs ys : List ℕ) → list_all p xs ≡ true → list_all p ys ≡ true → list_all p (xs ++ ys) ≡ true
both_all p [] ys h g = g
both_all p (x ∷ xs) ys h g =
    let parts = and_parts (p x) (list_all p xs) h in
    and_from (p x) (list_all p (xs ++ ys)) parts.0 (both_all p xs ys parts.1 g)

not_gap : (b : ℕ) → nat_lt 32 b ≡ true → not (is_gap b) ≡ true
not_gap b h =
    let past = ltb-true 32 b h in
    not_from_false (is_gap b) (or_from (nat_eq b 32) (nat_eq b 9) (ne_eqb b 32 (λ e. omega (arith, e, past))) (ne_eqb b 9 (λ e. omega (arith, e, past))))

not_end : (b : ℕ) → nat_lt 32 b ≡ true → not (b == 10) ≡ true
not_end b h = let past = ltb-true 32 b h in not_from_false (b == 10) (ne_eqb b 10 (λ e. omega (arith, e, past)))

digit_past : (b : ℕ) → is_digit b ≡ true → nat_lt 32 b ≡ true
digit_past b h =
    let least = leb-true 48 b (and_parts (nat_le 48 b) (nat_le b 57) h).0 in
    lt-ltb 32 b (omega (arith, least))

-- ---- where a line ends

off : (v : Bool) → not v ≡ true → v ≡ false
off false e = refl
off true e = absurd (cc)

line_cut : (line rest : List ℕ) → list_all (λ b. not (b == 10)) line ≡ true → pieces_of (line ++ 10 ∷ rest) ≡ (line ++ 10 ∷ []) ∷ pieces_of rest
line_cut [] rest h = refl
line_cut (b ∷ bs) rest h =
    let parts = and_parts (not (b == 10)) (list_all (λ c. not (c == 10)) bs) h in
    cond-false (b == 10) ((b ∷ []) ∷ pieces_of (bs ++ 10 ∷ rest)) (longer b (pieces_of (bs ++ 10 ∷ rest))) (off (b == 10) parts.0)
    ∙ ap (λ ps. longer b ps) (line_cut bs rest parts.1)

last_place : (xs : List ℕ) (x : ℕ) → length (xs ++ x ∷ []) - 1 ≡ length xs
last_place xs x = omega (arith, length_push xs x)

ends_in : (c : ℕ) (xs : List ℕ) (x : ℕ) → ends_with_byte c (xs ++ x ∷ []) ≡ (x == c)
ends_in c xs x =
    let ys = xs ++ x ∷ [] in
    let some : nat_lt 0 (length ys) ≡ true = lt-ltb 0 (length ys) (omega (arith, length_push xs x)) in
    ap (λ b. b && (slice_index ys (length ys - 1) == c)) some ∙ ap (λ k. slice_index ys k == c) (last_place xs x) ∙ ap (λ y. y == c) (get_or_push xs x 0 (length xs) refl)

last_off : (c : ℕ) (xs : List ℕ) (x : ℕ) → (x == c) ≡ true → strip_last c (xs ++ x ∷ []) ≡ xs
last_off c xs x h =
    let ys = xs ++ x ∷ [] in
    cond-true (ends_with_byte c ys) (take (length ys - 1) ys) ys (ends_in c xs x ∙ h) ∙ ap (λ k. take k ys) (last_place xs x) ∙ take_at xs (x ∷ []) (length xs) refl

-- ---- a plain line

-- it has no LF, ends with a byte past a space, and is counted
pub record IsPlain (line : List ℕ) : Type 0 where
  pub one_line : list_all (λ b. not (b == 10)) line ≡ true
  pub ends : EndsWhole line
  pub no_cr : (ends.last == 13) ≡ false
  pub counted : is_counted line ≡ true

line_of_plain : (line : List ℕ) → IsPlain line → line_of (line ++ 10 ∷ []) ≡ line
line_of_plain line h =
    let ended_by : ends_with_byte 13 line ≡ false = ap (λ l. ends_with_byte 13 l) h.ends.is ∙ ends_in 13 h.ends.front h.ends.last ∙ h.no_cr in
    cond-true (ends_with_byte 10 (line ++ 10 ∷ [])) (strip_last 13 (strip_last 10 (line ++ 10 ∷ []))) (line ++ 10 ∷ []) (ends_in 10 line 10)
    ∙ ap (λ l. strip_last 13 l) (last_off 10 line 10 refl) ∙ cond-false (ends_with_byte 13 line) (take (length line - 1) line) line ended_by

counted_plain : (n : ℕ) (line rest : List ℕ) → IsPlain line → counted_after n (pieces_of (line ++ 10 ∷ rest)) ≡ (n + 1, line) ∷ counted_after (n + 1) (pieces_of rest)
counted_plain n line rest h =
    let more = counted_after (n + 1) (pieces_of rest) in
    ap (λ ps. counted_after n ps) (line_cut line rest h.one_line)
    ∙ ap (λ l. cond (is_counted l) ((n + 1, l) ∷ more) more) (line_of_plain line h)
    ∙ cond-true (is_counted line) ((n + 1, line) ∷ more) more h.counted

-- ---- what a line adds

pub all_push : {X : Type 0} (P : X → Type 0) (xs : List X) (x : X) → AllByRecursion P xs → P x → AllByRecursion P (xs ++ x ∷ [])
all_push P [] x all h = (h, tt)
all_push P (y ∷ ys) x all h = (all.0, all_push P ys x all.1 h)

behind_push : (old : List Line) (l : Line) (more : Result (List Line) StepFault) → behind old (more >>= λ lines. Ok (l ∷ lines)) ≡ behind (old ++ l ∷ []) more
behind_push old l (Ok lines) = ap Ok (sym (append_assoc old (l ∷ []) lines))
behind_push old l (Err f) = refl

-- a counted line that reads as a step goes behind those that were read
pub counted_adds : (names : Naming) (old : List Line) (n : ℕ) (line : List ℕ) (s : Step) (more : List (ℕ × List ℕ)) → step_of names n line ≡ Ok s
    → behind old (lines_of names ((n, line) ∷ more)) ≡ behind (old ++ (record { number = n; step = s }) ∷ []) (lines_of names more)
counted_adds names old n line s more e =
    ap (λ r. behind old (r >>= λ step. lines_of names more >>= λ lines. Ok ((record { number = n; step = step }) ∷ lines))) e
    ∙ behind_push old (record { number = n; step = s }) (lines_of names more)

adds_line : (names : Naming) (before : ℕ) (line rest : List ℕ) (old : List Line) (s : Step) → IsPlain line → ((n : ℕ) → step_of names n line ≡ Ok s) → IsInLimits s
    → Adds names before (line ++ 10 ∷ rest) old 1 rest (old ++ (record { number = before + 1; step = s }) ∷ [])
adds_line names before line rest old s plain reads good =
    let l : Line = record { number = before + 1; step = s } in
    let first = counted_plain before line rest plain in
    record {
      same = ap (λ cs. behind old (lines_of names cs)) first ∙ counted_adds names old (before + 1) line s (counted_after (before + 1) (pieces_of rest)) (reads (before + 1));
      all = omega (arith, ap length first, length_push old l);
      few = omega (arith, length_push old l);
      limits = λ h. all_push (λ x. IsInLimits x.step) old l h good;
      shorter = omega (arith, length-append line (10 ∷ rest));
    }

-- ---- the three steps

number_spells : (stop number : ℕ) (text rest : List ℕ) (h : IsNumberBefore stop text number rest) → Spells number h.digits
number_spells stop number text rest h = record { reads = h.reads; value = h.value }

digits_past : (ds : List ℕ) → is_number ds ≡ true → list_all (λ b. nat_lt 32 b) ds ≡ true
digits_past ds h = all_of is_digit (λ b. nat_lt 32 b) digit_past ds (and_parts (nat_lt 0 (length ds) && nat_le (length ds) 19) (list_all is_digit ds) h).1

past_one_line : (w : List ℕ) → list_all (λ b. nat_lt 32 b) w ≡ true → list_all (λ b. not (b == 10)) w ≡ true
past_one_line w h = all_of (λ b. nat_lt 32 b) (λ b. not (b == 10)) not_end w h

-- the last of some bytes past a space
record EndsPast (w : List ℕ) : Type 0 where
  front : List ℕ
  last : ℕ
  is : w ≡ front ++ last ∷ []
  past : nat_lt 32 last ≡ true

ends_past : (w : List ℕ) → 0 < length w → list_all (λ b. nat_lt 32 b) w ≡ true → EndsPast w
ends_past [] some h = absurd (omega (arith, some))
ends_past (x ∷ []) some h = record { front = []; last = x; is = refl; past = (and_parts (nat_lt 32 x) true h).0 }
ends_past (x ∷ y ∷ w) some h =
    let e = ends_past (y ∷ w) (omega arith) (and_parts (nat_lt 32 x) (list_all (λ b. nat_lt 32 b) (y ∷ w)) h).1 in
    record { front = x ∷ e.front; last = e.last; is = ap (λ l. x ∷ l) e.is; past = e.past }

abbrev whole_end : (w : List ℕ) → EndsPast w → EndsWhole w
whole_end w e = record { front = e.front; last = e.last; is = e.is; whole = not_gap e.last e.past }

no_cr_past : (b : ℕ) → nat_lt 32 b ≡ true → (b == 13) ≡ false
no_cr_past b h = let past = ltb-true 32 b h in ne_eqb b 13 (λ e. omega (arith, e, past))

-- what stands behind the word of a plain line
record IsTail (tail : List ℕ) : Type 0 where
  one_line : list_all (λ b. not (b == 10)) tail ≡ true
  begins : without_gaps tail ≡ tail
  ends : EndsWhole tail
  no_cr : (ends.last == 13) ≡ false

word_adds : (names : Naming) (before : ℕ) (word tail rest : List ℕ) (old : List Line) (v : Verb) (s : Step) → IsWord word → verb_of word ≡ Some v → list_all (λ c. not (c == 10)) (word ++ 32 ∷ []) ≡ true → is_counted (word ++ 32 ∷ tail) ≡ true
    → IsTail tail → ((n : ℕ) → step_by names n v tail ≡ Ok s) → IsInLimits s → Adds names before (word ++ 32 ∷ (tail ++ 10 ∷ rest)) old 1 rest (old ++ (record { number = before + 1; step = s }) ∷ [])
word_adds names before word tail rest old v s is_word known_as one counted t reads good =
    let same : (word ++ 32 ∷ []) ++ tail ≡ word ++ 32 ∷ tail = append_assoc word (32 ∷ []) tail in
    let plain : IsPlain (word ++ 32 ∷ tail) = record {
      one_line = ap (λ l. list_all (λ c. not (c == 10)) l) (sym same) ∙ both_all (λ c. not (c == 10)) (word ++ 32 ∷ []) tail one t.one_line;
      ends = ends_behind word (32 ∷ tail) (ends_behind (32 ∷ []) tail t.ends);
      no_cr = t.no_cr;
      counted = counted;
    } in
    subst (λ text. Adds names before text old 1 rest (old ++ (record { number = before + 1; step = s }) ∷ [])) (append_assoc word (32 ∷ tail) (10 ∷ rest))
    (adds_line names before (word ++ 32 ∷ tail) rest old s plain (λ n. line_is names n word tail v is_word known_as t.begins t.ends ∙ reads n) good)

number_tail : (m : ℕ) (ds : List ℕ) → Spells m ds → IsTail ds
number_tail m ds h =
    let word = digits_word m ds h in
    let past = digits_past ds h.reads in
    let e = ends_past ds word.some past in
    record { one_line = past_one_line ds past; begins = word_rest ds word; ends = whole_end ds e; no_cr = no_cr_past e.last e.past }

pub clock_adds : (names : Naming) (before : ℕ) (text rest : List ℕ) (old : List Line) (now : ℕ) → IsNumberBefore 10 text now rest
    → Adds names before (codes "clock " ++ text) old 1 rest (old ++ (record { number = before + 1; step = Clock now }) ∷ [])
clock_adds names before text rest old now h =
    let spelled = number_spells 10 now text rest h in
    subst (λ t. Adds names before (codes "clock " ++ t) old 1 rest (old ++ (record { number = before + 1; step = Clock now }) ∷ [])) (sym h.whole)
    (word_adds names before (codes "clock") h.digits rest old verb.Clock (Clock now) (whole_word (codes "clock") refl (omega arith)) refl refl refl (number_tail now h.digits spelled)
    (λ n. ap (λ r. r >>= λ x. ended n x.1 (Clock x.0)) (digits_last n 0 MAX_NUMBER now h.digits spelled (omega arith) h.most)) h.most)

pub deliver_adds : (names : Naming) (before : ℕ) (text rest : List ℕ) (old : List Line) (frame : ℕ) → IsNumberBefore 10 text frame rest
    → Adds names before (codes "deliver " ++ text) old 1 rest (old ++ (record { number = before + 1; step = Deliver frame }) ∷ [])
deliver_adds names before text rest old frame h =
    let spelled = number_spells 10 frame text rest h in
    subst (λ t. Adds names before (codes "deliver " ++ t) old 1 rest (old ++ (record { number = before + 1; step = Deliver frame }) ∷ [])) (sym h.whole)
    (word_adds names before (codes "deliver") h.digits rest old verb.Deliver (Deliver frame) (whole_word (codes "deliver") refl (omega arith)) refl refl refl (number_tail frame h.digits spelled)
    (λ n. ap (λ r. r >>= λ x. ended n x.1 (Deliver x.0)) (digits_last n 0 MAX_NUMBER frame h.digits spelled (omega arith) h.most)) tt)

publish_tail : (name ds inside : List ℕ) → list_all (λ b. nat_lt 32 b) name ≡ true → IsWord name → list_all (λ b. nat_lt 32 b) ds ≡ true → list_all (λ b. not (b == 10)) (brace inside) ≡ true → IsTail (name ++ 32 ∷ (ds ++ 32 ∷ brace inside))
publish_tail name ds inside visible word past one = record {
  one_line = both_all (λ b. not (b == 10)) name (32 ∷ (ds ++ 32 ∷ brace inside)) (past_one_line name visible) (both_all (λ b. not (b == 10)) ds (32 ∷ brace inside) (past_one_line ds past) one);
  begins = word_begins name (32 ∷ (ds ++ 32 ∷ brace inside)) word;
  ends = ends_behind name (32 ∷ (ds ++ 32 ∷ brace inside)) (ends_behind (32 ∷ []) (ds ++ 32 ∷ brace inside) (ends_behind ds (32 ∷ brace inside) (ends_behind (32 ∷ []) (brace inside) (brace_ends inside))));
  no_cr = refl;
}

pub publish_adds : (names : Naming) (before : ℕ) (text name second third object rest : List ℕ) (old : List Line) (publisher number : ℕ) (event : Event)
    → IsNameBefore text name second → names.publisher name ≡ Some publisher → IsNumberBefore 32 second number third → 1 ≤ number → IsObjectBefore third object rest → event_text object ≡ Ok event → IsEvent event
    → Adds names before (codes "publish " ++ text) old 1 rest (old ++ (record { number = before + 1; step = Publish publisher number None event }) ∷ [])
publish_adds names before text name second third object rest old publisher number event named known_as counted least braced reads good =
    let ds = counted.digits in
    let inside = braced.inside in
    let spelled = number_spells 32 number second third counted in
    let word : IsWord name = record { some = named.some; whole = all_of (λ c. nat_lt 32 c) (λ c. not (is_gap c)) not_gap name named.visible } in
    let tail = name ++ 32 ∷ (ds ++ 32 ∷ brace inside) in
    let one : list_all (λ c. not (c == 10)) (brace inside) ≡ true = ap (λ l. list_all (λ c. not (c == 10)) l) (sym braced.braces) ∙ braced.one_line in
    let line : text ≡ tail ++ 10 ∷ rest =
    named.whole ∙ ap (λ l. name ++ 32 ∷ l) (counted.whole ∙ ap (λ l. ds ++ 32 ∷ l) (braced.whole ∙ ap (λ l. l ++ 10 ∷ rest) braced.braces) ∙ sym (append_assoc ds (32 ∷ brace inside) (10 ∷ rest))) ∙ sym (append_assoc name (32 ∷ (ds ++ 32 ∷ brace inside)) (10 ∷ rest)) in
    subst (λ t. Adds names before (codes "publish " ++ t) old 1 rest (old ++ (record { number = before + 1; step = Publish publisher number None event }) ∷ [])) (sym line)
    (word_adds names before (codes "publish") tail rest old verb.Publish (Publish publisher number None event) (whole_word (codes "publish") refl (omega arith)) refl refl refl
    (publish_tail name ds inside named.visible word (digits_past ds counted.reads) one)
    (λ n. publish_is names n name ds publisher number None event inside (record { is_word = word; known = known_as }) spelled least counted.most tt (ap event_text (sym braced.braces) ∙ reads)) good)

-- behind lines that were added, a counted line more
pub next_same : (names : Naming) (whole : Result (List Line) StepFault) (before n number : ℕ) (text after rest line : List ℕ) (old between new : List Line) (s : Step) → Adds names before text old n after between
    → counted_after (before + n) (pieces_of after) ≡ (number, line) ∷ counted_after number (pieces_of rest) → step_of names number line ≡ Ok s → new ≡ between ++ (record { number = number; step = s }) ∷ []
    → whole ≡ behind old (lines_of names (counted_after before (pieces_of text))) → whole ≡ behind new (lines_of names (counted_after number (pieces_of rest)))
next_same names whole before n number text after rest line old between new s adds found reads pushed same =
    same ∙ adds.same ∙ ap (λ cs. behind between (lines_of names cs)) found ∙ counted_adds names between number line s (counted_after number (pieces_of rest)) reads
    ∙ ap (λ ls. behind ls (lines_of names (counted_after number (pieces_of rest)))) (sym pushed)

pub next_all : (names : Naming) (all before n number : ℕ) (text after rest line : List ℕ) (old between new : List Line) (s : Step) → Adds names before text old n after between
    → counted_after (before + n) (pieces_of after) ≡ (number, line) ∷ counted_after number (pieces_of rest) → new ≡ between ++ (record { number = number; step = s }) ∷ []
    → length old + length (counted_after before (pieces_of text)) ≡ all → length new + length (counted_after number (pieces_of rest)) ≡ all
next_all names all before n number text after rest line old between new s adds found pushed same =
    let l : Line = record { number = number; step = s } in
    omega (arith, same, adds.all, ap length found, ap length pushed, length_push between l)

-- ---- what is found at the front of a text

split_at : (text : List ℕ) (n : ℕ) → n < length text → text ≡ take n text ++ get_or text n 0 ∷ drop (suc n) text
split_at [] n h = absurd (omega (arith, h))
split_at (b ∷ bs) zero h = refl
split_at (b ∷ bs) (suc n) h = ap (λ xs. b ∷ xs) (split_at bs n (omega (arith, h)))

-- a byte that was found stands between what is before it and the rest
pub found_at : (text rest : List ℕ) (n c : ℕ) → n < length text → get_or text n 0 ≡ c → rest ≡ drop (n + 1) text → text ≡ take n text ++ c ∷ rest
found_at text rest n c h here behind_it =
    let next : n + 1 ≡ suc n = omega arith in
    split_at text n h ∙ ap (λ b. take n text ++ b ∷ drop (suc n) text) here ∙ ap (λ k. take n text ++ c ∷ drop k text) (sym next) ∙ ap (λ l. take n text ++ c ∷ l) (sym behind_it)

pub number_found : (stop : ℕ) (text : List ℕ) (end number : ℕ) (rest : List ℕ) → 0 < end → end ≤ 18 → end < length text → get_or text end 0 ≡ stop → rest ≡ drop (end + 1) text
    → list_all is_digit (take end text) ≡ true → value_after 0 (take end text) ≡ number → number < 10 ^ end → IsNumberBefore stop text number rest
number_found stop text end number rest some few within here behind_it digits value small =
    let long : length (take end text) ≡ end = omega (arith, length-take end text) in
    let most : 10 ^ end ≤ 10 ^ 18 = pow-le-pow_right (let k : 1 ≤ 10 = omega arith in k) few in
    record {
      digits = take end text;
      whole = found_at text rest end stop within here behind_it;
      reads = and_from (nat_lt 0 (length (take end text)) && nat_le (length (take end text)) 19) (list_all is_digit (take end text))
          (and_from (nat_lt 0 (length (take end text))) (nat_le (length (take end text)) 19) (lt-ltb 0 (length (take end text)) (omega (arith, long, some))) (le-leb (length (take end text)) 19 (omega (arith, long, few)))) digits;
      value = value;
      most = omega (arith, most, small);
    }

-- one digit more
pub digit_from : (b : ℕ) → (48 ≤ b) × (b ≤ 57) → is_digit b ≡ true
digit_from b h = and_from (nat_le 48 b) (nat_le b 57) (le-leb 48 b h.0) (le-leb b 57 h.1)

pub power_grows : (n v d : ℕ) → v < 10 ^ n → d < 10 → v * 10 + d < 10 ^ (n + 1)
power_grows n v d small one_digit =
    let next : suc n ≡ n + 1 = omega arith in
    subst (λ k. v * 10 + d < 10 ^ k) next (omega (arith, small, one_digit))

pub digits_grow : (text : List ℕ) (n : ℕ) → n < length text → list_all is_digit (take n text) ≡ true → is_digit (get_or text n 0) ≡ true → list_all is_digit (take (n + 1) text) ≡ true
digits_grow text n h digits d = ap (λ l. list_all is_digit l) (take_more text n 0 h) ∙ digits_push (take n text) (get_or text n 0) digits d

pub value_grows : (text : List ℕ) (n v : ℕ) → n < length text → value_after 0 (take n text) ≡ v → value_after 0 (take (n + 1) text) ≡ v * 10 + (get_or text n 0 - 48)
value_grows text n v h value = ap (λ l. value_after 0 l) (take_more text n 0 h) ∙ value_push 0 (take n text) (get_or text n 0) ∙ ap (λ k. k * 10 + (get_or text n 0 - 48)) value

before_place : (p : ℕ → Bool) (xs : List ℕ) → list_all (λ b. not (p b)) (take (position_or_len p xs) xs) ≡ true
before_place p [] = refl
before_place p (x ∷ xs) = step (p x) refl (before_place p xs)
  where
    step : (v : Bool) → p x ≡ v → list_all (λ b. not (p b)) (take (position_or_len p xs) xs) ≡ true → list_all (λ b. not (p b)) (take (cond (not v) (1 + position_or_len p xs) 0) (x ∷ xs)) ≡ true
    step true e more = refl
    step false e more =
        let one : 1 + position_or_len p xs ≡ suc (position_or_len p xs) = omega arith in
        ap (λ k. list_all (λ b. not (p b)) (take k (x ∷ xs))) one ∙ and_from (not (p x)) (list_all (λ b. not (p b)) (take (position_or_len p xs) xs)) (not_from_false (p x) e) more

at_place : (p : ℕ → Bool) (xs : List ℕ) → position_or_len p xs < length xs → p (get_or xs (position_or_len p xs) 0) ≡ true
at_place p [] h = absurd (omega (arith, h))
at_place p (x ∷ xs) h = step (p x) refl (at_place p xs) h
  where
    step : (v : Bool) → p x ≡ v → (position_or_len p xs < length xs → p (get_or xs (position_or_len p xs) 0) ≡ true) → cond (not v) (1 + position_or_len p xs) 0 < length (x ∷ xs) → p (get_or (x ∷ xs) (cond (not v) (1 + position_or_len p xs) 0) 0) ≡ true
    step true e more below = e
    step false e more below =
        let one : 1 + position_or_len p xs ≡ suc (position_or_len p xs) = omega arith in
        ap (λ k. p (get_or (x ∷ xs) k 0)) one ∙ more (omega (arith, below))

record IsPlace (p : ℕ → Bool) (xs : List ℕ) (k : ℕ) : Type 0 where
  is : k ≡ position_or_len p xs
  within : k < length xs

place_of : (p : ℕ → Bool) (xs : List ℕ) (k : ℕ) → Some k ≡ position p xs → IsPlace p xs k
place_of p xs k e = step (nat_lt (position_or_len p xs) (length xs)) refl e
  where
    step : (v : Bool) → nat_lt (position_or_len p xs) (length xs) ≡ v → Some k ≡ cond v (Some (position_or_len p xs)) None → IsPlace p xs k
    step true t same =
        let is : k ≡ position_or_len p xs = cc in
        record { is = is; within = omega (arith, is, ltb-true (position_or_len p xs) (length xs) t) }
    step false t same = absurd (cc)

record InBraces (object : List ℕ) : Type 0 where
  inside : List ℕ
  is : object ≡ 123 ∷ (inside ++ 125 ∷ [])

in_braces : (text : List ℕ) (end : ℕ) → 1 < end → end < length text → get_or text 0 0 ≡ 123 → get_or text (end - 1) 0 ≡ 125 → InBraces (take end text)
in_braces [] end some within first last = absurd (omega (arith, within))
in_braces (b ∷ bs) zero some within first last = absurd (omega (arith, some))
in_braces (b ∷ bs) (suc zero) some within first last = absurd (omega (arith, some))
in_braces (b ∷ bs) (suc (suc m)) some within first last =
    let on : m + 1 ≡ suc m = omega arith in
    let here : suc (suc m) - 1 ≡ suc m = omega arith in
    let byte : get_or bs m 0 ≡ 125 = ap (λ k. get_or (b ∷ bs) k 0) (sym here) ∙ last in
    record {
      inside = take m bs;
      is = ap (λ x. x ∷ take (suc m) bs) first ∙ ap (λ l. 123 ∷ l) (ap (λ k. take k bs) (sym on) ∙ take_more bs m 0 (omega (arith, within)) ∙ ap (λ y. take m bs ++ y ∷ []) byte);
    }

pub object_found : (text : List ℕ) (end : ℕ) (rest : List ℕ) → Some end ≡ position (λ b. b == 10) text → 1 < end → get_or text 0 0 ≡ 123 → get_or text (end - 1) 0 ≡ 125 → rest ≡ drop (end + 1) text
    → IsObjectBefore text (take end text) rest
object_found text end rest e some first last behind_it =
    let place = place_of (λ b. b == 10) text end e in
    let found : get_or text end 0 ≡ 10 = eqb-true (get_or text end 0) 10 (ap (λ k. get_or text k 0 == 10) place.is ∙ at_place (λ b. b == 10) text (subst (λ k. k < length text) place.is place.within)) in
    let inner = in_braces text end some place.within first last in
    record {
      whole = found_at text rest end 10 place.within found behind_it;
      one_line = ap (λ k. list_all (λ b. not (b == 10)) (take k text)) place.is ∙ before_place (λ b. b == 10) text;
      inside = inner.inside;
      braces = inner.is;
    }
