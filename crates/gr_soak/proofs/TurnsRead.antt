-- The lines of a soak's turns read as its steps
use lib.Utf8.{encode}
use Rattle.std.proofs.Common.{◌≡◌, ℕ, zero, suc, ◌+◌, ◌*◌, ◌/◌, ◌%◌, ◌^◌, ◌<◌, ◌≤◌, Bool, true, false, not, nat_eq, List, [], ◌∷◌, ◌++◌, length, refl, sym, ap, ◌∙◌, subst, arith, append_assoc, Some, None, Ok}
use Rattle.std.specs.Prelude.{◌==◌, nat_lt, nat_le, if◌then◌else◌, codes, flat_map}
use Rattle.std.specs.List.{list_all}
use Rattle.std.specs.List.Sorted.{IsStrictlySortedBy}
use Rattle.std.specs.Fmt.{decimal}
use Rattle.std.specs.Str.{is_utf8, chars}
use Rattle.std.proofs.lemmas.List.{length-append, length_push}
use Rattle.std.proofs.lemmas.Nat.{mod_below}
use Rattle.std.proofs.lemmas.Str.{IsUtf8-from_is_utf8}
use Rattle.std.proofs.lemmas.Bool.{and_parts, and_from, leb-true, ne_eqb, not_from_false}
use Rattle.json.specs.Print.{escape_byte}
use Rattle.gr_event.specs.Json.{json_text, event_text}
use Rattle.gr_event.specs.Limits.{IsEvent}
use Rattle.gr_event.proofs.Writing.{reads_back}
use Rattle.gr_sched.specs.declared.step.TheConstants.{MAX_NUMBER}
use Rattle.gr_sched.specs.declared.step.Step.{Step}
use Rattle.gr_sched.specs.declared.step.Step.TheVariants.{Clock, Publish, Wake, Deliver, Crash, Sweep, Show}
use Rattle.gr_sched.specs.Naming.{Naming}
use Rattle.gr_sched.specs.Words.{is_digit}
use Rattle.gr_sched.specs.Plain.{Adds}
use Rattle.gr_sched.proofs.ReadsBack.{decimal_digits}
use Rattle.gr_sched.proofs.PlainLines.{clock_adds, deliver_adds, publish_adds}
use Rattle.gr_topo.specs.Topology.{naming_of}
use Rattle.gr_soak.specs.Text.{word, after, drawn, clock_text, publisher_at, publish_text, deliver_text, delivers_text, wakes_text, first_crash_text, second_crash_text, turn_text, turns_text}
use Rattle.gr_soak.specs.Steps.{soak_topology, event_with, publish_step, deliver_steps, wake_steps, first_crash, second_crash, turn_steps, turns_steps}
use Rattle.gr_soak.proofs.LinesRead.{Reads, both_read, each_read, if_reads, roomy, added_reads, line_reads, number_before, few_digits}

abbrev soak_names : Naming
soak_names = naming_of soak_topology

-- ---- numbers

pub clock_reads : (i : ℕ) → 100 * i ≤ MAX_NUMBER → Reads soak_names (clock_text i) (Clock (100 * i) ∷ []) 1 26
unfolding clock_text
clock_reads i h =
    let m = 100 * i in
    added_reads soak_names (clock_text i) (Clock m) 26 (let digits = few_digits m h in let long = length_push (decimal m) 10 in omega (arith, digits, long))
    (λ before rest old. subst (λ t. Adds soak_names before (codes "clock " ++ t) old 1 rest (old ++ (record { number = before + 1; step = Clock m }) ∷ [])) (sym (append_assoc (decimal m) (10 ∷ []) rest))
    (clock_adds soak_names before (decimal m ++ 10 ∷ rest) rest old m (number_before 10 m rest h)))

deliver_reads : (m : ℕ) → m ≤ MAX_NUMBER → Reads soak_names (deliver_text m) (Deliver m ∷ []) 1 28
unfolding deliver_text
deliver_reads m h =
    added_reads soak_names (deliver_text m) (Deliver m) 28 (let digits = few_digits m h in let long = length_push (decimal m) 10 in omega (arith, digits, long))
    (λ before rest old. subst (λ t. Adds soak_names before (codes "deliver " ++ t) old 1 rest (old ++ (record { number = before + 1; step = Deliver m }) ∷ [])) (sym (append_assoc (decimal m) (10 ∷ []) rest))
    (deliver_adds soak_names before (decimal m ++ 10 ∷ rest) rest old m (number_before 10 m rest h)))

delivers_read : (i x : ℕ) → 1 ≤ i → 6 * i ≤ 10 ^ 9 → Reads soak_names (delivers_text i x) (deliver_steps i x) 8 224
delivers_read i x some few =
    each_read soak_names (λ d. deliver_text (1 + drawn x (d + 1) (6 * i))) (λ d. Deliver (1 + drawn x (d + 1) (6 * i)) ∷ []) 1 28 0 8
    (λ d low high. deliver_reads (1 + drawn x (d + 1) (6 * i)) (let below = mod_below (after x (d + 1) / 2 ^ 33) (6 * i) (omega (arith, some)) in omega (arith, below, few)))

-- ---- lines that are written out

wakes_read : Reads soak_names (codes "wake B3\nwake B4\nwake B5\nwake B6\n") (Wake 3 ∷ Wake 4 ∷ Wake 5 ∷ Wake 6 ∷ []) 4 32
unfolding soak_topology
wakes_read =
    both_read soak_names (codes "wake B3\n") (codes "wake B4\nwake B5\nwake B6\n") (Wake 3 ∷ []) (Wake 4 ∷ Wake 5 ∷ Wake 6 ∷ []) 1 3 8 24 (line_reads soak_names (codes "wake B3\n") (codes "wake B3") (Wake 3) 8 (omega arith) (λ before rest. refl) (λ n. refl))
    (both_read soak_names (codes "wake B4\n") (codes "wake B5\nwake B6\n") (Wake 4 ∷ []) (Wake 5 ∷ Wake 6 ∷ []) 1 2 8 16 (line_reads soak_names (codes "wake B4\n") (codes "wake B4") (Wake 4) 8 (omega arith) (λ before rest. refl) (λ n. refl))
    (both_read soak_names (codes "wake B5\n") (codes "wake B6\n") (Wake 5 ∷ []) (Wake 6 ∷ []) 1 1 8 8 (line_reads soak_names (codes "wake B5\n") (codes "wake B5") (Wake 5) 8 (omega arith) (λ before rest. refl) (λ n. refl))
    (line_reads soak_names (codes "wake B6\n") (codes "wake B6") (Wake 6) 8 (omega arith) (λ before rest. refl) (λ n. refl))))

first_reads : Reads soak_names (codes "crash B1\n") (Crash 1 ∷ []) 1 9
unfolding soak_topology
first_reads = line_reads soak_names (codes "crash B1\n") (codes "crash B1") (Crash 1) 9 (omega arith) (λ before rest. refl) (λ n. refl)

second_reads : Reads soak_names (codes "crash B0\n") (Crash 0 ∷ []) 1 9
unfolding soak_topology
second_reads = line_reads soak_names (codes "crash B0\n") (codes "crash B0") (Crash 0) 9 (omega arith) (λ before rest. refl) (λ n. refl)

pub end_reads : Reads soak_names (codes "sweep\nshow\n") (Sweep ∷ Show ∷ []) 2 11
unfolding soak_topology
end_reads =
    both_read soak_names (codes "sweep\n") (codes "show\n") (Sweep ∷ []) (Show ∷ []) 1 1 6 5 (line_reads soak_names (codes "sweep\n") (codes "sweep") Sweep 6 (omega arith) (λ before rest. refl) (λ n. refl))
    (line_reads soak_names (codes "show\n") (codes "show") Show 5 (omega arith) (λ before rest. refl) (λ n. refl))

-- ---- an event

-- a byte at the end of what stands last
at_end : (c : ℕ) (a b front : List ℕ) → b ≡ front ++ c ∷ [] → a ++ b ≡ (a ++ front) ++ c ∷ []
at_end c a b front e = ap (λ l. a ++ l) e ∙ sym (append_assoc a front (c ∷ []))

-- the text of an event, with what stands behind its word
abbrev object_with : ℕ → ℕ → List ℕ → List ℕ → List ℕ
object_with price qty w more = codes "{\"price\":" ++ (decimal price ++ (codes ",\"qty\":" ++ (decimal qty ++ (codes ",\"sym\":\"" ++ (w ++ more)))))

-- the same behind its first brace
abbrev inside_with : ℕ → ℕ → List ℕ → List ℕ → List ℕ
inside_with price qty w more = codes "\"price\":" ++ (decimal price ++ (codes ",\"qty\":" ++ (decimal qty ++ (codes ",\"sym\":\"" ++ (w ++ more)))))

object_end : (c price qty : ℕ) (w more front : List ℕ) → more ≡ front ++ c ∷ [] → object_with price qty w more ≡ object_with price qty w front ++ c ∷ []
object_end c price qty w more front e =
    ap (λ l. codes "{\"price\":" ++ l) (at_end c (decimal price) _ (codes ",\"qty\":" ++ (decimal qty ++ (codes ",\"sym\":\"" ++ (w ++ front))))
    (ap (λ l. codes ",\"qty\":" ++ l) (at_end c (decimal qty) _ (codes ",\"sym\":\"" ++ (w ++ front))
    (ap (λ l. codes ",\"sym\":\"" ++ l) (at_end c w more front e)))))

inside_end : (c price qty : ℕ) (w more front : List ℕ) → more ≡ front ++ c ∷ [] → inside_with price qty w more ≡ inside_with price qty w front ++ c ∷ []
inside_end c price qty w more front e =
    ap (λ l. codes "\"price\":" ++ l) (at_end c (decimal price) _ (codes ",\"qty\":" ++ (decimal qty ++ (codes ",\"sym\":\"" ++ (w ++ front))))
    (ap (λ l. codes ",\"qty\":" ++ l) (at_end c (decimal qty) _ (codes ",\"sym\":\"" ++ (w ++ front))
    (ap (λ l. codes ",\"sym\":\"" ++ l) (at_end c w more front e)))))

-- a text without LF
abbrev is_line : List ℕ → Bool
is_line text = list_all (λ b. not (b == 10)) text

line_both : (a b : List ℕ) → is_line a ≡ true → is_line b ≡ true → is_line (a ++ b) ≡ true
line_both [] b h g = g
line_both (x ∷ a) b h g =
    let parts = and_parts (not (x == 10)) (is_line a) h in
    and_from (not (x == 10)) (is_line (a ++ b)) parts.0 (line_both a b parts.1 g)

digits_line : (ds : List ℕ) → list_all is_digit ds ≡ true → is_line ds ≡ true
digits_line [] h = refl
digits_line (d ∷ ds) h =
    let parts = and_parts (is_digit d) (list_all is_digit ds) h in
    let least = leb-true 48 d (and_parts (nat_le 48 d) (nat_le d 57) parts.0).0 in
    and_from (not (d == 10)) (is_line ds) (not_from_false (d == 10) (ne_eqb d 10 (λ e. omega (arith, e, least)))) (digits_line ds parts.1)

object_line : (price qty : ℕ) (w : List ℕ) → price < 2 ^ 64 → qty < 2 ^ 64 → is_line w ≡ true → is_line (object_with price qty w (codes "\"}")) ≡ true
object_line price qty w small few one =
    line_both (decimal price) _ (digits_line (decimal price) (decimal_digits price small).digits)
    (line_both (decimal qty) _ (digits_line (decimal qty) (decimal_digits qty few).digits)
    (line_both w (codes "\"}") one refl))

-- the words
record IsSoakWord (w : ℕ) : Type 0 where
  one_line : is_line (word w) ≡ true
  utf8 : is_utf8 (word w) ≡ true
  short : length (word w) ≤ 4
  plain : flat_map escape_byte (word w) ≡ word w

word_is : (w : ℕ) → w < 4 → IsSoakWord w
unfolding word is_utf8 chars encode escape_byte
word_is zero h = record { one_line = refl; utf8 = refl; short = omega arith; plain = refl }
word_is (suc zero) h = record { one_line = refl; utf8 = refl; short = omega arith; plain = refl }
word_is (suc (suc zero)) h = record { one_line = refl; utf8 = refl; short = omega arith; plain = refl }
word_is (suc (suc (suc zero))) h = record { one_line = refl; utf8 = refl; short = omega arith; plain = refl }
word_is (suc (suc (suc (suc w)))) h = absurd (omega (arith, h))

json_is : (price qty w : ℕ) → flat_map escape_byte (word w) ≡ word w → json_text (event_with price qty w) ≡ object_with price qty (word w) (codes "\"}")
unfolding json_text escape_byte
json_is price qty w plain = ap (λ t. codes "{\"price\":" ++ (decimal price ++ (codes ",\"qty\":" ++ (decimal qty ++ (codes ",\"sym\":\"" ++ ((t ++ 34 ∷ []) ++ 125 ∷ [])))))) plain
    ∙ ap (λ t. codes "{\"price\":" ++ (decimal price ++ (codes ",\"qty\":" ++ (decimal qty ++ (codes ",\"sym\":\"" ++ t))))) (append_assoc (word w) (34 ∷ []) (125 ∷ []))

event_is : (price qty w : ℕ) → price < 200 → qty < 1000 → IsSoakWord w → IsEvent (event_with price qty w)
unfolding IsStrictlySortedBy is_utf8 chars encode
event_is price qty w small few known = record {
  pairs = record {
    rise = ((refl, (refl, tt)), ((refl, tt), (tt, tt)));
    few = omega arith;
    each = (
      ((omega arith, omega arith, IsUtf8-from_is_utf8 (codes "price") refl), record { sfits = omega (arith, small) }),
      (
        ((omega arith, omega arith, IsUtf8-from_is_utf8 (codes "qty") refl), record { sfits = omega (arith, few) }),
        (((omega arith, omega arith, IsUtf8-from_is_utf8 (codes "sym") refl), (let s = known.short in omega (arith, s), IsUtf8-from_is_utf8 (word w) known.utf8)), tt),
      ),
    );
  };
  short = let s = known.short in omega (arith, s);
}

event_read : (price qty w : ℕ) → price < 200 → qty < 1000 → IsSoakWord w → event_text (object_with price qty (word w) (codes "\"}")) ≡ Ok (event_with price qty w)
event_read price qty w small few known = ap event_text (sym (json_is price qty w known.plain)) ∙ reads_back (event_with price qty w) (event_is price qty w small few known)

-- ---- a publish

-- a publish by a publisher of this name
abbrev publish_by : List ℕ → ℕ → ℕ → ℕ → ℕ → List ℕ
publish_by name number price qty w = codes "publish " ++ (name ++ (32 ∷ (decimal number ++ (32 ∷ object_with price qty (word w) (codes "\"}\n")))))

named_reads : (name : List ℕ) (p number price qty w : ℕ) → length name ≡ 1 → list_all (λ b. nat_lt 32 b) name ≡ true → soak_names.publisher name ≡ Some p
    → 1 ≤ number → number ≤ MAX_NUMBER → price < 200 → qty < 1000 → w < 4
    → Reads soak_names (publish_by name number price qty w) (Publish p number None (event_with price qty w) ∷ []) 1 120
named_reads name p number price qty w one visible known least most small few word_below =
    let ds = decimal number in
    let found = word_is w word_below in
    let object = object_with price qty (word w) (codes "\"}") in
    let line = object_with price qty (word w) (codes "\"}\n") in
    let s : Step = Publish p number None (event_with price qty w) in
    added_reads soak_names (publish_by name number price qty w) s 120 size
    (λ before rest old.
    let third = object ++ 10 ∷ rest in
    let second = ds ++ 32 ∷ third in
    let is : (name ++ (32 ∷ (ds ++ (32 ∷ line)))) ++ rest ≡ name ++ 32 ∷ second =
    append_assoc name (32 ∷ (ds ++ 32 ∷ line)) rest ∙ ap (λ t. name ++ 32 ∷ t) (append_assoc ds (32 ∷ line) rest)
    ∙ ap (λ t. name ++ 32 ∷ (ds ++ 32 ∷ t)) (ap (λ l. l ++ rest) (object_end 10 price qty (word w) (codes "\"}\n") (codes "\"}") refl) ∙ append_assoc object (10 ∷ []) rest) in
    subst (λ t. Adds soak_names before (codes "publish " ++ t) old 1 rest (old ++ (record { number = before + 1; step = s }) ∷ [])) (sym is)
    (publish_adds soak_names before (name ++ 32 ∷ second) name second third object rest old p number (event_with price qty w)
    (record { whole = refl; some = omega (arith, one); visible = visible }) known (number_before 32 number third most) least
    (record { whole = refl; one_line = object_line price qty (word w) (omega (arith, small)) (omega (arith, few)) found.one_line; inside = inside_with price qty (word w) (codes "\""); braces = ap (λ t. 123 ∷ t) (inside_end 125 price qty (word w) (codes "\"}") (codes "\"") refl) })
    (event_read price qty w small few found) (event_is price qty w small few found)))
  where
    size : length (publish_by name number price qty w) ≤ 120
    size =
        let p_digits = few_digits price (omega (arith, small)) in
        let q_digits = few_digits qty (omega (arith, few)) in
        let digits = few_digits number most in
        let short = (word_is w word_below).short in
        let e1 = length-append (word w) (codes "\"}\n") in
        let e2 = length-append (decimal qty) (codes ",\"sym\":\"" ++ (word w ++ codes "\"}\n")) in
        let e3 = length-append (decimal price) (codes ",\"qty\":" ++ (decimal qty ++ (codes ",\"sym\":\"" ++ (word w ++ codes "\"}\n")))) in
        let e4 = length-append (decimal number) (32 ∷ object_with price qty (word w) (codes "\"}\n")) in
        let e5 = length-append name (32 ∷ (decimal number ++ (32 ∷ object_with price qty (word w) (codes "\"}\n")))) in
        omega (arith, p_digits, q_digits, digits, short, e1, e2, e3, e4, e5, one)

by_turn : (test : Bool) (number price qty w : ℕ) → 1 ≤ number → number ≤ MAX_NUMBER → price < 200 → qty < 1000 → w < 4
    → Reads soak_names (publish_by (if test then codes "P" else codes "Q") number price qty w) (Publish (if test then 0 else 1) number None (event_with price qty w) ∷ []) 1 120
unfolding soak_topology
by_turn true number price qty w = named_reads (codes "P") 0 number price qty w (omega arith) refl refl
by_turn false number price qty w = named_reads (codes "Q") 1 number price qty w (omega arith) refl refl

publish_reads : (i price qty w : ℕ) → 1 ≤ i → i ≤ 10 ^ 9 → price < 200 → qty < 1000 → w < 4 → Reads soak_names (publish_text i price qty w) (publish_step i price qty w ∷ []) 1 120
unfolding publish_text publisher_at publish_step
publish_reads i price qty w some few = by_turn (nat_eq (i % 2) 1) ((i + 1) / 2) price qty w (omega (arith, some)) (omega (arith, few))

-- ---- a turn, and all of them

turn_reads : (n i x : ℕ) → 1 ≤ i → i ≤ 2000 → Reads soak_names (turn_text n i x) (turn_steps n i x) 16 420
unfolding turn_text turn_steps
turn_reads n i x some few =
    let crashes = both_read soak_names (first_crash_text n i) (second_crash_text n i) (first_crash n i) (second_crash n i) 1 1 9 9
    (if_reads soak_names (nat_eq i (n / 3)) (codes "crash B1\n") (Crash 1 ∷ []) 1 9 first_reads) (if_reads soak_names (nat_eq i (2 * n / 3)) (codes "crash B0\n") (Crash 0 ∷ []) 1 9 second_reads) in
    let woken = both_read soak_names (wakes_text i) (first_crash_text n i ++ second_crash_text n i) (wake_steps i) (first_crash n i ++ second_crash n i) 4 2 32 18
    (if_reads soak_names (nat_eq (i % 10) 0) (codes "wake B3\nwake B4\nwake B5\nwake B6\n") (Wake 3 ∷ Wake 4 ∷ Wake 5 ∷ Wake 6 ∷ []) 4 32 wakes_read) crashes in
    let delivered = both_read soak_names (delivers_text i (after x 3)) (wakes_text i ++ (first_crash_text n i ++ second_crash_text n i)) (deliver_steps i (after x 3)) (wake_steps i ++ (first_crash n i ++ second_crash n i)) 8 6 224 50
    (delivers_read i (after x 3) some (omega (arith, few))) woken in
    let published = both_read soak_names (publish_text i (drawn x 1 200) (drawn x 2 1000) (drawn x 3 4)) (delivers_text i (after x 3) ++ (wakes_text i ++ (first_crash_text n i ++ second_crash_text n i)))
    (publish_step i (drawn x 1 200) (drawn x 2 1000) (drawn x 3 4) ∷ []) (deliver_steps i (after x 3) ++ (wake_steps i ++ (first_crash n i ++ second_crash n i))) 1 14 120 274
    (publish_reads i (drawn x 1 200) (drawn x 2 1000) (drawn x 3 4) some (omega (arith, few)) (mod_below (after x 1 / 2 ^ 33) 200 (omega arith)) (mod_below (after x 2 / 2 ^ 33) 1000 (omega arith)) (mod_below (after x 3 / 2 ^ 33) 4 (omega arith))) delivered in
    both_read soak_names (clock_text i) _ (Clock (100 * i) ∷ []) _ 1 15 26 394 (clock_reads i (omega (arith, few))) published

pub turns_read : (n : ℕ) → n ≤ 2000 → Reads soak_names (turns_text n ++ codes "sweep\nshow\n") (turns_steps n ++ Sweep ∷ Show ∷ []) 32002 840011
turns_read n few =
    roomy soak_names _ _ (n * 16 + 2) 32002 (n * 420 + 11) 840011 (omega (arith, few)) (omega (arith, few))
    (both_read soak_names (turns_text n) (codes "sweep\nshow\n") (turns_steps n) (Sweep ∷ Show ∷ []) (n * 16) 2 (n * 420) 11
    (each_read soak_names (λ k. turn_text n (k + 1) (after n (11 * k))) (λ k. turn_steps n (k + 1) (after n (11 * k))) 16 420 0 n
    (λ k low high. turn_reads n (k + 1) (after n (11 * k)) (omega arith) (omega (arith, few, high)))) end_reads)
