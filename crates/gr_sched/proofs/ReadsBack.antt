-- A printed step reads back: each word ends at its space, and each number is its digits
use Rattle.std.proofs.Common.{◌≡◌, ℕ, suc, ◌+◌, ◌-◌, ◌*◌, ◌%◌, ◌^◌, ◌<◌, ◌≤◌, true, false, not, ◌&&◌, nat_eq, List, [], ◌∷◌, ◌++◌, length, take, drop, reverse, Option, Some, None, Ok, Err, refl, sym, ap, ◌∙◌, arith}
use Rattle.std.specs.Prelude.{nat_le, nat_lt, codes, bytes_eq, if◌then◌else◌, IfSome}
use Rattle.std.specs.List.{list_all, position_or_len}
use Rattle.std.specs.Fmt.{decimal}
use Rattle.std.proofs.lemmas.List.{take_at, drop_at, take_all, drop_all, append_assoc, append-nil, reverse-append, reverse-reverse, length_push}
use Rattle.std.proofs.lemmas.Fmt.{decimal_by_steps, length-decimal-le}
use Rattle.std.proofs.lemmas.Bool.{and_parts, and_from, cond-true, cond-false, lt-ltb, le-leb, leb-true, ltb-true, ne_eqb, not_from_false, not_from_true, or_from}
use Rattle.gr_event.specs.declared.event.Event.{Event}
use Rattle.gr_event.specs.Json.{event_text}
use Rattle.gr_sched.specs.declared.step.TheConstants.{MAX_NUMBER}
use Rattle.gr_sched.specs.declared.step.Step.{Step}
use Rattle.gr_sched.specs.declared.step.Step.TheVariants.{Clock, Publish, Wake, Deliver, Crash, Sweep, Show, Bytes, Join}
use Rattle.gr_sched.specs.declared.step.Stop.{Stop}
use Rattle.gr_sched.specs.Naming.{Naming}
use Rattle.gr_sched.specs.Text.{is_gap, without_gaps}
use Rattle.gr_sched.specs.Words.{◌>>=◌, trimmed, trimmed_end, first_word, after_word, next_word, ended, known, is_digit, is_number, value_after, number_in, next_number}
use Rattle.gr_sched.specs.declared.fault.StepFault.TheVariants.{BadWord}
use Rattle.gr_sched.specs.declared.verb.Verb.{Verb}
use Rattle.gr_sched.specs.declared.verb.Verb.TheVariants as verb
use Rattle.gr_sched.specs.Ranges.{IsStop}
use Rattle.gr_sched.specs.Grammar.{verb_of, next_name, after_pick, stop_of, next_stop, event_or_fault, event_of, publish_of, step_by, step_of}
use Rattle.gr_sched.specs.Printed.{Writing, stop_text, step_text, IsWord, Names, IsWritten}

-- ---- a word before a space

word_len : (w rest : List ℕ) → list_all (λ b. not (is_gap b)) w ≡ true → position_or_len is_gap (w ++ 32 ∷ rest) ≡ length w
word_len [] rest h = refl
word_len (x ∷ w) rest h =
    let parts = and_parts (not (is_gap x)) (list_all (λ b. not (is_gap b)) w) h in
    let more = word_len w rest parts.1 in
    let one : 1 + length w ≡ suc (length w) = omega arith in
    cond-true (not (is_gap x)) (1 + position_or_len is_gap (w ++ 32 ∷ rest)) 0 parts.0 ∙ ap (λ n. 1 + n) more ∙ one

whole_len : (w : List ℕ) → list_all (λ b. not (is_gap b)) w ≡ true → position_or_len is_gap w ≡ length w
whole_len [] h = refl
whole_len (x ∷ w) h =
    let parts = and_parts (not (is_gap x)) (list_all (λ b. not (is_gap b)) w) h in
    let more = whole_len w parts.1 in
    let one : 1 + length w ≡ suc (length w) = omega arith in
    cond-true (not (is_gap x)) (1 + position_or_len is_gap w) 0 parts.0 ∙ ap (λ n. 1 + n) more ∙ one

-- a text that begins with no gap is as it is
begins : (b : ℕ) (bs : List ℕ) → not (is_gap b) ≡ true → without_gaps (b ∷ bs) ≡ b ∷ bs
begins b bs h = ap (λ k. drop k (b ∷ bs)) (cond-false (not (not (is_gap b))) (1 + position_or_len (λ c. not (is_gap c)) bs) 0 (not_from_true (not (is_gap b)) h))

pub word_begins : (w more : List ℕ) → IsWord w → without_gaps (w ++ more) ≡ w ++ more
word_begins [] more h = absurd (omega (arith, h.some))
word_begins (x ∷ w) more h = begins x (w ++ more) (and_parts (not (is_gap x)) (list_all (λ b. not (is_gap b)) w) h.whole).0

-- behind one space
behind_space : (bs : List ℕ) → without_gaps (32 ∷ bs) ≡ without_gaps bs
behind_space bs = let one : 1 + position_or_len (λ c. not (is_gap c)) bs ≡ suc (position_or_len (λ c. not (is_gap c)) bs) = omega arith in ap (λ k. drop k (32 ∷ bs)) one

first_is : (w r : List ℕ) → IsWord w → first_word (w ++ 32 ∷ r) ≡ w
first_is w r h = ap (λ k. take k (w ++ 32 ∷ r)) (word_len w r h.whole) ∙ take_at w (32 ∷ r) (length w) refl

after_is : (w r : List ℕ) → IsWord w → without_gaps r ≡ r → after_word (w ++ 32 ∷ r) ≡ r
after_is w r h g = ap (λ k. without_gaps (drop k (w ++ 32 ∷ r))) (word_len w r h.whole) ∙ ap without_gaps (drop_at w (32 ∷ r) (length w) refl) ∙ behind_space r ∙ g

next_is : (n : ℕ) (w r : List ℕ) → IsWord w → without_gaps r ≡ r → next_word n (w ++ 32 ∷ r) ≡ Ok (w, r)
next_is n [] r h g = absurd (omega (arith, h.some))
next_is n (x ∷ w) r h g = ap (λ u. Ok (u, after_word (x ∷ w ++ 32 ∷ r))) (first_is (x ∷ w) r h) ∙ ap (λ u. Ok (x ∷ w, u)) (after_is (x ∷ w) r h g)

last_is : (n : ℕ) (w : List ℕ) → IsWord w → next_word n w ≡ Ok (w, [])
last_is n [] h = absurd (omega (arith, h.some))
last_is n (x ∷ w) h =
    let len = whole_len (x ∷ w) h.whole in
    let front : first_word (x ∷ w) ≡ x ∷ w = ap (λ k. take k (x ∷ w)) len ∙ take_all (length (x ∷ w)) (x ∷ w) (omega arith) in
    let rest : after_word (x ∷ w) ≡ [] = ap (λ k. without_gaps (drop k (x ∷ w))) len ∙ ap without_gaps (drop_all (length (x ∷ w)) (x ∷ w) (omega arith)) in
    ap (λ u. Ok (u, after_word (x ∷ w))) front ∙ ap (λ u. Ok (x ∷ w, u)) rest

-- ---- a line with no gap at its ends

pub record EndsWhole (text : List ℕ) : Type 0 where
  pub front : List ℕ
  pub last : ℕ
  pub is : text ≡ front ++ last ∷ []
  pub whole : not (is_gap last) ≡ true

pub word_ends : (w : List ℕ) → IsWord w → EndsWhole w
word_ends [] h = absurd (omega (arith, h.some))
word_ends (x ∷ []) h = record { front = []; last = x; is = refl; whole = (and_parts (not (is_gap x)) true h.whole).0 }
word_ends (x ∷ y ∷ w) h =
    let parts = and_parts (not (is_gap x)) (list_all (λ b. not (is_gap b)) (y ∷ w)) h.whole in
    let e = word_ends (y ∷ w) (record { some = omega arith; whole = parts.1 }) in
    record { front = x ∷ e.front; last = e.last; is = ap (λ l. x ∷ l) e.is; whole = e.whole }

abbrev pub ends_behind : (a t : List ℕ) → EndsWhole t → EndsWhole (a ++ t)
ends_behind a t e = record { front = a ++ e.front; last = e.last; is = ap (λ l. a ++ l) e.is ∙ sym (append_assoc a e.front (e.last ∷ [])); whole = e.whole }

trimmed_is : (text : List ℕ) → without_gaps text ≡ text → EndsWhole text → trimmed text ≡ text
trimmed_is text g e =
    let turned : reverse text ≡ e.last ∷ reverse e.front = ap reverse e.is ∙ reverse-append e.front (e.last ∷ []) in
    ap trimmed_end g ∙ ap (λ l. reverse (without_gaps l)) turned ∙ ap reverse (begins e.last (reverse e.front) e.whole) ∙ ap reverse (sym turned) ∙ reverse-reverse text

-- ---- digits

pub digit_is_whole : (b : ℕ) → is_digit b ≡ true → not (is_gap b) ≡ true
digit_is_whole b h =
    let parts = and_parts (nat_le 48 b) (nat_le b 57) h in
    let low = leb-true 48 b parts.0 in
    not_from_false (is_gap b) (or_from (nat_eq b 32) (nat_eq b 9) (ne_eqb b 32 (λ e. omega (arith, e, low))) (ne_eqb b 9 (λ e. omega (arith, e, low))))

digits_are_whole : (ds : List ℕ) → list_all is_digit ds ≡ true → list_all (λ b. not (is_gap b)) ds ≡ true
digits_are_whole [] h = refl
digits_are_whole (d ∷ ds) h =
    let parts = and_parts (is_digit d) (list_all is_digit ds) h in
    and_from (not (is_gap d)) (list_all (λ b. not (is_gap b)) ds) (digit_is_whole d parts.0) (digits_are_whole ds parts.1)

pub digits_push : (ds : List ℕ) (d : ℕ) → list_all is_digit ds ≡ true → is_digit d ≡ true → list_all is_digit (ds ++ d ∷ []) ≡ true
digits_push [] d h g = and_from (is_digit d) true g refl
digits_push (x ∷ ds) d h g =
    let parts = and_parts (is_digit x) (list_all is_digit ds) h in
    and_from (is_digit x) (list_all is_digit (ds ++ d ∷ [])) parts.0 (digits_push ds d parts.1 g)

pub value_push : (v : ℕ) (ds : List ℕ) (d : ℕ) → value_after v (ds ++ d ∷ []) ≡ value_after v ds * 10 + (d - 48)
value_push v [] d = refl
value_push v (x ∷ ds) d = value_push (v * 10 + (x - 48)) ds d

pub record AreDigits (n : ℕ) (ds : List ℕ) : Type 0 where
  pub digits : list_all is_digit ds ≡ true
  pub value : value_after 0 ds ≡ n
  pub some : 0 < length ds

a_digit : (d : ℕ) → d < 10 → is_digit (48 + d) ≡ true
a_digit d h = and_from (nat_le 48 (48 + d)) (nat_le (48 + d) 57) (le-leb 48 (48 + d) (omega arith)) (le-leb (48 + d) 57 (omega arith))

pub decimal_digits : (n : ℕ) → n < 2 ^ 64 → AreDigits n (decimal n)
decimal_digits n h = decimal_by_steps AreDigits
    (λ d lt. record { digits = and_from (is_digit (48 + d)) true (a_digit d lt) refl; value = omega arith; some = omega arith })
    (λ m ds big so_far. record {
      digits = digits_push ds (48 + m % 10) so_far.digits (a_digit (m % 10) (omega arith));
      value = value_push 0 ds (48 + m % 10) ∙ (let v = so_far.value in omega (arith, v));
      some = omega (arith, length_push ds (48 + m % 10));
    }) n h

-- ---- numbers and names

-- a word of digits that is the number m
pub record Spells (m : ℕ) (ds : List ℕ) : Type 0 where
  pub reads : is_number ds ≡ true
  pub value : value_after 0 ds ≡ m

pub digits_word : (m : ℕ) (ds : List ℕ) → Spells m ds → IsWord ds
digits_word m ds h =
    let parts = and_parts (nat_lt 0 (length ds) && nat_le (length ds) 19) (list_all is_digit ds) h.reads in
    let some = and_parts (nat_lt 0 (length ds)) (nat_le (length ds) 19) parts.0 in
    record { some = ltb-true 0 (length ds) some.0; whole = digits_are_whole ds parts.1 }

digits_in : (n low high m : ℕ) (ds : List ℕ) → Spells m ds → low ≤ m → m ≤ high → number_in n low high ds ≡ Ok m
digits_in n low high m ds h least most =
    let test = and_from (is_number ds && nat_le low (value_after 0 ds)) (nat_le (value_after 0 ds) high)
    (and_from (is_number ds) (nat_le low (value_after 0 ds)) h.reads (le-leb low (value_after 0 ds) (omega (arith, h.value, least))))
    (le-leb (value_after 0 ds) high (omega (arith, h.value, most))) in
    cond-true _ (Ok (value_after 0 ds)) _ test ∙ ap Ok h.value

pub digits_last : (n low high m : ℕ) (ds : List ℕ) → Spells m ds → low ≤ m → m ≤ high → next_number n low high ds ≡ Ok (m, [])
digits_last n low high m ds h least most =
    ap (λ r. r >>= λ w. number_in n low high w.0 >>= λ v. Ok (v, w.1)) (last_is n ds (digits_word m ds h)) ∙ ap (λ r. r >>= λ v. Ok (v, [])) (digits_in n low high m ds h least most)

digits_next : (n low high m : ℕ) (ds r : List ℕ) → Spells m ds → low ≤ m → m ≤ high → without_gaps r ≡ r → next_number n low high (ds ++ 32 ∷ r) ≡ Ok (m, r)
digits_next n low high m ds r h least most g =
    ap (λ u. u >>= λ w. number_in n low high w.0 >>= λ v. Ok (v, w.1)) (next_is n ds r (digits_word m ds h) g) ∙ ap (λ u. u >>= λ v. Ok (v, r)) (digits_in n low high m ds h least most)

decimal_spells : (m : ℕ) → m ≤ MAX_NUMBER → Spells m (decimal m)
decimal_spells m h =
    let d = decimal_digits m (omega arith) in
    let few = length-decimal-le 19 m (omega arith) (omega arith) (omega arith) in
    record {
      reads = and_from (nat_lt 0 (length (decimal m)) && nat_le (length (decimal m)) 19) (list_all is_digit (decimal m))
          (and_from (nat_lt 0 (length (decimal m))) (nat_le (length (decimal m)) 19) (lt-ltb 0 (length (decimal m)) d.some) (le-leb (length (decimal m)) 19 few)) d.digits;
      value = d.value;
    }

number_word : (m : ℕ) → m ≤ MAX_NUMBER → IsWord (decimal m)
number_word m h = digits_word m (decimal m) (decimal_spells m h)

number_last : (n low high m : ℕ) → low ≤ m → m ≤ high → m ≤ MAX_NUMBER → next_number n low high (decimal m) ≡ Ok (m, [])
number_last n low high m least most h = digits_last n low high m (decimal m) (decimal_spells m h) least most

number_next : (n low high m : ℕ) (r : List ℕ) → low ≤ m → m ≤ high → m ≤ MAX_NUMBER → without_gaps r ≡ r → next_number n low high (decimal m ++ 32 ∷ r) ≡ Ok (m, r)
number_next n low high m r least most h g = digits_next n low high m (decimal m) r (decimal_spells m h) least most g

name_last : (number_of : List ℕ → Option ℕ) (n : ℕ) (w : List ℕ) (x : ℕ) → Names number_of w x → next_name number_of n w ≡ Ok (x, [])
name_last number_of n w x h =
    ap (λ r. r >>= λ u. known n (number_of u.0) >>= λ v. Ok (v, u.1)) (last_is n w h.is_word) ∙ ap (λ o. known n o >>= λ v. Ok (v, [])) h.known

name_next : (number_of : List ℕ → Option ℕ) (n : ℕ) (w r : List ℕ) (x : ℕ) → Names number_of w x → without_gaps r ≡ r → next_name number_of n (w ++ 32 ∷ r) ≡ Ok (x, r)
name_next number_of n w r x h g =
    ap (λ u. u >>= λ v. known n (number_of v.0) >>= λ y. Ok (y, v.1)) (next_is n w r h.is_word g) ∙ ap (λ o. known n o >>= λ v. Ok (v, r)) h.known

-- ---- a line

pub line_is : (names : Naming) (n : ℕ) (word rest : List ℕ) (v : Verb) → IsWord word → verb_of word ≡ Some v → without_gaps rest ≡ rest → EndsWhole rest → step_of names n (word ++ 32 ∷ rest) ≡ step_by names n v rest
line_is names n word rest v h known_as g e =
    ap (λ t. next_word n t >>= λ w. known n (verb_of w.0) >>= λ u. step_by names n u w.1) (trimmed_is (word ++ 32 ∷ rest) (word_begins word (32 ∷ rest) h) (ends_behind word (32 ∷ rest) (ends_behind (32 ∷ []) rest e)))
    ∙ ap (λ r. r >>= λ w. known n (verb_of w.0) >>= λ u. step_by names n u w.1) (next_is n word rest h g)
    ∙ ap (λ o. known n o >>= λ u. step_by names n u rest) known_as

alone_is : (names : Naming) (n : ℕ) (word : List ℕ) (v : Verb) → IsWord word → verb_of word ≡ Some v → step_of names n word ≡ step_by names n v []
alone_is names n word v h known_as =
    ap (λ t. next_word n t >>= λ w. known n (verb_of w.0) >>= λ u. step_by names n u w.1) (trimmed_is word (ap without_gaps (sym (append-nil word)) ∙ word_begins word [] h ∙ append-nil word) (word_ends word h))
    ∙ ap (λ r. r >>= λ w. known n (verb_of w.0) >>= λ u. step_by names n u w.1) (last_is n word h)
    ∙ ap (λ o. known n o >>= λ u. step_by names n u []) known_as

pub word_rest : (w : List ℕ) → IsWord w → without_gaps w ≡ w
word_rest w h = ap without_gaps (sym (append-nil w)) ∙ word_begins w [] h ∙ append-nil w

-- ---- a publish

abbrev pub brace : List ℕ → List ℕ
brace inside = 123 ∷ (inside ++ 125 ∷ [])

abbrev pub brace_ends : (inside : List ℕ) → EndsWhole (brace inside)
brace_ends inside = record { front = 123 ∷ inside; last = 125; is = refl; whole = refl }

brace_begins : (inside : List ℕ) → without_gaps (brace inside) ≡ brace inside
brace_begins inside = begins 123 (inside ++ 125 ∷ []) refl

brace_word : (inside : List ℕ) → bytes_eq (first_word (brace inside)) (codes "stop") ≡ false
brace_word inside =
    let t = inside ++ 125 ∷ [] in
    let one : 1 + position_or_len is_gap t ≡ suc (position_or_len is_gap t) = omega arith in
    ap (λ k. bytes_eq (take k (123 ∷ t)) (codes "stop")) one

stop_word : IsWord (codes "stop")
stop_word = record { some = omega arith; whole = refl }

pick_word : IsWord (codes "pick")
pick_word = record { some = omega arith; whole = refl }

stop_begins : (stop : Option Stop) (inside : List ℕ) → without_gaps (stop_text stop (brace inside)) ≡ stop_text stop (brace inside)
stop_begins None inside = brace_begins inside
stop_begins (Some s) inside = word_begins (codes "stop") (32 ∷ (decimal s.call ++ (codes " pick " ++ (decimal s.pick ++ (codes " " ++ brace inside))))) stop_word

stop_ends : (stop : Option Stop) (inside : List ℕ) → EndsWhole (stop_text stop (brace inside))
stop_ends None inside = brace_ends inside
stop_ends (Some s) inside =
    ends_behind (codes "stop ") _ (ends_behind (decimal s.call) _ (ends_behind (codes " pick ") _ (ends_behind (decimal s.pick) _ (ends_behind (codes " ") _ (brace_ends inside)))))

stop_is : (n : ℕ) (stop : Option Stop) (inside : List ℕ) → IfSome stop IsStop → next_stop n (stop_text stop (brace inside)) ≡ Ok (stop, brace inside)
stop_is n None inside h = cond-false (bytes_eq (first_word (brace inside)) (codes "stop")) _ (Ok (None, brace inside)) (brace_word inside)
stop_is n (Some s) inside h =
    let third = brace inside in
    let second = decimal s.pick ++ 32 ∷ third in
    let first = codes "pick" ++ 32 ∷ second in
    let rest = decimal s.call ++ 32 ∷ first in
    let pick_in = number_word s.pick (omega (arith, h.2)) in
    let call_in = number_word s.call (omega (arith, h.1)) in
    let named : bytes_eq (first_word (codes "stop" ++ 32 ∷ rest)) (codes "stop") ≡ true = ap (λ w. bytes_eq w (codes "stop")) (first_is (codes "stop") rest stop_word) in
    let read : stop_of n rest ≡ Ok (s, third) =
    ap (λ r. r >>= λ call. after_pick n call.1 >>= λ more. next_number n 0 255 more >>= λ pick. Ok (record { call = call.0; pick = pick.0 }, pick.1)) (number_next n 1 4 s.call first h.0 h.1 (omega (arith, h.1)) (word_begins (codes "pick") (32 ∷ second) pick_word))
    ∙ ap (λ r. r >>= λ w. (if bytes_eq w.0 (codes "pick") then Ok w.1 else Err (BadWord n)) >>= λ more. next_number n 0 255 more >>= λ pick. Ok (record { call = s.call; pick = pick.0 }, pick.1)) (next_is n (codes "pick") second pick_word (word_begins (decimal s.pick) (32 ∷ third) pick_in))
    ∙ ap (λ r. r >>= λ pick. Ok (record { call = s.call; pick = pick.0 }, pick.1)) (number_next n 0 255 s.pick third (omega arith) h.2 (omega (arith, h.2)) (brace_begins inside)) in
    cond-true (bytes_eq (first_word (codes "stop" ++ 32 ∷ rest)) (codes "stop")) (stop_of n (after_word (codes "stop" ++ 32 ∷ rest)) >>= λ x. Ok (Some x.0, x.1)) (Ok (None, codes "stop" ++ 32 ∷ rest)) named
    ∙ ap (λ t. stop_of n t >>= λ x. Ok (Some x.0, x.1)) (after_is (codes "stop") rest stop_word (word_begins (decimal s.call) (32 ∷ first) call_in))
    ∙ ap (λ r. r >>= λ x. Ok (Some x.0, x.1)) read

pub publish_is : (names : Naming) (n : ℕ) (name ds : List ℕ) (publisher number : ℕ) (stop : Option Stop) (event : Event) (inside : List ℕ) → Names names.publisher name publisher → Spells number ds → 1 ≤ number → number ≤ MAX_NUMBER → IfSome stop IsStop → event_text (brace inside) ≡ Ok event
    → publish_of names n (name ++ 32 ∷ (ds ++ 32 ∷ stop_text stop (brace inside))) ≡ Ok (Publish publisher number stop event)
publish_is names n name ds publisher number stop event inside known_as spelled least most good reads =
    let second = stop_text stop (brace inside) in
    let first = ds ++ 32 ∷ second in
    ap (λ r. r >>= λ q. next_number n 1 MAX_NUMBER q.1 >>= λ m. next_stop n m.1 >>= λ s. event_of n s.1 >>= λ e. Ok (Publish q.0 m.0 s.0 e)) (name_next names.publisher n name first publisher known_as (word_begins ds (32 ∷ second) (digits_word number ds spelled)))
    ∙ ap (λ r. r >>= λ m. next_stop n m.1 >>= λ s. event_of n s.1 >>= λ e. Ok (Publish publisher m.0 s.0 e)) (digits_next n 1 MAX_NUMBER number ds second spelled least most (stop_begins stop inside))
    ∙ ap (λ r. r >>= λ s. event_of n s.1 >>= λ e. Ok (Publish publisher number s.0 e)) (stop_is n stop inside good)
    ∙ ap (λ r. event_or_fault n r >>= λ e. Ok (Publish publisher number stop e)) reads

-- ---- each step

pub whole_word : (w : List ℕ) → list_all (λ b. not (is_gap b)) w ≡ true → 0 < length w → IsWord w
whole_word w h k = record { some = k; whole = h }

pub reads_back : (names : Naming) (n : ℕ) (w : Writing) (s : Step) → IsWritten names w s → step_of names n (step_text w s) ≡ Ok s
reads_back names n w (Clock now) h =
    let word = number_word now h in
    line_is names n (codes "clock") (decimal now) verb.Clock (whole_word (codes "clock") refl (omega arith)) refl (word_rest (decimal now) word) (word_ends (decimal now) word)
    ∙ ap (λ r. r >>= λ x. ended n x.1 (Clock x.0)) (number_last n 0 MAX_NUMBER now (omega arith) h h)
reads_back names n w (Publish publisher number stop event) h =
    let j = h.4 in
    let rest = decimal number ++ 32 ∷ stop_text stop (brace j.inside) in
    ap (λ t. step_of names n (codes "publish" ++ 32 ∷ (w.publisher publisher ++ 32 ∷ (decimal number ++ 32 ∷ stop_text stop t)))) j.braces
    ∙ line_is names n (codes "publish") (w.publisher publisher ++ 32 ∷ rest) verb.Publish (whole_word (codes "publish") refl (omega arith)) refl (word_begins (w.publisher publisher) (32 ∷ rest) h.0.is_word)
    (ends_behind (w.publisher publisher) _ (ends_behind (32 ∷ []) _ (ends_behind (decimal number) _ (ends_behind (32 ∷ []) _ (stop_ends stop j.inside)))))
    ∙ publish_is names n (w.publisher publisher) (decimal number) publisher number stop event j.inside h.0 (decimal_spells number h.2) h.1 h.2 h.3 (ap event_text (sym j.braces) ∙ j.reads)
reads_back names n w (Wake broker) h =
    line_is names n (codes "wake") (w.broker broker) verb.Wake (whole_word (codes "wake") refl (omega arith)) refl (word_rest (w.broker broker) h.is_word) (word_ends (w.broker broker) h.is_word)
    ∙ ap (λ r. r >>= λ x. ended n x.1 (Wake x.0)) (name_last names.broker n (w.broker broker) broker h)
reads_back names n w (Deliver frame) h =
    let word = number_word frame h in
    line_is names n (codes "deliver") (decimal frame) verb.Deliver (whole_word (codes "deliver") refl (omega arith)) refl (word_rest (decimal frame) word) (word_ends (decimal frame) word)
    ∙ ap (λ r. r >>= λ x. ended n x.1 (Deliver x.0)) (number_last n 0 MAX_NUMBER frame (omega arith) h h)
reads_back names n w (Crash broker) h =
    line_is names n (codes "crash") (w.broker broker) verb.Crash (whole_word (codes "crash") refl (omega arith)) refl (word_rest (w.broker broker) h.is_word) (word_ends (w.broker broker) h.is_word)
    ∙ ap (λ r. r >>= λ x. ended n x.1 (Crash x.0)) (name_last names.broker n (w.broker broker) broker h)
reads_back names n w Sweep h = alone_is names n (codes "sweep") verb.Sweep (whole_word (codes "sweep") refl (omega arith)) refl
reads_back names n w Show h = alone_is names n (codes "show") verb.Show (whole_word (codes "show") refl (omega arith)) refl
reads_back names n w (Bytes frame) h =
    let word = number_word frame h in
    line_is names n (codes "bytes") (decimal frame) verb.Bytes (whole_word (codes "bytes") refl (omega arith)) refl (word_rest (decimal frame) word) (word_ends (decimal frame) word)
    ∙ ap (λ r. r >>= λ x. ended n x.1 (Bytes x.0)) (number_last n 0 MAX_NUMBER frame (omega arith) h h)
reads_back names n w (Join subscriber publisher) h =
    let last = w.publisher publisher in
    line_is names n (codes "join") (w.subscriber subscriber ++ 32 ∷ last) verb.Join (whole_word (codes "join") refl (omega arith)) refl (word_begins (w.subscriber subscriber) (32 ∷ last) h.0.is_word)
    (ends_behind (w.subscriber subscriber) _ (ends_behind (32 ∷ []) _ (word_ends last h.1.is_word)))
    ∙ ap (λ r. r >>= λ x. next_name names.publisher n x.1 >>= λ y. ended n y.1 (Join x.0 y.0)) (name_next names.joiner n (w.subscriber subscriber) last subscriber h.0 (word_rest last h.1.is_word))
    ∙ ap (λ r. r >>= λ y. ended n y.1 (Join subscriber y.0)) (name_last names.publisher n last publisher h.1)
