-- The text of an event, found part by part at the front of a text
use Rattle.std.proofs.Common.{◌≡◌, ◌<◌, ℕ, Bool, true, false, List, [], ◌∷◌, ◌++◌, length, drop, get_or, drop-cons, suc, ◌+◌, ap, sym, ◌∙◌, arith, append_assoc, append-nil}
use Rattle.std.proofs.Common.{◌≢◌, Option, Some, None, Bor, MatchOption, IfSome}
use Rattle.json.specs.Run.{is_plain}
use Rattle.json.specs.Token.{key}
use Rattle.json.specs.Print.{escape, quoted, token_text, separator, print, print_from}
use Rattle.gr_event.specs.declared.value.Value.{Value}
use Rattle.gr_event.specs.declared.event.Event.{Event}
use Rattle.gr_event.specs.Form.{Spell}
use Rattle.gr_event.specs.Json.{value_token, members_tokens_of, event_tokens, json_text}
use Rattle.gr_event.proofs.Escapes.{plain_byte}
use Rattle.gr_event.proofs.Members.{end_text, front_text}
use Rattle.gr_event.proofs.Walking.{nothing, FrontOf}
use Rattle.gr_event.proofs.Writing.{prints}

-- what a slice says of the bytes that it strips
pub found_front : (text bytes : List ℕ) (r : Option (Bor (List ℕ))) → MatchOption r ((rest : List ℕ) → text ≢ bytes ++ rest) (λ left. text ≡ bytes ++ left.now)
    → IfSome r (λ left. text ≡ bytes ++ left.now)
found_front text bytes None h = tt
found_front text bytes (Some left) h = h

-- one part stands at the front, and another behind it
pub found_both : (a b text one left : List ℕ) → text ≡ a ++ one → one ≡ b ++ left → text ≡ (a ++ b) ++ left
found_both a b text one left first second = first ∙ ap (λ xs. a ++ xs) second ∙ sym (append_assoc a b left)

-- a plain byte of a text, and then those behind it
pub found_plain : (s : List ℕ) (i : ℕ) (text left end : List ℕ) → i < length s → is_plain (get_or s i 0) ≡ true → text ≡ get_or s i 0 ∷ left → left ≡ escape (drop (i + 1) s) ++ end
    → text ≡ escape (drop i s) ++ end
found_plain s i text left end within plain first more =
    let one : suc i ≡ i + 1 = omega arith in
    let front = drop-cons s i 0 within ∙ ap (λ n. get_or s i 0 ∷ drop n s) one in
    first
    ∙ ap (λ xs. get_or s i 0 ∷ xs) more
    ∙ ap (λ xs. (xs ++ escape (drop (i + 1) s)) ++ end) (sym (plain_byte (get_or s i 0) plain))
    ∙ ap (λ xs. escape xs ++ end) (sym front)

-- a text between its quotes
pub found_quoted : (s text one two left : List ℕ) → text ≡ 34 ∷ one → one ≡ escape s ++ two → two ≡ 34 ∷ left → text ≡ quoted s ++ left
found_quoted s text one two left opened inside closed = opened ∙ ap (λ xs. 34 ∷ xs) (found_both (escape s) (34 ∷ []) one two left inside closed)

-- of no pair there is the bracket alone
pub found_end : (after : Bool) (bytes : List ℕ) (ps : Event) (text left : List ℕ) → Spell bytes ps → length bytes ≡ 0 → text ≡ 125 ∷ left
    → text ≡ print_from after (members_tokens_of ps) ++ left
found_end after bytes ps text left h none is =
    is ∙ ap (λ xs. xs ++ left) (sym (end_text after)) ∙ ap (λ (l : Event). print_from after (members_tokens_of l) ++ left) (sym (nothing bytes ps h none))

-- the first member, and then the others
pub found_first : (after : Bool) (bytes name others : List ℕ) (value : Value) (ps : Event) (text one left : List ℕ) → Spell bytes ps → 0 < length bytes
    → FrontOf bytes name value others → text ≡ ((separator after (key name) ++ token_text (key name)) ++ token_text (value_token value)) ++ one
    → ((qs : Event) → Spell others qs → one ≡ print_from true (members_tokens_of qs) ++ left) → text ≡ print_from after (members_tokens_of ps) ++ left
found_first after bytes name others value [] text one left h some front first rest = absurd (let e = ap length h.spelled in omega arith)
found_first after bytes name others value (p ∷ ps) text one left h some front first rest =
    let f = front p ps h in
    let head = separator after (key name) ++ token_text (key name) in
    let behind = print_from true (members_tokens_of ps) in
    found_both (head ++ token_text (value_token value)) behind text one left first (rest ps f.2)
    ∙ ap (λ xs. xs ++ left) (append_assoc head (token_text (value_token value)) behind
    ∙ sym (front_text after name value (members_tokens_of ps))
    ∙ ap (λ k. print_from after (key k ∷ value_token value ∷ members_tokens_of ps)) f.0
    ∙ ap (λ v. print_from after (key p.0 ∷ value_token v ∷ members_tokens_of ps)) f.1)

-- and before all of them the opening bracket
pub found_whole : (ps : Event) (text one left : List ℕ) → text ≡ 123 ∷ one → one ≡ print_from false (members_tokens_of ps) ++ left → text ≡ print (event_tokens ps) ++ left
unfolding print_from
found_whole ps text one left first rest = first ∙ ap (λ xs. 123 ∷ xs) rest

-- where nothing is left behind it, the text is that of the event
pub found_all : (e : Event) (text left : List ℕ) → length left ≡ 0 → text ≡ print (event_tokens e) ++ left → text ≡ json_text e
found_all e text [] none found = found ∙ append-nil (print (event_tokens e)) ∙ prints e
found_all e text (x ∷ xs) none found = absurd (omega arith)
