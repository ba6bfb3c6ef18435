-- The tokens of an event are those of its object, so they print as its text, and the text is read as the object
use Rattle.std.proofs.Common.{◌≡◌, ◌<◌, ◌≤◌, ◌^◌, Bool, false, List, [], ◌∷◌, ◌++◌, ℕ, ℤ, pos, negsuc, Option, Some, option_and_then, Ok, Less, Greater, FitsSigned, IsUtf8, refl, ap, ap₂, sym, ◌∙◌, subst, append_assoc, append-nil, nat_cmp, arith}
use Rattle.std.proofs.lemmas.Int.{ints}
use Rattle.std.specs.Int.{w64}
use Rattle.std.specs.Int.Signed.{mag}
use Rattle.std.specs.Fmt.{signed_decimal}
use Rattle.std.specs.List.{AllByRecursion}
use Rattle.std.specs.List.Sorted.{IsStrictlySortedBy}
use Rattle.std.specs.Cmp.Lexicographic.{slice_cmp}
use Rattle.std.specs.Ordering.{ordering_reverse}
use Rattle.std.proofs.lemmas.Cmp.{nat_list_cmp_total}
use Rattle.std.proofs.lemmas.Fmt.{IsAscii-signed}
use Rattle.std.proofs.lemmas.Str.{IsUtf8-append, IsUtf8-nil, IsUtf8-from_ascii}
use Rattle.json.specs.Json as json
use Rattle.json.specs.Lex.{tokens}
use Rattle.json.specs.Print.{print, print_from, token_text, ends, separator, IsPrintable, ArePrintable}
use Rattle.json.specs.Token.{Token}
use Rattle.json.specs.Tree as tree
use Rattle.json.specs.Tree.{json_tokens, members_tokens}
use Rattle.json.proofs.Printed.Decimals.{IsNumber-signed_decimal}
use Rattle.json.proofs.Printed.Tokens.{tokens-print}
use Rattle.json.proofs.Printed.Trees.{value-json_tokens}
use Rattle.json.proofs.Printed.Utf8.{IsUtf8-are_ascii, IsUtf8-quoted, IsUtf8-key, IsUtf8-boolean, IsUtf8-separator}
use Rattle.serde_json.specs.Data.{Data, member, put}
use Rattle.serde_json.specs.Read.{read, max_depth, of_json, of_members}
use Rattle.serde_json.specs.Written.{outline, members_outline}
use Rattle.serde_json.proofs.Numbers.{number_of-decimal, number_of-negative}
use Rattle.serde_json.proofs.Texts.{print-outline}
use Rattle.gr_event.specs.declared.value.Value.{Value}
use Rattle.gr_event.specs.declared.value.Value.TheVariants.{Int, Text, Bool as Truth}
use Rattle.gr_event.specs.declared.event.Event.{Event}
use Rattle.gr_event.specs.Limits.{names, Rise, IsValue, IsPair, IsEvent}
use Rattle.gr_event.specs.Json.{data_of, members_of, json_of, json_text, value_token, members_tokens_of, event_tokens, event_text}
use Rattle.gr_event.proofs.Again.{text_again}

-- The tokens, and what they print

value_is : (v : Value) → json_tokens (outline (data_of v)) ≡ value_token v ∷ []
value_is (Int (pos n)) = refl
value_is (Int (negsuc n)) = refl
value_is (Text t) = refl
value_is (Truth b) = refl

members_are : (ps : Event) → members_tokens (members_outline (members_of ps)) ≡ members_tokens_of ps
members_are [] = refl
members_are (p ∷ ps) = ap₂ (λ (ts us : List Token). Token.key p.0 ∷ (ts ++ us)) (value_is p.1) (members_are ps)

tokens_are : (e : Event) → json_tokens (outline (json_of e)) ≡ event_tokens e
tokens_are e = ap (λ ts. Token.begin_object ∷ ts) (members_are e)

-- the tokens of an event print as its text
pub prints : (e : Event) → print (event_tokens e) ≡ json_text e
unfolding json_text
prints e = ap print (sym (tokens_are e)) ∙ print-outline (json_of e)

-- Each token is printable, and its text is UTF-8

within : (z : ℤ) → FitsSigned w64 z → mag z < 2 ^ 63
within (pos n) h = omega (arith, ints)
within (negsuc n) h = omega (arith, ints)

value_printable : (v : Value) → IsValue v → IsPrintable (value_token v)
value_printable (Int z) h = IsNumber-signed_decimal z (within z h)
value_printable (Text t) h = tt
value_printable (Truth b) h = tt

members_printable : (ps : Event) → AllByRecursion IsPair ps → ArePrintable (members_tokens_of ps)
unfolding ArePrintable
members_printable [] h = (tt, tt)
members_printable (p ∷ ps) h = (tt, (value_printable p.1 h.0.1, members_printable ps h.1))

event_printable : (e : Event) → AllByRecursion IsPair e → ArePrintable (event_tokens e)
unfolding ArePrintable
event_printable e h = (tt, members_printable e h)

abbrev AreUtf8 : List Token → Type 0
AreUtf8 = AllByRecursion (λ t. IsUtf8 (token_text t))

printed_utf8 : (later : Bool) (ts : List Token) → AreUtf8 ts → IsUtf8 (print_from later ts)
unfolding print_from
printed_utf8 later [] h = IsUtf8-nil
printed_utf8 later (t ∷ ts) h =
    IsUtf8-append (separator later t) (token_text t ++ print_from (ends t) ts) (IsUtf8-separator later t)
    (IsUtf8-append (token_text t) (print_from (ends t) ts) h.0 (printed_utf8 (ends t) ts h.1))

value_utf8 : (v : Value) → IsValue v → IsUtf8 (token_text (value_token v))
value_utf8 (Int z) h = IsUtf8-from_ascii (signed_decimal z) (IsAscii-signed z (within z h))
value_utf8 (Text t) h = IsUtf8-quoted t h.1
value_utf8 (Truth b) h = IsUtf8-boolean b

members_utf8 : (ps : Event) → AllByRecursion IsPair ps → AreUtf8 (members_tokens_of ps)
members_utf8 [] h = (IsUtf8-are_ascii _ refl, tt)
members_utf8 (p ∷ ps) h = (IsUtf8-key p.0 h.0.0.2, (value_utf8 p.1 h.0.1, members_utf8 ps h.1))

event_utf8 : (e : Event) → AllByRecursion IsPair e → IsUtf8 (print (event_tokens e))
event_utf8 e h = printed_utf8 false (event_tokens e) (IsUtf8-are_ascii _ refl, members_utf8 e h)

-- The object that is read: names that rise go one behind the other

-- the name is above each of the pairs'
abbrev pub Above : List ℕ → Event → Type 0
Above k [] = Unit {0}
Above k (p ∷ ps) = (slice_cmp nat_cmp k p.0 ≡ Greater) × Above k ps

flipped : (a b : List ℕ) → slice_cmp nat_cmp a b ≡ Less → slice_cmp nat_cmp b a ≡ Greater
flipped a b h = nat_list_cmp_total.antisymm b a ∙ ap ordering_reverse h

after_at : (k : List ℕ) (ps more : Event) (e : List ℕ × Value) → AllByRecursion (λ y. slice_cmp nat_cmp k y ≡ Less) (names (ps ++ e ∷ more)) → slice_cmp nat_cmp k e.0 ≡ Less
after_at k [] more e h = h.0
after_at k (p ∷ ps) more e h = after_at k ps more e h.1

-- of names that rise, each is above those before it
pub above_before : (ps more : Event) (e : List ℕ × Value) → Rise (names (ps ++ e ∷ more)) → Above e.0 ps
unfolding IsStrictlySortedBy
above_before [] more e h = tt
above_before (p ∷ ps) more e h = (flipped p.0 e.0 (after_at p.0 ps more e h.0), above_before ps more e h.1)

-- a pair whose name is above all the others goes to the end
pub put_above : (e : List ℕ × Value) (ps : Event) → Above e.0 ps → put e.0 (data_of e.1) (members_of ps) ≡ members_of (ps ++ e ∷ [])
put_above e [] h = refl
put_above e (p ∷ ps) h = rw h.0 (ap (member p.0 (data_of p.1)) (put_above e ps h.1))

value_depth : (v : Value) → tree.depth (outline (data_of v)) ≡ 0
value_depth (Int z) = refl
value_depth (Text t) = refl
value_depth (Truth b) = refl

flat : (ps : Event) → tree.members_depth (members_outline (members_of ps)) ≡ 0
flat [] = refl
flat (p ∷ ps) = rw (value_depth p.1, flat ps) refl

shallow : (e : Event) → tree.depth (outline (json_of e)) ≤ max_depth
shallow e = rw (flat e) (omega arith)

integer_back : (z : ℤ) → mag z < 2 ^ 63 → of_json (outline (data_of (Int z))) ≡ Some (data_of (Int z))
integer_back (pos n) h = rw (number_of-decimal n (omega arith)) refl
integer_back (negsuc n) h = rw (number_of-negative n h) refl

value_back : (v : Value) → IsValue v → of_json (outline (data_of v)) ≡ Some (data_of v)
value_back (Int z) h = integer_back z (within z h)
value_back (Text t) h = refl
value_back (Truth b) h = refl

-- the pairs before, and then the others
members_back : (done ps : Event) → AllByRecursion IsPair ps → Rise (names (done ++ ps))
    → of_members (members_outline (members_of ps)) (members_of done) ≡ Some (members_of (done ++ ps))
members_back done [] h rise = ap (λ l. Some (members_of l)) (sym (append-nil done))
members_back done (p ∷ ps) h rise =
    let split : (done ++ p ∷ []) ++ ps ≡ done ++ p ∷ ps = append_assoc done (p ∷ []) ps in
    rw (value_back p.1 h.0.1, put_above p done (above_before done ps p rise))
    (members_back (done ++ p ∷ []) ps h.1 (subst (λ l. Rise (names l)) (sym split) rise) ∙ ap (λ l. Some (members_of l)) split)

object_back : (e : Event) → IsEvent e → of_json (outline (json_of e)) ≡ Some (json_of e)
object_back e is = rw (members_back [] e is.pairs.each is.pairs.rise) refl

abbrev whole : Option (json.Json × List Token) → Option Data
whole o = option_and_then of_json (option_and_then (λ p. json.if_last p.0 p.1) o)

read_back : (e : Event) → IsEvent e → read (print (event_tokens e)) ≡ Some (json_of e)
read_back e is =
    let j = outline (json_of e) in
    let same : tokens (print (event_tokens e)) ≡ json_tokens j ++ [] =
    tokens-print (event_tokens e) (event_printable e is.pairs.each) ∙ sym (tokens_are e) ∙ sym (append-nil (json_tokens j)) in
    ap whole (ap (json.value max_depth) same ∙ value-json_tokens j max_depth [] (shallow e)) ∙ object_back e is

-- the text of an event reads back as the event
pub reads_back : (e : Event) → IsEvent e → event_text (json_text e) ≡ Ok e
reads_back e is = ap event_text (sym (prints e)) ∙ text_again (print (event_tokens e)) e is (event_utf8 e is.pairs.each) (read_back e is)
