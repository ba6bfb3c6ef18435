-- The members of an object, printed pair by pair
use Rattle.std.proofs.Common.{◌≡◌, ◌<◌, ℕ, Bool, true, false, List, [], ◌∷◌, ◌++◌, length, refl, ap, sym, ◌∙◌, arith, append_assoc}
use Rattle.json.specs.Token.{Token, key, end_object}
use Rattle.json.specs.Print.{token_text, separator, print, print_from}
use Rattle.gr_event.specs.declared.value.Value.{Value}
use Rattle.gr_event.specs.declared.value.Value.TheVariants.{Int, Text, Bool as Truth}
use Rattle.gr_event.specs.declared.event.Event.{Event}
use Rattle.gr_event.specs.Form.{Spell}
use Rattle.gr_event.specs.Json.{value_token, members_tokens_of, event_tokens}
use Rattle.gr_event.proofs.Walking.{nothing, FrontOf}

-- the closing bracket stands alone
pub end_text : (after : Bool) → print_from after (end_object ∷ []) ≡ 125 ∷ []
unfolding print_from
end_text true = refl
end_text false = refl

-- a name and its value stand before the others
pub front_text : (after : Bool) (k : List ℕ) (v : Value) (ts : List Token) → print_from after (key k ∷ value_token v ∷ ts) ≡ (separator after (key k) ++ token_text (key k)) ++ (token_text (value_token v) ++ print_from true ts)
unfolding print_from
front_text after k (Int z) ts = sym (append_assoc (separator after (key k)) (token_text (key k)) (token_text (value_token (Int z)) ++ print_from true ts))
front_text after k (Text t) ts = sym (append_assoc (separator after (key k)) (token_text (key k)) (token_text (value_token (Text t)) ++ print_from true ts))
front_text after k (Truth b) ts = sym (append_assoc (separator after (key k)) (token_text (key k)) (token_text (value_token (Truth b)) ++ print_from true ts))

-- of no pair there is the bracket alone
pub put_end : (after : Bool) (bytes : List ℕ) (ps : Event) (old new : List ℕ) → Spell bytes ps → length bytes ≡ 0 → new ≡ old ++ 125 ∷ []
    → new ≡ old ++ print_from after (members_tokens_of ps)
put_end after bytes ps old new h none is =
    is ∙ ap (λ xs. old ++ xs) (sym (end_text after)) ∙ ap (λ (l : Event). old ++ print_from after (members_tokens_of l)) (sym (nothing bytes ps h none))

-- the first member, and then the others
pub put_first : (after : Bool) (bytes name others : List ℕ) (value : Value) (ps : Event) (old put new : List ℕ) → Spell bytes ps → 0 < length bytes
    → FrontOf bytes name value others → put ≡ (old ++ (separator after (key name) ++ token_text (key name))) ++ token_text (value_token value)
    → ((qs : Event) → Spell others qs → new ≡ put ++ print_from true (members_tokens_of qs)) → new ≡ old ++ print_from after (members_tokens_of ps)
put_first after bytes name others value [] old put new h some front one rest = absurd (let e = ap length h.spelled in omega arith)
put_first after bytes name others value (p ∷ ps) old put new h some front one rest =
    let f = front p ps h in
    let head = separator after (key name) ++ token_text (key name) in
    let behind = print_from true (members_tokens_of ps) in
    rest ps f.2
    ∙ ap (λ xs. xs ++ behind) one
    ∙ append_assoc (old ++ head) (token_text (value_token value)) behind
    ∙ append_assoc old head (token_text (value_token value) ++ behind)
    ∙ ap (λ xs. old ++ xs) (sym (front_text after name value (members_tokens_of ps)))
    ∙ ap (λ k. old ++ print_from after (key k ∷ value_token value ∷ members_tokens_of ps)) f.0
    ∙ ap (λ v. old ++ print_from after (key p.0 ∷ value_token v ∷ members_tokens_of ps)) f.1

-- and before all of them the opening bracket
pub put_whole : (ps : Event) (old put new : List ℕ) → put ≡ old ++ 123 ∷ [] → new ≡ put ++ print_from false (members_tokens_of ps) → new ≡ old ++ print (event_tokens ps)
unfolding print_from
put_whole ps old put new one rest =
    rest ∙ ap (λ xs. xs ++ print_from false (members_tokens_of ps)) one ∙ append_assoc old (123 ∷ []) (print_from false (members_tokens_of ps))
