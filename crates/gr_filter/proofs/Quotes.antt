-- How a printed text reads: each doubled quote once
use Rattle.std.proofs.Common.{◌≡◌, ℕ, ◌+◌, ◌-◌, Bool, true, false, ◌==◌, if◌then◌else◌, List, [], ◌∷◌, ◌++◌, length, take, drop, Some, option_map, refl, sym, ap, ◌∙◌, arith, append_assoc, length-append, take_at, eqb-true}
use Rattle.std.specs.Str.{is_utf8}
use Rattle.gr_filter.specs.declared.token.Token.TheVariants as token
use Rattle.gr_filter.specs.Token.{text_len, quote_len, undoubled, behind_quote, text_token, token_of}
use Rattle.gr_filter.specs.Grammar.{inside_quotes}
use Rattle.gr_filter.specs.Print.{doubled, quoted}
use Rattle.gr_filter.specs.Written.{IsText}
use Rattle.gr_filter.proofs.QuotedUtf8.{utf8_doubled}
use Rattle.gr_filter.proofs.Lexing.{chosen, other, Lexes, spaced, lexes, breaks, first_is, broken}

abbrev is_quote : ℕ → Bool
is_quote c = c == 39

-- a byte, doubled where it is a quote
abbrev put : Bool → ℕ → List ℕ → List ℕ
put b c s = if b then 39 ∷ 39 ∷ s else c ∷ s

undoubled_step : (c : ℕ) (s : List ℕ) (b : Bool) → is_quote c ≡ b → undoubled (put b c s) ≡ c ∷ undoubled s
undoubled_step c s true h = ap (λ x. x ∷ undoubled s) (sym (eqb-true c 39 h))
undoubled_step c s false h = other (is_quote c) (39 ∷ behind_quote s) (c ∷ undoubled s) h

pub undoubled_doubled : (t : List ℕ) → undoubled (doubled t) ≡ t
undoubled_doubled [] = refl
undoubled_doubled (c ∷ cs) = undoubled_step c (doubled cs) (is_quote c) refl ∙ ap (λ s. c ∷ s) (undoubled_doubled cs)

quote_ends : (rest : List ℕ) → first_is is_quote rest ≡ false → quote_len rest ≡ Some 1
quote_ends [] h = refl
quote_ends (c ∷ cs) h = other (is_quote c) _ _ h

text_len_step : (c : ℕ) (s u : List ℕ) (b : Bool) → is_quote c ≡ b → text_len (s ++ u) ≡ Some (length s + 1) → text_len (put b c s ++ u) ≡ Some (length (put b c s) + 1)
text_len_step c s u true h e = ap (option_map (λ k. k + 2)) e ∙ ap Some (omega arith)
text_len_step c s u false h e = other (is_quote c) _ _ h ∙ ap (option_map (λ k. k + 1)) e ∙ ap Some (omega arith)

text_len_doubled : (t rest : List ℕ) → first_is is_quote rest ≡ false → text_len (doubled t ++ 39 ∷ rest) ≡ Some (length (doubled t) + 1)
text_len_doubled [] rest h = quote_ends rest h
text_len_doubled (c ∷ cs) rest h = text_len_step c (doubled cs) (39 ∷ rest) (is_quote c) refl (text_len_doubled cs rest h)

text_reads : (d s : List ℕ) → is_utf8 d ≡ true → text_token (d ++ s) (Some (length d + 1)) ≡ (token.Text, length d + 2)
text_reads d s h =
    let n : (length d + 1) - 1 ≡ length d = omega arith in
    ap (λ k. if is_utf8 (take k (d ++ s)) then (token.Text, (length d + 1) + 1) else (token.Bad, 1)) n
    ∙ ap (λ x. if is_utf8 x then (token.Text, (length d + 1) + 1) else (token.Bad, 1)) (take_at d s (length d) refl)
    ∙ chosen (is_utf8 d) _ _ h ∙ ap (λ k. (token.Text, k)) (omega arith)

quote_begins : (s : List ℕ) → token_of (39 ∷ s) ≡ text_token s (text_len s)
unfolding token_of
quote_begins s = refl

length-quoted : (t : List ℕ) → length (quoted t) ≡ length (doubled t) + 2
length-quoted t = omega (arith, length-append (doubled t) (39 ∷ []))

quoted_reads : (t rest : List ℕ) → IsText t → breaks rest ≡ true → token_of (quoted t ++ rest) ≡ (token.Text, length (quoted t))
quoted_reads t rest w b =
    quote_begins ((doubled t ++ 39 ∷ []) ++ rest)
    ∙ ap (λ s. text_token s (text_len s)) (append_assoc (doubled t) (39 ∷ []) rest)
    ∙ ap (text_token (doubled t ++ 39 ∷ rest)) (text_len_doubled t rest (broken is_quote rest refl refl refl b))
    ∙ text_reads (doubled t) (39 ∷ rest) (utf8_doubled t w.utf8)
    ∙ ap (λ k. (token.Text, k)) (sym (length-quoted t))

pub lexes_text : (g : Bool) (bytes : List ℕ) (at : ℕ) (t rest : List ℕ) → IsText t → drop at bytes ≡ spaced g (quoted t ++ rest) → breaks rest ≡ true → Lexes bytes at token.Text (quoted t) rest
lexes_text g bytes at t rest w e b = lexes g bytes at (quoted t) rest token.Text e refl (quoted_reads t rest w b)

-- between the quotes stands the text
pub text_inside : (t : List ℕ) → undoubled (inside_quotes (quoted t)) ≡ t
text_inside t =
    let n : length (quoted t) - 2 ≡ length (doubled t) = omega (arith, length-quoted t) in
    ap (λ k. undoubled (take k (doubled t ++ 39 ∷ []))) n ∙ ap undoubled (take_at (doubled t) (39 ∷ []) (length (doubled t)) refl) ∙ undoubled_doubled t
