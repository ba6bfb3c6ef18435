-- A text is UTF-8 exactly where it is so with its quotes doubled
use Rattle.std.proofs.Common.{◌≡◌, ℕ, zero, suc, ◌<◌, ◌≤◌, true, ◌==◌, ltb, List, [], ◌∷◌, ◌++◌, length, IsUtf8, inl, inr, refl, sym, ap, ◌∙◌, arith, ne_eqb, length-append}
use Rattle.std.specs.Str.{is_utf8}
use Rattle.std.proofs.lemmas.Bool.{and_parts, and_from, cases_eq}
use Rattle.std.proofs.lemmas.Str.{IsUtf8-from_is_utf8, is_utf8-from_IsUtf8, cons_from_encodes, length-encode, len_utf8_bounds}
use lib.Utf8.{scalar, scalars, encode, encodes}
use Rattle.gr_filter.specs.Print.{doubled}
use Rattle.gr_filter.proofs.Lexing.{Holds, of_both, other}

-- Bytes without a quote

abbrev NoQuote : List ℕ → Type 0
NoQuote [] = Unit {0}
NoQuote (b ∷ bs) = (b ≡ 39 → ⊥) × NoQuote bs

encode_plain : (c : ℕ) → (c ≡ 39 → ⊥) → Holds NoQuote (encode c)
unfolding encode
encode_plain c n =
    of_both NoQuote (ltb c 128) _ _ (λ _. record { it = (n, tt) }) (λ _.
    of_both NoQuote (ltb c 2048) _ _ (λ _. record { it = (λ e. omega arith, (λ e. omega arith, tt)) }) (λ _.
    of_both NoQuote (ltb c 65536) _ _ (λ _. record { it = (λ e. omega arith, (λ e. omega arith, (λ e. omega arith, tt))) })
    (λ _. record { it = (λ e. omega arith, (λ e. omega arith, (λ e. omega arith, (λ e. omega arith, tt)))) })))

doubled_quote : (cs : List ℕ) (c : ℕ) → c ≡ 39 → doubled (c ∷ cs) ≡ 39 ∷ 39 ∷ doubled cs
doubled_quote cs c e = ap (λ x. doubled (x ∷ cs)) e

doubled_other : (cs : List ℕ) (c : ℕ) → (c ≡ 39 → ⊥) → doubled (c ∷ cs) ≡ c ∷ doubled cs
doubled_other cs c n = other (c == 39) (39 ∷ 39 ∷ doubled cs) (c ∷ doubled cs) (ne_eqb c 39 n)

doubled_plain : (w s : List ℕ) → NoQuote w → doubled (w ++ s) ≡ w ++ doubled s
doubled_plain [] s h = refl
doubled_plain (b ∷ bs) s h = doubled_other (bs ++ s) b h.0 ∙ ap (λ x. b ∷ x) (doubled_plain bs s h.1)

-- With quotes doubled

encode_quote : encode 39 ≡ 39 ∷ []
unfolding encode
encode_quote = refl

-- the quote as a character is the quote as a byte
quote_char : (cs : List ℕ) → encodes (39 ∷ cs) ≡ 39 ∷ encodes cs
quote_char cs = ap (λ w. w ++ encodes cs) encode_quote

doubled_encodes : (cs : List ℕ) → doubled (encodes cs) ≡ encodes (doubled cs)
doubled_encodes [] = refl
doubled_encodes (c ∷ cs) = elim (cases_eq c 39) [
  | inl e ↦ ap (λ x. doubled (encodes (x ∷ cs))) e ∙ ap doubled (quote_char cs) ∙ ap (λ s. 39 ∷ 39 ∷ s) (doubled_encodes cs)
      ∙ sym (ap encodes (doubled_quote cs c e) ∙ quote_char (39 ∷ doubled cs) ∙ ap (λ s. 39 ∷ s) (quote_char (doubled cs)))
  | inr n ↦ let p = encode_plain c n in
      doubled_plain (encode c) (encodes cs) p.it ∙ ap (λ s. encode c ++ s) (doubled_encodes cs) ∙ sym (ap encodes (doubled_other cs c n))
]

scalars_doubled : (cs : List ℕ) → scalars cs ≡ true → scalars (doubled cs) ≡ true
scalars_doubled [] h = refl
scalars_doubled (c ∷ cs) h =
    let p = and_parts (scalar c) (scalars cs) h in
    elim (cases_eq c 39) [
      | inl e ↦ ap scalars (doubled_quote cs c e) ∙ scalars_doubled cs p.1
      | inr n ↦ ap scalars (doubled_other cs c n) ∙ and_from (scalar c) (scalars (doubled cs)) p.0 (scalars_doubled cs p.1)
    ]

pub utf8_doubled : (t : List ℕ) → is_utf8 t ≡ true → is_utf8 (doubled t) ≡ true
utf8_doubled t h =
    let u = IsUtf8-from_is_utf8 t h in
    is_utf8-from_IsUtf8 (doubled t) (doubled u.0, (scalars_doubled u.0 u.1.0, sym (doubled_encodes u.0) ∙ ap doubled u.1.1))

-- And back

-- bytes without a quote at the front of a doubled text are at the front of the text
record Strip (w s t : List ℕ) : Type 0 where
  rest : List ℕ
  whole : t ≡ w ++ rest
  behind : s ≡ doubled rest

first_of_both : (b d : ℕ) (bs ds : List ℕ) → b ∷ bs ≡ d ∷ ds → b ≡ d
first_of_both b d bs ds h = cc

rest_of_both : (b d : ℕ) (bs ds : List ℕ) → b ∷ bs ≡ d ∷ ds → bs ≡ ds
rest_of_both b d bs ds h = cc

strip : (w s t : List ℕ) → NoQuote w → w ++ s ≡ doubled t → Strip w s t
strip [] s t n h = record { rest = t; whole = refl; behind = h }
strip (b ∷ bs) s [] n h = cc
strip (b ∷ bs) s (d ∷ ds) n h = elim (cases_eq d 39) [
  | inl e ↦ absurd (n.0 (first_of_both b 39 (bs ++ s) (39 ∷ doubled ds) (h ∙ doubled_quote ds d e)))
  | inr m ↦
      let r = strip bs s ds n.1 (rest_of_both b d (bs ++ s) (doubled ds) (h ∙ doubled_other ds d m)) in
      let same : d ≡ b = sym (first_of_both b d (bs ++ s) (doubled ds) (h ∙ doubled_other ds d m)) in
      record { rest = r.rest; whole = ap (λ x. x ∷ ds) same ∙ ap (λ x. b ∷ x) r.whole; behind = r.behind }
]

none : (d : ℕ) (ds : List ℕ) → [] ≡ d ∷ ds → ⊥
none d ds h = cc

quote_first : (cs s : List ℕ) → encodes cs ≡ 39 ∷ s → (es : List ℕ) × (cs ≡ 39 ∷ es) × (encodes es ≡ s)
quote_first cs s h = cons_from_encodes cs s 39 (h ∙ sym (ap (λ w. w ++ s) encode_quote))

encode_some : (c : ℕ) → 0 < length (encode c)
encode_some c = omega (arith, length-encode c, (len_utf8_bounds c).0)

with_char : (c : ℕ) (rest t : List ℕ) → scalar c ≡ true → IsUtf8 rest → t ≡ encode c ++ rest → IsUtf8 t
with_char c rest t s u e = (c ∷ u.0, (and_from (scalar c) (scalars u.0) s u.1.0, ap (λ x. encode c ++ x) u.1.1 ∙ sym e))

-- a character that is no quote, with what is behind it
single_char : (n d : ℕ) (ds cs : List ℕ) → ((t ds : List ℕ) → length t ≤ n → scalars ds ≡ true → encodes ds ≡ doubled t → IsUtf8 t) → length (d ∷ ds) ≤ suc n → scalars cs ≡ true → encodes cs ≡ doubled (d ∷ ds) → (d ≡ 39 → ⊥) → IsUtf8 (d ∷ ds)
single_char n d ds [] ih l k h m = absurd (none d (doubled ds) (h ∙ doubled_other ds d m))
single_char n d ds (c ∷ cs) ih l k h m =
    let p = and_parts (scalar c) (scalars cs) k in
    let no : c ≡ 39 → ⊥ = λ e. m (sym (first_of_both 39 d (encodes cs) (doubled ds) (sym (ap (λ x. encodes (x ∷ cs)) e ∙ quote_char cs) ∙ h ∙ doubled_other ds d m))) in
    let plain = encode_plain c no in
    let r = strip (encode c) (encodes cs) (d ∷ ds) plain.it h in
    with_char c r.rest (d ∷ ds) p.0 (ih r.rest cs (omega (arith, ap length r.whole, length-append (encode c) r.rest, encode_some c)) p.1 r.behind) r.whole

single : (n : ℕ) (t cs : List ℕ) → length t ≤ n → scalars cs ≡ true → encodes cs ≡ doubled t → IsUtf8 t
single n [] cs l k h = ([], (refl, refl))
single zero (d ∷ ds) cs l k h = absurd (omega arith)
single (suc n) (d ∷ ds) cs l k h = elim (cases_eq d 39) [
  | inl e ↦
      let one = quote_first cs (39 ∷ doubled ds) (h ∙ doubled_quote ds d e) in
      let two = quote_first one.0 (doubled ds) one.2 in
      let all : scalars (39 ∷ 39 ∷ two.0) ≡ true = ap scalars (sym (one.1 ∙ ap (λ x. 39 ∷ x) two.1)) ∙ k in
      with_char 39 ds (d ∷ ds) refl (single n ds two.0 (omega arith) all two.2) (ap (λ x. x ∷ ds) e ∙ sym (ap (λ w. w ++ ds) encode_quote))
  | inr m ↦ single_char n d ds cs (λ u v p q r. single n u v p q r) l k h m
]

pub utf8_single : (t : List ℕ) → is_utf8 (doubled t) ≡ true → is_utf8 t ≡ true
utf8_single t h =
    let u = IsUtf8-from_is_utf8 (doubled t) h in
    is_utf8-from_IsUtf8 t (single (length t) t u.0 (omega arith) u.1.0 u.1.1)
