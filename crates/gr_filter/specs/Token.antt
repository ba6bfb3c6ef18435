-- The tokens of a filter's text
use Rattle.std.specs.Prelude.{ℕ, pos, neg_ℤ, ◌+◌, ◌-◌, ◌*◌, ◌^◌, ◌==◌, ◌&&◌, ◌||◌, nat_le, nat_lt, Bool, true, false}
use Rattle.std.specs.Prelude.{if◌then◌else◌, List, [], ◌∷◌, take, drop, Option, Some, None, codes}
use Rattle.std.specs.Option.{option_map}
use Rattle.std.specs.Str.{is_utf8}
use Rattle.gr_filter.specs.declared.node.Sign.TheVariants.{Equal, Differs, Less, AtMost, Greater, AtLeast}
use Rattle.gr_filter.specs.declared.token.Token.{Token}
use Rattle.gr_filter.specs.declared.token.Token.TheVariants as token
use Rattle.gr_filter.specs.declared.token.Lexeme.{Lexeme}

-- space, tab, CR and LF separate
abbrev pub is_space : ℕ → Bool
is_space c = c == 32 || c == 9 || c == 13 || c == 10

abbrev pub is_digit : ℕ → Bool
is_digit c = nat_le 48 c && nat_le c 57

-- a letter, '_' or '$'
abbrev pub begins_name : ℕ → Bool
begins_name c = (nat_le 65 c && nat_le c 90) || (nat_le 97 c && nat_le c 122) || c == 95 || c == 36

-- also a digit or '.'
abbrev pub goes_on : ℕ → Bool
goes_on c = begins_name c || is_digit c || c == 46

-- how many bytes at the front pass a test
abbrev pub front : (ℕ → Bool) → List ℕ → ℕ
front test [] = 0
front test (c ∷ cs) = if test c then 1 + front test cs else 0

abbrev pub capital : ℕ → ℕ
capital c = if nat_le 97 c && nat_le c 122 then c - 32 else c

-- a word in any case
abbrev pub is_word : List ℕ → List ℕ → Bool
is_word [] [] = true
is_word (c ∷ cs) (k ∷ ks) = capital c == k && is_word cs ks
is_word _ _ = false

-- the keyword, or a name
unfoldable pub word_token : List ℕ → Token
word_token w =
    if is_word w (codes "AND") then token.And
    else (if is_word w (codes "OR") then token.Or
    else (if is_word w (codes "NOT") then token.Not
    else (if is_word w (codes "BETWEEN") then token.Between
    else (if is_word w (codes "IN") then token.In
    else (if is_word w (codes "LIKE") then token.Like
    else (if is_word w (codes "IS") then token.Is
    else (if is_word w (codes "NULL") then token.Null
    else (if is_word w (codes "TRUE") then token.True
    else (if is_word w (codes "FALSE") then token.False
    else token.Name)))))))))

-- the number that digits spell, behind those that were read
abbrev pub number_from : ℕ → List ℕ → ℕ
number_from n [] = n
number_from n (d ∷ ds) = number_from (10 * n + (d - 48)) ds

-- the integer of digits, within 64 bits signed
abbrev pub integer_token : Bool → ℕ → Token
integer_token false n = if nat_lt n (2 ^ 63) then token.Integer (pos n) else token.Wide
integer_token true n = if nat_le n (2 ^ 63) then token.Integer (neg_ℤ (pos n)) else token.Wide

-- no letter, '_', '$' or '.' follows a number at once
abbrev pub next_goes_on : List ℕ → Bool
next_goes_on [] = false
next_goes_on (c ∷ cs) = goes_on c

-- digits, behind a minus or not
unfoldable pub number_token : Bool → List ℕ → Token
number_token minus ds = if next_goes_on (drop (front is_digit ds) ds) then token.Bad
    else integer_token minus (number_from 0 (take (front is_digit ds) ds))

-- how many bytes a text has behind its first quote, with its last one; a doubled quote stands inside
abbrev mutual
  pub text_len : List ℕ → Option ℕ
  text_len [] = None
  text_len (c ∷ cs) = if c == 39 then quote_len cs else option_map (λ n. n + 1) (text_len cs)

  -- a quote was read
  pub quote_len : List ℕ → Option ℕ
  quote_len [] = Some 1
  quote_len (c ∷ cs) = if c == 39 then option_map (λ n. n + 2) (text_len cs) else Some 1

-- what stands between the quotes, each doubled quote once
abbrev mutual
  pub undoubled : List ℕ → List ℕ
  undoubled [] = []
  undoubled (c ∷ cs) = if c == 39 then 39 ∷ behind_quote cs else c ∷ undoubled cs

  pub behind_quote : List ℕ → List ℕ
  behind_quote [] = []
  behind_quote (c ∷ cs) = undoubled cs

-- the text behind its first quote
abbrev pub text_token : List ℕ → Option ℕ → Token × ℕ
text_token cs None = (token.Bad, 1)
text_token cs (Some n) = if is_utf8 (take (n - 1) cs) then (token.Text, n + 1) else (token.Bad, 1)

abbrev pub less_token : List ℕ → Token × ℕ
less_token [] = (token.Sign Less, 1)
less_token (c ∷ cs) = if c == 62 then (token.Sign Differs, 2)
    else (if c == 61 then (token.Sign AtMost, 2) else (token.Sign Less, 1))

abbrev pub greater_token : List ℕ → Token × ℕ
greater_token [] = (token.Sign Greater, 1)
greater_token (c ∷ cs) = if c == 61 then (token.Sign AtLeast, 2) else (token.Sign Greater, 1)

abbrev pub sign_token : ℕ → List ℕ → Token × ℕ
sign_token c cs =
    if c == 40 then (token.Open, 1)
    else (if c == 41 then (token.Close, 1)
    else (if c == 44 then (token.Comma, 1)
    else (if c == 61 then (token.Sign Equal, 1)
    else (if c == 60 then less_token cs
    else (if c == 62 then greater_token cs
    else (token.Bad, 1))))))

-- a minus, with a digit directly behind it or not
abbrev pub minus_token : List ℕ → Token × ℕ
minus_token cs = if front is_digit cs == 0 then (token.Bad, 1) else (number_token true cs, 1 + front is_digit cs)

-- the token at the front of a text that begins with no space, and how many bytes it has
unfoldable pub token_of : List ℕ → Token × ℕ
token_of [] = (token.End, 0)
token_of (c ∷ cs) =
    if begins_name c then (word_token (take (front goes_on (c ∷ cs)) (c ∷ cs)), front goes_on (c ∷ cs))
    else (if is_digit c then (number_token false (c ∷ cs), front is_digit (c ∷ cs))
    else (if c == 45 then minus_token cs
    else (if c == 39 then text_token cs (text_len cs)
    else sign_token c cs)))

-- the first token from a place on
unfoldable pub lexeme : List ℕ → ℕ → Lexeme
lexeme bytes at =
    let from = at + front is_space (drop at bytes) in
    let read = token_of (drop from bytes) in
    record { token = read.0; from = from; to = from + read.1 }
