-- The grammar of filters, token by token, with the place of the first fault
use Rattle.std.specs.Prelude.{ℕ, zero, suc, ◌-◌, Bool, true, false, nat_lt, if◌then◌else◌, List, [], ◌∷◌, ◌++◌, length}
use Rattle.std.specs.Prelude.{take, drop, slice_range, Result, Ok, Err}
use Rattle.gr_filter.specs.declared.fault.FilterFault.{FilterFault}
use Rattle.gr_filter.specs.declared.fault.FilterFault.TheVariants as fault
use Rattle.gr_filter.specs.declared.node.Operand.{Operand}
use Rattle.gr_filter.specs.declared.parser.TheConstants.{LEVELS, MAX_FILTER_BYTES}
use Rattle.gr_filter.specs.declared.node.Operand.TheVariants as operand
use Rattle.gr_filter.specs.declared.token.Token.{Token}
use Rattle.gr_filter.specs.declared.token.Token.TheVariants as token
use Rattle.gr_filter.specs.declared.token.Lexeme.{Lexeme}
use Rattle.gr_filter.specs.Token.{undoubled, lexeme}
use Rattle.gr_filter.specs.Tree.{Tree, alone, compare, between, one_of, like, is_null, negation, both, either}

-- one step after another: the first fault ends it
infixl 10 ◌>>=◌
abbrev pub ◌>>=◌ : {A B : Type 0} → Result A FilterFault → (A → Result B FilterFault) → Result B FilterFault
(Ok x) >>= f = f x
(Err e) >>= f = Err e

-- what was read, and the place behind it
abbrev pub Read : Type 0 → Type 0
Read A = Result (A × ℕ) FilterFault

-- the fault of a token that does not fit: a token is read before it is fitted
abbrev pub misfit_of : Token → ℕ → FilterFault
misfit_of token.Bad at = fault.BadToken at
misfit_of token.Wide at = fault.NumberRange at
misfit_of _ at = fault.Expected at

abbrev pub misfit : Lexeme → FilterFault
misfit l = misfit_of l.token l.from

-- the bytes of a name, and of a text between its quotes
abbrev pub name_of : List ℕ → Lexeme → List ℕ
name_of bytes l = slice_range bytes l.from l.to

abbrev pub inside_quotes : List ℕ → List ℕ
inside_quotes t = take (length t - 2) (drop 1 t)

abbrev pub text_of : List ℕ → Lexeme → List ℕ
text_of bytes l = undoubled (inside_quotes (name_of bytes l))

-- operand = name | literal; literal = integer | text | TRUE | FALSE
abbrev pub literal_of : List ℕ → Lexeme → Token → Result Operand FilterFault
literal_of bytes l (token.Integer z) = Ok (operand.Int z)
literal_of bytes l token.Text = Ok (operand.Text (text_of bytes l))
literal_of bytes l token.True = Ok (operand.Bool true)
literal_of bytes l token.False = Ok (operand.Bool false)
literal_of bytes l _ = Err (misfit l)

abbrev pub operand_of : List ℕ → Lexeme → Token → Result Operand FilterFault
operand_of bytes l token.Name = Ok (operand.Name (name_of bytes l))
operand_of bytes l t = literal_of bytes l t

unfoldable pub literal_at : List ℕ → ℕ → Read Operand
literal_at bytes at = let l = lexeme bytes at in literal_of bytes l l.token >>= λ x. Ok (x, l.to)

unfoldable pub operand_at : List ℕ → ℕ → Read Operand
operand_at bytes at = let l = lexeme bytes at in operand_of bytes l l.token >>= λ x. Ok (x, l.to)

-- a token that has to stand at a place, and the place behind it
abbrev pub wanted : Bool → Lexeme → Result ℕ FilterFault
wanted fits l = if fits then Ok l.to else Err (misfit l)

abbrev pub is_open : Token → Bool
is_open token.Open = true
is_open _ = false

abbrev pub is_close : Token → Bool
is_close token.Close = true
is_close _ = false

abbrev pub is_comma : Token → Bool
is_comma token.Comma = true
is_comma _ = false

abbrev pub is_and : Token → Bool
is_and token.And = true
is_and _ = false

abbrev pub is_or : Token → Bool
is_or token.Or = true
is_or _ = false

abbrev pub is_not : Token → Bool
is_not token.Not = true
is_not _ = false

abbrev pub is_null_word : Token → Bool
is_null_word token.Null = true
is_null_word _ = false

abbrev pub is_text : Token → Bool
is_text token.Text = true
is_text _ = false

abbrev pub is_end : Token → Bool
is_end token.End = true
is_end _ = false

unfoldable pub open_at : List ℕ → ℕ → Result ℕ FilterFault
open_at bytes at = let l = lexeme bytes at in wanted (is_open l.token) l

unfoldable pub close_at : List ℕ → ℕ → Result ℕ FilterFault
close_at bytes at = let l = lexeme bytes at in wanted (is_close l.token) l

unfoldable pub and_word_at : List ℕ → ℕ → Result ℕ FilterFault
and_word_at bytes at = let l = lexeme bytes at in wanted (is_and l.token) l

unfoldable pub null_at : List ℕ → ℕ → Result ℕ FilterFault
null_at bytes at = let l = lexeme bytes at in wanted (is_null_word l.token) l

-- the text of a pattern
unfoldable pub pattern_at : List ℕ → ℕ → Read (List ℕ)
pattern_at bytes at = let l = lexeme bytes at in if is_text l.token then Ok (text_of bytes l, l.to) else Err (misfit l)

-- BETWEEN operand AND operand, behind BETWEEN
unfoldable pub between_at : List ℕ → Bool → Operand → ℕ → Read Tree
between_at bytes negated x at = do
  low ← operand_at bytes at
  behind ← and_word_at bytes low.1
  high ← operand_at bytes behind
  Ok (between negated x low.0 high.0, high.1)

-- { "," literal } ")", behind the literals so far: n is no less than how many may follow
unfoldable pub literals_at : List ℕ → ℕ → List Operand → ℕ → Read (List Operand)
literals_at bytes zero found at = close_at bytes at >>= λ behind. Ok (found, behind)
literals_at bytes (suc n) found at =
    let l = lexeme bytes at in
    if is_comma l.token then (literal_at bytes l.to >>= λ x. literals_at bytes n (found ++ x.0 ∷ []) x.1)
    else (close_at bytes at >>= λ behind. Ok (found, behind))

-- "(" literal { "," literal } ")", behind IN
unfoldable pub one_of_at : List ℕ → Bool → List ℕ → ℕ → Read Tree
one_of_at bytes negated name at = do
  behind ← open_at bytes at
  first ← literal_at bytes behind
  all ← literals_at bytes (length bytes) (first.0 ∷ []) first.1
  Ok (one_of negated name all.0, all.1)

unfoldable pub like_at : List ℕ → Bool → List ℕ → ℕ → Read Tree
like_at bytes negated name at = do
  pattern ← pattern_at bytes at
  Ok (like negated name pattern.0, pattern.1)

-- [ NOT ] NULL, behind IS
unfoldable pub null_test_at : List ℕ → List ℕ → ℕ → Read Tree
null_test_at bytes name at =
    let l = lexeme bytes at in
    if is_not l.token then (null_at bytes l.to >>= λ behind. Ok (is_null true name, behind))
    else (null_at bytes at >>= λ behind. Ok (is_null false name, behind))

-- a test for names alone: before it the operand is a name, otherwise the fault is at the tail's first token
abbrev pub for_name : Operand → ℕ → (List ℕ → Read Tree) → Read Tree
for_name (operand.Name name) tail test = test name
for_name _ tail test = Err (fault.Expected tail)

-- without a tail the operand is a name, TRUE or FALSE
abbrev pub alone_at : Operand → ℕ → Lexeme → Read Tree
alone_at (operand.Name name) behind l = Ok (alone (operand.Name name), behind)
alone_at (operand.Bool b) behind l = Ok (alone (operand.Bool b), behind)
alone_at _ behind l = Err (misfit l)

-- BETWEEN, IN or LIKE behind a NOT at `tail`
abbrev pub negated_of : List ℕ → Operand → ℕ → Lexeme → Token → Read Tree
negated_of bytes x tail l token.Between = between_at bytes true x l.to
negated_of bytes x tail l token.In = for_name x tail (λ name. one_of_at bytes true name l.to)
negated_of bytes x tail l token.Like = for_name x tail (λ name. like_at bytes true name l.to)
negated_of bytes x tail l _ = Err (misfit l)

unfoldable pub negated_at : List ℕ → Operand → Lexeme → Read Tree
negated_at bytes x word = let l = lexeme bytes word.to in negated_of bytes x word.from l l.token

-- the tail of a test behind its operand
abbrev pub tail_of : List ℕ → Operand → ℕ → Lexeme → Token → Read Tree
tail_of bytes x behind l (token.Sign sign) = operand_at bytes l.to >>= λ y. Ok (compare x sign y.0, y.1)
tail_of bytes x behind l token.Between = between_at bytes false x l.to
tail_of bytes x behind l token.In = for_name x l.from (λ name. one_of_at bytes false name l.to)
tail_of bytes x behind l token.Like = for_name x l.from (λ name. like_at bytes false name l.to)
tail_of bytes x behind l token.Is = for_name x l.from (λ name. null_test_at bytes name l.to)
tail_of bytes x behind l token.Not = negated_at bytes x l
tail_of bytes x behind l _ = alone_at x behind l

unfoldable pub tail_at : List ℕ → Operand → ℕ → Read Tree
tail_at bytes x at = let l = lexeme bytes at in tail_of bytes x at l l.token

-- operand [ tail ]
unfoldable pub test_at : List ℕ → ℕ → Read Tree
test_at bytes at = operand_at bytes at >>= λ x. tail_at bytes x.0 x.1

-- { AND not }, grouped from the left: n is no less than how many may follow
unfoldable pub and_more : List ℕ → (ℕ → Read Tree) → ℕ → Tree → ℕ → Read Tree
and_more bytes part zero found at = Ok (found, at)
and_more bytes part (suc n) found at =
    let l = lexeme bytes at in
    if is_and l.token then (part l.to >>= λ r. and_more bytes part n (both found r.0) r.1) else Ok (found, at)

-- not { AND not }
unfoldable pub and_at : List ℕ → (ℕ → Read Tree) → ℕ → Read Tree
and_at bytes part at = part at >>= λ r. and_more bytes part (length bytes) r.0 r.1

unfoldable pub or_more : List ℕ → (ℕ → Read Tree) → ℕ → Tree → ℕ → Read Tree
or_more bytes part zero found at = Ok (found, at)
or_more bytes part (suc n) found at =
    let l = lexeme bytes at in
    if is_or l.token then (and_at bytes part l.to >>= λ r. or_more bytes part n (either found r.0) r.1)
    else Ok (found, at)

-- and { OR and }
unfoldable pub or_at : List ℕ → (ℕ → Read Tree) → ℕ → Read Tree
or_at bytes part at = and_at bytes part at >>= λ r. or_more bytes part (length bytes) r.0 r.1

-- NOT not | "(" or ")", where one level more may nest
abbrev pub nested : List ℕ → (ℕ → Read Tree) → Lexeme → Token → Read Tree → Read Tree
nested bytes inner l token.Not test = inner l.to >>= λ r. Ok (negation r.0, r.1)
nested bytes inner l token.Open test = or_at bytes inner l.to >>= λ r. close_at bytes r.1 >>= λ behind. Ok (r.0, behind)
nested bytes inner l _ test = test

-- the same where no level more may nest
abbrev pub not_nested : Lexeme → Token → Read Tree → Read Tree
not_nested l token.Not test = Err (fault.TooDeep l.from)
not_nested l token.Open test = Err (fault.TooDeep l.from)
not_nested l _ test = test

-- not = NOT not | "(" or ")" | test, with so many levels left
unfoldable pub not_at : List ℕ → ℕ → ℕ → Read Tree
not_at bytes zero at = let l = lexeme bytes at in not_nested l l.token (test_at bytes at)
not_at bytes (suc levels) at = let l = lexeme bytes at in
    nested bytes (not_at bytes levels) l l.token (test_at bytes at)

-- nothing is left behind the filter
abbrev pub ended : List ℕ → Tree × ℕ → Result Tree FilterFault
ended bytes r = let l = lexeme bytes r.1 in if is_end l.token then Ok r.0 else Err (misfit l)

-- the filter that a text is, or the first fault
unfoldable pub filter_text : List ℕ → Result Tree FilterFault
filter_text bytes = if nat_lt MAX_FILTER_BYTES (length bytes) then Err fault.TooLong
    else (or_at bytes (not_at bytes LEVELS) 0 >>= ended bytes)
