-- How printed operands, words and literals are read by the grammar
use Rattle.std.proofs.Common.{◌≡◌, ℕ, zero, suc, ◌≤◌, Bool, true, false, List, [], ◌∷◌, ◌++◌, length, drop, Result, Ok, codes, refl, sym, ap, ◌∙◌, arith, append_assoc, append-nil, length-append}
use Rattle.std.specs.List.{AllByRecursion}
use Rattle.gr_filter.specs.declared.fault.FilterFault.{FilterFault}
use Rattle.gr_filter.specs.declared.node.Operand.{Operand}
use Rattle.gr_filter.specs.declared.node.Operand.TheVariants as operand
use Rattle.gr_filter.specs.declared.node.Sign.{Sign}
use Rattle.gr_filter.specs.declared.node.Sign.TheVariants.{Equal, Differs, Less, AtMost, Greater, AtLeast}
use Rattle.gr_filter.specs.declared.token.Token.{Token}
use Rattle.gr_filter.specs.declared.token.Token.TheVariants as token
use Rattle.gr_filter.specs.Token.{word_token, token_of, lexeme}
use Rattle.gr_filter.specs.Grammar.{Read, literal_at, operand_at, open_at, close_at, and_word_at, null_at, pattern_at, literals_at}
use Rattle.gr_filter.specs.Print.{sign_text, quoted, operand_text, more_text}
use Rattle.gr_filter.specs.Written.{IsOperand, IsLiteral}
use Rattle.gr_filter.proofs.Lexing.{Lexes, spaced, lexes, lexes_word, breaks}
use Rattle.gr_filter.proofs.Numerals.{lexes_integer}
use Rattle.gr_filter.proofs.Quotes.{lexes_text, text_inside}

-- what a reader gives, and what is left behind it
pub record Reads {A : Type 0} (bytes : List ℕ) (read : Read A) (x : A) (rest : List ℕ) : Type 0 where
  pub place : ℕ
  pub is : read ≡ Ok (x, place)
  pub behind : drop place bytes ≡ rest

-- what is left behind a token that has to stand there
pub record Passes (bytes : List ℕ) (read : Result ℕ FilterFault) (rest : List ℕ) : Type 0 where
  pub place : ℕ
  pub is : read ≡ Ok place
  pub behind : drop place bytes ≡ rest

-- Words and signs

pub lexes_and : (bytes : List ℕ) (at : ℕ) (rest : List ℕ) → drop at bytes ≡ 32 ∷ (codes "AND" ++ rest) → breaks rest ≡ true → Lexes bytes at token.And (codes "AND") rest
unfolding word_token
lexes_and bytes at rest e b = lexes_word true bytes at (codes "AND") rest token.And e refl refl refl b

pub lexes_or : (bytes : List ℕ) (at : ℕ) (rest : List ℕ) → drop at bytes ≡ 32 ∷ (codes "OR" ++ rest) → breaks rest ≡ true → Lexes bytes at token.Or (codes "OR") rest
unfolding word_token
lexes_or bytes at rest e b = lexes_word true bytes at (codes "OR") rest token.Or e refl refl refl b

pub lexes_not : (g : Bool) (bytes : List ℕ) (at : ℕ) (rest : List ℕ) → drop at bytes ≡ spaced g (codes "NOT" ++ rest) → breaks rest ≡ true → Lexes bytes at token.Not (codes "NOT") rest
unfolding word_token
lexes_not g bytes at rest e b = lexes_word g bytes at (codes "NOT") rest token.Not e refl refl refl b

pub lexes_between : (bytes : List ℕ) (at : ℕ) (rest : List ℕ) → drop at bytes ≡ 32 ∷ (codes "BETWEEN" ++ rest) → breaks rest ≡ true → Lexes bytes at token.Between (codes "BETWEEN") rest
unfolding word_token
lexes_between bytes at rest e b = lexes_word true bytes at (codes "BETWEEN") rest token.Between e refl refl refl b

pub lexes_in : (bytes : List ℕ) (at : ℕ) (rest : List ℕ) → drop at bytes ≡ 32 ∷ (codes "IN" ++ rest) → breaks rest ≡ true → Lexes bytes at token.In (codes "IN") rest
unfolding word_token
lexes_in bytes at rest e b = lexes_word true bytes at (codes "IN") rest token.In e refl refl refl b

pub lexes_like : (bytes : List ℕ) (at : ℕ) (rest : List ℕ) → drop at bytes ≡ 32 ∷ (codes "LIKE" ++ rest) → breaks rest ≡ true → Lexes bytes at token.Like (codes "LIKE") rest
unfolding word_token
lexes_like bytes at rest e b = lexes_word true bytes at (codes "LIKE") rest token.Like e refl refl refl b

pub lexes_is : (bytes : List ℕ) (at : ℕ) (rest : List ℕ) → drop at bytes ≡ 32 ∷ (codes "IS" ++ rest) → breaks rest ≡ true → Lexes bytes at token.Is (codes "IS") rest
unfolding word_token
lexes_is bytes at rest e b = lexes_word true bytes at (codes "IS") rest token.Is e refl refl refl b

pub lexes_null : (bytes : List ℕ) (at : ℕ) (rest : List ℕ) → drop at bytes ≡ 32 ∷ (codes "NULL" ++ rest) → breaks rest ≡ true → Lexes bytes at token.Null (codes "NULL") rest
unfolding word_token
lexes_null bytes at rest e b = lexes_word true bytes at (codes "NULL") rest token.Null e refl refl refl b

lexes_true : (g : Bool) (bytes : List ℕ) (at : ℕ) (rest : List ℕ) → drop at bytes ≡ spaced g (codes "TRUE" ++ rest) → breaks rest ≡ true → Lexes bytes at token.True (codes "TRUE") rest
unfolding word_token
lexes_true g bytes at rest e b = lexes_word g bytes at (codes "TRUE") rest token.True e refl refl refl b

lexes_false : (g : Bool) (bytes : List ℕ) (at : ℕ) (rest : List ℕ) → drop at bytes ≡ spaced g (codes "FALSE" ++ rest) → breaks rest ≡ true → Lexes bytes at token.False (codes "FALSE") rest
unfolding word_token
lexes_false g bytes at rest e b = lexes_word g bytes at (codes "FALSE") rest token.False e refl refl refl b

pub lexes_open : (g : Bool) (bytes : List ℕ) (at : ℕ) (rest : List ℕ) → drop at bytes ≡ spaced g (40 ∷ rest) → Lexes bytes at token.Open (40 ∷ []) rest
unfolding token_of
lexes_open g bytes at rest e = lexes g bytes at (40 ∷ []) rest token.Open e refl refl

pub lexes_close : (bytes : List ℕ) (at : ℕ) (rest : List ℕ) → drop at bytes ≡ 41 ∷ rest → Lexes bytes at token.Close (41 ∷ []) rest
unfolding token_of
lexes_close bytes at rest e = lexes false bytes at (41 ∷ []) rest token.Close e refl refl

lexes_comma : (bytes : List ℕ) (at : ℕ) (rest : List ℕ) → drop at bytes ≡ 44 ∷ rest → Lexes bytes at token.Comma (44 ∷ []) rest
unfolding token_of
lexes_comma bytes at rest e = lexes false bytes at (44 ∷ []) rest token.Comma e refl refl

-- a sign between two spaces: its bytes, and the space behind it is left
abbrev sign_bytes : Sign → List ℕ
sign_bytes Equal = 61 ∷ []
sign_bytes Differs = 60 ∷ 62 ∷ []
sign_bytes Less = 60 ∷ []
sign_bytes AtMost = 60 ∷ 61 ∷ []
sign_bytes Greater = 62 ∷ []
sign_bytes AtLeast = 62 ∷ 61 ∷ []

pub lexes_sign : (sign : Sign) (bytes : List ℕ) (at : ℕ) (rest : List ℕ) → drop at bytes ≡ sign_text sign ++ rest → Lexes bytes at (token.Sign sign) (sign_bytes sign) (32 ∷ rest)
unfolding token_of
lexes_sign Equal bytes at rest e = lexes true bytes at (sign_bytes Equal) (32 ∷ rest) (token.Sign Equal) e refl refl
lexes_sign Differs bytes at rest e = lexes true bytes at (sign_bytes Differs) (32 ∷ rest) (token.Sign Differs) e refl refl
lexes_sign Less bytes at rest e = lexes true bytes at (sign_bytes Less) (32 ∷ rest) (token.Sign Less) e refl refl
lexes_sign AtMost bytes at rest e = lexes true bytes at (sign_bytes AtMost) (32 ∷ rest) (token.Sign AtMost) e refl refl
lexes_sign Greater bytes at rest e = lexes true bytes at (sign_bytes Greater) (32 ∷ rest) (token.Sign Greater) e refl refl
lexes_sign AtLeast bytes at rest e = lexes true bytes at (sign_bytes AtLeast) (32 ∷ rest) (token.Sign AtLeast) e refl refl

pub sign_breaks : (sign : Sign) (rest : List ℕ) → breaks (sign_text sign ++ rest) ≡ true
sign_breaks Equal rest = refl
sign_breaks Differs rest = refl
sign_breaks Less rest = refl
sign_breaks AtMost rest = refl
sign_breaks Greater rest = refl
sign_breaks AtLeast rest = refl

-- Tokens that have to stand there

pub open_passes : (bytes : List ℕ) (at : ℕ) (w rest : List ℕ) → Lexes bytes at token.Open w rest → Passes bytes (open_at bytes at) rest
unfolding open_at
open_passes bytes at w rest l = record { place = (lexeme bytes at).to; is = rw l.kind refl; behind = l.behind }

pub close_passes : (bytes : List ℕ) (at : ℕ) (w rest : List ℕ) → Lexes bytes at token.Close w rest → Passes bytes (close_at bytes at) rest
unfolding close_at
close_passes bytes at w rest l = record { place = (lexeme bytes at).to; is = rw l.kind refl; behind = l.behind }

pub and_passes : (bytes : List ℕ) (at : ℕ) (w rest : List ℕ) → Lexes bytes at token.And w rest → Passes bytes (and_word_at bytes at) rest
unfolding and_word_at
and_passes bytes at w rest l = record { place = (lexeme bytes at).to; is = rw l.kind refl; behind = l.behind }

pub null_passes : (bytes : List ℕ) (at : ℕ) (w rest : List ℕ) → Lexes bytes at token.Null w rest → Passes bytes (null_at bytes at) rest
unfolding null_at
null_passes bytes at w rest l = record { place = (lexeme bytes at).to; is = rw l.kind refl; behind = l.behind }

pub pattern_reads : (bytes : List ℕ) (at : ℕ) (t rest : List ℕ) → Lexes bytes at token.Text (quoted t) rest → Reads bytes (pattern_at bytes at) t rest
unfolding pattern_at
pattern_reads bytes at t rest l = record { place = (lexeme bytes at).to; is = rw (l.kind, l.word, text_inside t) refl; behind = l.behind }

-- Operands

-- the token of an operand
abbrev pub operand_token : Operand → Token
operand_token (operand.Name n) = token.Name
operand_token (operand.Int z) = token.Integer z
operand_token (operand.Text t) = token.Text
operand_token (operand.Bool true) = token.True
operand_token (operand.Bool false) = token.False

pub lexes_operand : (x : Operand) → IsOperand x → (g : Bool) (bytes : List ℕ) (at : ℕ) (rest : List ℕ) → drop at bytes ≡ spaced g (operand_text x ++ rest) → breaks rest ≡ true → Lexes bytes at (operand_token x) (operand_text x) rest
lexes_operand (operand.Name n) w g bytes at rest e b = lexes_word g bytes at n rest token.Name e w.begun w.whole w.no_keyword b
lexes_operand (operand.Int z) w g bytes at rest e b = lexes_integer g bytes at z rest w e b
lexes_operand (operand.Text t) w g bytes at rest e b = lexes_text g bytes at t rest w e b
lexes_operand (operand.Bool true) w g bytes at rest e b = lexes_true g bytes at rest e b
lexes_operand (operand.Bool false) w g bytes at rest e b = lexes_false g bytes at rest e b

operand_is : (x : Operand) (bytes : List ℕ) (at : ℕ) (rest : List ℕ) → Lexes bytes at (operand_token x) (operand_text x) rest → operand_at bytes at ≡ Ok (x, (lexeme bytes at).to)
unfolding operand_at
operand_is (operand.Name n) bytes at rest l = rw (l.kind, l.word) refl
operand_is (operand.Int z) bytes at rest l = rw l.kind refl
operand_is (operand.Text t) bytes at rest l = rw (l.kind, l.word, text_inside t) refl
operand_is (operand.Bool true) bytes at rest l = rw l.kind refl
operand_is (operand.Bool false) bytes at rest l = rw l.kind refl

pub operand_reads : (x : Operand) (bytes : List ℕ) (at : ℕ) (rest : List ℕ) → Lexes bytes at (operand_token x) (operand_text x) rest → Reads bytes (operand_at bytes at) x rest
operand_reads x bytes at rest l = record { place = (lexeme bytes at).to; is = operand_is x bytes at rest l; behind = l.behind }

literal_is : (x : Operand) → IsLiteral x → (bytes : List ℕ) (at : ℕ) (rest : List ℕ) → Lexes bytes at (operand_token x) (operand_text x) rest → literal_at bytes at ≡ Ok (x, (lexeme bytes at).to)
unfolding literal_at
literal_is (operand.Name n) w bytes at rest l = absurd w
literal_is (operand.Int z) w bytes at rest l = rw l.kind refl
literal_is (operand.Text t) w bytes at rest l = rw (l.kind, l.word, text_inside t) refl
literal_is (operand.Bool true) w bytes at rest l = rw l.kind refl
literal_is (operand.Bool false) w bytes at rest l = rw l.kind refl

literal_operand : (x : Operand) → IsLiteral x → IsOperand x
literal_operand (operand.Name n) w = absurd w
literal_operand (operand.Int z) w = w
literal_operand (operand.Text t) w = w
literal_operand (operand.Bool b) w = w

pub literal_reads : (x : Operand) → IsLiteral x → (g : Bool) (bytes : List ℕ) (at : ℕ) (rest : List ℕ) → drop at bytes ≡ spaced g (operand_text x ++ rest) → breaks rest ≡ true → Reads bytes (literal_at bytes at) x rest
literal_reads x w g bytes at rest e b =
    let l = lexes_operand x (literal_operand x w) g bytes at rest e b in
    record { place = (lexeme bytes at).to; is = literal_is x w bytes at rest l; behind = l.behind }

-- Literals behind the first

pub more_breaks : (ls : List Operand) (rest : List ℕ) → breaks (more_text ls ++ 41 ∷ rest) ≡ true
more_breaks [] rest = refl
more_breaks (l ∷ ls) rest = refl

pub more_long : (ls : List Operand) → length ls ≤ length (more_text ls)
more_long [] = omega arith
more_long (l ∷ ls) = omega (arith, more_long ls, length-append (operand_text l) (more_text ls))

no_more : (bytes : List ℕ) (n : ℕ) (found : List Operand) (at behind : ℕ) → (lexeme bytes at).token ≡ token.Close → close_at bytes at ≡ Ok behind → literals_at bytes n found at ≡ Ok (found, behind)
unfolding literals_at
no_more bytes zero found at behind k h = rw h refl
no_more bytes (suc n) found at behind k h = rw (k, h) refl

one_more : (bytes : List ℕ) (n : ℕ) (found : List Operand) (at : ℕ) (x : Operand) (behind : ℕ) → (lexeme bytes at).token ≡ token.Comma → literal_at bytes (lexeme bytes at).to ≡ Ok (x, behind) → literals_at bytes (suc n) found at ≡ literals_at bytes n (found ++ x ∷ []) behind
unfolding literals_at
one_more bytes n found at x behind k h = rw (k, h) refl

pub literals_read : (ls : List Operand) → AllByRecursion IsLiteral ls → (bytes : List ℕ) (n : ℕ) (found : List Operand) (at : ℕ) (rest : List ℕ) → length ls ≤ n → drop at bytes ≡ more_text ls ++ 41 ∷ rest → Reads bytes (literals_at bytes n found at) (found ++ ls) rest
literals_read [] w bytes n found at rest few e =
    let l = lexes_close bytes at rest e in
    let p = close_passes bytes at (41 ∷ []) rest l in
    record { place = p.place; is = no_more bytes n found at p.place l.kind p.is ∙ ap (λ f. Ok (f, p.place)) (sym (append-nil found)); behind = p.behind }
literals_read (x ∷ ls) w bytes zero found at rest few e = absurd (omega arith)
literals_read (x ∷ ls) w bytes (suc n) found at rest few e =
    let l = lexes_comma bytes at (32 ∷ (operand_text x ++ (more_text ls ++ 41 ∷ rest))) (e ∙ ap (λ s. 44 ∷ 32 ∷ s) (append_assoc (operand_text x) (more_text ls) (41 ∷ rest))) in
    let r = literal_reads x w.0 true bytes (lexeme bytes at).to (more_text ls ++ 41 ∷ rest) l.behind (more_breaks ls rest) in
    let q = literals_read ls w.1 bytes n (found ++ x ∷ []) r.place rest (omega arith) r.behind in
    record { place = q.place; is = one_more bytes n found at x r.place l.kind r.is ∙ q.is ∙ ap (λ f. Ok (f, q.place)) (append_assoc found (x ∷ []) ls); behind = q.behind }
