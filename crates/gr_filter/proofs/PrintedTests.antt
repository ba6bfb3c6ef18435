-- How printed tests are read by the grammar
use Rattle.std.proofs.Common.{◌≡◌, ℕ, ◌≤◌, Bool, true, false, List, [], ◌∷◌, ◌++◌, length, drop, Ok, codes, refl, ap, ◌∙◌, arith, append_assoc, length-append, length-drop}
use Rattle.gr_filter.specs.declared.node.Operand.{Operand}
use Rattle.gr_filter.specs.declared.node.Operand.TheVariants as operand
use Rattle.gr_filter.specs.declared.node.Sign.{Sign}
use Rattle.gr_filter.specs.declared.token.Token.{Token}
use Rattle.gr_filter.specs.declared.token.Token.TheVariants as token
use Rattle.gr_filter.specs.declared.token.Lexeme.{Lexeme}
use Rattle.gr_filter.specs.Token.{lexeme}
use Rattle.gr_filter.specs.Grammar.{between_at, one_of_at, like_at, null_test_at, alone_at, negated_at, tail_of, tail_at}
use Rattle.gr_filter.specs.Print.{sign_text, quoted, operand_text, more_text, literals_text, not_text}
use Rattle.gr_filter.specs.Written.{IsText, IsOperand, IsAlone, AreLiterals}
use Rattle.gr_filter.specs.Tree.{alone, compare, between, one_of, like, is_null}
use Rattle.gr_filter.proofs.Lexing.{lexes_end, breaks}
use Rattle.gr_filter.proofs.Quotes.{lexes_text}
use Rattle.gr_filter.proofs.Pieces.{Reads, lexes_and, lexes_or, lexes_not, lexes_between, lexes_in, lexes_like, lexes_is, lexes_null, lexes_open, lexes_close, lexes_sign, open_passes, and_passes, null_passes, pattern_reads, lexes_operand, operand_reads, literal_reads, more_breaks, more_long, literals_read}

-- What may follow a test

abbrev pub IsFollow : Token → Type 0
IsFollow token.End = Unit {0}
IsFollow token.Close = Unit {0}
IsFollow token.And = Unit {0}
IsFollow token.Or = Unit {0}
IsFollow _ = ⊥

pub record Follows (rest : List ℕ) : Type 0 where
  pub breaks : breaks rest ≡ true
  pub next : (bytes : List ℕ) (at : ℕ) → drop at bytes ≡ rest → IsFollow (lexeme bytes at).token

follow_kind : (t u : Token) → t ≡ u → IsFollow u → IsFollow t
follow_kind t u e f = rw e f

pub follows_end : Follows []
follows_end = record { breaks = refl; next = λ bytes at e. follow_kind _ token.End (lexes_end bytes at e) tt }

pub follows_close : (s : List ℕ) → Follows (41 ∷ s)
follows_close s = record { breaks = refl; next = λ bytes at e. let l = lexes_close bytes at s e in follow_kind _ token.Close l.kind tt }

pub follows_and : (s : List ℕ) → Follows (32 ∷ (codes "AND" ++ 32 ∷ s))
follows_and s = record { breaks = refl; next = λ bytes at e. let l = lexes_and bytes at (32 ∷ s) e refl in follow_kind _ token.And l.kind tt }

pub follows_or : (s : List ℕ) → Follows (32 ∷ (codes "OR" ++ 32 ∷ s))
follows_or s = record { breaks = refl; next = λ bytes at e. let l = lexes_or bytes at (32 ∷ s) e refl in follow_kind _ token.Or l.kind tt }

-- Alone

no_tail : (bytes : List ℕ) (x : Operand) (at : ℕ) (l : Lexeme) (t : Token) → IsFollow t → tail_of bytes x at l t ≡ alone_at x at l
no_tail bytes x at l (token.Sign sign) f = absurd f
no_tail bytes x at l token.Between f = absurd f
no_tail bytes x at l token.In f = absurd f
no_tail bytes x at l token.Like f = absurd f
no_tail bytes x at l token.Is f = absurd f
no_tail bytes x at l token.Not f = absurd f
no_tail bytes x at l _ f = refl

stands_alone : (x : Operand) (at : ℕ) (l : Lexeme) → IsAlone x → alone_at x at l ≡ Ok (alone x, at)
stands_alone (operand.Name n) at l w = refl
stands_alone (operand.Int z) at l w = absurd w
stands_alone (operand.Text t) at l w = absurd w
stands_alone (operand.Bool b) at l w = refl

pub alone_reads : (x : Operand) → IsAlone x → (bytes : List ℕ) (at : ℕ) (rest : List ℕ) → drop at bytes ≡ rest → Follows rest → Reads bytes (tail_at bytes x at) (alone x) rest
unfolding tail_at
alone_reads x w bytes at rest e f = record {
  place = at;
  is = no_tail bytes x at (lexeme bytes at) (lexeme bytes at).token (f.next bytes at e) ∙ stands_alone x at (lexeme bytes at) w;
  behind = e;
}

-- A sign

pub compare_reads : (x : Operand) (sign : Sign) (y : Operand) → IsOperand y → (bytes : List ℕ) (at : ℕ) (rest : List ℕ) → drop at bytes ≡ sign_text sign ++ (operand_text y ++ rest) → breaks rest ≡ true → Reads bytes (tail_at bytes x at) (compare x sign y) rest
unfolding tail_at
compare_reads x sign y w bytes at rest e b =
    let l = lexes_sign sign bytes at (operand_text y ++ rest) e in
    let r = operand_reads y bytes (lexeme bytes at).to rest (lexes_operand y w true bytes (lexeme bytes at).to rest l.behind b) in
    record { place = r.place; is = rw (l.kind, r.is) refl; behind = r.behind }

-- BETWEEN

ends_read : (negated : Bool) (x low high : Operand) → IsOperand low → IsOperand high → (bytes : List ℕ) (at : ℕ) (rest : List ℕ) → drop at bytes ≡ 32 ∷ (operand_text low ++ (32 ∷ (codes "AND" ++ 32 ∷ (operand_text high ++ rest)))) → breaks rest ≡ true → Reads bytes (between_at bytes negated x at) (between negated x low high) rest
unfolding between_at
ends_read negated x low high v w bytes at rest e b =
    let ll = lexes_operand low v true bytes at (32 ∷ (codes "AND" ++ 32 ∷ (operand_text high ++ rest))) e refl in
    let l = operand_reads low bytes at (32 ∷ (codes "AND" ++ 32 ∷ (operand_text high ++ rest))) ll in
    let a = and_passes bytes l.place (codes "AND") (32 ∷ (operand_text high ++ rest)) (lexes_and bytes l.place (32 ∷ (operand_text high ++ rest)) l.behind refl) in
    let h = operand_reads high bytes a.place rest (lexes_operand high w true bytes a.place rest a.behind b) in
    record { place = h.place; is = rw (l.is, a.is, h.is) refl; behind = h.behind }

pub between_reads : (negated : Bool) (x low high : Operand) → IsOperand low → IsOperand high → (bytes : List ℕ) (at : ℕ) (rest : List ℕ)
    → drop at bytes ≡ not_text negated ++ (32 ∷ (codes "BETWEEN" ++ 32 ∷ (operand_text low ++ (32 ∷ (codes "AND" ++ 32 ∷ (operand_text high ++ rest)))))) → breaks rest ≡ true → Reads bytes (tail_at bytes x at) (between negated x low high) rest
unfolding tail_at negated_at
between_reads false x low high v w bytes at rest e b =
    let l = lexes_between bytes at (32 ∷ (operand_text low ++ (32 ∷ (codes "AND" ++ 32 ∷ (operand_text high ++ rest))))) e refl in
    let r = ends_read false x low high v w bytes (lexeme bytes at).to rest l.behind b in
    record { place = r.place; is = rw (l.kind, r.is) refl; behind = r.behind }
between_reads true x low high v w bytes at rest e b =
    let n = lexes_not true bytes at (32 ∷ (codes "BETWEEN" ++ 32 ∷ (operand_text low ++ (32 ∷ (codes "AND" ++ 32 ∷ (operand_text high ++ rest)))))) e refl in
    let l = lexes_between bytes (lexeme bytes at).to (32 ∷ (operand_text low ++ (32 ∷ (codes "AND" ++ 32 ∷ (operand_text high ++ rest))))) n.behind refl in
    let r = ends_read true x low high v w bytes (lexeme bytes (lexeme bytes at).to).to rest l.behind b in
    record { place = r.place; is = rw (n.kind, l.kind, r.is) refl; behind = r.behind }

-- IN

enough : (bytes : List ℕ) (at : ℕ) (front : List ℕ) (ls : List Operand) (rest : List ℕ) → drop at bytes ≡ front ++ (more_text ls ++ rest) → length ls ≤ length bytes
enough bytes at front ls rest e =
    let whole : length (drop at bytes) ≡ length (front ++ (more_text ls ++ rest)) = ap length e in
    omega (arith, whole, length-drop at bytes, length-append front (more_text ls ++ rest), length-append (more_text ls) rest, more_long ls)

listed : (negated : Bool) (name : List ℕ) (ls : List Operand) → AreLiterals ls → (bytes : List ℕ) (at : ℕ) (rest : List ℕ) → drop at bytes ≡ 32 ∷ 40 ∷ (literals_text ls ++ 41 ∷ rest) → Reads bytes (one_of_at bytes negated name at) (one_of negated name ls) rest
unfolding one_of_at
listed negated name [] w bytes at rest e = absurd w
listed negated name (x ∷ ls) w bytes at rest e =
    let ol = lexes_open true bytes at ((operand_text x ++ more_text ls) ++ 41 ∷ rest) e in
    let o = open_passes bytes at (40 ∷ []) ((operand_text x ++ more_text ls) ++ 41 ∷ rest) ol in
    let here : drop o.place bytes ≡ operand_text x ++ (more_text ls ++ 41 ∷ rest) = o.behind ∙ append_assoc (operand_text x) (more_text ls) (41 ∷ rest) in
    let f = literal_reads x w.0 false bytes o.place (more_text ls ++ 41 ∷ rest) here (more_breaks ls rest) in
    let r = literals_read ls w.1 bytes (length bytes) (x ∷ []) f.place rest (enough bytes o.place (operand_text x) ls (41 ∷ rest) here) f.behind in
    record { place = r.place; is = rw (o.is, f.is, r.is) refl; behind = r.behind }

pub one_of_reads : (negated : Bool) (name : List ℕ) (ls : List Operand) → AreLiterals ls → (bytes : List ℕ) (at : ℕ) (rest : List ℕ) → drop at bytes ≡ not_text negated ++ (32 ∷ (codes "IN" ++ 32 ∷ 40 ∷ (literals_text ls ++ 41 ∷ rest))) → Reads bytes (tail_at bytes (operand.Name name) at) (one_of negated name ls) rest
unfolding tail_at negated_at
one_of_reads false name ls w bytes at rest e =
    let l = lexes_in bytes at (32 ∷ 40 ∷ (literals_text ls ++ 41 ∷ rest)) e refl in
    let r = listed false name ls w bytes (lexeme bytes at).to rest l.behind in
    record { place = r.place; is = rw (l.kind, r.is) refl; behind = r.behind }
one_of_reads true name ls w bytes at rest e =
    let n = lexes_not true bytes at (32 ∷ (codes "IN" ++ 32 ∷ 40 ∷ (literals_text ls ++ 41 ∷ rest))) e refl in
    let l = lexes_in bytes (lexeme bytes at).to (32 ∷ 40 ∷ (literals_text ls ++ 41 ∷ rest)) n.behind refl in
    let r = listed true name ls w bytes (lexeme bytes (lexeme bytes at).to).to rest l.behind in
    record { place = r.place; is = rw (n.kind, l.kind, r.is) refl; behind = r.behind }

-- LIKE

pattern_like : (negated : Bool) (name pattern : List ℕ) → IsText pattern → (bytes : List ℕ) (at : ℕ) (rest : List ℕ) → drop at bytes ≡ 32 ∷ (quoted pattern ++ rest) → breaks rest ≡ true → Reads bytes (like_at bytes negated name at) (like negated name pattern) rest
unfolding like_at
pattern_like negated name pattern w bytes at rest e b =
    let r = pattern_reads bytes at pattern rest (lexes_text true bytes at pattern rest w e b) in
    record { place = r.place; is = rw r.is refl; behind = r.behind }

pub like_reads : (negated : Bool) (name pattern : List ℕ) → IsText pattern → (bytes : List ℕ) (at : ℕ) (rest : List ℕ) → drop at bytes ≡ not_text negated ++ (32 ∷ (codes "LIKE" ++ 32 ∷ (quoted pattern ++ rest))) → breaks rest ≡ true → Reads bytes (tail_at bytes (operand.Name name) at) (like negated name pattern) rest
unfolding tail_at negated_at
like_reads false name pattern w bytes at rest e b =
    let l = lexes_like bytes at (32 ∷ (quoted pattern ++ rest)) e refl in
    let r = pattern_like false name pattern w bytes (lexeme bytes at).to rest l.behind b in
    record { place = r.place; is = rw (l.kind, r.is) refl; behind = r.behind }
like_reads true name pattern w bytes at rest e b =
    let n = lexes_not true bytes at (32 ∷ (codes "LIKE" ++ 32 ∷ (quoted pattern ++ rest))) e refl in
    let l = lexes_like bytes (lexeme bytes at).to (32 ∷ (quoted pattern ++ rest)) n.behind refl in
    let r = pattern_like true name pattern w bytes (lexeme bytes (lexeme bytes at).to).to rest l.behind b in
    record { place = r.place; is = rw (n.kind, l.kind, r.is) refl; behind = r.behind }

-- IS NULL

null_reads : (negated : Bool) (name : List ℕ) (bytes : List ℕ) (at : ℕ) (rest : List ℕ) → drop at bytes ≡ not_text negated ++ (32 ∷ (codes "NULL" ++ rest)) → breaks rest ≡ true → Reads bytes (null_test_at bytes name at) (is_null negated name) rest
unfolding null_test_at
null_reads false name bytes at rest e b =
    let l = lexes_null bytes at rest e b in
    let p = null_passes bytes at (codes "NULL") rest l in
    record { place = p.place; is = rw (l.kind, p.is) refl; behind = p.behind }
null_reads true name bytes at rest e b =
    let n = lexes_not true bytes at (32 ∷ (codes "NULL" ++ rest)) e refl in
    let p = null_passes bytes (lexeme bytes at).to (codes "NULL") rest (lexes_null bytes (lexeme bytes at).to rest n.behind b) in
    record { place = p.place; is = rw (n.kind, p.is) refl; behind = p.behind }

pub not_breaks : (negated : Bool) (s : List ℕ) → breaks (not_text negated ++ 32 ∷ s) ≡ true
not_breaks false s = refl
not_breaks true s = refl

pub is_null_reads : (negated : Bool) (name : List ℕ) (bytes : List ℕ) (at : ℕ) (rest : List ℕ) → drop at bytes ≡ 32 ∷ (codes "IS" ++ (not_text negated ++ (32 ∷ (codes "NULL" ++ rest)))) → breaks rest ≡ true → Reads bytes (tail_at bytes (operand.Name name) at) (is_null negated name) rest
unfolding tail_at
is_null_reads negated name bytes at rest e b =
    let l = lexes_is bytes at (not_text negated ++ (32 ∷ (codes "NULL" ++ rest))) e (not_breaks negated (codes "NULL" ++ rest)) in
    let r = null_reads negated name bytes (lexeme bytes at).to rest l.behind b in
    record { place = r.place; is = rw (l.kind, r.is) refl; behind = r.behind }
