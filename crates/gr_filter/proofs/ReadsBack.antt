-- A printed filter reads as the filter
use Rattle.std.proofs.Common.{◌≡◌, ℕ, zero, suc, ◌<◌, ◌≤◌, Bool, true, false, List, [], ◌∷◌, ◌++◌, length, drop, Ok, codes, refl, sym, ap, ◌∙◌, arith, append_assoc, append-nil, length-drop, le-ltb}
use Rattle.gr_filter.specs.declared.node.Operand.{Operand}
use Rattle.gr_filter.specs.declared.node.Operand.TheVariants as operand
use Rattle.gr_filter.specs.declared.token.Token.{Token}
use Rattle.gr_filter.specs.declared.token.Token.TheVariants as token
use Rattle.gr_filter.specs.Token.{lexeme}
use Rattle.gr_filter.specs.Grammar.{Read, is_and, is_or, operand_at, tail_at, test_at, close_at, and_more, and_at, or_more, or_at, not_at, filter_text}
use Rattle.gr_filter.specs.Print.{sign_text, quoted, operand_text, literals_text, not_text, tree_text}
use Rattle.gr_filter.specs.Written.{IsOperand, IsAlone, IsWritten, depth}
use Rattle.gr_filter.specs.Tree.{Tree, alone, compare, between, one_of, like, is_null, negation, both, either}
use Rattle.gr_filter.proofs.Parsing.{not_plain}
use Rattle.gr_filter.proofs.Lexing.{spaced, lexes_end, breaks}
use Rattle.gr_filter.proofs.Pieces.{Reads, lexes_and, lexes_or, lexes_not, lexes_open, lexes_close, close_passes, sign_breaks, operand_token, lexes_operand, operand_reads}
use Rattle.gr_filter.proofs.PrintedTests.{Follows, follows_end, follows_close, follows_and, follows_or, alone_reads, compare_reads, between_reads, one_of_reads, like_reads, is_null_reads, not_breaks}

-- Tests

not_word : (x : Operand) (t : Token) → t ≡ operand_token x → t ≡ token.Not → ⊥
not_word (operand.Name n) t e f = cc
not_word (operand.Int z) t e f = cc
not_word (operand.Text s) t e f = cc
not_word (operand.Bool true) t e f = cc
not_word (operand.Bool false) t e f = cc

not_open : (x : Operand) (t : Token) → t ≡ operand_token x → t ≡ token.Open → ⊥
not_open (operand.Name n) t e f = cc
not_open (operand.Int z) t e f = cc
not_open (operand.Text s) t e f = cc
not_open (operand.Bool true) t e f = cc
not_open (operand.Bool false) t e f = cc

test_is : (bytes : List ℕ) (at : ℕ) (x : Operand) (p q : ℕ) (t : Tree) → operand_at bytes at ≡ Ok (x, p) → tail_at bytes x p ≡ Ok (t, q) → test_at bytes at ≡ Ok (t, q)
unfolding test_at
test_is bytes at x p q t e f = rw e f

-- an operand and its tail are a test, and need no level
test_reads : (x : Operand) → IsOperand x → (t : Tree) (levels : ℕ) (g : Bool) (bytes : List ℕ) (at : ℕ) (tail rest : List ℕ) → drop at bytes ≡ spaced g (operand_text x ++ tail) → breaks tail ≡ true
    → ((p : ℕ) → drop p bytes ≡ tail → Reads bytes (tail_at bytes x p) t rest) → Reads bytes (not_at bytes levels at) t rest
test_reads x w t levels g bytes at tail rest e b tail_reads =
    let l = lexes_operand x w g bytes at tail e b in
    let o = operand_reads x bytes at tail l in
    let r = tail_reads o.place o.behind in
    record {
      place = r.place;
      is = not_plain bytes levels at (lexeme bytes at) refl (not_word x (lexeme bytes at).token l.kind) (not_open x (lexeme bytes at).token l.kind) ∙ test_is bytes at x o.place r.place t o.is r.is;
      behind = r.behind;
    }

-- AND and OR

some_bytes : (bytes : List ℕ) (at c : ℕ) (cs : List ℕ) → drop at bytes ≡ c ∷ cs → 0 < length bytes
some_bytes bytes at c cs e =
    let whole : length (drop at bytes) ≡ length (c ∷ cs) = ap length e in
    omega (arith, whole, length-drop at bytes)

no_and : (bytes : List ℕ) (part : ℕ → Read Tree) (n : ℕ) (found : Tree) (at : ℕ) → is_and (lexeme bytes at).token ≡ false → and_more bytes part n found at ≡ Ok (found, at)
unfolding and_more
no_and bytes part zero found at h = refl
no_and bytes part (suc n) found at h = rw h refl

no_or : (bytes : List ℕ) (part : ℕ → Read Tree) (n : ℕ) (found : Tree) (at : ℕ) → is_or (lexeme bytes at).token ≡ false → or_more bytes part n found at ≡ Ok (found, at)
unfolding or_more
no_or bytes part zero found at h = refl
no_or bytes part (suc n) found at h = rw h refl

one_part : (bytes : List ℕ) (part : ℕ → Read Tree) (at : ℕ) (t : Tree) (p : ℕ) → part at ≡ Ok (t, p) → is_and (lexeme bytes p).token ≡ false → and_at bytes part at ≡ Ok (t, p)
unfolding and_at
one_part bytes part at t p h a = rw h (no_and bytes part (length bytes) t p a)

one_and : (bytes : List ℕ) (part : ℕ → Read Tree) (n : ℕ) (a b : Tree) (p q : ℕ) → 0 < n → is_and (lexeme bytes p).token ≡ true → part (lexeme bytes p).to ≡ Ok (b, q) → is_and (lexeme bytes q).token ≡ false → and_more bytes part n a p ≡ Ok (both a b, q)
unfolding and_more
one_and bytes part zero a b p q some h k s = absurd (omega arith)
one_and bytes part (suc n) a b p q some h k s = rw (h, k) (no_and bytes part n (both a b) q s)

two_parts : (bytes : List ℕ) (part : ℕ → Read Tree) (at : ℕ) (a b : Tree) (p q : ℕ) → 0 < length bytes → part at ≡ Ok (a, p) → is_and (lexeme bytes p).token ≡ true → part (lexeme bytes p).to ≡ Ok (b, q) → is_and (lexeme bytes q).token ≡ false → and_at bytes part at ≡ Ok (both a b, q)
unfolding and_at
two_parts bytes part at a b p q some e h k s = rw e (one_and bytes part (length bytes) a b p q some h k s)

one_alternative : (bytes : List ℕ) (part : ℕ → Read Tree) (at : ℕ) (t : Tree) (p : ℕ) → and_at bytes part at ≡ Ok (t, p) → is_or (lexeme bytes p).token ≡ false → or_at bytes part at ≡ Ok (t, p)
unfolding or_at
one_alternative bytes part at t p h o = rw h (no_or bytes part (length bytes) t p o)

one_or : (bytes : List ℕ) (part : ℕ → Read Tree) (n : ℕ) (a b : Tree) (p q : ℕ) → 0 < n → is_or (lexeme bytes p).token ≡ true → and_at bytes part (lexeme bytes p).to ≡ Ok (b, q) → is_or (lexeme bytes q).token ≡ false → or_more bytes part n a p ≡ Ok (either a b, q)
unfolding or_more
one_or bytes part zero a b p q some h k s = absurd (omega arith)
one_or bytes part (suc n) a b p q some h k s = rw (h, k) (no_or bytes part n (either a b) q s)

two_alternatives : (bytes : List ℕ) (part : ℕ → Read Tree) (at : ℕ) (a b : Tree) (p q : ℕ) → 0 < length bytes → and_at bytes part at ≡ Ok (a, p) → is_or (lexeme bytes p).token ≡ true → and_at bytes part (lexeme bytes p).to ≡ Ok (b, q) → is_or (lexeme bytes q).token ≡ false → or_at bytes part at ≡ Ok (either a b, q)
unfolding or_at
two_alternatives bytes part at a b p q some e h k s = rw e (one_or bytes part (length bytes) a b p q some h k s)

-- Parentheses

closed : (bytes : List ℕ) (levels at p q : ℕ) (t : Tree) → (lexeme bytes at).token ≡ token.Open → or_at bytes (not_at bytes levels) (lexeme bytes at).to ≡ Ok (t, p) → close_at bytes p ≡ Ok q → not_at bytes (suc levels) at ≡ Ok (t, q)
unfolding not_at
closed bytes levels at p q t k e c = rw (k, e, c) refl

-- what reads behind an open parenthesis, and is closed, is read with it
in_parentheses : (g : Bool) (bytes : List ℕ) (levels at : ℕ) (inside rest : List ℕ) (t : Tree) → drop at bytes ≡ spaced g (40 ∷ inside)
    → ((p : ℕ) → drop p bytes ≡ inside → Reads bytes (or_at bytes (not_at bytes levels) p) t (41 ∷ rest)) → Reads bytes (not_at bytes (suc levels) at) t rest
in_parentheses g bytes levels at inside rest t e reads =
    let o = lexes_open g bytes at inside e in
    let r = reads (lexeme bytes at).to o.behind in
    let c = close_passes bytes r.place (41 ∷ []) rest (lexes_close bytes r.place rest r.behind) in
    record { place = c.place; is = closed bytes levels at r.place c.place t o.kind r.is c.is; behind = c.behind }

negated : (bytes : List ℕ) (levels at p : ℕ) (a : Tree) → (lexeme bytes at).token ≡ token.Not → not_at bytes levels (lexeme bytes at).to ≡ Ok (a, p) → not_at bytes (suc levels) at ≡ Ok (negation a, p)
unfolding not_at
negated bytes levels at p a k e = rw (k, e) refl

close_kind : (bytes : List ℕ) (at : ℕ) (rest : List ℕ) → drop at bytes ≡ 41 ∷ rest → (lexeme bytes at).token ≡ token.Close
close_kind bytes at rest e = let l = lexes_close bytes at rest e in l.kind

-- Trees

three : (a b c r : List ℕ) → ((a ++ b) ++ c) ++ r ≡ a ++ (b ++ (c ++ r))
three a b c r = simp append_assoc

four : (a b c d r : List ℕ) → (((a ++ b) ++ c) ++ d) ++ r ≡ a ++ (b ++ (c ++ (d ++ r)))
four a b c d r = simp append_assoc

five : (a b c d f r : List ℕ) → ((((a ++ b) ++ c) ++ d) ++ f) ++ r ≡ a ++ (b ++ (c ++ (d ++ (f ++ r))))
five a b c d f r = simp append_assoc

six : (a b c d f h r : List ℕ) → (((((a ++ b) ++ c) ++ d) ++ f) ++ h) ++ r ≡ a ++ (b ++ (c ++ (d ++ (f ++ (h ++ r)))))
six a b c d f h r = simp append_assoc

-- a part of a tree, behind a space or none
abbrev ReadsTree : Tree → Type 0
ReadsTree t = (levels : ℕ) → depth t ≤ levels → (g : Bool) (bytes : List ℕ) (at : ℕ) (rest : List ℕ) → drop at bytes ≡ spaced g (tree_text t ++ rest) → Follows rest → Reads bytes (not_at bytes levels at) t rest

negation_reads : (a : Tree) → ReadsTree a → ReadsTree (negation a)
negation_reads a ih zero d g bytes at rest e f = absurd (omega arith)
negation_reads a ih (suc zero) d g bytes at rest e f = absurd (omega arith)
negation_reads a ih (suc (suc levels)) d g bytes at rest e f =
    in_parentheses g bytes (suc levels) at (codes "NOT" ++ 32 ∷ (tree_text a ++ 41 ∷ rest)) rest (negation a)
    (e ∙ ap (λ s. spaced g (40 ∷ 78 ∷ 79 ∷ 84 ∷ 32 ∷ s)) (append_assoc (tree_text a) (41 ∷ []) rest))
    (λ p h.
    let n = lexes_not false bytes p (32 ∷ (tree_text a ++ 41 ∷ rest)) h refl in
    let r = ih levels (omega arith) true bytes (lexeme bytes p).to (41 ∷ rest) n.behind (follows_close rest) in
    let k = close_kind bytes r.place rest r.behind in
    record {
      place = r.place;
      is = one_alternative bytes (not_at bytes (suc levels)) p (negation a) r.place
          (one_part bytes (not_at bytes (suc levels)) p (negation a) r.place (negated bytes levels p r.place a n.kind r.is) (ap is_and k)) (ap is_or k);
      behind = r.behind;
    })

both_reads : (a b : Tree) → ReadsTree a → ReadsTree b → ReadsTree (both a b)
both_reads a b ih jh zero d g bytes at rest e f = absurd (omega arith)
both_reads a b ih jh (suc levels) d g bytes at rest e f =
    in_parentheses g bytes levels at (tree_text a ++ (32 ∷ (codes "AND" ++ 32 ∷ (tree_text b ++ 41 ∷ rest)))) rest (both a b)
    (e ∙ ap (λ s. spaced g (40 ∷ s)) (four (tree_text a) (codes " AND ") (tree_text b) (codes ")") rest))
    (λ p h.
    let r = ih levels (omega arith) false bytes p (32 ∷ (codes "AND" ++ 32 ∷ (tree_text b ++ 41 ∷ rest))) h (follows_and (tree_text b ++ 41 ∷ rest)) in
    let w = lexes_and bytes r.place (32 ∷ (tree_text b ++ 41 ∷ rest)) r.behind refl in
    let s = jh levels (omega arith) true bytes (lexeme bytes r.place).to (41 ∷ rest) w.behind (follows_close rest) in
    let k = close_kind bytes s.place rest s.behind in
    record {
      place = s.place;
      is = one_alternative bytes (not_at bytes levels) p (both a b) s.place
          (two_parts bytes (not_at bytes levels) p a b r.place s.place (some_bytes bytes r.place 32 _ r.behind) r.is (ap is_and w.kind) s.is (ap is_and k)) (ap is_or k);
      behind = s.behind;
    })

either_reads : (a b : Tree) → ReadsTree a → ReadsTree b → ReadsTree (either a b)
either_reads a b ih jh zero d g bytes at rest e f = absurd (omega arith)
either_reads a b ih jh (suc levels) d g bytes at rest e f =
    in_parentheses g bytes levels at (tree_text a ++ (32 ∷ (codes "OR" ++ 32 ∷ (tree_text b ++ 41 ∷ rest)))) rest (either a b)
    (e ∙ ap (λ s. spaced g (40 ∷ s)) (four (tree_text a) (codes " OR ") (tree_text b) (codes ")") rest))
    (λ p h.
    let r = ih levels (omega arith) false bytes p (32 ∷ (codes "OR" ++ 32 ∷ (tree_text b ++ 41 ∷ rest))) h (follows_or (tree_text b ++ 41 ∷ rest)) in
    let w = lexes_or bytes r.place (32 ∷ (tree_text b ++ 41 ∷ rest)) r.behind refl in
    let s = jh levels (omega arith) true bytes (lexeme bytes r.place).to (41 ∷ rest) w.behind (follows_close rest) in
    let k = close_kind bytes s.place rest s.behind in
    record {
      place = s.place;
      is = two_alternatives bytes (not_at bytes levels) p a b r.place s.place (some_bytes bytes r.place 32 _ r.behind)
          (one_part bytes (not_at bytes levels) p a r.place r.is (ap is_and w.kind)) (ap is_or w.kind)
          (one_part bytes (not_at bytes levels) (lexeme bytes r.place).to b s.place s.is (ap is_and k)) (ap is_or k);
      behind = s.behind;
    })

alone_operand : (x : Operand) → IsAlone x → IsOperand x
alone_operand (operand.Name n) w = w
alone_operand (operand.Int z) w = absurd w
alone_operand (operand.Text t) w = absurd w
alone_operand (operand.Bool b) w = tt

tree_reads : (t : Tree) → IsWritten t → ReadsTree t
tree_reads (alone x) w = λ levels d g bytes at rest e f.
    test_reads x (alone_operand x w) (alone x) levels g bytes at rest rest e f.breaks (λ p h. alone_reads x w bytes p rest h f)
tree_reads (compare x sign y) w = λ levels d g bytes at rest e f.
    test_reads x w.0 (compare x sign y) levels g bytes at (sign_text sign ++ (operand_text y ++ rest)) rest
    (e ∙ ap (spaced g) (three (operand_text x) (sign_text sign) (operand_text y) rest)) (sign_breaks sign (operand_text y ++ rest))
    (λ p h. compare_reads x sign y w.1 bytes p rest h f.breaks)
tree_reads (between minus x low high) w = λ levels d g bytes at rest e f.
    test_reads x w.0 (between minus x low high) levels g bytes at (not_text minus ++ (32 ∷ (codes "BETWEEN" ++ 32 ∷ (operand_text low ++ (32 ∷ (codes "AND" ++ 32 ∷ (operand_text high ++ rest))))))) rest
    (e ∙ ap (spaced g) (six (operand_text x) (not_text minus) (codes " BETWEEN ") (operand_text low) (codes " AND ") (operand_text high) rest)) (not_breaks minus _)
    (λ p h. between_reads minus x low high w.1 w.2 bytes p rest h f.breaks)
tree_reads (one_of minus name ls) w = λ levels d g bytes at rest e f.
    test_reads (operand.Name name) w.0 (one_of minus name ls) levels g bytes at (not_text minus ++ (32 ∷ (codes "IN" ++ 32 ∷ 40 ∷ (literals_text ls ++ 41 ∷ rest)))) rest
    (e ∙ ap (spaced g) (five name (not_text minus) (codes " IN (") (literals_text ls) (codes ")") rest)) (not_breaks minus _)
    (λ p h. one_of_reads minus name ls w.1 bytes p rest h)
tree_reads (like minus name pattern) w = λ levels d g bytes at rest e f.
    test_reads (operand.Name name) w.0 (like minus name pattern) levels g bytes at (not_text minus ++ (32 ∷ (codes "LIKE" ++ 32 ∷ (quoted pattern ++ rest)))) rest
    (e ∙ ap (spaced g) (four name (not_text minus) (codes " LIKE ") (quoted pattern) rest)) (not_breaks minus _)
    (λ p h. like_reads minus name pattern w.1 bytes p rest h f.breaks)
tree_reads (is_null minus name) w = λ levels d g bytes at rest e f.
    test_reads (operand.Name name) w (is_null minus name) levels g bytes at (32 ∷ (codes "IS" ++ (not_text minus ++ (32 ∷ (codes "NULL" ++ rest))))) rest
    (e ∙ ap (spaced g) (four name (codes " IS") (not_text minus) (codes " NULL") rest)) refl
    (λ p h. is_null_reads minus name bytes p rest h f.breaks)
tree_reads (negation a) w = negation_reads a (tree_reads a w)
tree_reads (both a b) w = both_reads a b (tree_reads a w.0) (tree_reads b w.1)
tree_reads (either a b) w = either_reads a b (tree_reads a w.0) (tree_reads b w.1)

-- The whole text

filter_is : (bytes : List ℕ) (t : Tree) (p : ℕ) → length bytes ≤ 4096 → or_at bytes (not_at bytes 64) 0 ≡ Ok (t, p) → (lexeme bytes p).token ≡ token.End → filter_text bytes ≡ Ok t
unfolding filter_text
filter_is bytes t p short e k = rw (le-ltb 4096 (length bytes) short, e, k) refl

-- a printed filter of at most 4,096 bytes that nests at most 64 deep reads as the filter
reads_back : (t : Tree) → IsWritten t → length (tree_text t) ≤ 4096 → depth t ≤ 64 → filter_text (tree_text t) ≡ Ok t
reads_back t w short shallow =
    let r = tree_reads t w 64 shallow false (tree_text t) 0 [] (sym (append-nil (tree_text t))) follows_end in
    let k = lexes_end (tree_text t) r.place r.behind in
    filter_is (tree_text t) t r.place short
    (one_alternative (tree_text t) (not_at (tree_text t) 64) 0 t r.place (one_part (tree_text t) (not_at (tree_text t) 64) 0 t r.place r.is (ap is_and k)) (ap is_or k)) k

pub printed_reads : (t : Tree) (out : List ℕ) → IsWritten t → out ≡ tree_text t → length out ≤ 4096 → depth t ≤ 64 → filter_text out ≡ Ok t
printed_reads t out w e short shallow = ap filter_text e ∙ reads_back t w (omega (arith, ap length e)) shallow
