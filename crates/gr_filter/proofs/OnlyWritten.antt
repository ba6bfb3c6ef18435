-- The grammar reads only trees that can be written down
use Rattle.std.proofs.Common.{◌≡◌, ℕ, zero, suc, ◌-◌, Bool, true, false, if◌then◌else◌, List, [], ◌∷◌, ◌++◌, length, drop, Result, Ok, Err, IfOk, refl, subst}
use Rattle.std.specs.List.{AllByRecursion}
use Rattle.gr_filter.specs.declared.fault.FilterFault.{FilterFault}
use Rattle.gr_filter.specs.declared.node.Operand.{Operand}
use Rattle.gr_filter.specs.declared.node.Operand.TheVariants as operand
use Rattle.gr_filter.specs.declared.token.Token.{Token}
use Rattle.gr_filter.specs.declared.token.Token.TheVariants as token
use Rattle.gr_filter.specs.declared.token.Lexeme.{Lexeme}
use Rattle.gr_filter.specs.Token.{lexeme}
use Rattle.gr_filter.specs.Grammar.{◌>>=◌, Read, literal_of, operand_of, literal_at, operand_at, is_and, is_or, is_comma, is_not, is_text, text_of, open_at, close_at, and_word_at, null_at, pattern_at, between_at, literals_at, one_of_at, like_at, null_test_at, for_name, alone_at, negated_of, negated_at, tail_of, tail_at, test_at, and_more, and_at, or_more, or_at, nested, not_nested, not_at}
use Rattle.gr_filter.specs.Written.{IsName, IsText, IsOperand, IsLiteral, AreLiterals, IsWritten}
use Rattle.gr_filter.specs.Tree.{Tree, both, either}
use Rattle.gr_filter.proofs.Meanings.{Means, lexeme_means}

-- what is read, if it is, has a property
record Gives {A : Type 0} (P : A → Type 0) (m : Result A FilterFault) : Type 0 where
  it : IfOk m P

-- one step after another
next : {A B : Type 0} (P : A → Type 0) (Q : B → Type 0) (m : Result A FilterFault) (f : A → Result B FilterFault) → Gives P m → ((x : A) → P x → Gives Q (f x)) → Gives Q (m >>= f)
next P Q (Ok x) f h k = k x h.it
next P Q (Err e) f h k = record { it = tt }

-- a step of which nothing is to be known
pass : {A B : Type 0} (Q : B → Type 0) (m : Result A FilterFault) (f : A → Result B FilterFault) → ((x : A) → Gives Q (f x)) → Gives Q (m >>= f)
pass Q (Ok x) f k = k x
pass Q (Err e) f k = record { it = tt }

either_way : {A : Type 0} (P : A → Type 0) (b : Bool) (x y : Result A FilterFault) → (b ≡ true → Gives P x) → (b ≡ false → Gives P y) → Gives P (if b then x else y)
either_way P true x y f g = f refl
either_way P false x y f g = g refl

-- what was read is so, with the place behind it
abbrev Behind : {A : Type 0} → (A → Type 0) → A × ℕ → Type 0
Behind P r = P r.0

abbrev ReadsWritten : Read Tree → Type 0
ReadsWritten read = Gives (Behind IsWritten) read

-- Operands

literal_told : (bytes : List ℕ) (l : Lexeme) (t : Token) → Means (drop l.from bytes) (l.to - l.from) t → Gives IsLiteral (literal_of bytes l t)
literal_told bytes l (token.Integer z) h = record { it = h }
literal_told bytes l token.Text h = record { it = h }
literal_told bytes l token.True h = record { it = tt }
literal_told bytes l token.False h = record { it = tt }
literal_told bytes l _ h = record { it = tt }

operand_told : (bytes : List ℕ) (l : Lexeme) (t : Token) → Means (drop l.from bytes) (l.to - l.from) t → Gives IsOperand (operand_of bytes l t)
operand_told bytes l token.Name h = record { it = h }
operand_told bytes l (token.Integer z) h = record { it = h }
operand_told bytes l token.Text h = record { it = h }
operand_told bytes l token.True h = record { it = tt }
operand_told bytes l token.False h = record { it = tt }
operand_told bytes l _ h = record { it = tt }

literal_fine : (bytes : List ℕ) (at : ℕ) → Gives (Behind IsLiteral) (literal_at bytes at)
unfolding literal_at
literal_fine bytes at =
    next IsLiteral (Behind IsLiteral) (literal_of bytes (lexeme bytes at) (lexeme bytes at).token) (λ x. Ok (x, (lexeme bytes at).to))
    (literal_told bytes (lexeme bytes at) (lexeme bytes at).token (lexeme_means bytes at)) (λ x h. record { it = h })

operand_fine : (bytes : List ℕ) (at : ℕ) → Gives (Behind IsOperand) (operand_at bytes at)
unfolding operand_at
operand_fine bytes at =
    next IsOperand (Behind IsOperand) (operand_of bytes (lexeme bytes at) (lexeme bytes at).token) (λ x. Ok (x, (lexeme bytes at).to))
    (operand_told bytes (lexeme bytes at) (lexeme bytes at).token (lexeme_means bytes at)) (λ x h. record { it = h })

text_told : (bytes : List ℕ) (l : Lexeme) (t : Token) → is_text t ≡ true → Means (drop l.from bytes) (l.to - l.from) t → IsText (text_of bytes l)
text_told bytes l token.Text e h = h
text_told bytes l _ e h = cc

pattern_fine : (bytes : List ℕ) (at : ℕ) → Gives (Behind IsText) (pattern_at bytes at)
unfolding pattern_at
pattern_fine bytes at =
    either_way (Behind IsText) (is_text (lexeme bytes at).token) _ _ (λ e. record { it = text_told bytes (lexeme bytes at) (lexeme bytes at).token e (lexeme_means bytes at) }) (λ _. record { it = tt })

-- Tests

between_fine : (bytes : List ℕ) (negated : Bool) (x : Operand) (at : ℕ) → IsOperand x → ReadsWritten (between_at bytes negated x at)
unfolding between_at
between_fine bytes negated x at w =
    next (Behind IsOperand) (Behind IsWritten) (operand_at bytes at) _ (operand_fine bytes at) (λ low lo.
    pass (Behind IsWritten) (and_word_at bytes low.1) _ (λ behind.
    next (Behind IsOperand) (Behind IsWritten) (operand_at bytes behind) _ (operand_fine bytes behind) (λ high hi. record { it = (w, lo, hi) })))

all_push : (ls : List Operand) (x : Operand) → AllByRecursion IsLiteral ls → IsLiteral x → AllByRecursion IsLiteral (ls ++ x ∷ [])
all_push [] x w h = (h, tt)
all_push (l ∷ ls) x w h = (w.0, all_push ls x w.1 h)

literals_push : (ls : List Operand) (x : Operand) → AreLiterals ls → IsLiteral x → AreLiterals (ls ++ x ∷ [])
literals_push [] x w h = absurd w
literals_push (l ∷ ls) x w h = (w.0, all_push ls x w.1 h)

literals_fine : (bytes : List ℕ) (n : ℕ) (found : List Operand) (at : ℕ) → AreLiterals found → Gives (Behind AreLiterals) (literals_at bytes n found at)
unfolding literals_at
literals_fine bytes zero found at w = pass (Behind AreLiterals) (close_at bytes at) _ (λ behind. record { it = w })
literals_fine bytes (suc n) found at w =
    either_way (Behind AreLiterals) (is_comma (lexeme bytes at).token) _ _
    (λ _. next (Behind IsLiteral) (Behind AreLiterals) (literal_at bytes (lexeme bytes at).to) _ (literal_fine bytes (lexeme bytes at).to) (λ x h. literals_fine bytes n (found ++ x.0 ∷ []) x.1 (literals_push found x.0 w h)))
    (λ _. pass (Behind AreLiterals) (close_at bytes at) _ (λ behind. record { it = w }))

one_of_fine : (bytes : List ℕ) (negated : Bool) (name : List ℕ) (at : ℕ) → IsName name → ReadsWritten (one_of_at bytes negated name at)
unfolding one_of_at
one_of_fine bytes negated name at w =
    pass (Behind IsWritten) (open_at bytes at) _ (λ behind.
    next (Behind IsLiteral) (Behind IsWritten) (literal_at bytes behind) _ (literal_fine bytes behind) (λ first h.
    next (Behind AreLiterals) (Behind IsWritten) (literals_at bytes (length bytes) (first.0 ∷ []) first.1) _ (literals_fine bytes (length bytes) (first.0 ∷ []) first.1 (h, tt)) (λ all k. record { it = (w, k) })))

like_fine : (bytes : List ℕ) (negated : Bool) (name : List ℕ) (at : ℕ) → IsName name → ReadsWritten (like_at bytes negated name at)
unfolding like_at
like_fine bytes negated name at w = next (Behind IsText) (Behind IsWritten) (pattern_at bytes at) _ (pattern_fine bytes at) (λ pattern h. record { it = (w, h) })

null_fine : (bytes name : List ℕ) (at : ℕ) → IsName name → ReadsWritten (null_test_at bytes name at)
unfolding null_test_at
null_fine bytes name at w =
    either_way (Behind IsWritten) (is_not (lexeme bytes at).token) _ _
    (λ _. pass (Behind IsWritten) (null_at bytes (lexeme bytes at).to) _ (λ behind. record { it = w }))
    (λ _. pass (Behind IsWritten) (null_at bytes at) _ (λ behind. record { it = w }))

for_name_fine : (x : Operand) (tail : ℕ) (test : List ℕ → Read Tree) → IsOperand x → ((name : List ℕ) → IsName name → ReadsWritten (test name)) → ReadsWritten (for_name x tail test)
for_name_fine (operand.Name n) tail test w k = k n w
for_name_fine (operand.Int z) tail test w k = record { it = tt }
for_name_fine (operand.Text t) tail test w k = record { it = tt }
for_name_fine (operand.Bool b) tail test w k = record { it = tt }

alone_fine : (x : Operand) (behind : ℕ) (l : Lexeme) → IsOperand x → ReadsWritten (alone_at x behind l)
alone_fine (operand.Name n) behind l w = record { it = w }
alone_fine (operand.Int z) behind l w = record { it = tt }
alone_fine (operand.Text t) behind l w = record { it = tt }
alone_fine (operand.Bool b) behind l w = record { it = tt }

negated_told : (bytes : List ℕ) (x : Operand) (tail : ℕ) (l : Lexeme) (t : Token) → IsOperand x → ReadsWritten (negated_of bytes x tail l t)
negated_told bytes x tail l token.Between w = between_fine bytes true x l.to w
negated_told bytes x tail l token.In w = for_name_fine x tail (λ name. one_of_at bytes true name l.to) w (λ name h. one_of_fine bytes true name l.to h)
negated_told bytes x tail l token.Like w = for_name_fine x tail (λ name. like_at bytes true name l.to) w (λ name h. like_fine bytes true name l.to h)
negated_told bytes x tail l _ w = record { it = tt }

negated_fine : (bytes : List ℕ) (x : Operand) (word : Lexeme) → IsOperand x → ReadsWritten (negated_at bytes x word)
unfolding negated_at
negated_fine bytes x word w = negated_told bytes x word.from (lexeme bytes word.to) (lexeme bytes word.to).token w

tail_told : (bytes : List ℕ) (x : Operand) (behind : ℕ) (l : Lexeme) (t : Token) → IsOperand x → ReadsWritten (tail_of bytes x behind l t)
tail_told bytes x behind l (token.Sign sign) w = next (Behind IsOperand) (Behind IsWritten) (operand_at bytes l.to) _ (operand_fine bytes l.to) (λ y h. record { it = (w, h) })
tail_told bytes x behind l token.Between w = between_fine bytes false x l.to w
tail_told bytes x behind l token.In w = for_name_fine x l.from (λ name. one_of_at bytes false name l.to) w (λ name h. one_of_fine bytes false name l.to h)
tail_told bytes x behind l token.Like w = for_name_fine x l.from (λ name. like_at bytes false name l.to) w (λ name h. like_fine bytes false name l.to h)
tail_told bytes x behind l token.Is w = for_name_fine x l.from (λ name. null_test_at bytes name l.to) w (λ name h. null_fine bytes name l.to h)
tail_told bytes x behind l token.Not w = negated_fine bytes x l w
tail_told bytes x behind l _ w = alone_fine x behind l w

tail_fine : (bytes : List ℕ) (x : Operand) (at : ℕ) → IsOperand x → ReadsWritten (tail_at bytes x at)
unfolding tail_at
tail_fine bytes x at w = tail_told bytes x at (lexeme bytes at) (lexeme bytes at).token w

test_fine : (bytes : List ℕ) (at : ℕ) → ReadsWritten (test_at bytes at)
unfolding test_at
test_fine bytes at = next (Behind IsOperand) (Behind IsWritten) (operand_at bytes at) _ (operand_fine bytes at) (λ x h. tail_fine bytes x.0 x.1 h)

-- AND, OR and parentheses

module _ (bytes : List ℕ) (part : ℕ → Read Tree) (fine : (at : ℕ) → ReadsWritten (part at)) where
  and_more_fine : (n : ℕ) (found : Tree) (at : ℕ) → IsWritten found → ReadsWritten (and_more bytes part n found at)
  unfolding and_more
  and_more_fine zero found at w = record { it = w }
  and_more_fine (suc n) found at w =
      either_way (Behind IsWritten) (is_and (lexeme bytes at).token) _ _
      (λ _. next (Behind IsWritten) (Behind IsWritten) (part (lexeme bytes at).to) _ (fine (lexeme bytes at).to) (λ r h. and_more_fine n (both found r.0) r.1 (w, h)))
      (λ _. record { it = w })

  and_fine : (at : ℕ) → ReadsWritten (and_at bytes part at)
  unfolding and_at
  and_fine at = next (Behind IsWritten) (Behind IsWritten) (part at) _ (fine at) (λ r h. and_more_fine (length bytes) r.0 r.1 h)

  or_more_fine : (n : ℕ) (found : Tree) (at : ℕ) → IsWritten found → ReadsWritten (or_more bytes part n found at)
  unfolding or_more
  or_more_fine zero found at w = record { it = w }
  or_more_fine (suc n) found at w =
      either_way (Behind IsWritten) (is_or (lexeme bytes at).token) _ _
      (λ _. next (Behind IsWritten) (Behind IsWritten) (and_at bytes part (lexeme bytes at).to) _ (and_fine (lexeme bytes at).to) (λ r h. or_more_fine n (either found r.0) r.1 (w, h)))
      (λ _. record { it = w })

  or_fine : (at : ℕ) → ReadsWritten (or_at bytes part at)
  unfolding or_at
  or_fine at = next (Behind IsWritten) (Behind IsWritten) (and_at bytes part at) _ (and_fine at) (λ r h. or_more_fine (length bytes) r.0 r.1 h)

not_nested_fine : (l : Lexeme) (t : Token) (test : Read Tree) → ReadsWritten test → ReadsWritten (not_nested l t test)
not_nested_fine l token.Not test w = record { it = tt }
not_nested_fine l token.Open test w = record { it = tt }
not_nested_fine l _ test w = w

nested_fine : (bytes : List ℕ) (inner : ℕ → Read Tree) → ((at : ℕ) → ReadsWritten (inner at)) → (l : Lexeme) (t : Token) (test : Read Tree) → ReadsWritten test → ReadsWritten (nested bytes inner l t test)
nested_fine bytes inner fine l token.Not test w = next (Behind IsWritten) (Behind IsWritten) (inner l.to) _ (fine l.to) (λ r h. record { it = h })
nested_fine bytes inner fine l token.Open test w =
    next (Behind IsWritten) (Behind IsWritten) (or_at bytes inner l.to) _ (or_fine bytes inner fine l.to) (λ r h. pass (Behind IsWritten) (close_at bytes r.1) _ (λ behind. record { it = h }))
nested_fine bytes inner fine l _ test w = w

not_fine : (bytes : List ℕ) (levels at : ℕ) → ReadsWritten (not_at bytes levels at)
unfolding not_at
not_fine bytes zero at = not_nested_fine (lexeme bytes at) (lexeme bytes at).token (test_at bytes at) (test_fine bytes at)
not_fine bytes (suc levels) at = nested_fine bytes (not_at bytes levels) (not_fine bytes levels) (lexeme bytes at) (lexeme bytes at).token (test_at bytes at) (test_fine bytes at)

-- the tree of a text can be written down
pub only_written : (bytes : List ℕ) (t : Tree) (behind : ℕ) → or_at bytes (not_at bytes 64) 0 ≡ Ok (t, behind) → IsWritten t
only_written bytes t behind e =
    let g = or_fine bytes (not_at bytes 64) (not_fine bytes 64) 0 in
    subst (λ m. IfOk m (Behind IsWritten)) e g.it
