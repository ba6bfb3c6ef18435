-- Trees as they come of a text: their names, integers and texts can be written down; and how deep the printed form
-- nests
use Rattle.std.specs.Prelude.{◌≡◌, ℕ, ◌+◌, max, Bool, true, false, FitsSigned, List, [], ◌∷◌, length}
use Rattle.std.specs.Int.{w64}
use Rattle.std.specs.List.{AllByRecursion}
use Rattle.std.specs.Str.{is_utf8}
use Rattle.gr_filter.specs.declared.node.Operand.{Operand}
use Rattle.gr_filter.specs.declared.node.Operand.TheVariants as operand
use Rattle.gr_filter.specs.declared.token.Token.TheVariants as token
use Rattle.gr_filter.specs.Token.{begins_name, goes_on, front, word_token}
use Rattle.gr_filter.specs.Tree.{Tree, alone, compare, between, one_of, like, is_null, negation, both, either}

abbrev pub begins : List ℕ → Bool
begins [] = false
begins (c ∷ cs) = begins_name c

-- a name begins and goes on as names do, and is no keyword
pub record IsName (n : List ℕ) : Type 0 where
  pub begun : begins n ≡ true
  pub whole : front goes_on n ≡ length n
  pub no_keyword : word_token n ≡ token.Name

-- a text is UTF-8
pub record IsText (t : List ℕ) : Type 0 where
  pub utf8 : is_utf8 t ≡ true

abbrev pub IsOperand : Operand → Type 0
IsOperand (operand.Name n) = IsName n
IsOperand (operand.Int z) = FitsSigned w64 z
IsOperand (operand.Text t) = IsText t
IsOperand (operand.Bool b) = Unit {0}

-- a literal is no name
abbrev pub IsLiteral : Operand → Type 0
IsLiteral (operand.Name n) = ⊥
IsLiteral x = IsOperand x

-- what stands alone is a name or a truth value
abbrev pub IsAlone : Operand → Type 0
IsAlone (operand.Name n) = IsName n
IsAlone (operand.Bool b) = Unit {0}
IsAlone _ = ⊥

-- there is a literal, and all are literals
abbrev pub AreLiterals : List Operand → Type 0
AreLiterals [] = ⊥
AreLiterals (l ∷ ls) = IsLiteral l × AllByRecursion IsLiteral ls

abbrev pub IsWritten : Tree → Type 0
IsWritten (alone x) = IsAlone x
IsWritten (compare x sign y) = IsOperand x × IsOperand y
IsWritten (between negated x low high) = IsOperand x × IsOperand low × IsOperand high
IsWritten (one_of negated name literals) = IsName name × AreLiterals literals
IsWritten (like negated name pattern) = IsName name × IsText pattern
IsWritten (is_null negated name) = IsName name
IsWritten (negation a) = IsWritten a
IsWritten (both a b) = IsWritten a × IsWritten b
IsWritten (either a b) = IsWritten a × IsWritten b

-- how deep the printed form nests: each parenthesis before a test and each NOT is one deeper
abbrev pub depth : Tree → ℕ
depth (negation a) = 2 + depth a
depth (both a b) = 1 + max (depth a) (depth b)
depth (either a b) = 1 + max (depth a) (depth b)
depth _ = 0
