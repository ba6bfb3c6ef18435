-- The names that a filter speaks of, each with the literal that it is compared with; and which filters are plain
use Rattle.std.specs.Prelude.{ℕ, Bool, true, false, not, ◌&&◌, List, [], ◌∷◌, ◌++◌, map, Option, Some, None}
use Rattle.gr_event.specs.declared.value.Value.{Value}
use Rattle.gr_event.specs.declared.value.Value.TheVariants as value
use Rattle.gr_filter.specs.declared.node.Operand.{Operand}
use Rattle.gr_filter.specs.declared.node.Operand.TheVariants as operand
use Rattle.gr_filter.specs.Tree.{Tree, alone, compare, between, one_of, like, is_null, negation, both, either}
use Rattle.gr_cover.specs.declared.mention.Mention.{Mention}

-- the value of a literal; a name is none
abbrev pub literal_value : Operand → Option Value
literal_value (operand.Name n) = None
literal_value (operand.Int z) = Some (value.Int z)
literal_value (operand.Text t) = Some (value.Text t)
literal_value (operand.Bool b) = Some (value.Bool b)

-- an operand that is a name, compared with a literal or with none
abbrev pub met : Operand → Option Value → List Mention
met (operand.Name n) l = record { name = n; literal = l } ∷ []
met _ l = []

-- both operands of a comparison
abbrev pub compared : Operand → Operand → List Mention
compared x y = met x (literal_value y) ++ met y (literal_value x)

-- a name compared with each of the literals
abbrev pub literals_met : List ℕ → List Operand → List Mention
literals_met n ls = map (λ l. record { name = n; literal = literal_value l }) ls

-- each name of a filter with each literal that it is compared with; BETWEEN and IN are read as comparisons
abbrev pub mentions : Tree → List Mention
mentions (alone x) = met x None
mentions (compare x sign y) = compared x y
mentions (between negated x low high) = compared x low ++ compared x high
mentions (one_of negated name literals) = literals_met name literals
mentions (like negated name pattern) = record { name = name; literal = None } ∷ []
mentions (is_null negated name) = record { name = name; literal = None } ∷ []
mentions (negation a) = mentions a
mentions (both a b) = mentions a ++ mentions b
mentions (either a b) = mentions a ++ mentions b

abbrev pub is_name : Operand → Bool
is_name (operand.Name n) = true
is_name _ = false

-- not names on both sides
abbrev pub apart : Operand → Operand → Bool
apart x y = not (is_name x && is_name y)

-- no LIKE, and no comparison of two names
abbrev pub is_plain : Tree → Bool
is_plain (compare x sign y) = apart x y
is_plain (between negated x low high) = apart x low && apart x high
is_plain (like negated name pattern) = false
is_plain (negation a) = is_plain a
is_plain (both a b) = is_plain a && is_plain b
is_plain (either a b) = is_plain a && is_plain b
is_plain _ = true
