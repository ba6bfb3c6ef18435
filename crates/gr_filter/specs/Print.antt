-- The printed form of a filter, with all its parentheses
use Rattle.std.specs.Prelude.{ℕ, ◌==◌, Bool, if◌then◌else◌, List, [], ◌∷◌, ◌++◌, codes}
use Rattle.std.specs.Fmt.{signed_decimal}
use Rattle.gr_filter.specs.declared.node.Operand.{Operand}
use Rattle.gr_filter.specs.declared.node.Operand.TheVariants as operand
use Rattle.gr_filter.specs.declared.node.Sign.{Sign}
use Rattle.gr_filter.specs.declared.node.Sign.TheVariants.{Equal, Differs, Less, AtMost, Greater, AtLeast}
use Rattle.gr_filter.specs.Tree.{Tree, alone, compare, between, one_of, like, is_null, negation, both, either}

abbrev pub sign_text : Sign → List ℕ
sign_text Equal = codes " = "
sign_text Differs = codes " <> "
sign_text Less = codes " < "
sign_text AtMost = codes " <= "
sign_text Greater = codes " > "
sign_text AtLeast = codes " >= "

-- each quote is doubled; 39 is a quote
abbrev pub doubled : List ℕ → List ℕ
doubled [] = []
doubled (c ∷ cs) = if c == 39 then 39 ∷ 39 ∷ doubled cs else c ∷ doubled cs

abbrev pub quoted : List ℕ → List ℕ
quoted t = 39 ∷ (doubled t ++ 39 ∷ [])

abbrev pub operand_text : Operand → List ℕ
operand_text (operand.Name n) = n
operand_text (operand.Int z) = signed_decimal z
operand_text (operand.Text t) = quoted t
operand_text (operand.Bool b) = if b then codes "TRUE" else codes "FALSE"

-- literals behind the first, each behind a comma and a space
abbrev pub more_text : List Operand → List ℕ
more_text [] = []
more_text (l ∷ ls) = codes ", " ++ operand_text l ++ more_text ls

abbrev pub literals_text : List Operand → List ℕ
literals_text [] = []
literals_text (l ∷ ls) = operand_text l ++ more_text ls

abbrev pub not_text : Bool → List ℕ
not_text negated = if negated then codes " NOT" else []

abbrev pub tree_text : Tree → List ℕ
tree_text (alone x) = operand_text x
tree_text (compare x sign y) = operand_text x ++ sign_text sign ++ operand_text y
tree_text (between negated x low high) = operand_text x ++ not_text negated ++ codes " BETWEEN " ++ operand_text low
    ++ codes " AND " ++ operand_text high
tree_text (one_of negated name literals) = name ++ not_text negated ++ codes " IN (" ++ literals_text literals
    ++ codes ")"
tree_text (like negated name pattern) = name ++ not_text negated ++ codes " LIKE " ++ quoted pattern
tree_text (is_null negated name) = name ++ codes " IS" ++ not_text negated ++ codes " NULL"
tree_text (negation a) = codes "(NOT " ++ tree_text a ++ codes ")"
tree_text (both a b) = codes "(" ++ tree_text a ++ codes " AND " ++ tree_text b ++ codes ")"
tree_text (either a b) = codes "(" ++ tree_text a ++ codes " OR " ++ tree_text b ++ codes ")"
