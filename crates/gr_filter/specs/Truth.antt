-- The truth of a filter for an event, by cases on its tree
use Rattle.std.specs.Prelude.{ℕ, Bool, true, false, not, List, [], ◌∷◌, Option, Some, None, bytes_eq}
use Rattle.std.specs.Ordering.{int_cmp, is_eq, is_ne, is_lt, is_le, is_gt, is_ge}
use Rattle.std.specs.declared.cmp.Ordering.{Ordering}
use Rattle.gr_event.specs.declared.event.Event.{Event}
use Rattle.gr_event.specs.declared.value.Value.{Value}
use Rattle.gr_event.specs.declared.value.Value.TheVariants as value
use Rattle.gr_event.specs.Event.{same_bool}
use Rattle.gr_event.specs.Get.{value_of}
use Rattle.gr_filter.specs.declared.kleene.Kleene.{Kleene}
use Rattle.gr_filter.specs.declared.kleene.Kleene.TheVariants.{False, Unknown, True}
use Rattle.gr_filter.specs.declared.node.Operand.{Operand}
use Rattle.gr_filter.specs.declared.node.Operand.TheVariants as operand
use Rattle.gr_filter.specs.declared.node.Sign.{Sign}
use Rattle.gr_filter.specs.declared.node.Sign.TheVariants.{Equal, Differs, Less, AtMost, Greater, AtLeast}
use Rattle.gr_filter.specs.Kleene.{known, opposite, opposite_if, least, greatest}
use Rattle.gr_filter.specs.Like.{fits}
use Rattle.gr_filter.specs.Tree.{Tree, alone, compare, between, one_of, like, is_null, negation, both, either}

-- the value of an operand, unless it is an absent name
abbrev pub operand_value : Operand → Event → Option Value
operand_value (operand.Name n) e = value_of n e
operand_value (operand.Int z) e = Some (value.Int z)
operand_value (operand.Text t) e = Some (value.Text t)
operand_value (operand.Bool b) e = Some (value.Bool b)

-- a sign holds of integers in this order
abbrev pub holds : Sign → Ordering → Bool
holds Equal o = is_eq o
holds Differs o = is_ne o
holds Less o = is_lt o
holds AtMost o = is_le o
holds Greater o = is_gt o
holds AtLeast o = is_ge o

-- a sign holds of texts or truth values that are the same or not
abbrev pub holds_same : Sign → Bool → Bool
holds_same Equal b = b
holds_same Differs b = not b
holds_same _ b = false

-- false where the types differ
abbrev pub compare_values : Sign → Value → Value → Kleene
compare_values sign (value.Int a) (value.Int b) = known (holds sign (int_cmp a b))
compare_values sign (value.Text a) (value.Text b) = known (holds_same sign (bytes_eq a b))
compare_values sign (value.Bool a) (value.Bool b) = known (holds_same sign (same_bool a b))
compare_values sign _ _ = False

-- unknown where one of the operands is an absent name
abbrev pub compare_both : Sign → Option Value → Option Value → Kleene
compare_both sign (Some a) (Some b) = compare_values sign a b
compare_both sign _ _ = Unknown

abbrev pub truth_between : Bool → Option Value → Option Value → Option Value → Kleene
truth_between false x low high = least (compare_both AtLeast x low) (compare_both AtMost x high)
truth_between true x low high = greatest (compare_both Less x low) (compare_both Greater x high)

-- equal to one of the literals
abbrev pub truth_one_of : Option Value → Event → List Operand → Kleene
truth_one_of x e [] = False
truth_one_of x e (l ∷ ls) = greatest (compare_both Equal x (operand_value l e)) (truth_one_of x e ls)

abbrev pub truth_like : Option Value → List ℕ → Kleene
truth_like None pattern = Unknown
truth_like (Some (value.Text t)) pattern = known (fits pattern t)
truth_like (Some (value.Int z)) pattern = False
truth_like (Some (value.Bool b)) pattern = False

-- a name alone has its value where that is a truth value; it is unknown where absent, and false otherwise
abbrev pub truth_alone : Option Value → Kleene
truth_alone None = Unknown
truth_alone (Some (value.Bool b)) = known b
truth_alone (Some (value.Int z)) = False
truth_alone (Some (value.Text t)) = False

abbrev pub absent : Option Value → Bool
absent None = true
absent (Some v) = false

abbrev pub truth_null : Bool → Option Value → Kleene
truth_null negated x = opposite_if negated (known (absent x))

abbrev pub truth : Tree → Event → Kleene
truth (alone x) e = truth_alone (operand_value x e)
truth (compare x sign y) e = compare_both sign (operand_value x e) (operand_value y e)
truth (between negated x low high) e =
    truth_between negated (operand_value x e) (operand_value low e) (operand_value high e)
truth (one_of negated name literals) e = opposite_if negated (truth_one_of (value_of name e) e literals)
truth (like negated name pattern) e = opposite_if negated (truth_like (value_of name e) pattern)
truth (is_null negated name) e = truth_null negated (value_of name e)
truth (negation a) e = opposite (truth a e)
truth (both a b) e = least (truth a e) (truth b e)
truth (either a b) e = greatest (truth a e) (truth b e)

abbrev pub is_true : Kleene → Bool
is_true True = true
is_true _ = false

-- a filter matches an event where its truth is true
abbrev pub matches : Tree → Event → Bool
matches f e = is_true (truth f e)
