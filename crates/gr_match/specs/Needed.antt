-- The pair of a name and a value without which an event is not matched: the part `name = literal` of a filter
use Rattle.std.specs.Prelude.{ℕ, Bool, false, ◌&&◌, bytes_eq, List, Option, Some, None, option_map}
use Rattle.std.specs.Option.{option_or}
use Rattle.gr_event.specs.declared.value.Value.{Value}
use Rattle.gr_event.specs.declared.value.Value.TheVariants as value
use Rattle.gr_event.specs.declared.event.Event.{Event}
use Rattle.gr_event.specs.Event.{same_value}
use Rattle.gr_event.specs.Get.{part_value, value_of}
use Rattle.gr_filter.specs.declared.node.Operand.{Operand}
use Rattle.gr_filter.specs.declared.node.Operand.TheVariants as operand
use Rattle.gr_filter.specs.declared.node.Sign.{Sign}
use Rattle.gr_filter.specs.declared.node.Sign.TheVariants.{Equal}
use Rattle.gr_filter.specs.Tree.{Tree, compare, both}
use Rattle.gr_match.specs.declared.pair.NamedPart.{NamedPart}

abbrev pub Pair : Type 0
Pair = List ℕ × Value

abbrev pub pair_of : NamedPart → Pair
pair_of p = (p.name.now, part_value p.part)

-- the value of a literal; a name is none
abbrev pub literal_value : Operand → Option Value
literal_value (operand.Name n) = None
literal_value (operand.Int z) = Some (value.Int z)
literal_value (operand.Text t) = Some (value.Text t)
literal_value (operand.Bool b) = Some (value.Bool b)

-- the pair of `name = literal`
abbrev pub equation : Operand → Sign → Operand → Option Pair
equation (operand.Name n) Equal y = option_map (λ v. (n, v)) (literal_value y)
equation _ _ _ = None

-- the pair of the first `name = literal` among the parts that the outermost ANDs join
abbrev pub needed : Tree → Option Pair
needed (compare x sign y) = equation x sign y
needed (both a b) = option_or (needed a) (needed b)
needed _ = None

abbrev pub is_value : Value → Option Value → Bool
is_value v None = false
is_value v (Some w) = same_value w v

-- the event has the pair
abbrev pub has : Pair → Event → Bool
has p e = is_value p.1 (value_of p.0 e)

-- two pairs are the same
abbrev pub is_pair : Pair → Pair → Bool
is_pair p q = bytes_eq p.0 q.0 && same_value p.1 q.1
