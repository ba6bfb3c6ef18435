-- A comparison with a literal follows from another one of the same value
use Rattle.std.specs.Prelude.{◌≡◌, true, ℤ, Option, Some, None}
use Rattle.gr_event.specs.declared.event.Event.{Event}
use Rattle.gr_event.specs.declared.value.Value.{Value}
use Rattle.gr_filter.specs.declared.node.Operand.{Operand}
use Rattle.gr_filter.specs.declared.node.Operand.TheVariants as operand
use Rattle.gr_filter.specs.declared.node.Sign.{Sign}
use Rattle.gr_filter.specs.Truth.{operand_value, compare_both, is_true}

abbrev pub Follows : Sign → Operand → Sign → Operand → Type 0
Follows sign wide other narrow = (v : Option Value) (e : Event)
    → is_true (compare_both other v (operand_value narrow e)) ≡ true
    → is_true (compare_both sign v (operand_value wide e)) ≡ true

-- the integer that an operand is
abbrev pub integer_of : Operand → Option ℤ
integer_of (operand.Int z) = Some z
integer_of _ = None
