-- The value of a name
use Rattle.std.specs.Prelude.{ℕ, List, [], ◌∷◌, Option, Some, None, bytes_eq, if◌then◌else◌}
use Rattle.gr_event.specs.declared.value.Value.{Value}
use Rattle.gr_event.specs.declared.value.Value.TheVariants.{Int, Text, Bool as Truth}
use Rattle.gr_event.specs.declared.value.Part.{Part}
use Rattle.gr_event.specs.declared.value.Part.TheVariants as part
use Rattle.gr_event.specs.declared.event.Event.{Event}

-- the value that a reader sees
abbrev pub part_value : Part → Value
part_value (part.Int z) = Int z
part_value (part.Text t) = Text t.now
part_value (part.Bool b) = Truth b

-- the value of a name, if the event has it
abbrev pub value_of : List ℕ → Event → Option Value
value_of name [] = None
value_of name (p ∷ ps) = if bytes_eq p.0 name then Some p.1 else value_of name ps
