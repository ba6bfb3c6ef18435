use Rattle.std.proofs.Common.{◌≡◌, drop}
use Rattle.std.specs.List.{list_any}
use Rattle.gr_event.specs.declared.value.Value.TheVariants.{Text}
use Rattle.gr_event.specs.Event.{same_value}
use Rattle.gr_cover.proofs.values.has_text.Given as goal

-- what is left decides
abbrev pub invariant-loop-value : goal.invariant-loop-value
invariant-loop-value l = list_any (same_value (Text l.text)) (drop l.value-index l.values) ≡ list_any (same_value (Text l.text)) l.values
