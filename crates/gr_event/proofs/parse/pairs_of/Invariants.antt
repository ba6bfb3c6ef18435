use Rattle.std.proofs.Common.{◌≡◌, ◌++◌}
use Rattle.std.specs.List.{AllByRecursion}
use Rattle.serde_json.specs.View.{members_view}
use Rattle.gr_event.specs.Json.{pairs_from}
use Rattle.gr_event.specs.Limits.{names, key_texts, IsPair}
use Rattle.gr_event.proofs.Reading.{with_front}
use Rattle.gr_event.proofs.parse.pairs_of.Given as goal

abbrev pub invariant-loop-name : goal.invariant-loop-name
invariant-loop-name l =
    (goal.iterator-loop-name).can_next l.name-iterator ×
    (goal.iterator-loop-name).is_finite l.name-iterator ×
    (with_front l.found.items (pairs_from (members_view l.name-iterator)) ≡ pairs_from (members_view l.fn.map.entries)) ×
    (names l.found.items ++ key_texts l.name-iterator ≡ key_texts l.fn.map.entries) ×
    AllByRecursion IsPair l.found.items
