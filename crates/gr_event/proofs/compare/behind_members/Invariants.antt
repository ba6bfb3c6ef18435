use Rattle.std.proofs.Common.{◌≡◌, ◌++◌, List, ℕ, length}
use Rattle.json.specs.Print.{print_from}
use Rattle.gr_event.specs.declared.event.Event.{Event}
use Rattle.gr_event.specs.Form.{Spell}
use Rattle.gr_event.specs.Json.{members_tokens_of}
use Rattle.gr_event.proofs.compare.behind_members.Given as goal

-- what is found of the pairs that are left is found of all
abbrev pub invariant-pairs : goal.invariant-pairs
invariant-pairs l = record {
  spelled : (ps : Event) × Spell l.pairs ps;
  found : (end : List ℕ) → ((ps : Event) → Spell l.pairs ps → l.left ≡ print_from l.later (members_tokens_of ps) ++ end)
      → (ps : Event) → Spell l.fn.rest ps → l.fn.text ≡ print_from l.fn.after (members_tokens_of ps) ++ end;
}

abbrev pub decreases-pairs : goal.decreases-pairs
decreases-pairs l = length l.pairs
