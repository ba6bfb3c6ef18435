-- One filter covers another: it matches every event that the other matches
use Rattle.std.specs.Prelude.{◌≡◌, true}
use Rattle.gr_event.specs.declared.event.Event.{Event}
use Rattle.gr_event.specs.Limits.{IsEvent}
use Rattle.gr_filter.specs.Tree.{Tree}
use Rattle.gr_filter.specs.Truth.{matches}

-- wide matches every event that narrow matches
abbrev pub covered : Tree → Tree → Type 0
covered wide narrow = (e : Event) → IsEvent e → matches narrow e ≡ true → matches wide e ≡ true
