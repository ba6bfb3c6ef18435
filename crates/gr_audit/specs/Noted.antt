-- The groups of journals, as they are noted one after another
use Rattle.std.specs.Prelude.{ℕ, List, [], ◌∷◌, ◌++◌, map, Option}
use Rattle.gr_audit.specs.declared.mark.Mark.{Mark}
use Rattle.gr_audit.specs.Joint.{Key, Link}
use Rattle.gr_audit.specs.Links.{links_in}

-- those of the journals before, and of the one that goes on
pub record Noted : Type 0 where
  pub before : List (List Link)
  pub now : List Link

-- by the numbers of these datagrams
abbrev pub noted_in : List Key → List (List Mark) → List Mark → Noted
noted_in keys before now = record { before = map (links_in keys) before; now = links_in keys now }

-- the journal that went on has ended
abbrev pub with_journal : Noted → Noted
with_journal n = record { before = n.before ++ n.now ∷ []; now = [] }

-- with a group more
abbrev pub with_arrival : ℕ → Option Key → Noted → Noted
with_arrival line needs n =
    record { before = n.before; now = n.now ++ record { line = line; needs = needs; gives = [] } ∷ [] }

-- the last group offers one datagram more
abbrev pub last_gives : List Link → Key → List Link
last_gives [] k = []
last_gives (l ∷ []) k = record { line = l.line; needs = l.needs; gives = l.gives ++ k ∷ [] } ∷ []
last_gives (l ∷ next ∷ ls) k = l ∷ last_gives (next ∷ ls) k

abbrev pub with_offer : Key → Noted → Noted
with_offer k n = record { before = n.before; now = last_gives n.now k }

-- with groups more of the journal that goes on
abbrev pub with_links : Noted → List Link → Noted
with_links n ls = record { before = n.before; now = n.now ++ ls }

-- with journals more
abbrev pub with_journals : Noted → List (List Link) → Noted
with_journals n journals = record { before = n.before ++ journals; now = n.now }
