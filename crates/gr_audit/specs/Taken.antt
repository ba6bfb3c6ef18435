-- What is still to come to a process, and the groups of what came
use Rattle.std.specs.Prelude.{List, [], ◌∷◌, Option, Some, None}
use Rattle.gr_journal.specs.declared.arrival.Came.{Came}
use Rattle.gr_audit.specs.Joint.{Key}
use Rattle.gr_audit.specs.Noted.{Noted, with_arrival, with_offer}
use Rattle.gr_audit.specs.Audited.{needed}

pub record GivenView : Type 0 where
  pub left : List Came
  pub noted : Noted

abbrev pub with_came : Came → Noted → Noted
with_came c n = with_arrival c.line (needed c.arrival) n

abbrev pub first_of : List Came → Option Came
first_of [] = None
first_of (c ∷ came) = Some c

abbrev pub came_by : Noted → List Came → GivenView
came_by n [] = record { left = []; noted = n }
came_by n (c ∷ came) = record { left = came; noted = with_came c n }

-- the first of what is still to come has come
abbrev pub behind_next : GivenView → GivenView
behind_next g = came_by g.noted g.left

-- a datagram is offered
abbrev pub with_offered : Key → GivenView → GivenView
with_offered k g = record { left = g.left; noted = with_offer k g.noted }
