-- What is seen of a queue of frames.
use Rattle.std.specs.Prelude.{◌≡◌, List, [], ◌∷◌, Option, Some, None}
use Rattle.gr_frame.specs.declared.Frame.{Frame}

-- the frames in order
pub record Queued : Type 0 where
  pub items : List Frame

abbrev pub queued : Option Frame → List Frame → Queued
queued None fs = record { items = fs }
queued (Some f) fs = record { items = f ∷ fs }

-- others stand only behind a first one
abbrev pub IsQueue : Option Frame → List Frame → Type 0
IsQueue None fs = fs ≡ []
IsQueue (Some f) fs = Unit {0}
