-- What frames may carry, and when bytes spell a frame
use Rattle.std.specs.Prelude.{◌≡◌, ◌≢◌, ℕ, ◌+◌, ◌^◌, ◌<◌, ◌≤◌, List, [], length}
use Rattle.std.specs.List.{AllByRecursion}
use Rattle.gr_event.specs.Limits.{IsEvent}
use Rattle.gr_event.specs.Joins.{AreJoins}
use Rattle.gr_tick.specs.declared.TheConstants.{MAX_TICK}
use Rattle.gr_tick.specs.declared.run.Run.{Run}
use Rattle.gr_tick.specs.Runs.{AreRuns}
use Rattle.gr_tick.specs.Stored.{EndBefore}
use Rattle.gr_know.specs.declared.values.K.{K}
use Rattle.gr_know.specs.declared.values.K.TheVariants.{Q, D}
use Rattle.gr_curio.specs.declared.values.Q3.{Q3}
use Rattle.gr_curio.specs.declared.values.Q3.TheVariants.{N}
use Rattle.gr_frame.specs.declared.TheConstants.{MAX_FRAME_BYTES}
use Rattle.gr_frame.specs.declared.Body.{Body}
use Rattle.gr_frame.specs.declared.Body.TheVariants as body
use Rattle.gr_frame.specs.declared.Head.{Head}
use Rattle.gr_frame.specs.declared.Frame.{Frame}
use Rattle.gr_frame.specs.Bytes.{frame_bytes}

-- an event is within the limits of events
abbrev pub IsKnown : K → Type 0
IsKnown (D e) = IsEvent e
IsKnown _ = Unit {0}

abbrev pub IsWanted : Q3 → Type 0
IsWanted v = Unit {0}

-- runs that a frame may carry: at least one, rising, disjoint and maximal, none of the least value, up to the last tick
pub record IsPiece {V : Type 0} (least : V) (Fits : V → Type 0) (rs : List (Run V)) : Type 0 where
  pub some : rs ≢ []
  pub runs : AreRuns least rs
  pub upto : EndBefore rs (MAX_TICK + 1)
  pub each : AllByRecursion (λ r. Fits r.value) rs

abbrev pub IsBody : Body → Type 0
IsBody (body.Knowledge rs js) = IsPiece Q IsKnown rs × AreJoins js
IsBody (body.Curiosity rs) = IsPiece N IsWanted rs
IsBody (body.Expect tick) = (1 ≤ tick) × (tick ≤ MAX_TICK)

-- brokers and publishers have numbers of 16 bits
pub record IsHead (h : Head) : Type 0 where
  pub from : h.from < 2 ^ 16
  pub to : h.to < 2 ^ 16
  pub publisher : h.publisher < 2 ^ 16

-- a frame that has a spelling
pub record IsWhole (f : Frame) : Type 0 where
  pub head : IsHead f.head
  pub body : IsBody f.body

-- the bytes spell the frame
pub record IsFrame (bytes : List ℕ) (f : Frame) : Type 0 where
  pub whole : IsWhole f
  pub spelled : bytes ≡ frame_bytes f
  pub short : length bytes ≤ MAX_FRAME_BYTES
