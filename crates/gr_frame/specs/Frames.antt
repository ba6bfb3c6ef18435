-- What a contract sees of a list of frames
use Rattle.std.specs.Prelude.{ℕ, List}

-- the bytes of each frame, in order, and how many more fit before memory is asked for
pub record FrameList : Type 0 where
  pub frames : List (List ℕ)
  pub spare : ℕ
