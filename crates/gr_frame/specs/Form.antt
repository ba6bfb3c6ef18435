-- The form of a run's value in the bytes of a frame
use Rattle.std.specs.Prelude.{ℕ, Bool, List, Result}
use Rattle.gr_tick.specs.declared.run.Run.{Run}
use Rattle.gr_frame.specs.declared.fault.FrameFault.{FrameFault}

pub record Form (V : Type 0) : Type 0 where
  pub bytes : V → List ℕ  -- the bytes of a value
  pub size : Run V → ℕ  -- how many bytes a run with its ticks takes
  pub read : List ℕ → ℕ → Result V FrameFault  -- the value that stands at a place of the bytes, or the first fault
  pub same : V → V → Bool  -- whether two values are the same
