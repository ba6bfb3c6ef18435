-- What bytes that were sent say
use Rattle.std.specs.Prelude.{ℕ, List, Ok, Err}
use Rattle.gr_frame.specs.declared.Frame.{Frame}
use Rattle.gr_frame.specs.Decode.{frame_decoded}
use Rattle.gr_model.specs.Broker.{expect_frame}

-- the frame that bytes say
abbrev pub frame_said : List ℕ → Frame
frame_said bytes = elim (frame_decoded bytes) [ Ok f ↦ f | Err e ↦ expect_frame 0 0 0 0 ]
