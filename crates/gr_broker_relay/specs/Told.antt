-- What a call tells
use Rattle.std.specs.Prelude.{◌≡◌, List, [], ◌++◌, map}
use Rattle.gr_frame.specs.declared.Frame.{Frame}
use Rattle.gr_frame.specs.Bytes.{frame_bytes}
use Rattle.gr_frame.specs.Cut.{AreFrames}
use Rattle.gr_frame.specs.Frames.{FrameList}
use Rattle.gr_model.specs.declared.report.Report.{Report}
use Rattle.gr_model.specs.Broker.{Outcome as MachineOutcome}
use Rattle.gr_broker_relay.specs.declared.outcome.Outcome.{Outcome}

-- What is told is what the machine's call tells: its lines, and its frames as bytes, each the spelling of the frame at
-- its place
pub record Tells (o : MachineOutcome) (told : Outcome) : Type 0 where
  pub lines : told.reports ≡ o.lines
  pub frames : told.frames.frames ≡ map frame_bytes o.frames
  pub spelled : AreFrames told.frames.frames o.frames

-- nothing is told or sent yet
pub record IsBlank (told : Outcome) : Type 0 where
  pub lines : told.reports ≡ []
  pub frames : told.frames.frames ≡ []

-- these frames are put at the end, each spelled
pub record AddsFrames (sent : List Frame) (before after : FrameList) : Type 0 where
  pub added : after.frames ≡ before.frames ++ map frame_bytes sent
  pub spelled : AreFrames (map frame_bytes sent) sent

-- these lines and frames are put at the end of what is told
pub record Adds (told : List Report) (sent : List Frame) (before after : Outcome) : Type 0 where
  pub lines : after.reports ≡ before.reports ++ told
  pub frames : AddsFrames sent before.frames after.frames
