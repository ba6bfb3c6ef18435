-- What is said is what the bytes say, so the lines are those of the frames that they spell
use Rattle.std.proofs.Common.{◌++◌, suc, List, map, ap, ◌∙◌}
use Rattle.gr_frame.specs.declared.Frame.{Frame}
use Rattle.gr_frame.specs.Frames.{FrameList}
use Rattle.gr_model.specs.World.{sent_lines}
use Rattle.gr_outbox.specs.Said.{frame_said}
use Rattle.gr_outbox.proofs.Telling.{frames_back}
use Rattle.gr_outbox.proofs.outbox.Outbox.tell.Goals as goal

pub returns-clause-told : goal.returns-clause-told
returns-clause-told c = λ fs a.
    c.in_ok-put_lines.ensures
    ∙ ap (λ (gs : List Frame). c.args.lines.now ++ sent_lines (suc c.args.first) gs)
    (c.self.invariant ∙ ap (λ (l : FrameList). map frame_said l.frames) c.self.view_is ∙ frames_back c.args.self.frames fs a)
