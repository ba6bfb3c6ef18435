-- the frames so far are told and offered, and no fault was counted
use Rattle.std.proofs.Common.{◌≡◌, ◌+◌, ◌++◌, suc, List, take}
use Rattle.gr_frame.specs.declared.Frame.{Frame}
use Rattle.gr_frame.specs.Cut.{AreFrames}
use Rattle.gr_out.specs.Page.{TakesBut}
use Rattle.gr_model.specs.World.{sent_lines}
use Rattle.gr_node.specs.Seen.{text_of}
use Rattle.gr_node.specs.Plan.{offers_of}
use Rattle.gr_node.proofs.telling.offer_frames.Given as goal

abbrev pub invariant-frames : goal.invariant-frames
invariant-frames g l = record {
  offers : l.offers ≡ l.initial.offers + l.i;
  told : (fs : List Frame) → AreFrames l.sent.frames fs
      → TakesBut (g.K.Sink.taken l.initial.sink) (g.K.Sink.taken l.sink) (l.initial.page.held ++ text_of l.topo (sent_lines (suc l.initial.offers) (take l.i fs))) l.page.held;
  sent : g.P.Post.tells → (fs : List Frame) → AreFrames l.sent.frames fs → g.P.Post.journal l.post ≡ g.P.Post.journal l.initial.post ++ offers_of (take l.i fs);
  sink : g.K.Sink.faults l.sink ≡ g.K.Sink.faults l.initial.sink;
  post : g.P.Post.faults l.post ≡ g.P.Post.faults l.initial.post;
}
