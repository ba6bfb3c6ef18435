use Rattle.std.proofs.Common.{drop}
use Rattle.gr_frame.specs.Frames.{FrameList}
use Rattle.gr_curio.specs.Wants.{runs_of}
use Rattle.gr_topo.specs.Topology.{children_of}
use Rattle.gr_model.specs.Broker.{expect_frames}
use Rattle.gr_broker_relay.specs.Told.{AddsFrames}
use Rattle.gr_broker_relay.proofs.asking.expect_children.Given as goal

-- what adds the frames of the children that are left adds those of all
abbrev pub invariant-loop-i : goal.invariant-loop-i
invariant-loop-i l =
    let cs = children_of l.site.topo.now l.site.publisher l.site.broker in
    (after : FrameList) → AddsFrames (expect_frames l.site.publisher l.site.broker l.tick (drop l.i cs) (drop l.i (runs_of l.wants))) l.into after
    → AddsFrames (expect_frames l.site.publisher l.site.broker l.tick cs (runs_of l.wants)) l.fn.into after
