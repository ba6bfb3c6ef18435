use Rattle.std.proofs.Common.{ℕ, ◌<◌, ◌≤◌, not, ◌&&◌, [], length, get_or, drop}
use Rattle.std.specs.Prelude.{if◌then◌else◌, slice_index_or}
use Rattle.gr_tick.specs.Stored.{RunsGive}
use Rattle.gr_know.specs.Values.{known_at, is_Q}
use Rattle.gr_curio.specs.declared.values.Q3.TheVariants.{N, C}
use Rattle.gr_curio.specs.Values.{wanted_at, is_C}
use Rattle.gr_curio.specs.Wants.{runs_of, wants_of}
use Rattle.gr_frame.specs.Frames.{FrameList}
use Rattle.gr_topo.specs.Topology.{children_of}
use Rattle.gr_model.specs.Broker.{forward, forward_frames}
use Rattle.gr_broker_relay.specs.Held.{shown_net}
use Rattle.gr_broker_relay.specs.Told.{AddsFrames}
use Rattle.gr_broker_relay.proofs.learning.forward.Given as goal

-- with the frames to the children that are left all are sent, and each child so far has its piece
abbrev pub invariant-loop-i : goal.invariant-loop-i
invariant-loop-i l = record {
  adds : (last : FrameList) → AddsFrames (forward_frames l.held.joins (shown_net l.site.topo.now l.held) l.site.publisher l.site.broker l.fresh (drop l.i (children_of l.site.topo.now l.site.publisher l.site.broker)) (drop l.i (runs_of l.held.wants))) l.into last
      → AddsFrames (forward_frames l.held.joins (shown_net l.site.topo.now l.held) l.site.publisher l.site.broker l.fresh (children_of l.site.topo.now l.site.publisher l.site.broker) (runs_of l.held.wants)) l.fn.into last;
  many : length l.all.items ≤ l.i;
  each : (i : ℕ) → i < l.i → RunsGive N (slice_index_or l.all.items i []) (λ t.
      if not (is_Q (known_at (forward (shown_net l.site.topo.now l.held) l.site.publisher (get_or (children_of l.site.topo.now l.site.publisher l.site.broker) i 0) (wants_of (runs_of l.held.wants) i) l.fresh) t)) && is_C (wanted_at (wants_of (runs_of l.held.wants) i) t) then C else N);
}
