use Rattle.std.proofs.Common.{Ok}
use Rattle.gr_model.specs.World.{is_know_to, deliver_frame, hand_down}
use Rattle.gr_world.specs.Seen.{net_in, world_of}
use Rattle.gr_world.specs.Ran.{Ran}
use Rattle.gr_world.specs.Sweeps.{Delivers}
use Rattle.gr_world.proofs.Composed.{Leads}
use Rattle.gr_world.proofs.Onward.{passing}
use Rattle.gr_world.proofs.world.World.hand_down.Given as goal

-- those before the frame were delivered or passed over, and what is left is the knowledge for the broker from it on
abbrev pub invariant-frames : goal.invariant-frames
invariant-frames l = record {
  ran : Ran l.initial.self l.self (Ok l.lines);
  delivers : Delivers l.initial.self l.self (Ok l.lines);
  leads : Leads (deliver_frame (net_in l.initial.self)) (passing (is_know_to l.p l.b) l.initial.self l.i) l.self l.lines
      (hand_down (net_in l.initial.self) l.p l.first (world_of l.initial.self) l.b);
}
