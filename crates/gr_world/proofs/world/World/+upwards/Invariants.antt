use Rattle.std.proofs.Common.{◌-◌, ◌+◌, ◌*◌, ◌<◌, Ok}
use Rattle.gr_model.specs.World.{is_want, deliver_up}
use Rattle.gr_world.specs.Seen.{net_in, world_of}
use Rattle.gr_world.specs.Ran.{Ran}
use Rattle.gr_world.specs.Sweeps.{Delivers, wants_past, with_wants}
use Rattle.gr_world.proofs.Composed.{Leads}
use Rattle.gr_world.proofs.Onward.{passing}
use Rattle.gr_world.proofs.world.World.+upwards.Given as goal

abbrev pub decreases-deliver_up : goal.decreases-deliver_up
decreases-deliver_up l = 2 * l.fuel

abbrev pub decreases-deliver_with : goal.decreases-deliver_with
decreases-deliver_with l = 2 * l.fuel + 1

-- those before the frame were delivered or passed over, and what is left are the upward frames from it on
abbrev pub invariant-deliver_up-frames : goal.invariant-deliver_up-frames
invariant-deliver_up-frames l = record {
  some : 0 < l.fuel;
  ran : Ran l.initial.self l.self (Ok l.lines);
  delivers : Delivers l.initial.self l.self (Ok l.lines);
  leads : Leads (with_wants (net_in l.initial.self) (l.fuel - 1)) (passing is_want l.initial.self l.i) l.self l.lines
      (deliver_up (net_in l.initial.self) l.fuel (wants_past l.first (world_of l.initial.self)) (world_of l.initial.self));
}
