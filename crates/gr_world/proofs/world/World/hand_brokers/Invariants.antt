use Rattle.std.proofs.Common.{drop, Ok}
use Rattle.gr_model.specs.World.{hand_down, in_turn}
use Rattle.gr_world.specs.Seen.{net_in, world_of}
use Rattle.gr_world.specs.Ran.{Ran}
use Rattle.gr_world.specs.Sweeps.{Delivers}
use Rattle.gr_world.proofs.Composed.{Leads}
use Rattle.gr_world.proofs.world.World.hand_brokers.Given as goal

-- the brokers so far were handed what was for them, and what is left are those behind them
abbrev pub invariant-brokers : goal.invariant-brokers
invariant-brokers l = record {
  ran : Ran l.initial.self l.self (Ok l.lines);
  delivers : Delivers l.initial.self l.self (Ok l.lines);
  leads : Leads (hand_down (net_in l.initial.self) l.p l.first) (drop l.b-index l.brokers) l.self l.lines (in_turn (hand_down (net_in l.initial.self) l.p l.first) l.brokers (world_of l.initial.self));
}
