use Rattle.std.proofs.Common.{◌≡◌, ◌*◌, ◌^◌, ◌≤◌, take}
use Rattle.std.specs.List.{count_by}
use Rattle.gr_model.specs.World.{run_all, run_from}
use Rattle.gr_world.specs.Seen.{net_in, world_of}
use Rattle.gr_world.specs.Of.{LanesFit}
use Rattle.gr_replay.specs.Going.{IsGoing}
use Rattle.gr_replay.specs.Replayed.{all_lines}
use Rattle.gr_soak.specs.Summary.{is_logged, is_got, last_lines}
use Rattle.gr_soak.proofs.running.carry_out.Given as goal

-- the world is where the steps so far lead, and the counts are over what they told
abbrev pub invariant-steps : goal.invariant-steps
invariant-steps g l = record {
  going : IsGoing l.world;
  topology : l.world.topo ≡ l.initial.world.topo;
  lanes : LanesFit (g.D.Disk.lane_of l.disk) l.world;
  faultless : g.D.Disk.faultless l.disk;
  leads : world_of l.world ≡ (run_all (net_in l.initial.world) (world_of l.initial.world) (take l.line-index l.steps)).world;
  logged : l.logged ≡ count_by is_logged (all_lines (run_from (net_in l.initial.world) (world_of l.initial.world) (take l.line-index l.steps)));
  got : l.got ≡ count_by is_got (all_lines (run_from (net_in l.initial.world) (world_of l.initial.world) (take l.line-index l.steps)));
  shown : l.shown ≡ last_lines (run_from (net_in l.initial.world) (world_of l.initial.world) (take l.line-index l.steps));
  logged_small : l.logged ≤ l.line-index * 2 ^ 64;
  got_small : l.got ≤ l.line-index * 2 ^ 64;
}
