use Rattle.std.proofs.Common.{◌≡◌, ◌^◌, ◌++◌, drop}
use Rattle.std.specs.Prelude.{flat_map}
use Rattle.gr_subend.specs.Horizon.{data_of_run}
use Rattle.gr_subend.specs.Deliveries.{items}
use Rattle.gr_subend.proofs.subend.events_in.Given as goal

-- what was put and the events of the runs that are left are the events of all runs
abbrev pub invariant-loop-i : goal.invariant-loop-i
invariant-loop-i l =
    items l.deliveries ++ flat_map (data_of_run 0 (2 ^ 62)) (drop l.i l.piece) ≡ flat_map (data_of_run 0 (2 ^ 62)) l.piece
