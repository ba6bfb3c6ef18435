use Rattle.std.proofs.Common.{◌≡◌, ◌++◌, false, take, drop, replicate}
use Rattle.gr_out.specs.Lane.{garbled}
use Rattle.gr_out.proofs.mem_lane.garble.Given as goal

abbrev pub invariant-loop-i : goal.invariant-loop-i
invariant-loop-i l =
    take l.i l.bytes ++ garbled l.pick l.i (drop l.i (replicate l.first false ++ l.fresh)) (drop l.i l.bytes) ≡ garbled l.pick 0 (replicate l.first false ++ l.fresh) l.fn.bytes
