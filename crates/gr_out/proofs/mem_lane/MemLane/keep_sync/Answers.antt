-- After a sync all is as it was synced, and nothing is marked
use Rattle.std.proofs.Common.{◌≤◌, length, refl, ap, arith}
use Rattle.gr_out.proofs.Lanes.{all_synced, kept_as, room_kept}
use Rattle.gr_out.proofs.mem_lane.MemLane.keep_sync.Goals as goal

pub invariant_of-self : goal.invariant_of-self
invariant_of-self c =
    let h = c.self.invariant in
    let within : c.self.inside.first ≤ length c.self.inside.bytes.items = omega (arith, h.0.within) in (
      kept_as _ _ _ _ _ _ c.then-self-inside.ensures (all_synced _ _ _ _ _ _ h.0.bytes_are c.clear.ensures.items c.clear-2.ensures.items within refl refl),
      room_kept _ _ _ _ _ _ _ _ _ _ _ _ _ _ _ _ h.1 h.1.bytes_in (omega (arith, within, ap length c.clear.ensures.items, ap length c.clear-2.ensures.items, h.1.bytes_in)) (omega arith)
          (omega (arith, c.clear.ensures.capacity)) (omega (arith, c.clear-2.ensures.capacity)),
    )
