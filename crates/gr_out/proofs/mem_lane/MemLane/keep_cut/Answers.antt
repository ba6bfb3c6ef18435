-- One more cut is kept
use Rattle.std.proofs.Common.{◌≤◌, length, length-take, ap, arith}
use Rattle.gr_out.proofs.Lanes.{kept_cut, cut_in, kept_as, room_kept}
use Rattle.gr_out.proofs.mem_lane.MemLane.keep_cut.Goals as goal

pub invariant_of-self : goal.invariant_of-self
invariant_of-self c =
    let h = c.self.invariant in
    let k = c.keep_from-first.ensures in
    let is = c.deref.ensures.value in
    let behind : c.keep_from-first.result ≤ c.args.len = omega (arith, k.first) in (
      kept_as _ _ _ _ _ _ c.then-self-inside.ensures
          (kept_cut _ _ _ _ _ _ _ _ _ _ _ _ c.args.len h.0 is c.truncate.ensures.items k.synced k.fresh k.marked behind c.truncate-2.ensures.items),
      room_kept _ _ _ _ _ _ _ _ _ _ _ _ _ _ _ _ h.1 (omega (arith, ap length c.truncate.ensures.items, length-take c.args.len c.self.inside.bytes.items, h.1.bytes_in))
          (cut_in _ _ _ c.args.len _ _ _ _ _ _ _ _ is c.truncate.ensures.items k.synced k.marked behind c.truncate-2.ensures.items h.0.within h.1.synced_in)
          (omega (arith, c.truncate.ensures.capacity)) k.synced_capacity (omega (arith, k.fresh_capacity, c.truncate-2.ensures.capacity)),
    )
