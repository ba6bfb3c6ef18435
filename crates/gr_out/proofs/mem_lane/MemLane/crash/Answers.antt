-- After a crash all that is left is synced, and nothing is marked
use Rattle.std.proofs.Common.{◌≡◌, ◌+◌, ◌≤◌, length, refl, ap, sym, arith}
use Rattle.gr_out.proofs.Lanes.{all_synced, to_end_in, kept_as, room_kept}
use Rattle.gr_out.proofs.mem_lane.MemLane.crash.Goals as goal

pub leave_picked-requires-clause-fits : goal.leave_picked-requires-clause-fits
leave_picked-requires-clause-fits c =
    let h = c.self.invariant in
    let k = c.keep_from-first.ensures in
    let synced : c.keep_from-first.result + length c.keep_from-first.new.synced.items ≤ c.self.inside.extent =
    to_end_in _ _ _ _ _ _ _ _ _ c.deref.ensures.value k.synced k.marked h.0.within h.1.synced_in in
    omega (arith, synced, ap length c.deref-2.ensures.value, h.1.bytes_fit)

pub invariant_of-self : goal.invariant_of-self
invariant_of-self c =
    let h = c.self.invariant in
    let k = c.keep_from-first.ensures in
    let all : c.len-self-inside.result ≡ length c.leave_picked.new.bytes.items = omega (arith, c.len-self-inside.ensures) in
    let synced : c.keep_from-first.result + length c.keep_from-first.new.synced.items ≤ c.self.inside.extent =
    to_end_in _ _ _ _ _ _ _ _ _ c.deref.ensures.value k.synced k.marked h.0.within h.1.synced_in in
    let long : length c.leave_picked.new.bytes.items ≤ c.self.inside.extent = omega (arith, c.leave_picked.ensures.long, synced, ap length c.deref-2.ensures.value, h.1.bytes_in) in (
      kept_as _ _ _ _ _ _ c.then-self-inside.ensures (all_synced _ _ _ _ _ _ (sym c.deref-4.ensures.value) c.clear.ensures.items c.clear-2.ensures.items (omega (arith, all)) refl refl),
      room_kept _ _ _ _ _ _ _ _ _ _ _ _ _ _ _ _ h.1 long (omega (arith, all, ap length c.clear.ensures.items, ap length c.clear-2.ensures.items, long)) c.leave_picked.ensures.capacity
          (omega (arith, k.synced_capacity, c.clear.ensures.capacity)) (omega (arith, k.fresh_capacity, c.clear-2.ensures.capacity)),
    )
