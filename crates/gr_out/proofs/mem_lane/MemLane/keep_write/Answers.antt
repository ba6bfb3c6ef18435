-- One more write is kept
use Rattle.std.proofs.Common.{◌≡◌, ◌+◌, ◌≤◌, length, ap, sym, ◌∙◌, arith}
use Rattle.gr_out.specs.Lane.{Lane, over, content}
use Rattle.gr_out.proofs.Lanes.{kept_write, written_in, kept_as, room_kept, length-over}
use Rattle.gr_out.proofs.mem_lane.MemLane.keep_write.Goals as goal

pub invariant_of-self : goal.invariant_of-self
invariant_of-self c =
    let h = c.self.invariant in
    let k = c.note_write-self-inside.ensures in
    let is = c.deref.ensures.value in
    let at : c.args.at ≤ length c.self.inside.bytes.items = omega (arith, c.requires.within, ap length (ap content c.self.view_is), ap length h.0.bytes_are) in
    let room : c.args.at + length c.args.bytes.now ≤ c.self.inside.room = omega (arith, c.requires.room, ap (λ (l : Lane). l.room) c.self.view_is) in
    let long = length-over c.args.at c.args.bytes.now c.self.inside.bytes.items in
    let now : c.overwrite.new.bytes.items ≡ over c.args.at c.args.bytes.now c.deref.result.now = c.overwrite.ensures.items ∙ ap (over c.args.at c.args.bytes.now) (sym is) in
    let within : c.note_write-self-inside.result + length c.note_write-self-inside.new.fresh.items ≤ length (over c.args.at c.args.bytes.now c.deref.result.now) =
    omega (arith, k.within, ap length is, long, at, ap length now, ap length c.overwrite.ensures.items) in
    let synced = written_in _ _ _ _ _ _ _ _ _ _ is (k.synced c.args.bytes.now (omega arith)) h.0.within within h.1.synced_in in (
      kept_as _ _ _ _ _ _ c.then-self-inside.ensures
          (kept_write _ _ _ _ _ _ c.args.bytes.now _ _ _ _ _ c.args.at h.0 is c.overwrite.ensures.items (k.synced c.args.bytes.now (omega arith)) (k.fresh c.args.bytes.now (omega arith))
          (omega (arith, within, ap length now))),
      room_kept _ _ _ _ _ _ _ _ _ _ _ _ _ _ _ _ h.1 (omega (arith, ap length c.overwrite.ensures.items, long, h.1.bytes_in, h.1.room_in, room))
          (omega (arith, synced, ap length now)) c.overwrite.ensures.capacity k.synced_capacity k.fresh_capacity,
    )
