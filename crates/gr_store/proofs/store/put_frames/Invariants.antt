-- The frames that are left complete those that stand there; what was there stays in front
use Rattle.std.proofs.Common.{◌≡◌, ◌≤◌, ◌+◌, ◌-◌, ◌++◌, length, take, drop}
use Rattle.std.specs.Vec.{vec_len, vec_capacity}
use Rattle.gr_store.specs.Parts.{parts, RiseTo}
use Rattle.gr_store.proofs.store.put_frames.Given as goal

abbrev pub invariant-frames : goal.invariant-frames
invariant-frames l = record {
  parts : parts 0 l.ends.items l.bytes.items ++ drop l.i l.frames.frames ≡ parts 0 l.fn.ends.items l.fn.bytes.items ++ l.frames.frames;
  rise : RiseTo (length l.bytes.items) 0 l.ends.items;
  bytes : take (length l.fn.bytes.items) l.bytes.items ≡ l.fn.bytes.items;
  ends : take (length l.fn.ends.items) l.ends.items ≡ l.fn.ends.items;
  room : vec_len l.ends + (l.count - l.i) ≤ vec_capacity l.ends;
}
