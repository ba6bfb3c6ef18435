-- Each turn puts the next frame behind those that stand there
use Rattle.std.proofs.Common.{◌≡◌, ◌+◌, ◌∷◌, [], length, ap, ◌∙◌, arith}
use Rattle.std.proofs.lemmas.List.{length-append}
use Rattle.gr_store.proofs.Storing.{puts_more, ends_rise, stays}
use Rattle.gr_store.proofs.store.put_frames.Goals as goal

pub frames-preserved : goal.frames-preserved
frames-preserved c =
    let bytes = c.frames.bytes.items in
    let frame = c.frame.result.now in
    let more = c.extend_from_slice.new.self.items in
    let end = c.len.result in
    let long : length more ≡ length bytes + length frame = ap length c.in-Ok.ensures.items ∙ length-append bytes frame in
    let is : end ≡ length more = omega (arith, c.len.ensures) in
    record {
      parts = puts_more c.args.frames.now.frames _ c.frames.i (c.frames.i + 1) end frame c.frames.ends.items c.push_reserved.new.self.items bytes more
          (omega arith) c.frame.ensures c.frames.invariant.rise c.in-Ok.ensures.items c.push_reserved.ensures.items (is ∙ long) c.frames.invariant.parts;
      rise = ends_rise c.frames.ends.items c.push_reserved.new.self.items bytes more end c.frames.invariant.rise c.push_reserved.ensures.items is (omega (arith, long));
      bytes = stays c.args.bytes.now.items bytes frame more c.in-Ok.ensures.items c.frames.invariant.bytes;
      ends = stays c.args.ends.now.items c.frames.ends.items (end ∷ []) _ c.push_reserved.ensures.items c.frames.invariant.ends;
      room = omega (arith, c.frames-test.true, c.push_reserved.ensures.len, c.push_reserved.ensures.capacity, c.frames.invariant.room);
    }
