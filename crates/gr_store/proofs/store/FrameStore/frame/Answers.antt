-- The frame lies between two ends, and within the bytes
use Rattle.std.proofs.Common.{length, ap, ◌∙◌, sym, arith, Some}
use Rattle.std.specs.Prelude.{slice_range}
use Rattle.gr_store.proofs.Storing.{has_end, frame_at, frame_within}
use Rattle.gr_store.proofs.store.FrameStore.frame.Goals as goal

pub begin_of-from-requires : goal.begin_of-from-requires
begin_of-from-requires c =
    let s = c.self.inside in
    omega (arith, has_end s.ends.items s.bytes.items c.args.self.now c.args.i c.self.view_is c.requires, ap length c.deref.ensures.value)

pub index-requires : goal.index-requires
index-requires c =
    let s = c.self.inside in
    omega (arith, has_end s.ends.items s.bytes.items c.args.self.now c.args.i c.self.view_is c.requires)

pub slice_bounds-result-count : goal.slice_bounds-result-count
slice_bounds-result-count c =
    let s = c.self.inside in
    (frame_within s.ends.items c.deref.result.now s.bytes.items c.args.self.now c.args.i c.begin_of-from.result c.index.result.now
    c.self.view_is c.requires c.deref.ensures.value c.begin_of-from.ensures c.index.ensures c.self.invariant).0

pub slice_bounds-result-start : goal.slice_bounds-result-start
slice_bounds-result-start c =
    let s = c.self.inside in
    let there = frame_within s.ends.items c.deref.result.now s.bytes.items c.args.self.now c.args.i c.begin_of-from.result c.index.result.now
    c.self.view_is c.requires c.deref.ensures.value c.begin_of-from.ensures c.index.ensures c.self.invariant in
    omega (arith, there.0, there.1, ap length c.deref-2.ensures.value)

pub slice_bounds-result-end : goal.slice_bounds-result-end
slice_bounds-result-end c =
    let s = c.self.inside in
    let there = frame_within s.ends.items c.deref.result.now s.bytes.items c.args.self.now c.args.i c.begin_of-from.result c.index.result.now
    c.self.view_is c.requires c.deref.ensures.value c.begin_of-from.ensures c.index.ensures c.self.invariant in
    omega (arith, there.0, there.1, ap length c.deref-2.ensures.value)

pub returns : goal.returns
returns c =
    let s = c.self.inside in
    frame_at s.ends.items c.deref.result.now s.bytes.items c.args.self.now c.args.i c.begin_of-from.result c.index.result.now
    c.self.view_is c.requires c.deref.ensures.value c.begin_of-from.ensures c.index.ensures
    ∙ ap (λ bytes. Some (slice_range bytes c.begin_of-from.result c.index.result.now)) (sym c.deref-2.ensures.value)
