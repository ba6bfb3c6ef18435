-- The block has a place, and the value goes in at its place behind the start.
use Rattle.std.proofs.Common.{subst, ap, length, sym, ◌≡◌, ◌<◌, ◌+◌, ◌-◌, ◌∙◌, arith, get_or, set, length-set}
use Rattle.std.specs.List.{insert}
use Rattle.std.proofs.lemmas.List.Edits.{length-insert}
use Rattle.gr_gap.specs.Blocks.{values_of, held, changed_from, IsRow}
use Rattle.gr_gap.proofs.Rows.{held_at, in_row, start_is, start_low, fits, block_is}
use Rattle.gr_gap.proofs.RowEdits.{put_in, grown_row}
use Rattle.gr_gap.proofs.Changes.{read_is}
use Rattle.gr_gap.proofs.blocks.Blocks.insert.Goals as goal

pub index_mut-requires : goal.index_mut-requires
index_mut-requires g c =
    let q = c.place_for-block.new.blocks in let up = c.place_for-block.ensures in
    omega (arith, in_row 0 c.place_for-block.new.starts.items q.items up.row.row, up.place.within, q.ok.0)

pub put-requires-clause-within : goal.put-requires-clause-within
put-requires-clause-within g c =
    let q = c.place_for-block.new.blocks in let up = c.place_for-block.ensures in let k = c.place_for-block.result in
    let ss = c.place_for-block.new.starts.items in let b = c.index_mut.result.now in let r = c.index.result.now in
    let inside : k < length q.items = omega (arith, in_row 0 ss q.items up.row.row, up.place.within) in
    let read : r ≡ get_or ss k 0 = read_is k ss r up.place.within c.index.ensures in
    omega (arith, read, up.place.ends, held_at k q.items b inside c.index_mut.ensures.value, b.ok.0)

pub put-requires-clause-room : goal.put-requires-clause-room
put-requires-clause-room g c =
    let q = c.place_for-block.new.blocks in let up = c.place_for-block.ensures in let k = c.place_for-block.result in
    let ss = c.place_for-block.new.starts.items in let b = c.index_mut.result.now in
    let inside : k < length q.items = omega (arith, in_row 0 ss q.items up.row.row, up.place.within) in
    let wide = block_is k 0 ss q.items b up.row.row inside in
    let cap : b.cap ≡ (get_or q.items k b).cap = ap (λ d. d.cap) c.index_mut.ensures.value in
    omega (arith, up.place.room, held_at k q.items b inside c.index_mut.ensures.value, wide.1, cap, b.ok.0)

pub raise-requires : goal.raise-requires
raise-requires g c = λ j.
    let s = c.self.inside in let up = c.place_for-block.ensures in
    let ss = c.place_for-block.new.starts.items in let bs = c.place_for-block.new.blocks.items in
    let same : length (values_of bs) ≡ length (values_of s.blocks.items) = ap length up.row.values in
    omega (
      arith,
      start_low j 0 ss bs up.row.row,
      same,
      fits 0 s.starts.items s.blocks.items c.self.invariant.0,
      in_row 0 s.starts.items s.blocks.items c.self.invariant.0,
      c.self.invariant.3,
    )

pub invariant_of-self : goal.invariant_of-self
invariant_of-self g c =
    let s = c.self.inside in let up = c.place_for-block.ensures in let k = c.place_for-block.result in let i = c.args.i in
    let ss = c.place_for-block.new.starts.items in let bs = c.place_for-block.new.blocks.items in
    let b = c.index_mut.result.now in let r = c.index.result.now in let d = c.put.new.list in
    let inside : k < length bs = omega (arith, in_row 0 ss bs up.row.row, up.place.within) in
    let read : r ≡ get_or ss k 0 = read_is k ss r up.place.within c.index.ensures in
    let start = start_is k 0 ss bs up.row.row up.place.within in
    let was = held_at k bs b inside c.index_mut.ensures.value in
    let wide = block_is k 0 ss bs b up.row.row inside in
    let cap : b.cap ≡ (get_or bs k b).cap = ap (λ q. q.cap) c.index_mut.ensures.value in
    let more : length d.items ≡ held k bs + 1 = omega (arith, was, c.put.ensures.len, d.ok.0, b.ok.0) in
    let row : IsRow 512 0 (changed_from (λ n. n + 1) (k + 1) ss) (set bs k d) =
    grown_row k ss bs d up.row.row up.place.within more (omega (arith, more, up.place.room))
    (omega (arith, c.put.ensures.capacity, cap, wide.1)) in
    let seen : length (values_of s.blocks.items) ≡ length c.args.self.now.items = ap (λ v. length v.items) c.self.view_is in
    let same : length (values_of bs) ≡ length (values_of s.blocks.items) = ap length up.row.values in
    let items : values_of (set bs k d) ≡ insert (values_of bs) i c.args.value =
    put_in k (i - r) i bs b d c.args.value inside (omega (arith, read, start, up.place.begins))
    (omega (arith, read, up.place.ends))
    (c.put.ensures.items ∙ ap (λ q. insert q.items (i - r) c.args.value) c.index_mut.ensures.value) in
    let all : length (values_of (set bs k d)) ≡ length (values_of bs) + 1 =
    ap length items ∙ length-insert (values_of bs) i c.args.value (omega (arith, seen, same, c.requires.within)) in
    let many : length (set bs k d) ≡ length s.blocks.items = length-set bs k d ∙ up.row.count in (
      subst (λ l. IsRow 512 0 l (set bs k d)) (sym c.raise.ensures.items) row,
      omega (arith, all, same, c.self.invariant.1),
      omega (arith, many, c.raise.ensures.capacity, up.capacity, c.self.invariant.2),
      omega (arith, many, c.self.invariant.3),
    )

pub returns-clause-items : goal.returns-clause-items
returns-clause-items g c =
    let s = c.self.inside in let up = c.place_for-block.ensures in let k = c.place_for-block.result in let i = c.args.i in
    let ss = c.place_for-block.new.starts.items in let bs = c.place_for-block.new.blocks.items in
    let b = c.index_mut.result.now in let r = c.index.result.now in
    let inside : k < length bs = omega (arith, in_row 0 ss bs up.row.row, up.place.within) in
    let read : r ≡ get_or ss k 0 = read_is k ss r up.place.within c.index.ensures in
    let start = start_is k 0 ss bs up.row.row up.place.within in
    put_in k (i - r) i bs b c.put.new.list c.args.value inside (omega (arith, read, start, up.place.begins))
    (omega (arith, read, up.place.ends))
    (c.put.ensures.items ∙ ap (λ q. insert q.items (i - r) c.args.value) c.index_mut.ensures.value)
    ∙ ap (λ l. insert l i c.args.value) (up.row.values ∙ ap (λ v. v.items) c.self.view_is)
