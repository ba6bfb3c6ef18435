-- What was written, and what is left to write, are the frames of the piece; what was there before stays in front
use Rattle.std.proofs.Common.{◌≡◌, ◌-◌, ◌++◌, ◌∷◌, [], ℕ, take, drop, length, subst, sym, ap, ◌∙◌, arith}
use Rattle.std.specs.Prelude.{slice_range}
use Rattle.std.specs.List.{AllByRecursion}
use Rattle.gr_frame.specs.Bytes.{head_size, piece_head, runs_bytes, cut_frames}
use Rattle.gr_frame.specs.Decode.{kind_number}
use Rattle.gr_frame.proofs.Cutting.{part_made, all_made, none_left, take_parts, each_joined, length-range, front_stays}
use Rattle.gr_frame.proofs.writing.put_parts.Goals as goal

pub parts-preserved : goal.parts-preserved
parts-preserved g c =
    let value = g.V.FrameValue.form.bytes in
    let form = g.V.FrameValue.form in
    let js = c.args.joins.now in
    let piece = c.args.piece.now in
    let start = c.parts.start in
    let end = c.part_from-part.result.end in
    let part = slice_range piece start end in
    let frames = c.parts.into.frames in
    let cut = subst (λ (n : ℕ). cut_frames n form.size (drop start piece) ≡ part ∷ cut_frames n form.size (drop end piece)) c.head_size-room.ensures.size c.part_from-part.ensures.cut in
    let size : length part ≡ end - start = length-range piece start end (omega (arith, c.part_from-part.ensures.later)) c.part_from-part.ensures.within in
    record {
      within = c.part_from-part.ensures.within;
      made = part_made (λ p. piece_head (kind_number c.args.kind) c.args.head (length p) js ++ runs_bytes value p) frames c.push.new.self.frames part
          (cut_frames (head_size js) form.size (drop start piece)) (cut_frames (head_size js) form.size (drop end piece)) _
          (c.in_ok-push-in-Ok.ensures.ok ∙ ap (λ b. frames ++ b ∷ []) (c.from_vec.ensures ∙ c.in-Ok.ensures.bytes ∙ ap (λ n. piece_head (kind_number c.args.kind) c.args.head n js ++ runs_bytes value part) (sym size)))
          cut c.parts.invariant.made;
      front = front_stays c.args.into.now.frames frames _ c.push.new.self.frames c.in_ok-push-in-Ok.ensures.ok c.parts.invariant.front;
      each = subst (AllByRecursion (λ r. g.V.FrameValue.fits r.value)) (sym (take_parts piece start end (omega (arith, c.part_from-part.ensures.later))))
          (each_joined g.V.FrameValue.fits (take start piece) part c.parts.invariant.each c.in-Ok.ensures.each);
    }

pub returns-clause-cut : goal.returns-clause-cut
returns-clause-cut g c =
    all_made (λ p. piece_head (kind_number c.args.kind) c.args.head (length p) c.args.joins.now ++ runs_bytes g.V.FrameValue.form.bytes p) c.parts.into.frames
    (cut_frames (head_size c.args.joins.now) g.V.FrameValue.form.size (drop c.parts.start c.args.piece.now)) _ (none_left (head_size c.args.joins.now) g.V.FrameValue.form.size c.args.piece.now c.parts.start (omega (arith, c.len-count.ensures.len))) c.parts.invariant.made
