-- The bytes are there, and say what the frame says that is read
use Rattle.std.proofs.Common.{refl, arith}
use Rattle.gr_frame.specs.Decode.{frame_decoded}
use Rattle.gr_frame.proofs.Peeking.{shows, if_read, long_if_read, made_of}
use Rattle.gr_frame.proofs.peek.Peek.of.Goals as goal

pub bounds-bytes-3 : goal.bounds-bytes-3
bounds-bytes-3 c = omega (arith, long_if_read c.args.bytes.now (frame_decoded c.args.bytes.now) refl c.requires)

pub slice_bounds-number_of_two-end : goal.slice_bounds-number_of_two-end
slice_bounds-number_of_two-end c = omega (arith, long_if_read c.args.bytes.now (frame_decoded c.args.bytes.now) refl c.requires)

pub slice_bounds-number_of_two-end-2 : goal.slice_bounds-number_of_two-end-2
slice_bounds-number_of_two-end-2 c = omega (arith, long_if_read c.args.bytes.now (frame_decoded c.args.bytes.now) refl c.requires)

pub returns : goal.returns
returns c =
    if_read (frame_decoded c.args.bytes.now) _
    (λ f e. made_of c.args.bytes.now f c.kind_by_number.result c.number_of_two.result c.number_of_two-2.result (shows c.args.bytes.now f e)
    c.kind_by_number.ensures c.number_of_two.ensures c.number_of_two-2.ensures)
