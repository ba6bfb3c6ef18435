-- The bytes spell the frame that they say, so it is the one that is seen
use Rattle.gr_world.specs.Seen.{frame_said}
use Rattle.gr_frame.proofs.Peeking.{is_read, peeked_spelled}
use Rattle.gr_world.proofs.heads.peek.Goals as goal

pub of-requires : goal.of-requires
of-requires c = is_read c.args.bytes.now (frame_said c.args.bytes.now) c.requires

pub returns : goal.returns
returns c = peeked_spelled c.args.bytes.now (frame_said c.args.bytes.now) c.of.result c.requires c.of.ensures
