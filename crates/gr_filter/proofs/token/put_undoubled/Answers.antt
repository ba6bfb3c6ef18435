use Rattle.std.proofs.Common.{arith, get_or, refl}
use Rattle.gr_filter.proofs.Undoubling.{pair_put}
use Rattle.gr_filter.proofs.token.put_undoubled.Goals as goal

pub bytes-preserved-then-at-text : goal.bytes-preserved-then-at-text
bytes-preserved-then-at-text c = record {
  within = omega arith;
  left = pair_put c.args.text.now c.bytes.at (get_or c.args.text.now c.bytes.at 0) 0 c.bytes.out c.push.new.self _ c.if-at-text.true refl c.if-text-at-eq39.true c.in_ok-push.ensures.ok c.bytes.invariant.left;
}
