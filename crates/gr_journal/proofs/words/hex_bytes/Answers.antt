use Rattle.std.proofs.Common.{refl, arith}
use Rattle.gr_journal.proofs.Hex.{more_bytes, all_bytes}
use Rattle.gr_journal.proofs.words.hex_bytes.Goals as goal

pub pairs-preserved : goal.pairs-preserved
pairs-preserved c = record {
  within = omega arith;
  bytes = more_bytes c.args.word.now c.pairs.bytes c.push.new.self _ c.pairs.at _ c.digit_value-high.result c.digit_value-low.result (omega arith) c.pairs.invariant.bytes
      c.digit_value-high.ensures.value c.digit_value-low.ensures.value c.in_ok-push.ensures.ok refl;
}

pub returns : goal.returns
returns c = all_bytes c.args.word.now c.pairs.bytes _ c.pairs.at (omega arith) c.pairs.invariant.bytes
