-- The product of the first name's choices with those of the others, up to the greatest number of 64 bits
use Rattle.std.proofs.Common.{arith}
use Rattle.gr_cover.proofs.Counting.{parts_with}
use Rattle.gr_cover.proofs.Searching.{split}
use Rattle.gr_cover.proofs.attribute.+parts.Goals as goal

pub returns-in-len1-up : goal.returns-in-len1-up
returns-in-len1-up t c =
    parts_with c.args.attributes.now c.first-item.result _ c.parts.result c.choices.result c.saturating_mul.result (split c.args.attributes.now c.first-item.result (omega arith) c.first-item.is) c.parts.ensures c.choices.ensures c.saturating_mul.ensures
