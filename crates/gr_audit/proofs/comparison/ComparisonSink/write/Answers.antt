use Rattle.std.proofs.Common.{Some, take, drop, ◌+◌, ap, refl, ◌∙◌, arith}
use Rattle.gr_audit.proofs.Comparing.{none_told, told_on, told_wrong}
use Rattle.gr_audit.proofs.comparison.ComparisonSink.write.Goals as goal

pub returns-then-same-bytes-clause-bytes : goal.returns-then-same-bytes-clause-bytes
returns-then-same-bytes-clause-bytes c =
    let text = c.self.inside.text.now in
    let at = c.self.inside.at in
    let before = none_told (take at text) (drop at text) c.self.inside.wrong c.self.inside.faults c.args.self.now c.is_some.result c.self.view_is c.is_some.ensures c.if-is_some.false in
    ap Some (told_wrong text _ c.args.bytes.now _ at c.same_len-same.result before refl c.same_len-same.ensures.same (omega arith))

pub returns-clause-bytes : goal.returns-clause-bytes
returns-clause-bytes c =
    let text = c.self.inside.text.now in
    let at = c.self.inside.at in
    let same = c.same_len-same.result in
    let before = none_told (take at text) (drop at text) c.self.inside.wrong c.self.inside.faults c.args.self.now c.is_some.result c.self.view_is c.is_some.ensures c.if-is_some.false in
    ap Some (none_told (take (at + same) text) (drop (at + same) text) c.self.inside.wrong c.self.inside.faults _ c.is_some.result refl c.is_some.ensures c.if-is_some.false
    ∙ told_on text _ c.args.bytes.now _ at same before refl c.same_len-same.ensures.same)
