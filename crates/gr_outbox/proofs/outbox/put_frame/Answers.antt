-- What is cut says its parts, and what is not cut says what it was made of
use Rattle.std.proofs.Common.{◌≡◌, ◌+◌, List, ◌++◌, length, ap, ◌∙◌, arith}
use Rattle.gr_frame.specs.declared.Frame.{Frame}
use Rattle.gr_frame.proofs.Cutting.{on_ok_weaker}
use Rattle.gr_outbox.proofs.Telling.{said_one, said_parts}
use Rattle.gr_outbox.proofs.outbox.put_frame.Goals as goal

pub returns-then-len-before-ne1-clause-said : goal.returns-then-len-before-ne1-clause-said
returns-then-len-before-ne1-clause-said c =
    on_ok_weaker c.put_all.result _ _
    (λ e. said_parts c.args.frame c.args.frames.now.frames c.encode_into.new.into.frames c.args.said.now.items c.put_all.new.said.items
    c.requires.said c.in_ok-encode_into.ensures.cut c.in_ok-encode_into.ensures.spelled (e ∙ ap (λ (fs : List Frame). c.args.said.now.items ++ fs) c.in_ok-parts.ensures))
    c.put_all.ensures

pub returns-clause-said : goal.returns-clause-said
returns-clause-said c =
    let one : length c.encode_into.new.into.frames ≡ length c.args.frames.now.frames + 1 = omega (arith, c.len.ensures, c.len-before.ensures, c.if-len-before-ne1.false) in
    said_one c.args.frame c.args.frames.now.frames c.encode_into.new.into.frames c.args.said.now.items c.push.new.self.items
    c.requires.said c.in_ok-encode_into.ensures.cut c.in_ok-encode_into.ensures.spelled one c.in_ok-push.ensures.ok
