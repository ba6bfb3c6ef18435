-- The frames that were put are those of the cutting rule, and each spells its part
use Rattle.std.proofs.Common.{[], refl, sym, subst, ap, ◌∙◌, ◌++◌}
use Rattle.gr_frame.specs.Cut.{IsSent, AreFrames, parts_of}
use Rattle.gr_frame.proofs.Cutting.{known_cut, known_framed, wanted_cut, wanted_framed, expect_cut, expect_framed, on_ok_weaker}
use Rattle.gr_frame.proofs.writing.put_frame.Goals as goal

pub returns-in-Knowledge-clause-cut : goal.returns-in-Knowledge-clause-cut
returns-in-Knowledge-clause-cut c =
    on_ok_weaker c.put_parts.result _ _ (λ e. e ∙ ap (λ l. c.args.into.now.frames ++ l) (known_cut c.args.frame.now c.in-Knowledge.piece c.in-Knowledge.joins _ c.in-Knowledge.is refl)) c.put_parts.ensures.cut

pub returns-in-Knowledge-clause-spelled : goal.returns-in-Knowledge-clause-spelled
returns-in-Knowledge-clause-spelled c =
    on_ok_weaker c.put_parts.result _ _
    (λ each. known_framed c.args.frame.now c.in-Knowledge.piece c.in-Knowledge.joins _ c.in-Knowledge.is c.put_parts.ensures.head
    (record { some = subst IsSent c.in-Knowledge.is c.requires; runs = c.put_parts.ensures.runs; upto = c.put_parts.ensures.upto; each = each })
    c.put_parts.ensures.joins
    (sym (known_cut c.args.frame.now c.in-Knowledge.piece c.in-Knowledge.joins _ c.in-Knowledge.is refl)))
    c.put_parts.ensures.each

pub returns-in-Curiosity-clause-cut : goal.returns-in-Curiosity-clause-cut
returns-in-Curiosity-clause-cut c =
    on_ok_weaker c.put_parts-in-Curiosity.result _ _ (λ e. e ∙ ap (λ l. c.args.into.now.frames ++ l) (wanted_cut c.args.frame.now c.in-Curiosity.piece c.new-none.result _ c.in-Curiosity.is c.new-none.ensures refl)) c.put_parts-in-Curiosity.ensures.cut

pub returns-in-Curiosity-clause-spelled : goal.returns-in-Curiosity-clause-spelled
returns-in-Curiosity-clause-spelled c =
    on_ok_weaker c.put_parts-in-Curiosity.result _ _
    (λ each. wanted_framed c.args.frame.now c.in-Curiosity.piece _ c.in-Curiosity.is c.put_parts-in-Curiosity.ensures.head
    (record { some = subst IsSent c.in-Curiosity.is c.requires; runs = c.put_parts-in-Curiosity.ensures.runs; upto = c.put_parts-in-Curiosity.ensures.upto; each = each })
    (sym (wanted_cut c.args.frame.now c.in-Curiosity.piece [] _ c.in-Curiosity.is refl refl)))
    c.put_parts-in-Curiosity.ensures.each

pub returns-in_ok-bytes-in-Expect-clause-cut : goal.returns-in_ok-bytes-in-Expect-clause-cut
returns-in_ok-bytes-in-Expect-clause-cut c =
    on_ok_weaker c.push.result _ _
    (λ e. e ∙ ap (λ l. c.args.into.now.frames ++ l) (expect_cut c.args.frame.now c.in-Expect.tick c.from_vec.result c.in-Expect.is (c.from_vec.ensures ∙ c.in_ok-bytes-in-Expect.ensures.bytes)))
    c.push.ensures.ok

pub returns-in_ok-bytes-in-Expect-clause-spelled : goal.returns-in_ok-bytes-in-Expect-clause-spelled
returns-in_ok-bytes-in-Expect-clause-spelled c =
    let sent = subst IsSent c.in-Expect.is c.requires in
    let bytes = c.from_vec.result in
    let made = c.from_vec.ensures ∙ c.in_ok-bytes-in-Expect.ensures.bytes in
    on_ok_weaker c.push.result _ _
    (λ e. subst (λ l. AreFrames l (parts_of c.args.frame.now)) (expect_cut c.args.frame.now c.in-Expect.tick bytes c.in-Expect.is made)
    (expect_framed c.args.frame.now c.in-Expect.tick bytes c.in-Expect.is c.in_ok-bytes-in-Expect.ensures.head sent.0 sent.1 made))
    c.push.ensures.ok
