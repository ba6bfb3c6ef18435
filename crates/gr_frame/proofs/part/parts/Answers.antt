-- The frames that were made are those of the cutting rule
use Rattle.std.proofs.Common.{◌≡◌, List, [], ◌∷◌, ap, sym, subst, ◌∙◌}
use Rattle.std.specs.Prelude.{IfOk}
use Rattle.gr_frame.specs.declared.Body.{Body}
use Rattle.gr_frame.specs.declared.Body.TheVariants.{Expect}
use Rattle.gr_frame.specs.declared.Frame.{Frame}
use Rattle.gr_frame.specs.Cut.{parts_of, with_head}
use Rattle.gr_frame.proofs.Cutting.{known_parts, wanted_parts, expect_parts}
use Rattle.gr_frame.proofs.part.parts.Goals as goal

pub returns-in-Knowledge : goal.returns-in-Knowledge
returns-in-Knowledge c =
    subst (λ (l : List Frame). IfOk c.known_parts.result (λ fs. fs.items ≡ l)) (sym (known_parts c.args.frame.now c.in-Knowledge.piece c.in-Knowledge.joins c.in-Knowledge.is)) c.known_parts.ensures

pub returns-in-Curiosity : goal.returns-in-Curiosity
returns-in-Curiosity c =
    subst (λ (l : List Frame). IfOk c.wanted_parts.result (λ fs. fs.items ≡ l)) (sym (wanted_parts c.args.frame.now c.in-Curiosity.piece c.in-Curiosity.is)) c.wanted_parts.ensures

pub returns-in-Expect : goal.returns-in-Expect
returns-in-Expect c =
    let f : Frame = c.args.frame.now in
    let alone : parts_of f ≡ with_head f.head (Expect c.in-Expect.tick) ∷ [] =
    expect_parts f c.in-Expect.tick c.in-Expect.is ∙ ap (λ (b : Body). with_head f.head b ∷ []) c.in-Expect.is in
    subst (λ (l : List Frame). IfOk c.expect_part.result (λ fs. fs.items ≡ l)) (sym alone) c.expect_part.ensures
