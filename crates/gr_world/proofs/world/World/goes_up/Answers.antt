use Rattle.std.proofs.Common.{sym, ap, ◌∙◌}
use Rattle.std.specs.List.{slice_get}
use Rattle.gr_model.specs.World.{is_want}
use Rattle.gr_world.specs.Seen.{WorldView}
use Rattle.gr_world.proofs.Spelled.{frame_is_spelled, frame_says}
use Rattle.gr_world.proofs.world.World.goes_up.Goals as goal

pub is_want-requires : goal.is_want-requires
is_want-requires c =
    let e = ap (λ (w : WorldView). slice_get w.frames c.args.i) (sym c.self.view_is) ∙ c.frame.ensures in
    frame_is_spelled c.args.self.now c.args.i c.frame.result.now c.requires.fits e

pub returns : goal.returns
returns c = λ f h.
    let e = ap (λ (w : WorldView). slice_get w.frames c.args.i) (sym c.self.view_is) ∙ c.frame.ensures in
    c.is_want.ensures ∙ ap is_want (sym (frame_says c.args.self.now c.args.i c.frame.result.now f e h))
