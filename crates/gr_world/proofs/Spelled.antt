-- The bytes of each frame that was sent spell what they say, and that is the frame that the machine finds at its place
use Rattle.std.proofs.Common.{◌≡◌, ℕ, suc, List, Some, sym, ap, ◌∙◌}
use Rattle.std.specs.List.{slice_get}
use Rattle.std.specs.Option.{option_map}
use Rattle.std.proofs.lemmas.Option.{slice_get-map}
use Rattle.gr_frame.specs.declared.Frame.{Frame}
use Rattle.gr_frame.specs.Limits.{IsFrame}
use Rattle.gr_model.specs.World.{frame_at}
use Rattle.gr_world.specs.Seen.{WorldView, frame_said, world_of}
use Rattle.gr_world.specs.Of.{IsWorld}
use Rattle.gr_world.proofs.Received.{spelled_at}

-- each is spelled
pub frame_is_spelled : (w : WorldView) (i : ℕ) (b : List ℕ) → IsWorld w → slice_get w.frames i ≡ Some b → IsFrame b (frame_said b)
frame_is_spelled w i b f e = spelled_at w.frames i b f.spelled e

-- as the machine's frame
pub frame_says : (w : WorldView) (i : ℕ) (b : List ℕ) (f : Frame) → slice_get w.frames i ≡ Some b → frame_at (world_of w) (suc i) ≡ Some f → f ≡ frame_said b
frame_says w i b f e h =
    let same : Some f ≡ Some (frame_said b) = sym h ∙ slice_get-map frame_said w.frames i ∙ ap (option_map frame_said) e in cc
