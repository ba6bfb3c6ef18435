-- A frame cut into frames of at most 16,384 bytes, all with the one head
use Rattle.std.specs.Prelude.{◌≢◌, ℕ, ◌≤◌, List, [], ◌∷◌, ◌++◌, map}
use Rattle.gr_tick.specs.declared.TheConstants.{MAX_TICK}
use Rattle.gr_frame.specs.declared.Body.{Body}
use Rattle.gr_frame.specs.declared.Body.TheVariants as body
use Rattle.gr_frame.specs.declared.Frame.{Frame}
use Rattle.gr_frame.specs.declared.Head.{Head}
use Rattle.gr_frame.specs.declared.TheConstants.{HEAD_BYTES}
use Rattle.gr_frame.specs.Bytes.{known_run_size, wanted_run_size, head_size, cut_frames}
use Rattle.gr_frame.specs.Limits.{IsFrame}

-- a body that is sent: a piece that is not empty, or a tick
abbrev pub IsSent : Body → Type 0
IsSent (body.Knowledge rs js) = rs ≢ []
IsSent (body.Curiosity rs) = rs ≢ []
IsSent (body.Expect tick) = (1 ≤ tick) × (tick ≤ MAX_TICK)

-- the frame of a body
abbrev pub with_head : Head → Body → Frame
with_head h b = record { head = h; body = b }

-- the frames that are sent for a frame: its piece in parts, each with its head and its joins
unfoldable pub parts_of : Frame → List Frame
parts_of f =
    elim f.body [
      | body.Knowledge rs js ↦ map (λ part. record {
        head = f.head;
        body = body.Knowledge part js;
      }) (cut_frames (head_size js) known_run_size rs)
      | body.Curiosity rs ↦ map (λ part. record {
        head = f.head;
        body = body.Curiosity part;
      }) (cut_frames HEAD_BYTES wanted_run_size rs)
      | body.Expect tick ↦ f ∷ []
    ]

-- parts one after another
abbrev pub joined : {X : Type 0} → List (List X) → List X
joined [] = []
joined (part ∷ parts) = part ++ joined parts

-- each of the byte lists spells the frame at its place
abbrev pub AreFrames : List (List ℕ) → List Frame → Type 0
AreFrames [] [] = Unit {0}
AreFrames (b ∷ bs) (f ∷ fs) = IsFrame b f × AreFrames bs fs
AreFrames _ _ = ⊥
