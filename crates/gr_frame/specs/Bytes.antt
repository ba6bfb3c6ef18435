-- The bytes of a frame, its size, and a long list of runs cut into frames
use Rattle.std.specs.Prelude.{ℕ, ◌+◌, ◌*◌, true, false, nat_le, List, [], ◌∷◌, ◌++◌, length}
use Rattle.std.specs.Int.{to_be_bytes, w16, w64}
use Rattle.gr_event.specs.Event.{event_size, event_bytes}
use Rattle.gr_event.specs.Joins.{Joins}
use Rattle.gr_tick.specs.declared.run.Run.{Run}
use Rattle.gr_know.specs.declared.values.K.{K}
use Rattle.gr_know.specs.declared.values.K.TheVariants.{Q, S, D, F}
use Rattle.gr_curio.specs.declared.values.Q3.{Q3}
use Rattle.gr_curio.specs.declared.values.Q3.TheVariants.{N, C, A}
use Rattle.gr_frame.specs.declared.TheConstants.{MAX_FRAME_BYTES, HEAD_BYTES}
use Rattle.gr_frame.specs.declared.Body.TheVariants as body
use Rattle.gr_frame.specs.declared.Head.{Head}
use Rattle.gr_frame.specs.declared.Frame.{Frame}

-- Bytes

-- a value of knowledge: its kind, and of an event its size and bytes
abbrev pub known_bytes : K → List ℕ
known_bytes Q = []
known_bytes S = 1 ∷ []
known_bytes (D e) = (2 ∷ to_be_bytes w16 (event_size e)) ++ event_bytes e
known_bytes F = 3 ∷ []

-- a value of curiosity: its kind
abbrev pub wanted_bytes : Q3 → List ℕ
wanted_bytes N = []
wanted_bytes C = 1 ∷ []
wanted_bytes A = 2 ∷ []

-- each run's first tick, last tick and value
abbrev pub runs_bytes : {V : Type 0} → (V → List ℕ) → List (Run V) → List ℕ
runs_bytes value [] = []
runs_bytes value (r ∷ rs) = to_be_bytes w64 r.first ++ to_be_bytes w64 r.last ++ value r.value ++ runs_bytes value rs

-- the letters GK, the version, the kind, who sends to whom of which publisher, and how many runs follow
abbrev pub head_bytes : ℕ → ℕ → Head → ℕ → List ℕ
head_bytes version kind h count = 71 ∷ (75 ∷ (version ∷ (kind ∷ (to_be_bytes w16 h.from ++ to_be_bytes w16 h.to
    ++ to_be_bytes w16 h.publisher ++ to_be_bytes w16 count))))

-- each join's subscriber and tick
abbrev pub joins_bytes : Joins → List ℕ
joins_bytes [] = []
joins_bytes (j ∷ js) = to_be_bytes w16 j.subscriber ++ to_be_bytes w64 j.tick ++ joins_bytes js

-- the version of a frame with these joins, and their list behind its number; without joins there is no list
abbrev pub version_of : Joins → ℕ
version_of [] = 1
version_of (j ∷ js) = 2

abbrev pub list_bytes : Joins → List ℕ
list_bytes [] = []
list_bytes (j ∷ js) = to_be_bytes w16 (length (j ∷ js)) ++ joins_bytes (j ∷ js)

-- what stands before the runs of a piece of a kind
abbrev pub piece_head : ℕ → Head → ℕ → Joins → List ℕ
piece_head kind h count js = head_bytes (version_of js) kind h count ++ list_bytes js

-- the same of what is known: without joins version 1 and no list
abbrev pub know_head : Head → ℕ → Joins → List ℕ
know_head h count js = piece_head 1 h count js

-- the bytes of a frame
unfoldable pub frame_bytes : Frame → List ℕ
frame_bytes f =
    elim f.body [
      | body.Knowledge runs js ↦ know_head f.head (length runs) js ++ runs_bytes known_bytes runs
      | body.Curiosity runs ↦ head_bytes 1 2 f.head (length runs) ++ runs_bytes wanted_bytes runs
      | body.Expect tick ↦ head_bytes 1 3 f.head 1 ++ to_be_bytes w64 tick
    ]

-- Sizes

-- how many bytes a run of knowledge takes
abbrev pub known_run_size : Run K → ℕ
known_run_size r = elim r.value [ D e ↦ 19 + event_size e | _ ↦ 17 ]

-- how many bytes a run of curiosity takes
abbrev pub wanted_run_size : Run Q3 → ℕ
wanted_run_size r = 17

-- how many bytes stand before the runs of a frame with these joins
abbrev pub head_size : Joins → ℕ
head_size [] = HEAD_BYTES
head_size (j ∷ js) = HEAD_BYTES + 2 + 10 * length (j ∷ js)

-- the runs cut into frames of at most 16,384 bytes, given what stands before the runs of each frame, the frame begun so
-- far and its size
unfoldable pub cut_from : {V : Type 0} → ℕ → (Run V → ℕ) → ℕ → List (Run V) → List (Run V) → List (List (Run V))
cut_from room size used begun [] = begun ∷ []
cut_from room size used begun (r ∷ rs) =
    elim (nat_le (used + size r) MAX_FRAME_BYTES) [
      | true ↦ cut_from room size (used + size r) (begun ++ r ∷ []) rs
      | false ↦ begun ∷ cut_from room size (room + size r) (r ∷ []) rs
    ]

-- the runs of each frame, as many as fit into it; no runs make no frame
unfoldable pub cut_frames : {V : Type 0} → ℕ → (Run V → ℕ) → List (Run V) → List (List (Run V))
cut_frames room size [] = []
cut_frames room size (r ∷ rs) = cut_from room size (room + size r) (r ∷ []) rs
