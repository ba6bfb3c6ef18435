-- Frames at the end of a list: none, those of a piece, and one list after another.
use Rattle.std.proofs.Common.{◌≡◌, ℕ, List, [], ◌∷◌, ◌++◌, map, refl, sym, ap, ◌∙◌, subst, append_assoc, append-nil}
use Rattle.std.specs.Prelude.{Result, Ok, Err, OnOk}
use Rattle.gr_event.specs.Joins.{Joins}
use Rattle.gr_know.specs.Values.{Known}
use Rattle.gr_curio.specs.Values.{Wanted}
use Rattle.gr_frame.specs.declared.Body.TheVariants as body
use Rattle.gr_frame.specs.declared.Frame.{Frame}
use Rattle.gr_frame.specs.Bytes.{frame_bytes, cut_frames}
use Rattle.gr_frame.specs.Cut.{AreFrames, parts_of}
use Rattle.gr_frame.specs.Frames.{FrameList}
use Rattle.gr_model.specs.Net.{Net}
use Rattle.gr_model.specs.Broker.{Outcome as MachineOutcome, head, know_frames, want_frames, up_frames}
use Rattle.gr_broker_relay.specs.declared.outcome.Outcome.{Outcome}
use Rattle.gr_broker_relay.specs.Told.{Tells, AddsFrames}

-- a list that stays has no frames added
pub adds_none : (before after : FrameList) → after.frames ≡ before.frames → AddsFrames [] before after
adds_none before after e = record { added = e ∙ sym (append-nil before.frames); spelled = tt }

spelled_both : (bs cs : List (List ℕ)) (fs gs : List Frame) → AreFrames bs fs → AreFrames cs gs → AreFrames (bs ++ cs) (fs ++ gs)
spelled_both [] cs [] gs a b = b
spelled_both (x ∷ bs) cs (f ∷ fs) gs a b = (a.0, spelled_both bs cs fs gs a.1 b)
spelled_both [] cs (f ∷ fs) gs a b = absurd a
spelled_both (x ∷ bs) cs [] gs a b = absurd a

map_both : (fs gs : List Frame) → map frame_bytes (fs ++ gs) ≡ map frame_bytes fs ++ map frame_bytes gs
map_both [] gs = refl
map_both (f ∷ fs) gs = ap (λ bs. frame_bytes f ∷ bs) (map_both fs gs)

-- frames that are added one list after another are added as one
pub adds_after : (fs gs : List Frame) (before between after : FrameList) → AddsFrames fs before between → AddsFrames gs between after → AddsFrames (fs ++ gs) before after
adds_after fs gs before between after a b = record {
  added =
      b.added ∙ ap (λ bs. bs ++ map frame_bytes gs) a.added ∙ append_assoc before.frames (map frame_bytes fs) (map frame_bytes gs)
      ∙ ap (λ bs. before.frames ++ bs) (sym (map_both fs gs));
  spelled = subst (λ bs. AreFrames bs (fs ++ gs)) (sym (map_both fs gs)) (spelled_both (map frame_bytes fs) (map frame_bytes gs) fs gs a.spelled b.spelled);
}

-- nothing makes no frame
no_know_frames : (js : Joins) (from to p : ℕ) → know_frames js from to p [] ≡ []
unfolding cut_frames
no_know_frames js from to p = refl

no_want_frames : (from to p : ℕ) → want_frames from to p [] ≡ []
unfolding cut_frames
no_want_frames from to p = refl

-- the frames of a piece for a child, where it has no run, and where its frame was written
pub sends_no_know : (js : Joins) (from to p : ℕ) (piece : Known) (list : FrameList) → piece ≡ [] → AddsFrames (know_frames js from to p piece) list list
sends_no_know js from to p piece list e = subst (λ fs. AddsFrames fs list list) (sym (ap (know_frames js from to p) e ∙ no_know_frames js from to p)) (adds_none list list refl)

pub sends_know : {E : Type 0} (r : Result Unit E) (from to p : ℕ) (piece : Known) (shared js : Joins) (before after : FrameList) → shared ≡ js →
    let f : Frame = record { head = head from to p; body = body.Knowledge piece shared } in
    OnOk r (after.frames ≡ before.frames ++ map frame_bytes (parts_of f)) → OnOk r (AreFrames (map frame_bytes (parts_of f)) (parts_of f)) → OnOk r (AddsFrames (know_frames js from to p piece) before after)
unfolding parts_of
sends_know (Ok x) from to p piece shared js before after e a s = subst (λ (ks : Joins). AddsFrames (know_frames ks from to p piece) before after) e (record { added = a; spelled = s })
sends_know (Err x) from to p piece shared js before after e a s = tt

-- the same of a piece that goes up
pub sends_no_want : (from to p : ℕ) (piece : Wanted) (list : FrameList) → piece ≡ [] → AddsFrames (want_frames from to p piece) list list
sends_no_want from to p piece list e = subst (λ fs. AddsFrames fs list list) (sym (ap (want_frames from to p) e ∙ no_want_frames from to p)) (adds_none list list refl)

pub sends_want : {E : Type 0} (r : Result Unit E) (from to p : ℕ) (piece : Wanted) (before after : FrameList) →
    let f : Frame = record { head = head from to p; body = body.Curiosity piece } in
    OnOk r (after.frames ≡ before.frames ++ map frame_bytes (parts_of f)) → OnOk r (AreFrames (map frame_bytes (parts_of f)) (parts_of f)) → OnOk r (AddsFrames (want_frames from to p piece) before after)
unfolding parts_of
sends_want (Ok x) from to p piece before after a s = record { added = a; spelled = s }
sends_want (Err e) from to p piece before after a s = tt

-- a reply to a child and then what is asked upstream
pub sends_both : {E : Type 0} (r : Result Unit E) (js : Joins) (net : Net) (p b c k : ℕ) (reply : Known) (copy asked : Wanted) (before between after : FrameList) → c ≡ k → copy ≡ asked → AddsFrames (know_frames js b c p reply) before between → OnOk r (AddsFrames (up_frames net p b copy) between after) → OnOk r (AddsFrames (know_frames js b k p reply ++ up_frames net p b asked) before after)
sends_both (Err e) js net p b c k reply copy asked before between after ec ea down up = tt
sends_both (Ok x) js net p b c k reply copy asked before between after ec ea down up =
    adds_after (know_frames js b k p reply) (up_frames net p b asked) before between after
    (subst (λ n. AddsFrames (know_frames js b n p reply) before between) ec down)
    (subst (λ w. AddsFrames (up_frames net p b w) between after) ea up)

-- what is told in an outcome that began with no frames
pub tells_all : (o : MachineOutcome) (told : Outcome) (before : FrameList) → told.reports ≡ o.lines → before.frames ≡ [] → AddsFrames o.frames before told.frames → Tells o told
tells_all o told before e none a = record { lines = e; frames = all; spelled = subst (λ bs. AreFrames bs o.frames) (sym all) a.spelled }
  where
    all : told.frames.frames ≡ map frame_bytes o.frames
    all = a.added ∙ ap (λ bs. bs ++ map frame_bytes o.frames) none
