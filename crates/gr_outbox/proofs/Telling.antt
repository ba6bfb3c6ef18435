-- What frames that are sent say, and their lines one after another: each is said by the frame that its bytes spell
use Rattle.std.proofs.Common.{◌≡◌, ℕ, suc, ◌+◌, List, [], ◌∷◌, ◌++◌, length, map}
use Rattle.std.proofs.Common.{Result, Ok, Err, refl, sym, ap, ◌∙◌, arith, append-nil, append_assoc}
use Rattle.std.proofs.lemmas.List.{map-append, length-append}
use Rattle.gr_frame.specs.declared.Body.{Body}
use Rattle.gr_frame.specs.declared.Body.TheVariants as body
use Rattle.gr_frame.specs.declared.Frame.{Frame}
use Rattle.gr_frame.specs.declared.Head.{Head}
use Rattle.gr_frame.specs.declared.fault.FrameFault.{FrameFault}
use Rattle.gr_frame.specs.Bytes.{frame_bytes, head_size, cut_frames, known_run_size, wanted_run_size}
use Rattle.gr_frame.specs.Cut.{AreFrames, parts_of, joined}
use Rattle.gr_frame.specs.Decode.{frame_decoded}
use Rattle.gr_frame.specs.Limits.{IsFrame}
use Rattle.gr_frame.proofs.Cutting.{joined_parts}
use Rattle.gr_frame.proofs.Spelled.{spelled_decodes}
use Rattle.gr_model.specs.Broker.{expect_frame}
use Rattle.gr_outbox.specs.Said.{frame_said}

-- bytes that decode say what they decode to
pub said_by : (bytes : List ℕ) (f : Frame) → frame_decoded bytes ≡ Ok f → frame_said bytes ≡ f
said_by bytes f e = ap (λ (r : Result Frame FrameFault). elim r [ Ok g ↦ g | Err x ↦ expect_frame 0 0 0 0 ]) e

-- so do bytes that spell it
pub frame_back : (bytes : List ℕ) (f : Frame) → IsFrame bytes f → frame_said bytes ≡ f
frame_back bytes f i = said_by bytes f (spelled_decodes bytes f i)

-- and the bytes of many
pub frames_back : (bs : List (List ℕ)) (fs : List Frame) → AreFrames bs fs → map frame_said bs ≡ fs
frames_back [] [] a = refl
frames_back (b ∷ bs) (f ∷ fs) a = ap (λ (g : Frame). g ∷ map frame_said bs) (frame_back b f a.0) ∙ ap (λ (gs : List Frame). f ∷ gs) (frames_back bs fs a.1)
frames_back [] (f ∷ fs) a = absurd a
frames_back (b ∷ bs) [] a = absurd a

-- as many frames as spellings
pub as_many : (bs : List (List ℕ)) (fs : List Frame) → AreFrames bs fs → length fs ≡ length bs
as_many [] [] a = refl
as_many (b ∷ bs) (f ∷ fs) a = ap suc (as_many bs fs a.1)
as_many [] (f ∷ fs) a = absurd a
as_many (b ∷ bs) [] a = absurd a

-- A frame that is not cut

-- a list that is cut into one part is that part
one_of : {X : Type 0} (g : List X → Frame) (cs : List (List X)) (rs : List X) (p : Frame) → joined cs ≡ rs → map g cs ≡ p ∷ [] → p ≡ g rs
one_of g [] rs p whole e = absurd (none e)
  where
    none : {f : Frame} → [] ≡ f ∷ [] → ⊥
    none h = cc
one_of g (part ∷ []) rs p whole e = sym (same e) ∙ ap g (sym (append-nil part) ∙ whole)
  where
    same : {f h : Frame} → f ∷ [] ≡ h ∷ [] → f ≡ h
    same h = cc
one_of g (part ∷ (next ∷ cs)) rs p whole e = absurd (more e)
  where
    more : {f h k : Frame} {fs : List Frame} → f ∷ (h ∷ fs) ≡ k ∷ [] → ⊥
    more h = cc

part_under : (h : Head) (x : Body) (p : Frame) → parts_of (record { head = h; body = x }) ≡ p ∷ [] → p ≡ record { head = h; body = x }
unfolding parts_of
part_under h (body.Knowledge rs js) p e =
    one_of (λ part. record { head = h; body = body.Knowledge part js }) (cut_frames (head_size js) known_run_size rs) rs p (joined_parts (head_size js) known_run_size rs) e
part_under h (body.Curiosity rs) p e =
    one_of (λ part. record { head = h; body = body.Curiosity part }) (cut_frames 12 wanted_run_size rs) rs p (joined_parts 12 wanted_run_size rs) e
part_under h (body.Expect tick) p e = sym (same e)
  where
    same : {f g : Frame} → f ∷ [] ≡ g ∷ [] → f ≡ g
    same k = cc

-- where one frame is made of a frame, it is that frame
pub one_part : (f p : Frame) → parts_of f ≡ p ∷ [] → p ≡ f
one_part f p e = part_under f.head f.body p e

alone : (f : Frame) (ps : List Frame) → parts_of f ≡ ps → length ps ≡ 1 → ps ≡ f ∷ []
alone f [] e n = absurd (omega (arith, n))
alone f (p ∷ []) e n = ap (λ (g : Frame). g ∷ []) (one_part f p e)
alone f (p ∷ (q ∷ ps)) e n = absurd (omega (arith, n))

-- More frames are said beside their bytes

-- all parts of a frame
pub said_parts : (f : Frame) (old new : List (List ℕ)) (before said : List Frame) → before ≡ map frame_said old → new ≡ old ++ map frame_bytes (parts_of f)
    → AreFrames (map frame_bytes (parts_of f)) (parts_of f) → said ≡ before ++ parts_of f → said ≡ map frame_said new
said_parts f old new before said b n a s =
    let ps = parts_of f in
    s ∙ ap (λ (fs : List Frame). fs ++ ps) b
    ∙ ap (λ (fs : List Frame). map frame_said old ++ fs) (sym (frames_back (map frame_bytes ps) ps a))
    ∙ sym (map-append frame_said old (map frame_bytes ps)) ∙ ap (map frame_said) (sym n)

many : (ps : List Frame) → length (map frame_bytes ps) ≡ length ps
many [] = refl
many (p ∷ ps) = ap suc (many ps)

-- a frame that is its only part
pub said_one : (f : Frame) (old new : List (List ℕ)) (before said : List Frame) → before ≡ map frame_said old → new ≡ old ++ map frame_bytes (parts_of f)
    → AreFrames (map frame_bytes (parts_of f)) (parts_of f) → length new ≡ length old + 1 → said ≡ before ++ f ∷ [] → said ≡ map frame_said new
said_one f old new before said b n a one s =
    let ps = parts_of f in
    let count : length ps ≡ 1 = omega (arith, one, ap length n ∙ length-append old (map frame_bytes ps), many ps) in
    said_parts f old new before said b n a (s ∙ ap (λ (fs : List Frame). before ++ fs) (sym (alone f ps refl count)))

-- Frames taken one by one

pub nothing_left : {X : Type 0} (l : List X) → length l ≡ 0 → l ≡ []
nothing_left [] h = refl
nothing_left (x ∷ xs) h = absurd (omega (arith, h))

-- one more is put
pub put_more : {X : Type 0} (before after left rest all : List X) (x : X) → left ≡ x ∷ rest → after ≡ before ++ x ∷ [] → before ++ left ≡ all → after ++ rest ≡ all
put_more before after left rest all x taken put h =
    ap (λ l. l ++ rest) put ∙ append_assoc before (x ∷ []) rest ∙ ap (λ l. before ++ l) (sym taken) ∙ h
