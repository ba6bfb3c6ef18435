-- Frames that are told and offered one after another: so many of them are told and offered, then one more, and the rest is left
use Rattle.std.proofs.Common.{◌≡◌, ℕ, zero, suc, ◌+◌, ◌≤◌, List, [], ◌∷◌, ◌++◌, length, take, drop, Option, Some, None, refl, sym, ap, ap₂, ◌∙◌, subst, add-one, append_assoc}
use Rattle.std.specs.Prelude.{slice_get}
use Rattle.std.specs.List.{AllByRecursion}
use Rattle.std.proofs.lemmas.List.{append-nil, map_push, map-append, take-append-drop, take_all}
use Rattle.std.proofs.lemmas.Grind.{flat_map-append}
use Rattle.gr_event.specs.Joins.{Joins}
use Rattle.gr_know.specs.Values.{Known}
use Rattle.gr_curio.specs.Values.{Wanted}
use Rattle.gr_frame.specs.declared.Body.{Body}
use Rattle.gr_frame.specs.declared.Body.TheVariants as body
use Rattle.gr_frame.specs.declared.Frame.{Frame}
use Rattle.gr_frame.specs.Bytes.{frame_bytes}
use Rattle.gr_frame.specs.Cut.{AreFrames}
use Rattle.gr_frame.specs.Limits.{IsFrame}
use Rattle.gr_out.specs.Entry.{Entry}
use Rattle.gr_out.specs.Entry as entry
use Rattle.gr_out.specs.Page.{TakesBut, TakesFront}
use Rattle.gr_out.proofs.Fronts.{but-later, front-later, front-more}
use Rattle.gr_topo.specs.Topology.{TopologyView}
use Rattle.gr_model.specs.declared.report.Report.{Report}
use Rattle.gr_model.specs.declared.report.Report.TheVariants as line
use Rattle.gr_model.specs.Text.{labels_of, whole_line}
use Rattle.gr_model.specs.World.{sent_line, sent_lines}
use Rattle.gr_model_theorems.proofs.records.RecordLines.{sent_lines-append}
use Rattle.gr_outbox.specs.Said.{frame_said}
use Rattle.gr_outbox.proofs.Telling.{frame_back, as_many}
use Rattle.gr_node.specs.Seen.{text_of}
use Rattle.gr_node.specs.Plan.{offers_of}
use Rattle.gr_node.specs.Went.{Begins}

-- One frame of a list

-- the frame that bytes at a place spell, those before it, and those behind it
pub record Among (k : ℕ) (bytes : List ℕ) (fs : List Frame) : Type 0 where
  pub frame : Frame
  pub said : frame_said bytes ≡ frame
  pub spelled : bytes ≡ frame_bytes frame
  pub more : take (suc k) fs ≡ take k fs ++ frame ∷ []
  pub whole : fs ≡ take (suc k) fs ++ drop (suc k) fs
  pub long : length (take k fs) ≡ k

none_some : {x : List ℕ} → None ≡ Some x → ⊥
none_some h = cc

some_is : {b x : List ℕ} → Some b ≡ Some x → b ≡ x
some_is h = cc

-- each place has one
pub frame_among : (bs : List (List ℕ)) (fs : List Frame) (k : ℕ) (bytes : List ℕ) → AreFrames bs fs → slice_get bs k ≡ Some bytes → Among k bytes fs
frame_among [] fs k bytes a e = absurd (none_some e)
frame_among (b ∷ bs) [] k bytes a e = absurd a
frame_among (b ∷ bs) (f ∷ fs) zero bytes a e =
    let i : IsFrame bytes f = subst (λ (x : List ℕ). IsFrame x f) (some_is e) a.0 in
    record { frame = f; said = frame_back bytes f i; spelled = i.spelled; more = refl; whole = refl; long = refl }
frame_among (b ∷ bs) (f ∷ fs) (suc k) bytes a e =
    let n = frame_among bs fs k bytes a.1 e in
    record {
      frame = n.frame;
      said = n.said;
      spelled = n.spelled;
      more = ap (λ (xs : List Frame). f ∷ xs) n.more;
      whole = ap (λ (xs : List Frame). f ∷ xs) n.whole;
      long = ap suc n.long;
    }

-- what holds of all frames holds of the one that bytes at a place say
pub all_said : (P : Frame → Type 0) (bs : List (List ℕ)) (fs : List Frame) (k : ℕ) (bytes : List ℕ) → AreFrames bs fs → AllByRecursion P fs → slice_get bs k ≡ Some bytes → P (frame_said bytes)
all_said P [] fs k bytes a all e = absurd (none_some e)
all_said P (b ∷ bs) [] k bytes a all e = absurd a
all_said P (b ∷ bs) (f ∷ fs) zero bytes a all e = subst P (sym (frame_back bytes f (subst (λ (x : List ℕ). IsFrame x f) (some_is e) a.0))) all.0
all_said P (b ∷ bs) (f ∷ fs) (suc k) bytes a all e = all_said P bs fs k bytes a.1 all.1 e

-- The sender and the receiver stand in the line of a frame

abbrev pub ends_in : Report → ℕ × ℕ
ends_in (line.SentKnow number from to p runs js) = (from, to)
ends_in (line.SentWant number from to p runs) = (from, to)
ends_in (line.SentExpect number from to p tick) = (from, to)
ends_in _ = (0, 0)

pub ends_said : (n : ℕ) (f : Frame) → ends_in (sent_line n f) ≡ (f.head.from, f.head.to)
unfolding sent_line
ends_said n f = go f.body
  where
    go : (y : Body) → ends_in (elim y [
      | body.Knowledge runs js ↦ line.SentKnow n f.head.from f.head.to f.head.publisher runs js
      | body.Curiosity runs ↦ line.SentWant n f.head.from f.head.to f.head.publisher runs
      | body.Expect tick ↦ line.SentExpect n f.head.from f.head.to f.head.publisher tick
    ]) ≡ (f.head.from, f.head.to)
    go (body.Knowledge runs js) = refl
    go (body.Curiosity runs) = refl
    go (body.Expect tick) = refl

-- and a frame has no other line
pub no_other : (l : Report) (n : ℕ) (f : Frame) → l ≡ sent_line n f → ((a b c d : ℕ) (runs : Known) (js : Joins) → l ≡ line.SentKnow a b c d runs js → ⊥) → ((a b c d : ℕ) (runs : Wanted) → l ≡ line.SentWant a b c d runs → ⊥)
    → ((a b c d tick : ℕ) → l ≡ line.SentExpect a b c d tick → ⊥) → ⊥
unfolding sent_line
no_other l n f e know want expect = go f.body e
  where
    go : (y : Body) → l ≡ (elim y [
      | body.Knowledge runs js ↦ line.SentKnow n f.head.from f.head.to f.head.publisher runs js
      | body.Curiosity runs ↦ line.SentWant n f.head.from f.head.to f.head.publisher runs
      | body.Expect tick ↦ line.SentExpect n f.head.from f.head.to f.head.publisher tick
    ]) → ⊥
    go (body.Knowledge runs js) h = know n f.head.from f.head.to f.head.publisher runs js h
    go (body.Curiosity runs) h = want n f.head.from f.head.to f.head.publisher runs h
    go (body.Expect tick) h = expect n f.head.from f.head.to f.head.publisher tick h

-- The text of so many frames

-- one frame more
pub told_one : (t : TopologyView) (n k : ℕ) (bytes : List ℕ) (fs : List Frame) → Among k bytes fs
    → text_of t (sent_lines n (take (suc k) fs)) ≡ text_of t (sent_lines n (take k fs)) ++ whole_line (labels_of t) (sent_line (n + k) (frame_said bytes))
told_one t n k bytes fs c =
    let line = whole_line (labels_of t) in
    let text = text_of t (sent_lines n (take k fs)) in
    ap (λ (xs : List Frame). text_of t (sent_lines n xs)) c.more
    ∙ ap (text_of t) (sent_lines-append n (take k fs) (c.frame ∷ []))
    ∙ flat_map-append line (sent_lines n (take k fs)) (sent_lines (n + length (take k fs)) (c.frame ∷ []))
    ∙ ap (λ xs. text ++ xs) (append-nil (line (sent_line (n + length (take k fs)) c.frame)))
    ∙ ap₂ (λ (m : ℕ) (f : Frame). text ++ line (sent_line m f)) (ap (λ m. n + m) c.long) (sym c.said)

-- the frames before one, it, and those behind it
pub text_left : (t : TopologyView) (n k : ℕ) (fs : List Frame) → (rest : List ℕ) × (text_of t (sent_lines n fs) ≡ text_of t (sent_lines n (take k fs)) ++ rest)
text_left t n k fs = (
  text_of t (sent_lines (n + length (take k fs)) (drop k fs)),
  ap (λ (xs : List Frame). text_of t (sent_lines n xs)) (sym (take-append-drop k fs))
      ∙ ap (text_of t) (sent_lines-append n (take k fs) (drop k fs))
      ∙ flat_map-append (whole_line (labels_of t)) (sent_lines n (take k fs)) (sent_lines (n + length (take k fs)) (drop k fs)),
)

-- it is put behind those before it
pub told_more : (t : TopologyView) (old middle new : Option (List ℕ)) (held page left : List ℕ) (n number k : ℕ) (bs : List (List ℕ)) (fs : List Frame) (bytes : List ℕ) → AreFrames bs fs → slice_get bs k ≡ Some bytes → number ≡ n + k
    → TakesBut old middle (held ++ text_of t (sent_lines n (take k fs))) page
    → TakesBut middle new (page ++ whole_line (labels_of t) (sent_line number (frame_said bytes))) left
    → TakesBut old new (held ++ text_of t (sent_lines n (take (k + 1) fs))) left
told_more t old middle new held page left n number k bs fs bytes a e count before one =
    let line = whole_line (labels_of t) (sent_line number (frame_said bytes)) in
    let text = text_of t (sent_lines n (take k fs)) in
    let same : whole_line (labels_of t) (sent_line (n + k) (frame_said bytes)) ≡ line = ap (λ m. whole_line (labels_of t) (sent_line m (frame_said bytes))) (sym count) in
    let more = told_one t n k bytes fs (frame_among bs fs k bytes a e) ∙ ap (λ xs. text ++ xs) same in
    subst (λ xs. TakesBut old new xs left)
    (append_assoc held text line ∙ ap (λ xs. held ++ xs) (sym more) ∙ ap (λ j. held ++ text_of t (sent_lines n (take j fs))) (sym (add-one k)))
    (but-later old middle new (held ++ text) line page left before one)

-- a front of it is a front of all
pub told_front : (t : TopologyView) (old middle new : Option (List ℕ)) (held page : List ℕ) (n number k : ℕ) (bs : List (List ℕ)) (fs : List Frame) (bytes : List ℕ) → AreFrames bs fs → slice_get bs k ≡ Some bytes → number ≡ n + k
    → TakesBut old middle (held ++ text_of t (sent_lines n (take k fs))) page
    → TakesFront middle new (page ++ whole_line (labels_of t) (sent_line number (frame_said bytes)))
    → TakesFront old new (held ++ text_of t (sent_lines n fs))
told_front t old middle new held page n number k bs fs bytes a e count before one =
    let line = whole_line (labels_of t) (sent_line number (frame_said bytes)) in
    let text = text_of t (sent_lines n (take k fs)) in
    let same : whole_line (labels_of t) (sent_line (n + k) (frame_said bytes)) ≡ line = ap (λ m. whole_line (labels_of t) (sent_line m (frame_said bytes))) (sym count) in
    let more = told_one t n k bytes fs (frame_among bs fs k bytes a e) ∙ ap (λ xs. text ++ xs) same in
    let rest = text_left t n (suc k) fs in
    subst (TakesFront old new)
    (ap (λ xs. xs ++ rest.0) (append_assoc held text line ∙ ap (λ xs. held ++ xs) (sym more))
    ∙ append_assoc held (text_of t (sent_lines n (take (suc k) fs))) rest.0
    ∙ ap (λ xs. held ++ xs) (sym rest.1))
    (front-more old new ((held ++ text) ++ line) rest.0 (front-later old middle new (held ++ text) line page before one))

-- what was taken before want of memory is a front of all
pub told_part : (t : TopologyView) (old new : Option (List ℕ)) (held page : List ℕ) (n k : ℕ) (fs : List Frame)
    → TakesBut old new (held ++ text_of t (sent_lines n (take k fs))) page → TakesFront old new (held ++ text_of t (sent_lines n fs))
told_part t old new held page n k fs before =
    let text = text_of t (sent_lines n (take k fs)) in
    let rest = text_left t n k fs in
    subst (TakesFront old new) (append_assoc held text rest.0 ∙ ap (λ xs. held ++ xs) (sym rest.1))
    (front-more old new (held ++ text) rest.0 (record { part = before.part; rest = page; whole = before.whole; taken = before.taken }))

-- The offers of so many frames

-- one offer more
pub offered_more : (before middle after : List Entry) (k : ℕ) (bs : List (List ℕ)) (fs : List Frame) (bytes : List ℕ) → AreFrames bs fs → slice_get bs k ≡ Some bytes
    → middle ≡ before ++ offers_of (take k fs)
    → after ≡ middle ++ entry.offered (frame_said bytes).head.from (frame_said bytes).head.to bytes ∷ []
    → after ≡ before ++ offers_of (take (k + 1) fs)
offered_more before middle after k bs fs bytes a e sofar one =
    let c = frame_among bs fs k bytes a e in
    let offer : Frame → List ℕ → Entry = λ f xs. entry.offered f.head.from f.head.to xs in
    let made = offers_of (take k fs) in
    one
    ∙ ap₂ (λ (x : List Entry) (y : Entry). x ++ y ∷ []) sofar (ap₂ offer c.said c.spelled)
    ∙ append_assoc before made (offer c.frame (frame_bytes c.frame) ∷ [])
    ∙ ap (λ (x : List Entry). before ++ x) (sym (ap offers_of c.more ∙ map_push (λ (f : Frame). offer f (frame_bytes f)) (take k fs) c.frame))
    ∙ ap (λ j. before ++ offers_of (take j fs)) (sym (add-one k))

-- those so far are the first of all
pub offered_part : (before after : List Entry) (k : ℕ) (fs : List Frame) → after ≡ before ++ offers_of (take k fs) → Begins before after (offers_of fs)
offered_part before after k fs e = record {
  part = offers_of (take k fs);
  rest = offers_of (drop k fs);
  whole = ap offers_of (sym (take-append-drop k fs)) ∙ map-append (λ (f : Frame). entry.offered f.head.from f.head.to (frame_bytes f)) (take k fs) (drop k fs);
  are = e;
}

-- at the end all frames are those so far
pub all_taken : (bs : List (List ℕ)) (fs : List Frame) (k : ℕ) → AreFrames bs fs → length bs ≤ k → take k fs ≡ fs
all_taken bs fs k a long = take_all k fs (subst (λ n. n ≤ k) (sym (as_many bs fs a)) long)

-- The lines of an outcome, and then those of its frames

pub text_joined : (t : TopologyView) (held : List ℕ) (put told sent : List Report) → put ≡ told → (held ++ text_of t put) ++ text_of t sent ≡ held ++ text_of t (told ++ sent)
text_joined t held put told sent e =
    append_assoc held (text_of t put) (text_of t sent)
    ∙ ap (λ xs. held ++ xs) (ap (λ (ls : List Report). text_of t ls ++ text_of t sent) e ∙ sym (flat_map-append (whole_line (labels_of t)) told sent))
