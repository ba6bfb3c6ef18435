-- The bytes at the places of the kind, the receiver and the publisher are those of the frame that is read
use Rattle.std.proofs.Common.{◌≡◌, ◌≤◌, ◌+◌, ◌==◌, ℕ, List, [], ◌∷◌, length, nat_lt, nat_le, if◌then◌else◌, Result, Ok, Err, ap, refl, sym, subst, ◌∙◌}
use Rattle.std.specs.Prelude.{bytes_eq, slice_index, slice_range, IsOk, IfOk}
use Rattle.std.specs.Int.{from_be_bytes, w16}
use Rattle.gr_frame.specs.declared.Body.{Body}
use Rattle.gr_frame.specs.declared.Frame.{Frame}
use Rattle.gr_frame.specs.declared.Head.{Head}
use Rattle.gr_frame.specs.declared.value.BodyKind.{BodyKind}
use Rattle.gr_frame.specs.declared.value.BodyKind.TheVariants as of_body
use Rattle.gr_frame.specs.declared.peek.Kind.{Kind}
use Rattle.gr_frame.specs.declared.peek.Peek.{Peek}
use Rattle.gr_frame.specs.declared.Body.TheVariants as body
use Rattle.gr_frame.specs.declared.fault.FrameKind.TheVariants.{TooLong, Short, BadMagic, Trailing}
use Rattle.gr_frame.specs.declared.fault.FrameFault.{FrameFault}
use Rattle.gr_frame.specs.Gives.{fault}
use Rattle.gr_frame.specs.Decode.{byte_at, field_at, u16_at, tick_at, runs_at, list_at, knowledge_behind, expect_at, kind_number, kind_at, head_at, count_at, body_at, fields_of, frame_decoded}
use Rattle.gr_frame.specs.Limits.{IsFrame}
use Rattle.gr_frame.specs.Peek.{kind_of_body, kind_by_number, peeked}
use Rattle.gr_frame.proofs.Fields.{bind_told, else_told, then_told, within}
use Rattle.gr_frame.proofs.Spelled.{spelled_decodes}
use Rattle.gr_frame.proofs.Told.{version_told}

-- the byte at a place that was read
byte_is : (bytes : List ℕ) (at x : ℕ) → byte_at bytes at ≡ Ok x → slice_index bytes at ≡ x
byte_is bytes at x h =
    let one = then_told (nat_lt at (length bytes)) (fault Short (length bytes)) (Ok (slice_index bytes at)) x h in
    let e = one.1 in cc

-- the number at a place that was read, and that it is there
number_is : (bytes : List ℕ) (at n : ℕ) → u16_at bytes at ≡ Ok n → (from_be_bytes w16 (slice_range bytes at (at + 2)) ≡ n) × (at + 2 ≤ length bytes)
number_is bytes at n h =
    let one = bind_told (field_at bytes at 2) _ n h in
    let two = then_told (nat_le (at + 2) (length bytes)) (fault Short (length bytes)) (Ok (slice_range bytes at (at + 2))) one.0 one.1 in
    let field : slice_range bytes at (at + 2) ≡ one.0 = let e = two.1 in cc in
    let value : from_be_bytes w16 one.0 ≡ n = let e = one.2 in cc in
    (ap (from_be_bytes w16) field ∙ value, within (at + 2) (length bytes) two.0)

-- the kind's number is that of the body that follows
body_is : (bytes : List ℕ) (k : BodyKind) (n : ℕ) (x : Body) → body_at bytes k n ≡ Ok x → kind_by_number (kind_number k) ≡ kind_of_body x
unfolding body_at knowledge_behind expect_at
body_is bytes of_body.Knowledge n x h =
    let one = bind_told (runs_at _ bytes n 12 _) _ x h in
    let is : body.Knowledge one.0 [] ≡ x = let e = one.2 in cc in
    ap kind_of_body is
body_is bytes of_body.JoinedKnowledge n x h =
    let one = bind_told (list_at bytes) _ x h in
    let two = bind_told (runs_at _ bytes n _ _) _ x one.2 in
    let is : body.Knowledge two.0 one.0 ≡ x = let e = two.2 in cc in
    ap kind_of_body is
body_is bytes of_body.Curiosity n x h =
    let one = bind_told (runs_at _ bytes n 12 _) _ x h in
    let is : body.Curiosity one.0 ≡ x = let e = one.2 in cc in
    ap kind_of_body is
body_is bytes of_body.Expect n x h =
    let one = bind_told (tick_at bytes 12 1) _ x h in
    let two = then_told (20 == length bytes) (fault Trailing 20) (Ok (body.Expect one.0)) x one.2 in
    let is : body.Expect one.0 ≡ x = let e = two.1 in cc in
    ap kind_of_body is

kind_is : (bytes : List ℕ) (k : BodyKind) → kind_at bytes ≡ Ok k → slice_index bytes 3 ≡ kind_number k
unfolding kind_at
kind_is bytes k h =
    let one = bind_told (field_at bytes 0 2) _ k h in
    let two = bind_told (if bytes_eq one.0 (71 ∷ (75 ∷ [])) then byte_at bytes 2 else Err (fault BadMagic 0)) _ k one.2 in
    let behind = version_told bytes two.0 k two.2 in
    byte_is bytes 3 behind.0 behind.1 ∙ behind.3

-- who is to get it, and of which publisher it is
record HeadShown (bytes : List ℕ) (h : Head) : Type 0 where
  to : from_be_bytes w16 (slice_range bytes 6 8) ≡ h.to
  publisher : from_be_bytes w16 (slice_range bytes 8 10) ≡ h.publisher
  long : 10 ≤ length bytes

head_is : (bytes : List ℕ) (h : Head) → head_at bytes ≡ Ok h → HeadShown bytes h
unfolding head_at
head_is bytes h e =
    let one = bind_told (u16_at bytes 4) _ h e in
    let two = bind_told (u16_at bytes 6) _ h one.2 in
    let three = bind_told (u16_at bytes 8) _ h two.2 in
    let made : Head = record { from = one.0; to = two.0; publisher = three.0 } in
    let is : made ≡ h = let k = three.2 in cc in
    let a = number_is bytes 6 two.0 two.1 in
    let b = number_is bytes 8 three.0 three.1 in
    subst (HeadShown bytes) is (record { to = a.0; publisher = b.0; long = b.1 })

-- the first bytes of a frame that was read
pub record Shows (bytes : List ℕ) (f : Frame) : Type 0 where
  pub kind : kind_by_number (slice_index bytes 3) ≡ kind_of_body f.body
  pub to : from_be_bytes w16 (slice_range bytes 6 8) ≡ f.head.to
  pub publisher : from_be_bytes w16 (slice_range bytes 8 10) ≡ f.head.publisher
  pub long : 10 ≤ length bytes

pub shows : (bytes : List ℕ) (f : Frame) → frame_decoded bytes ≡ Ok f → Shows bytes f
unfolding frame_decoded fields_of
shows bytes f h =
    let short = else_told (nat_lt 16384 (length bytes)) (fault TooLong 16384) (fields_of bytes) f h in
    let one = bind_told (kind_at bytes) _ f short.1 in
    let two = bind_told (head_at bytes) _ f one.2 in
    let three = bind_told (count_at bytes one.0) _ f two.2 in
    let four = bind_told (body_at bytes one.0 three.0) _ f three.2 in
    let made : Frame = record { head = two.0; body = four.0 } in
    let is : made ≡ f = let k = four.2 in cc in
    let head = head_is bytes two.0 two.1 in
    subst (Shows bytes) is (record {
      kind = ap kind_by_number (kind_is bytes one.0 one.1) ∙ body_is bytes one.0 three.0 four.0 four.1;
      to = head.to;
      publisher = head.publisher;
      long = head.long;
    })

-- what they make is what is seen of the frame
pub made_of : (bytes : List ℕ) (f : Frame) (kind : Kind) (to publisher : ℕ) → Shows bytes f → kind ≡ kind_by_number (slice_index bytes 3)
    → to ≡ from_be_bytes w16 (slice_range bytes 6 8) → publisher ≡ from_be_bytes w16 (slice_range bytes 8 10)
    → ◌≡◌ {A = Peek} (record { kind = kind; to = to; publisher = publisher }) (peeked f)
made_of bytes f kind to publisher s a b c =
    let k : kind ≡ kind_of_body f.body = a ∙ s.kind in
    let t : to ≡ f.head.to = b ∙ s.to in
    let p : publisher ≡ f.head.publisher = c ∙ s.publisher in
    rw (k, t, p) refl

-- what is said of the frame that is read, said of any reading that succeeds
pub if_read : (r : Result Frame FrameFault) (P : Frame → Type 0) → ((f : Frame) → r ≡ Ok f → P f) → IfOk r P
if_read (Ok f) P h = h f refl
if_read (Err e) P h = tt

pub long_if_read : (bytes : List ℕ) (r : Result Frame FrameFault) → frame_decoded bytes ≡ r → IsOk r → 10 ≤ length bytes
long_if_read bytes (Ok f) e h = (shows bytes f e).long
long_if_read bytes (Err k) e h = absurd (cc)

-- For callers: bytes that spell a frame are read, and what is seen of them is seen of that frame

pub is_read : (bytes : List ℕ) (f : Frame) → IsFrame bytes f → IsOk (frame_decoded bytes)
is_read bytes f is = subst IsOk (sym (spelled_decodes bytes f is)) refl

pub peeked_spelled : (bytes : List ℕ) (f : Frame) (seen : Peek) → IsFrame bytes f → IfOk (frame_decoded bytes) (λ g. seen ≡ peeked g) → seen ≡ peeked f
peeked_spelled bytes f seen is h = subst (λ r. IfOk r (λ g. seen ≡ peeked g)) (spelled_decodes bytes f is) h
