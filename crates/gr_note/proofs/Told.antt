-- Bytes that decode to a note are its spelling
use Rattle.std.proofs.Common.{◌≡◌, ◌+◌, ◌^◌, ◌==◌, inl, inr, ℕ, List, [], ◌∷◌, ◌++◌, length, drop, if◌then◌else◌, Result, Ok, Err, ap, sym, ◌∙◌, arith, append-nil, eqb-true}
use Rattle.std.specs.Prelude.{bytes_eq}
use Rattle.std.specs.Int.{to_be_bytes, w16, w64}
use Rattle.std.proofs.lemmas.List.{drop_all}
use Rattle.std.proofs.lemmas.Slice.Eq.{bytes_eq-Decides}
use Rattle.gr_event.specs.declared.event.Event.{Event}
use Rattle.gr_event.specs.declared.event.EventFault.{EventFault}
use Rattle.gr_event.specs.Event.{event_bytes, event_size}
use Rattle.gr_event.specs.Decode.{event_decoded}
use Rattle.gr_event.proofs.Told.{only_its_bytes}
use Rattle.gr_note.specs.declared.note.Note.{Note}
use Rattle.gr_note.specs.declared.note.Note.TheVariants.{Submit, Next, Spent}
use Rattle.gr_note.specs.declared.fault.NoteKind.TheVariants.{BadMagic, BadVersion, BadKind, Trailing}
use Rattle.gr_note.specs.Bytes.{letters, note_bytes}
use Rattle.gr_note.specs.Gives.{fault}
use Rattle.gr_note.specs.Decode.{byte_at, field_at, u16_at, number_at, event_of, event_at, ended, submit_at, next_at, spent_at, kind_at, note_of_kind, note_decoded}
use Rattle.gr_note.proofs.Fields.{AreBytes, bind_told, then_told, either_told, byte_told, field_told, field_fits, u16_told, number_told}
use Rattle.gr_note.proofs.Spelled.{length-event_bytes}

-- the kind, behind the letters and the version
kind_told : (bytes : List ℕ) (k : ℕ) → kind_at bytes ≡ Ok k → bytes ≡ 71 ∷ (80 ∷ (1 ∷ (k ∷ drop 4 bytes)))
unfolding kind_at
kind_told bytes k h =
    let one = bind_told (field_at bytes 0 2) _ k h in
    let two = bind_told (if bytes_eq one.0 letters then byte_at bytes 2 else Err (fault BadMagic 0)) _ k one.2 in
    let three = then_told (bytes_eq one.0 letters) (fault BadMagic 0) (byte_at bytes 2) two.0 two.1 in
    let four = then_told (two.0 == 1) (fault BadVersion 2) (byte_at bytes 3) k two.2 in
    let spelled : one.0 ≡ letters = (bytes_eq-Decides one.0 letters).0 three.0 in
    (field_told bytes 0 2 one.0 one.1).0 ∙ ap (λ l. l ++ drop 2 bytes) spelled
    ∙ ap (λ l. 71 ∷ (80 ∷ l)) (byte_told bytes 2 two.0 three.1 ∙ ap (λ n. n ∷ drop 3 bytes) (eqb-true two.0 1 four.0))
    ∙ ap (λ l. 71 ∷ (80 ∷ (1 ∷ l))) (byte_told bytes 3 k four.1)

-- what was read up to a place that is the end
pub ended_told : (bytes : List ℕ) (at : ℕ) (n m : Note) → ended bytes at n ≡ Ok m → (n ≡ m) × (drop at bytes ≡ [])
ended_told bytes at n m h =
    let one = then_told (at == length bytes) (fault Trailing at) (Ok n) m h in
    let end : at ≡ length bytes = eqb-true at (length bytes) one.0 in
    ((let e = one.1 in cc), drop_all at bytes (omega (arith, end)))

-- an event that stood there decodes
pub event_of_told : (at : ℕ) (r : Result Event EventFault) (e : Event) → event_of at r ≡ Ok e → r ≡ Ok e
event_of_told at (Ok x) e h = ap (λ y. Ok y) (let is : x ≡ e = cc in is)
event_of_told at (Err f) e h = absurd (cc)

-- an event of so many bytes
event_told : (bytes : List ℕ) (at size : ℕ) (e : Event) → AreBytes bytes → event_at bytes at size ≡ Ok e
    → (drop at bytes ≡ event_bytes e ++ drop (at + size) bytes) × (size ≡ event_size e)
unfolding event_at
event_told bytes at size e fits h =
    let one = bind_told (field_at bytes at size) (λ f. event_of at (event_decoded f)) e h in
    let f = one.0 in
    let field = field_told bytes at size f one.1 in
    let each = field_fits bytes f (drop (at + size) bytes) at fits field.0 in
    let is : f ≡ event_bytes e = only_its_bytes f e each (event_of_told at (event_decoded f) e one.2) in
    (field.0 ∙ ap (λ l. l ++ drop (at + size) bytes) is, sym field.1 ∙ ap length is ∙ length-event_bytes e)

submit_told : (bytes : List ℕ) (n : Note) → AreBytes bytes → bytes ≡ 71 ∷ (80 ∷ (1 ∷ (1 ∷ drop 4 bytes))) → submit_at bytes ≡ Ok n → bytes ≡ note_bytes n
unfolding note_bytes submit_at
submit_told bytes n fits front h =
    let one = bind_told (u16_at bytes 4) _ n h in
    let p = one.0 in
    let two = bind_told (number_at bytes 6 (2 ^ 62)) _ n one.2 in
    let k = two.0 in
    let three = bind_told (u16_at bytes 14) _ n two.2 in
    let size = three.0 in
    let four = bind_told (event_at bytes 16 size) _ n three.2 in
    let e = four.0 in
    let five = ended_told bytes (16 + size) (Submit p k e) n four.2 in
    let a = to_be_bytes w16 p in
    let b = to_be_bytes w64 k in
    let event = event_told bytes 16 size e fits four.1 in
    let last : drop 16 bytes ≡ event_bytes e = event.0 ∙ ap (λ l. event_bytes e ++ l) five.1 ∙ append-nil (event_bytes e) in
    let sized : drop 14 bytes ≡ to_be_bytes w16 (event_size e) ++ event_bytes e =
    (u16_told bytes 14 size fits three.1).0 ∙ ap (λ l. to_be_bytes w16 size ++ l) last ∙ ap (λ j. to_be_bytes w16 j ++ event_bytes e) event.1 in
    let numbered = number_told bytes 6 (2 ^ 62) k fits two.1 ∙ ap (λ l. b ++ l) sized in
    let named = (u16_told bytes 4 p fits one.1).0 ∙ ap (λ l. a ++ l) numbered in
    front ∙ ap (λ l. 71 ∷ (80 ∷ (1 ∷ (1 ∷ l)))) named ∙ ap note_bytes five.0

next_told : (bytes : List ℕ) (n : Note) → AreBytes bytes → bytes ≡ 71 ∷ (80 ∷ (1 ∷ (2 ∷ drop 4 bytes))) → next_at bytes ≡ Ok n → bytes ≡ note_bytes n
unfolding note_bytes next_at
next_told bytes n fits front h =
    let one = bind_told (u16_at bytes 4) _ n h in
    let p = one.0 in
    let two = bind_told (number_at bytes 6 (2 ^ 62 + 1)) _ n one.2 in
    let k = two.0 in
    let three = ended_told bytes 14 (Next p k) n two.2 in
    let a = to_be_bytes w16 p in
    let b = to_be_bytes w64 k in
    let numbered : drop 6 bytes ≡ b = number_told bytes 6 (2 ^ 62 + 1) k fits two.1 ∙ ap (λ l. b ++ l) three.1 in
    let named = (u16_told bytes 4 p fits one.1).0 ∙ ap (λ l. a ++ l) numbered in
    front ∙ ap (λ l. 71 ∷ (80 ∷ (1 ∷ (2 ∷ l)))) named ∙ ap note_bytes three.0

spent_told : (bytes : List ℕ) (n : Note) → AreBytes bytes → bytes ≡ 71 ∷ (80 ∷ (1 ∷ (3 ∷ drop 4 bytes))) → spent_at bytes ≡ Ok n → bytes ≡ note_bytes n
unfolding note_bytes spent_at
spent_told bytes n fits front h =
    let one = bind_told (u16_at bytes 4) _ n h in
    let p = one.0 in
    let two = ended_told bytes 6 (Spent p) n one.2 in
    let named : drop 4 bytes ≡ to_be_bytes w16 p = (u16_told bytes 4 p fits one.1).0 ∙ ap (λ l. to_be_bytes w16 p ++ l) two.1 in
    front ∙ ap (λ l. 71 ∷ (80 ∷ (1 ∷ (3 ∷ l)))) named ∙ ap note_bytes two.0

-- bytes that decode to a note are its spelling
pub spells : (bytes : List ℕ) (n : Note) → AreBytes bytes → note_decoded bytes ≡ Ok n → bytes ≡ note_bytes n
unfolding note_decoded
spells bytes n fits h =
    let one = bind_told (kind_at bytes) (note_of_kind bytes) n h in
    let k = one.0 in
    let front = kind_told bytes k one.1 in
    let as_kind = λ (j : ℕ) (e : k ≡ j). front ∙ ap (λ i. 71 ∷ (80 ∷ (1 ∷ (i ∷ drop 4 bytes)))) e in
    elim (either_told (k == 1) (submit_at bytes) _ n one.2) [
      | inl i ↦ submit_told bytes n fits (as_kind 1 (eqb-true k 1 i.0)) i.1
      | inr i ↦ elim (either_told (k == 2) (next_at bytes) _ n i.1) [
        | inl j ↦ next_told bytes n fits (as_kind 2 (eqb-true k 2 j.0)) j.1
        | inr j ↦ elim (either_told (k == 3) (spent_at bytes) (Err (fault BadKind 3)) n j.1) [
          | inl g ↦ spent_told bytes n fits (as_kind 3 (eqb-true k 3 g.0)) g.1
          | inr g ↦ absurd (let e = g.1 in cc)
        ]
      ]
    ]
