-- The event of a Submit stands in its bytes
use Rattle.std.proofs.Common.{◌≡◌, ◌+◌, ◌^◌, ◌==◌, inl, inr, ℕ, List, Ok, Err, subst, drop}
use Rattle.gr_event.specs.declared.event.Event.{Event}
use Rattle.gr_event.specs.Decode.{event_decoded}
use Rattle.gr_note.specs.declared.note.Note.TheVariants.{Submit, Next, Spent}
use Rattle.gr_note.specs.declared.fault.NoteKind.TheVariants.{BadKind}
use Rattle.gr_note.specs.Gives.{fault}
use Rattle.gr_note.specs.Decode.{field_at, u16_at, number_at, event_of, event_at, submit_at, next_at, spent_at, kind_at, note_of_kind, note_decoded}
use Rattle.gr_note.proofs.Fields.{AreBytes, bind_told, either_told, field_told, field_fits}
use Rattle.gr_note.proofs.Told.{ended_told, event_of_told}

-- bytes of these that decode to the event
abbrev pub EventIn : List ℕ → Event → Type 0
EventIn bytes e = (f : List ℕ) × (AreBytes f × (event_decoded f ≡ Ok e))

event_field : (bytes : List ℕ) (at size : ℕ) (e : Event) → AreBytes bytes → event_at bytes at size ≡ Ok e → EventIn bytes e
unfolding event_at
event_field bytes at size e fits h =
    let one = bind_told (field_at bytes at size) (λ f. event_of at (event_decoded f)) e h in
    let field = field_told bytes at size one.0 one.1 in
    (one.0, (field_fits bytes one.0 (drop (at + size) bytes) at fits field.0, event_of_told at (event_decoded one.0) e one.2))

in_submit : (bytes : List ℕ) (p k : ℕ) (e : Event) → AreBytes bytes → submit_at bytes ≡ Ok (Submit p k e) → EventIn bytes e
unfolding submit_at
in_submit bytes p k e fits h =
    let n = Submit p k e in
    let one = bind_told (u16_at bytes 4) _ n h in
    let two = bind_told (number_at bytes 6 (2 ^ 62)) _ n one.2 in
    let three = bind_told (u16_at bytes 14) _ n two.2 in
    let four = bind_told (event_at bytes 16 three.0) _ n three.2 in
    let five = ended_told bytes (16 + three.0) (Submit one.0 two.0 four.0) n four.2 in
    let same : four.0 ≡ e = (let s = five.0 in cc) in
    subst (EventIn bytes) same (event_field bytes 16 three.0 four.0 fits four.1)

not_next : (bytes : List ℕ) (p k : ℕ) (e : Event) → next_at bytes ≡ Ok (Submit p k e) → ⊥
unfolding next_at
not_next bytes p k e h =
    let n = Submit p k e in
    let one = bind_told (u16_at bytes 4) _ n h in
    let two = bind_told (number_at bytes 6 (2 ^ 62 + 1)) _ n one.2 in
    let three = ended_told bytes 14 (Next one.0 two.0) n two.2 in
    let s = three.0 in cc

not_spent : (bytes : List ℕ) (p k : ℕ) (e : Event) → spent_at bytes ≡ Ok (Submit p k e) → ⊥
unfolding spent_at
not_spent bytes p k e h =
    let n = Submit p k e in
    let one = bind_told (u16_at bytes 4) _ n h in
    let two = ended_told bytes 6 (Spent one.0) n one.2 in
    let s = two.0 in cc

-- bytes that decode to a Submit have bytes that decode to its event
pub event_decodes : (bytes : List ℕ) (p k : ℕ) (e : Event) → AreBytes bytes → note_decoded bytes ≡ Ok (Submit p k e) → EventIn bytes e
unfolding note_decoded
event_decodes bytes p k e fits h =
    let n = Submit p k e in
    let one = bind_told (kind_at bytes) (note_of_kind bytes) n h in
    let j = one.0 in
    elim (either_told (j == 1) (submit_at bytes) _ n one.2) [
      | inl i ↦ in_submit bytes p k e fits i.1
      | inr i ↦ elim (either_told (j == 2) (next_at bytes) _ n i.1) [
        | inl g ↦ absurd (not_next bytes p k e g.1)
        | inr g ↦ elim (either_told (j == 3) (spent_at bytes) (Err (fault BadKind 3)) n g.1) [
          | inl m ↦ absurd (not_spent bytes p k e m.1)
          | inr m ↦ absurd (let s = m.1 in cc)
        ]
      ]
    ]
