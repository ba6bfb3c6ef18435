-- The forms of values: what is read stands there, and what stands there is read
use Rattle.std.proofs.Common.{◌≡◌, ◌≢◌, ◌+◌, ◌==◌, ℕ, List, [], ◌∷◌, ◌++◌, length, drop, if◌then◌else◌, Result, Ok, Err, ap, refl, sym, subst, ◌∙◌, arith, append_assoc, length-append, inl, inr, eqb-true}
use Rattle.std.specs.Int.{to_be_bytes, w16}
use Rattle.gr_event.specs.declared.event.Event.{Event}
use Rattle.gr_event.specs.declared.event.EventFault.{EventFault}
use Rattle.gr_event.specs.Event.{event_bytes, event_size}
use Rattle.gr_event.specs.Limits.{IsEvent}
use Rattle.gr_event.specs.Decode.{event_decoded}
use Rattle.gr_event.proofs.Told.{only_its_bytes}
use Rattle.gr_event.proofs.Spelled.{decodes_back}
use Rattle.gr_tick.specs.Runs.{Decides_same}
use Rattle.gr_know.specs.declared.values.K.{K}
use Rattle.gr_know.specs.declared.values.K.TheVariants.{Q, S, D, F}
use Rattle.gr_know.proofs.ValueLaws.{K_decides}
use Rattle.gr_curio.specs.declared.values.Q3.{Q3}
use Rattle.gr_curio.specs.declared.values.Q3.TheVariants.{N, C, A}
use Rattle.gr_curio.proofs.ValueLaws.{Q3_decides}
use Rattle.gr_frame.specs.declared.fault.FrameKind.TheVariants.{BadKind}
use Rattle.gr_frame.specs.Bytes.{known_bytes, wanted_bytes}
use Rattle.gr_frame.specs.Form.{Form}
use Rattle.gr_frame.specs.Gives.{fault, ◌>>=◌}
use Rattle.gr_frame.specs.Limits.{IsKnown, IsWanted}
use Rattle.gr_frame.specs.Decode.{byte_at, field_at, u16_at, event_of, event_at, known_of_kind, known_value_at, wanted_of_kind, wanted_value_at, known_form, wanted_form}
use Rattle.gr_frame.proofs.Fields.{AreBytes, bind_told, either_told, field_told, byte_told, u16_told, field_fits, byte_here, u16_here, field_here}
use Rattle.gr_frame.proofs.Events.{event_limits, length-event_bytes}

-- what the laws of frames need of a form
pub record IsForm {V : Type 0} (least : V) (Fits : V → Type 0) (form : Form V) : Type 0 where
  pub told : (bytes : List ℕ) (at : ℕ) (v : V) → AreBytes bytes → form.read bytes at ≡ Ok v → (drop at bytes ≡ form.bytes v ++ drop (at + length (form.bytes v)) bytes) × (v ≢ least) × Fits v
  pub here : (front rest bytes : List ℕ) (v : V) (at : ℕ) → bytes ≡ front ++ (form.bytes v ++ rest) → at ≡ length front → v ≢ least → Fits v → form.read bytes at ≡ Ok v
  pub decides : Decides_same form.same

-- Events

event_of_told : (at : ℕ) (r : Result Event EventFault) (e : Event) → event_of at r ≡ Ok e → r ≡ Ok e
event_of_told at (Ok x) e h = (let is : x ≡ e = cc in ap (λ y. Ok y) is)
event_of_told at (Err f) e h = absurd (cc)

event_told : (bytes : List ℕ) (at : ℕ) (e : Event) → AreBytes bytes → event_at bytes at ≡ Ok e
    → (drop at bytes ≡ to_be_bytes w16 (event_size e) ++ (event_bytes e ++ drop (at + 2 + event_size e) bytes)) × IsEvent e
unfolding event_at
event_told bytes at e fits h =
    let one = bind_told (u16_at bytes at) _ e h in
    let n = one.0 in
    let two = bind_told (field_at bytes (at + 2) n) (λ form. event_of (at + 2) (event_decoded form)) e one.2 in
    let form = two.0 in
    let len = u16_told bytes at n fits one.1 in
    let field = field_told bytes (at + 2) n form two.1 in
    let each = field_fits bytes form (drop (at + 2 + n) bytes) (at + 2) fits field.0 in
    let decoded = event_of_told (at + 2) (event_decoded form) e two.2 in
    let spelled : form ≡ event_bytes e = only_its_bytes form e each decoded in
    let size : n ≡ event_size e = sym field.1 ∙ ap length spelled ∙ length-event_bytes e in (
      len.0 ∙ ap (λ l. to_be_bytes w16 n ++ l) (field.0 ∙ ap (λ l. l ++ drop (at + 2 + n) bytes) spelled)
          ∙ ap (λ k. to_be_bytes w16 k ++ (event_bytes e ++ drop (at + 2 + k) bytes)) size,
      event_limits form e each decoded,
    )

event_here : (front rest bytes : List ℕ) (e : Event) (at : ℕ) → bytes ≡ front ++ (to_be_bytes w16 (event_size e) ++ (event_bytes e ++ rest)) → at ≡ length front → IsEvent e → event_at bytes at ≡ Ok e
unfolding event_at
event_here front rest bytes e at h d is =
    let n = to_be_bytes w16 (event_size e) in
    let len : u16_at bytes at ≡ Ok (event_size e) = u16_here front (event_bytes e ++ rest) bytes (event_size e) at h d (omega (arith, is.short)) in
    let next : at + 2 ≡ length (front ++ n) = omega (arith, length-append front n) in
    let field : field_at bytes (at + 2) (event_size e) ≡ Ok (event_bytes e) =
    field_here (front ++ n) (event_bytes e) rest bytes (at + 2) (event_size e) (h ∙ sym (append_assoc front n (event_bytes e ++ rest))) next (sym (length-event_bytes e)) in
    rw (len, field, decodes_back e is) refl

-- Knowledge

abbrev KnownTold : List ℕ → ℕ → K → Type 0
KnownTold bytes at v = (drop at bytes ≡ known_bytes v ++ drop (at + length (known_bytes v)) bytes) × (v ≢ Q) × IsKnown v

known_behind : (bytes : List ℕ) (at k : ℕ) (v : K) → AreBytes bytes → drop at bytes ≡ k ∷ drop (at + 1) bytes → known_of_kind bytes at k ≡ Ok v → KnownTold bytes at v
unfolding known_of_kind
known_behind bytes at k v fits e h =
    elim (either_told (k == 1) (Ok S) _ v h) [
      | inl j ↦ subst (KnownTold bytes at) (let is : S ≡ v = let f = j.1 in cc in is) (e ∙ ap (λ x. x ∷ drop (at + 1) bytes) (eqb-true k 1 j.0), (λ q. cc), tt)
      | inr j ↦ elim (either_told (k == 2) (event_at bytes (at + 1) >>= λ x. Ok (D x)) _ v j.1) [
        | inl i ↦ let one = bind_told (event_at bytes (at + 1)) (λ x. Ok (D x)) v i.1 in
            let x = one.0 in
            let event = event_told bytes (at + 1) x fits one.1 in
            let place : at + 1 + 2 + event_size x ≡ at + length (known_bytes (D x)) = omega (arith, length-event_bytes x) in
            subst (KnownTold bytes at) (let is : D x ≡ v = let f = one.2 in cc in is) (
              e ∙ ap (λ y. y ∷ drop (at + 1) bytes) (eqb-true k 2 i.0) ∙ ap (λ l. 2 ∷ l) event.0
                  ∙ ap (λ p. (2 ∷ to_be_bytes w16 (event_size x)) ++ (event_bytes x ++ drop p bytes)) place,
              (λ q. cc),
              event.1,
            )
        | inr i ↦ elim (either_told (k == 3) (Ok F) (Err (fault BadKind at)) v i.1) [
          | inl g ↦ subst (KnownTold bytes at) (let is : F ≡ v = let f = g.1 in cc in is) (e ∙ ap (λ x. x ∷ drop (at + 1) bytes) (eqb-true k 3 g.0), (λ q. cc), tt)
          | inr g ↦ absurd (let f = g.1 in cc)
        ]
      ]
    ]

known_told : (bytes : List ℕ) (at : ℕ) (v : K) → AreBytes bytes → known_value_at bytes at ≡ Ok v
    → (drop at bytes ≡ known_bytes v ++ drop (at + length (known_bytes v)) bytes) × (v ≢ Q) × IsKnown v
unfolding known_value_at
known_told bytes at v fits h =
    let one = bind_told (byte_at bytes at) (known_of_kind bytes at) v h in
    known_behind bytes at one.0 v fits (byte_told bytes at one.0 one.1) one.2

known_here : (front rest bytes : List ℕ) (v : K) (at : ℕ) → bytes ≡ front ++ (known_bytes v ++ rest) → at ≡ length front → v ≢ Q → IsKnown v → known_value_at bytes at ≡ Ok v
unfolding known_value_at known_of_kind
known_here front rest bytes Q at e d some is = absurd (some refl)
known_here front rest bytes S at e d some is = rw (byte_here front rest bytes 1 at e d) refl
known_here front rest bytes F at e d some is = rw (byte_here front rest bytes 3 at e d) refl
known_here front rest bytes (D x) at e d some is =
    let n = to_be_bytes w16 (event_size x) in
    let next : at + 1 ≡ length (front ++ 2 ∷ []) = omega (arith, length-append front (2 ∷ [])) in
    let apart : bytes ≡ front ++ (2 ∷ (n ++ (event_bytes x ++ rest))) = e in
    let event = event_here (front ++ 2 ∷ []) rest bytes x (at + 1) (apart ∙ sym (append_assoc front (2 ∷ []) (n ++ (event_bytes x ++ rest)))) next is in
    rw (byte_here front (n ++ (event_bytes x ++ rest)) bytes 2 at apart d) (ap (λ r. r >>= λ y. Ok (D y)) event)

pub known_is : IsForm Q IsKnown known_form
known_is = record { told = known_told; here = known_here; decides = K_decides }

-- Curiosity

wanted_told : (bytes : List ℕ) (at : ℕ) (v : Q3) → AreBytes bytes → wanted_value_at bytes at ≡ Ok v
    → (drop at bytes ≡ wanted_bytes v ++ drop (at + length (wanted_bytes v)) bytes) × (v ≢ N) × IsWanted v
unfolding wanted_value_at
wanted_told bytes at v fits h =
    let one = bind_told (byte_at bytes at) (wanted_of_kind at) v h in
    let k = one.0 in
    let byte = byte_told bytes at k one.1 in
    let P = λ (w : Q3). (drop at bytes ≡ wanted_bytes w ++ drop (at + length (wanted_bytes w)) bytes) × (w ≢ N) × IsWanted w in
    elim (either_told (k == 1) (Ok C) (if k == 2 then Ok A else Err (fault BadKind at)) v one.2) [
      | inl j ↦ subst P (let is : C ≡ v = let f = j.1 in cc in is) (byte ∙ ap (λ x. x ∷ drop (at + 1) bytes) (eqb-true k 1 j.0), (λ q. cc), tt)
      | inr j ↦ elim (either_told (k == 2) (Ok A) (Err (fault BadKind at)) v j.1) [
        | inl i ↦ subst P (let is : A ≡ v = let f = i.1 in cc in is) (byte ∙ ap (λ x. x ∷ drop (at + 1) bytes) (eqb-true k 2 i.0), (λ q. cc), tt)
        | inr i ↦ absurd (let f = i.1 in cc)
      ]
    ]

wanted_here : (front rest bytes : List ℕ) (v : Q3) (at : ℕ) → bytes ≡ front ++ (wanted_bytes v ++ rest) → at ≡ length front → v ≢ N → IsWanted v → wanted_value_at bytes at ≡ Ok v
unfolding wanted_value_at
wanted_here front rest bytes N at e d some is = absurd (some refl)
wanted_here front rest bytes C at e d some is = rw (byte_here front rest bytes 1 at e d) refl
wanted_here front rest bytes A at e d some is = rw (byte_here front rest bytes 2 at e d) refl

pub wanted_is : IsForm N IsWanted wanted_form
wanted_is = record { told = wanted_told; here = wanted_here; decides = Q3_decides }
