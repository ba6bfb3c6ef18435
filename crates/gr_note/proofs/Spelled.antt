-- Bytes that begin with the spelling of a note are read as that note, and what stands behind it is trailing
use Rattle.std.proofs.Common.{◌≡◌, ◌+◌, ◌^◌, ◌==◌, ℕ, List, [], ◌∷◌, ◌++◌, length, true, false, Bool, if◌then◌else◌, Ok, Err, ap, refl, sym, ◌∙◌, arith, rules, append-nil, length-append, eqb-true}
use Rattle.std.specs.Int.{to_be_bytes, w16, w64}
use Rattle.gr_event.specs.declared.value.Value.{Value}
use Rattle.gr_event.specs.declared.value.Value.TheVariants.{Int, Text, Bool as Truth}
use Rattle.gr_event.specs.declared.event.Event.{Event}
use Rattle.gr_event.specs.Event.{event_bytes, event_size, pairs_bytes, pairs_size, value_bytes, value_size}
use Rattle.gr_event.specs.Limits.{IsEvent}
use Rattle.gr_event.proofs.Spelled.{decodes_back}
use Rattle.gr_note.specs.declared.note.Note.{Note}
use Rattle.gr_note.specs.declared.note.Note.TheVariants.{Submit, Next, Spent}
use Rattle.gr_note.specs.declared.fault.NoteFault.{NoteFault}
use Rattle.gr_note.specs.declared.fault.NoteKind.TheVariants.{Trailing}
use Rattle.gr_note.specs.Bytes.{letters, note_bytes, note_size}
use Rattle.gr_note.specs.Gives.{fault}
use Rattle.gr_note.specs.Limits.{IsNote}
use Rattle.gr_note.specs.Decode.{u16_at, number_at, event_at, ended, submit_at, next_at, spent_at, kind_at, note_decoded}
use Rattle.gr_note.proofs.Fields.{byte_here, field_here, u16_here, number_here}

-- Sizes

length-value_bytes : (v : Value) → length (value_bytes v) ≡ 1 + value_size v
length-value_bytes (Int z) = refl
length-value_bytes (Text t) = omega arith
length-value_bytes (Truth true) = refl
length-value_bytes (Truth false) = refl

length-pairs_bytes : (ps : Event) → length (pairs_bytes ps) ≡ pairs_size ps
length-pairs_bytes [] = refl
length-pairs_bytes (p ∷ ps) =
    let head = length p.0 ∷ p.0 in
    omega (arith, length-append (head ++ value_bytes p.1) (pairs_bytes ps), length-append head (value_bytes p.1), length-value_bytes p.1, length-pairs_bytes ps)

pub length-event_bytes : (e : Event) → length (event_bytes e) ≡ event_size e
length-event_bytes e = omega (arith, length-pairs_bytes e)

-- a note has as many bytes as its size says
pub length-note_bytes : (n : Note) → length (note_bytes n) ≡ note_size n
unfolding note_bytes
length-note_bytes (Submit p k e) = omega (arith, length-event_bytes e)
length-note_bytes (Next p k) = refl
length-note_bytes (Spent p) = refl

-- Fields

-- the kind of bytes that begin with the letters and the version
kind_here : (k : ℕ) (tail bytes : List ℕ) → bytes ≡ 71 ∷ (80 ∷ (1 ∷ (k ∷ tail))) → kind_at bytes ≡ Ok k
unfolding kind_at
kind_here k tail bytes e =
    rw (field_here [] letters (1 ∷ (k ∷ tail)) bytes 0 2 e refl refl, byte_here letters (k ∷ tail) bytes 1 2 e refl, byte_here (71 ∷ (80 ∷ (1 ∷ []))) tail bytes k 3 e refl) refl

event_here : (e : Event) (front rest bytes : List ℕ) (at : ℕ) → bytes ≡ front ++ (event_bytes e ++ rest) → at ≡ length front → IsEvent e → event_at bytes at (event_size e) ≡ Ok e
unfolding event_at
event_here e front rest bytes at is d event =
    rw (field_here front (event_bytes e) rest bytes at (event_size e) is d (sym (length-event_bytes e)), decodes_back e event) refl

-- Notes

-- bytes that begin with a note's
pub begins : (n : Note) (rest bytes : List ℕ) → IsNote n → bytes ≡ note_bytes n ++ rest → note_decoded bytes ≡ ended bytes (note_size n) n
unfolding note_bytes note_decoded submit_at next_at spent_at
begins (Submit p k e) rest bytes is spelled =
    let a = to_be_bytes w16 p in
    let b = to_be_bytes w64 k in
    let c = to_be_bytes w16 (event_size e) in
    let first : List ℕ = 71 ∷ (80 ∷ (1 ∷ (1 ∷ []))) in
    let behind = event_bytes e ++ rest in
    let whole : bytes ≡ first ++ (a ++ (b ++ (c ++ behind))) = spelled in
    let kind = kind_here 1 (a ++ (b ++ (c ++ behind))) bytes whole in
    let publisher : u16_at bytes 4 ≡ Ok p = u16_here first (b ++ (c ++ behind)) bytes p 4 whole refl is.parts.0 in
    let number : number_at bytes 6 (2 ^ 62) ≡ Ok k = number_here (first ++ a) (c ++ behind) bytes k (2 ^ 62) 6 whole refl is.range.0 is.range.1 (omega (arith, is.range.1)) in
    let size : u16_at bytes 14 ≡ Ok (event_size e) = u16_here (first ++ (a ++ b)) behind bytes (event_size e) 14 whole refl (omega (arith, is.parts.1.short)) in
    let event : event_at bytes 16 (event_size e) ≡ Ok e = event_here e (first ++ (a ++ (b ++ c))) rest bytes 16 whole refl is.parts.1 in
    rw (kind, publisher, number, size, event) refl
begins (Next p k) rest bytes is spelled =
    let a = to_be_bytes w16 p in
    let b = to_be_bytes w64 k in
    let first : List ℕ = 71 ∷ (80 ∷ (1 ∷ (2 ∷ []))) in
    let whole : bytes ≡ first ++ (a ++ (b ++ rest)) = spelled in
    let kind = kind_here 2 (a ++ (b ++ rest)) bytes whole in
    let publisher : u16_at bytes 4 ≡ Ok p = u16_here first (b ++ rest) bytes p 4 whole refl is.parts in
    let next : number_at bytes 6 (2 ^ 62 + 1) ≡ Ok k = number_here (first ++ a) rest bytes k (2 ^ 62 + 1) 6 whole refl is.range.0 is.range.1 (omega (arith, is.range.1)) in
    rw (kind, publisher, next) refl
begins (Spent p) rest bytes is spelled =
    let a = to_be_bytes w16 p in
    let first : List ℕ = 71 ∷ (80 ∷ (1 ∷ (3 ∷ []))) in
    let whole : bytes ≡ first ++ (a ++ rest) = spelled in
    let kind = kind_here 3 (a ++ rest) bytes whole in
    let publisher : u16_at bytes 4 ≡ Ok p = u16_here first rest bytes p 4 whole refl is.parts in
    rw (kind, publisher) refl

is_end : (n : Note) (bytes : List ℕ) (at : ℕ) → at ≡ length bytes → ended bytes at n ≡ Ok n
is_end n bytes at e = let same : (at == length bytes) ≡ true = grind (arith, rules) in rw same refl

-- bytes that spell a note decode to it
pub decodes : (n : Note) (bytes : List ℕ) → IsNote n → bytes ≡ note_bytes n → note_decoded bytes ≡ Ok n
decodes n bytes is e =
    begins n [] bytes is (e ∙ sym (append-nil (note_bytes n))) ∙ is_end n bytes (note_size n) (sym (length-note_bytes n) ∙ ap length (sym e))

ended_told : (b : Bool) (e : NoteFault) (n m : Note) → (if b then Ok n else Err e) ≡ Ok m → b ≡ true
ended_told true e n m h = refl
ended_told false e n m h = absurd (cc)

nothing : (rest : List ℕ) → length rest ≡ 0 → rest ≡ []
nothing [] h = refl
nothing (x ∷ xs) h = absurd (omega arith)

-- no spelling is a proper prefix of another
pub no_prefix : (n m : Note) (rest : List ℕ) → IsNote n → IsNote m → note_bytes m ≡ note_bytes n ++ rest → rest ≡ []
no_prefix n m rest is other e =
    let bytes = note_bytes m in
    let read : ended bytes (note_size n) n ≡ Ok m = sym (begins n rest bytes is e) ∙ decodes m bytes other refl in
    let size : note_size n ≡ length bytes = eqb-true (note_size n) (length bytes) (ended_told (note_size n == length bytes) (fault Trailing (note_size n)) n m read) in
    nothing rest (omega (arith, size, ap length e, length-append (note_bytes n) rest, length-note_bytes n))
