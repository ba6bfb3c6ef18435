-- The runs of a part, one behind the other in a slice of exactly their size
use Rattle.std.proofs.Common.{◌≡◌, ◌<◌, ◌≤◌, ◌+◌, ◌-◌, ℕ, suc, List, [], ◌∷◌, ◌++◌, length, take, drop, Some, ap, sym, ◌∙◌, arith, length-append}
use Rattle.std.specs.Prelude.{slice_get, slice_range, slice_set}
use Rattle.std.specs.Int.{to_be_bytes, w16, w64}
use Rattle.std.proofs.lemmas.Slice.{take-put_mid}
use borrow.Rule.Slice.PartMut.{put_mid}
use Rattle.gr_tick.specs.declared.run.Run.{Run}
use Rattle.gr_event.specs.Event.{event_size, event_bytes}
use Rattle.gr_event.specs.declared.event.Event.{Event}
use Rattle.gr_know.specs.declared.values.K.{K}
use Rattle.gr_know.specs.declared.values.K.TheVariants.{D}
use Rattle.gr_frame.specs.Bytes.{known_bytes, runs_bytes}
use Rattle.gr_frame.specs.Decode.{run_size}
use Rattle.gr_frame.specs.Form.{Form}
use Rattle.gr_frame.proofs.Events.{length-event_bytes}
use Rattle.gr_frame.proofs.Cutting.{run_there, range_more, last_bytes, runs_more}

module _ {V : Type 0} where
  -- a part of one run has its size
  pub size_begun : (form : Form V) (rs : List (Run V)) (room start n : ℕ) (r : Run V) → slice_get rs start ≡ Some r → n ≡ run_size form r
      → room + n ≡ room + length (runs_bytes form.bytes (slice_range rs start (start + 1)))
  size_begun form rs room start n r h is =
      let count : start + 1 - start ≡ 1 = omega arith in
      let alone : slice_range rs start (start + 1) ≡ r ∷ [] = ap (λ k. take k (drop start rs)) count ∙ ap (λ l. take 1 l) (run_there rs start r h) in
      omega (arith, is, ap (λ l. length (runs_bytes form.bytes l)) alone, last_bytes form [] r)

  -- and with one run more
  pub size_grown : (form : Form V) (rs : List (Run V)) (room used start i n : ℕ) (r : Run V) → slice_get rs i ≡ Some r → start ≤ i → n ≡ run_size form r
      → used ≡ room + length (runs_bytes form.bytes (slice_range rs start i)) → used + n ≡ room + length (runs_bytes form.bytes (slice_range rs start (i + 1)))
  size_grown form rs room used start i n r h le is so_far =
      omega (arith, is, so_far, ap (λ l. length (runs_bytes form.bytes l)) (range_more rs start i r h le), last_bytes form (slice_range rs start i) r)

  -- the runs that are left, the first before the others
  pub left_first : (rs : List (Run V)) (i end : ℕ) (r : Run V) → slice_get rs i ≡ Some r → i < end → slice_range rs i end ≡ r ∷ slice_range rs (i + 1) end
  left_first rs i end r h lt =
      let count : end - i ≡ suc (end - (i + 1)) = omega arith in
      ap (λ k. take k (drop i rs)) count ∙ ap (take (suc (end - (i + 1)))) (run_there rs i r h)

  -- and their bytes
  pub left_size : (form : Form V) (rs : List (Run V)) (i end : ℕ) (r : Run V) → slice_get rs i ≡ Some r → i < end
      → length (runs_bytes form.bytes (slice_range rs i end)) ≡ run_size form r + length (runs_bytes form.bytes (slice_range rs (i + 1) end))
  left_size form rs i end r h lt =
      let a = to_be_bytes w64 r.first in
      let b = to_be_bytes w64 r.last in
      let c = form.bytes r.value in
      let rest = runs_bytes form.bytes (slice_range rs (i + 1) end) in
      omega (
        arith,
        ap (λ l. length (runs_bytes form.bytes l)) (left_first rs i end r h lt),
        length-append ((a ++ b) ++ c) rest,
        length-append (a ++ b) c,
        length-append a b,
      )

  -- one run more is written
  pub run_written : (form : Form V) (rs : List (Run V)) (start i : ℕ) (r : Run V) (at k behind : ℕ) (dst bs : List ℕ) → slice_get rs i ≡ Some r → start ≤ i → at ≤ length dst
      → behind ≡ at + run_size form r → bs ≡ (to_be_bytes w64 r.first ++ to_be_bytes w64 r.last) ++ form.bytes r.value
      → take at dst ≡ runs_bytes form.bytes (slice_range rs start i)
      → take behind (put_mid at k dst bs) ≡ runs_bytes form.bytes (slice_range rs start (i + 1))
  run_written form rs start i r at k behind dst bs h le room end is so_far =
      let a = to_be_bytes w64 r.first in
      let b = to_be_bytes w64 r.last in
      let c = form.bytes r.value in
      let size : behind ≡ at + length bs = omega (arith, end, ap length is, length-append (a ++ b) c, length-append a b) in
      take-put_mid at k dst bs behind size room
      ∙ ap (λ l. l ++ bs) so_far ∙ ap (λ l. runs_bytes form.bytes (slice_range rs start i) ++ l) is ∙ sym (runs_more form.bytes rs start i r h le)

-- One value

-- a slice of one byte is filled by one
pub one_byte : (into all : List ℕ) (x : ℕ) → length into ≡ length all → all ≡ x ∷ [] → slice_set into 0 x ≡ all
one_byte [] all x h is = absurd (omega (arith, h, ap length is))
one_byte (y ∷ []) all x h is = sym is
one_byte (y ∷ (z ∷ ys)) all x h is = absurd (omega (arith, h, ap length is))

-- the room of an event with its kind and its length
pub event_room : (into : List ℕ) (v : K) (e : Event) → v ≡ D e → length into ≡ length (known_bytes v) → length into ≡ 3 + event_size e
event_room into v e is h = omega (arith, h, ap (λ x. length (known_bytes x)) is, length-append (2 ∷ to_be_bytes w16 (event_size e)) (event_bytes e), length-event_bytes e)
